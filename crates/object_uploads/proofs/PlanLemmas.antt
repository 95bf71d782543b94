-- The rows of a planned copy and their sources are a plan.
use Rattle.std.proofs.Common.{◌≡◌, ℕ, zero, suc, ◌+◌, ◌-◌, ◌*◌, ◌<◌, ◌≤◌, true, false, cond, Option, Some, None}
use Rattle.std.proofs.Common.{List, [], ◌∷◌, length, map, take, refl, sym, ◌∙◌, ap, subst, arith}
use Rattle.std.specs.Prelude.{IsTrue, IsSome, IfSome, option_map, ◌↔◌, Bool, nat_eq}
use Rattle.std.specs.List.{All, Contains, flat_map}
use Rattle.std.specs.List.Sorted.{IsStrictlyIncreasing}
use Rattle.std.proofs.lemmas.Bool.{and_parts}
use Rattle.std.proofs.lemmas.Bool.Decides.{nat_tests}
use Rattle.std.proofs.lemmas.List.{length-take, take_all}
use Rattle.std.proofs.lemmas.Option.{same_Some}
use Rattle.std.proofs.lemmas.List.Elements.{All-nil, All-cons, All-head, All-tail, All-weaker, All-contains, All-map}
use Rattle.extent_map.specs.Extents.{is_within}
use Rattle.extent_map.proofs.Places.{within, not_past}
use Rattle.gc_copier.specs.Plan.{SourceState, PlanState, StandsAt, StandInOrder, HasSource, IsPlan, numbers_of}
use Rattle.lsvd_objstore.specs.Store.{ReceiptState}
use Rattle.object_format.specs.declared.copy_row.CopyRow.{CopyRow}
use Rattle.object_format.specs.Rows.{copy_may_stand, copy_rows_may_stand}
use Rattle.object_stream.specs.Planned.{copied_from}
use Rattle.object_table.specs.declared.row.ObjectRow.{ObjectRow}
use Rattle.volume_maps.specs.declared.place.ObjectPlace.{ObjectPlace}
use Rattle.volume_maps.specs.Maps.{MapsState, settled_at}
use Rattle.volume_maps.specs.CopyPlan.{PlacesAreIn, PlansCopy, source_place_at, live_list}
use Rattle.object_uploads.specs.State.{StoredObject, QueueState, UploadsState}
use Rattle.object_uploads.specs.Queue.{stored_of, stored_at}
use Rattle.object_uploads.specs.Order.{PlaceFits, PlacesFit}
use Rattle.object_uploads.specs.Collection.{IsInsideObject, ArePlacesInside, AreSources, IsStoredSource, source_numbers}
use Rattle.object_uploads.specs.Collection.{AreStored, HasPlan}
use Rattle.object_uploads.proofs.UploadsKept.{whole}

-- ---- the places of a volume

in_by : (volume ancestors last k : ℕ) (place : Option ObjectPlace) → IfSome place (PlaceFits volume ancestors last k)
    → IfSome place (λ (place : ObjectPlace). (k < volume) × (place.sector < 131071))
in_by volume ancestors last k None fits = tt
in_by volume ancestors last k (Some place) fits = (fits.inside, fits.payload)

pub places_are_in : (volume ancestors last : ℕ) (queue : QueueState) → PlacesFit volume ancestors last queue.maps
    → PlacesAreIn volume queue.maps
places_are_in volume ancestors last queue fit k = in_by volume ancestors last k (settled_at queue.maps k) (fit k)

-- a plan of the maps of a queue
pub plans_of : (volume ancestors most : ℕ) (queue : QueueState) (maps : MapsState) (rows : List CopyRow) → maps ≡ queue.maps
    → ((v : ℕ) → PlacesAreIn v maps → PlansCopy v most maps rows) → PlacesFit volume ancestors queue.frontier queue.maps
    → PlansCopy volume most queue.maps rows
plans_of volume ancestors most queue maps rows is planned fit =
    subst (λ m. PlansCopy volume most m rows) is
    (planned volume (subst (PlacesAreIn volume) (sym is) (places_are_in volume ancestors queue.frontier queue fit)))

-- ---- rows in order

-- where a row may begin after another, or as the first
abbrev end_of : Option CopyRow → ℕ
end_of None = 0
end_of (Some row) = row.lba + row.sectors

module _ (volume payload number : ℕ) where
  from_end : (before : Option CopyRow) (place : ℕ) (row : CopyRow)
      → IsTrue (copy_may_stand volume payload number before place row) → end_of before ≤ row.lba
  from_end None place row stands = omega arith
  from_end (Some before) place row stands = grind (arith, nat_tests)

  stands_at : (before : Option CopyRow) (place : ℕ) (row : CopyRow)
      → IsTrue (copy_may_stand volume payload number before place row) → StandsAt (end_of before) place row
  stands_at before place row stands = record {
    some = grind (arith, nat_tests);
    from = from_end before place row stands;
    place = grind (arith, nat_tests);
    level = grind (arith, nat_tests);
  }

  first_and_rest : (before : Option CopyRow) (place : ℕ) (row : CopyRow) (rows : List CopyRow)
      → IsTrue (copy_rows_may_stand volume payload number before place (row ∷ rows))
      → IsTrue (copy_may_stand volume payload number before place row)
      × IsTrue (copy_rows_may_stand volume payload number (Some row) (place + row.sectors) rows)
  first_and_rest before place row rows stand =
      and_parts (copy_may_stand volume payload number before place row)
      (copy_rows_may_stand volume payload number (Some row) (place + row.sectors) rows) stand

  in_order : (before : Option CopyRow) (place : ℕ) (rows : List CopyRow)
      → IsTrue (copy_rows_may_stand volume payload number before place rows) → StandInOrder (end_of before) place rows
  in_order before place [] stand = tt
  in_order before place (row ∷ rows) stand =
      let parts = first_and_rest before place row rows stand in
      (stands_at before place row parts.0, in_order (Some row) (place + row.sectors) rows parts.1)

-- ---- what rows take sectors from

-- the object that a row takes sectors from is in the store, and has them
pub record IsStoredFor (queue : QueueState) (row : CopyRow) : Type 0 where
  pub object : StoredObject
  pub stored : stored_of queue (record { level = 0; number = row.source.number }) ≡ Some object
  pub inside : 512 * (object.front + row.source.place + row.sectors) ≤ object.receipt.size

-- an object with a sector inside it
record IsThere (given : Option StoredObject) (at : ℕ) : Type 0 where
  object : StoredObject
  is : given ≡ Some object
  inside : 512 * (object.front + at + 1) ≤ object.receipt.size

there : (given : Option StoredObject) (at : ℕ) → IsInsideObject given at → IsThere given at
there None at is = absurd is
there (Some object) at is = record { object = object; is = refl; inside = is }

-- the place of a row's last sector in its source
abbrev last_of : CopyRow → ObjectPlace
last_of row = record {
  level = row.source.level;
  number = row.source.number;
  sector = row.source.place + (row.lba + (row.sectors - 1) - row.lba);
}

row_stored : (queue : QueueState) (row : CopyRow) → row.source.level ≡ 0 → 0 < row.sectors
    → IsInsideObject (stored_at queue (last_of row)) (last_of row).sector → IsStoredFor queue row
row_stored queue row own some inside =
    let is = there (stored_at queue (last_of row)) (last_of row).sector inside in
    let size = is.inside in
    record {
      object = is.object;
      stored = ap (λ level. stored_of queue (record { level = level; number = row.source.number })) (sym own) ∙ is.is;
      inside = omega (arith, size, some);
    }

module _ (queue : QueueState) (inside : ArePlacesInside queue) where
  -- each sector of rows from one on is where the map has it
  abbrev AreTaken : (from : ℕ) → List CopyRow → Type 0
  AreTaken from rows =
      (k : ℕ) → from ≤ k
      → IfSome (source_place_at rows k) (λ (place : ObjectPlace). settled_at queue.maps k ≡ Some place)

  first_taken : (row : CopyRow) (rows : List CopyRow) (from : ℕ) → StandsAt from row.place row → AreTaken from (row ∷ rows)
      → settled_at queue.maps (row.lba + (row.sectors - 1)) ≡ Some (last_of row)
  first_taken row rows from stands taken =
      let k = row.lba + (row.sectors - 1) in
      let some = stands.some in
      let low = stands.from in
      let has : is_within row.lba row.sectors k ≡ true = within row.lba row.sectors k (omega arith) (omega (arith, some)) in
      subst (λ b. IfSome (cond b (Some (last_of row)) (source_place_at rows k))
      (λ (place : ObjectPlace). settled_at queue.maps k ≡ Some place)) has (taken k (omega (arith, low)))

  rest_taken : (row : CopyRow) (rows : List CopyRow) (from : ℕ) → from ≤ row.lba → AreTaken from (row ∷ rows)
      → AreTaken (row.lba + row.sectors) rows
  rest_taken row rows from low taken k past =
      let place : Option ObjectPlace = Some (record {
        level = row.source.level;
        number = row.source.number;
        sector = row.source.place + (k - row.lba);
      }) in
      subst (λ b. IfSome (cond b place (source_place_at rows k))
      (λ (place : ObjectPlace). settled_at queue.maps k ≡ Some place)) (not_past row.lba row.sectors k past)
      (taken k (omega (arith, low, past)))

  rows_stored : (from at : ℕ) (rows : List CopyRow) → StandInOrder from at rows → AreTaken from rows
      → All (IsStoredFor queue) rows
  rows_stored from at [] order taken = All-nil (IsStoredFor queue)
  rows_stored from at (row ∷ rows) order taken =
      let stands : StandsAt from row.place row = record {
        some = order.0.some;
        from = order.0.from;
        place = refl;
        level = order.0.level;
      } in
      All-cons (IsStoredFor queue) row rows
      (row_stored queue row stands.level stands.some
      (inside (row.lba + (row.sectors - 1)) (last_of row) (first_taken row rows from stands taken)))
      (rows_stored (row.lba + row.sectors) (at + row.sectors) rows order.1 (rest_taken row rows from stands.from taken))

-- ---- a plan

module _ (volume most : ℕ) (queue : QueueState) (rows : List CopyRow) (inside : ArePlacesInside queue)
    (within : All (λ (object : ObjectRow). object.number ≤ queue.frontier) queue.maps.objects.rows)
    (plans : PlansCopy volume most queue.maps rows) where
  order : StandInOrder 0 0 rows
  order =
      in_order volume _ (queue.frontier + 1) None 0 rows (plans.stand (queue.frontier + 1)
      (All-weaker (λ (object : ObjectRow). object.number ≤ queue.frontier)
      (λ (object : ObjectRow). object.number < queue.frontier + 1) (λ object low. omega (arith, low)) queue.maps.objects.rows
      within))

  pub planned_stored : All (IsStoredFor queue) rows
  planned_stored = rows_stored queue inside 0 0 rows order (λ k low. plans.places k)

  pub sources_there : AreStored queue rows
  sources_there =
      All-weaker (IsStoredFor queue)
      (λ (row : CopyRow). IsSome (stored_of queue (record { level = 0; number = row.source.number })))
      (λ row is. rw is.stored refl) rows planned_stored

  -- ---- its sources

  -- a source with this number
  record IsAmong (sources : List SourceState) (number : ℕ) : Type 0 where
    source : SourceState
    is : Contains sources source
    numbered : source.number ≡ number

  among : (sources : List SourceState) (number : ℕ) → Contains (numbers_of sources) number → IsAmong sources number
  among [] number (k, less, is) = absurd (omega arith)
  among (source ∷ sources) number (zero, less, is) =
      record { source = source; is = (zero, omega arith, refl); numbered = is }
  among (source ∷ sources) number (suc k, less, is) =
      let more = among sources number (k, omega arith, is) in
      let at = more.is in
      record { source = more.source; is = (suc at.0, omega (arith, at.1), at.2); numbered = more.numbered }

  has_source : (sources : List SourceState) (row : CopyRow) → All (IsStoredSource queue) sources
      → Contains (numbers_of sources) row.source.number → IsStoredFor queue row → HasSource sources row
  has_source sources row stored named is =
      let found = among sources row.source.number named in
      let there = All-contains (IsStoredSource queue) sources found.source stored found.is in
      let same : Some is.object ≡ Some (record { receipt = found.source.receipt; front = found.source.front }) =
      sym is.stored ∙ ap (λ number. stored_of queue (record { level = 0; number = number })) (sym found.numbered) ∙ there in
      let one = same_Some is.object (record { receipt = found.source.receipt; front = found.source.front }) same in
      record {
        source = found.source;
        is = found.is;
        number = found.numbered;
        inside = subst (λ (object : StoredObject). 512 * (object.front + row.source.place + row.sectors) ≤ object.receipt.size)
            one is.inside;
      }

  all_have : (sources : List SourceState) (some : List CopyRow) → All (IsStoredSource queue) sources
      → ((number : ℕ) → Contains (source_numbers some) number → Contains (numbers_of sources) number)
      → All (IsStoredFor queue) some → All (HasSource sources) some
  all_have sources [] stored named are = All-nil (HasSource sources)
  all_have sources (row ∷ some) stored named are =
      All-cons (HasSource sources) row some
      (has_source sources row stored (named row.source.number (zero, omega arith, refl))
      (All-head (IsStoredFor queue) row some are))
      (all_have sources some stored
      (λ number has. let at = has in named number (suc at.0, omega (arith, at.1), at.2))
      (All-tail (IsStoredFor queue) row some are))

  pub is_plan : (sources : List SourceState) → most ≤ 131071 → AreSources queue rows sources → IsPlan rows sources
  is_plan sources few are = record {
    order = order;
    few = omega (
      arith,
      plans.count,
      length-take most (flat_map (λ number. map (copied_from number) (live_list volume queue.maps number)) plans.victims),
    );
    ascending = are.ascending;
    have = all_have sources rows are.stored (λ number has. (are.named number).1 has) planned_stored;
  }

-- ---- its sources are found

-- the object of a source, by its receipt and its front
pub stored_source : (given : Option StoredObject) (receipt : ReceiptState) (front : ℕ)
    → option_map (λ (object : StoredObject). object.receipt) given ≡ Some receipt
    → IfSome given (λ (object : StoredObject). front ≡ object.front)
    → given ≡ Some (record { receipt = receipt; front = front })
stored_source None receipt front is same = absurd cc
stored_source (Some object) receipt front is same =
    let one : object.receipt ≡ receipt = same_Some object.receipt receipt is in
    ap (λ r. Some (record { receipt = r; front = object.front })) one
    ∙ ap (λ f. Some (record { receipt = receipt; front = f })) (sym same)

-- the object of each number that rows name is in the store
pub number_there : (queue : QueueState) (rows : List CopyRow) (numbers : List ℕ) (number : ℕ)
    → AreStored queue rows
    → ((n : ℕ) → Contains numbers n ↔ Contains (source_numbers rows) n) → Contains numbers number
    → IsSome (stored_of queue (record { level = 0; number = number }))
number_there queue rows numbers number there same has =
    let P : ℕ → Type 0 = λ n. IsSome (stored_of queue (record { level = 0; number = n })) in
    All-contains P (source_numbers rows) number (All-map P (λ (row : CopyRow). row.source.number) rows there)
    ((same number).0 has)

-- those of all numbers are the sources
pub are_sources : (queue : QueueState) (rows : List CopyRow) (numbers : List ℕ) (sources : List SourceState) (index : ℕ)
    → numbers_of sources ≡ take index numbers → length numbers ≤ index → IsStrictlyIncreasing numbers
    → ((n : ℕ) → Contains numbers n ↔ Contains (source_numbers rows) n) → All (IsStoredSource queue) sources
    → AreSources queue rows sources
are_sources queue rows numbers sources index is whole ascending same stored =
    let all : numbers ≡ numbers_of sources = sym (is ∙ take_all index numbers whole) in
    record {
      ascending = subst IsStrictlyIncreasing all ascending;
      named = λ number. subst (λ list. Contains list number ↔ Contains (source_numbers rows) number) all (same number);
      stored = stored;
    }

-- ---- what a plan leaves

-- whether there are rows, by the test of their count
pub no_rows : (rows : List CopyRow) (empty : Bool) → empty ≡ nat_eq (length rows) 0 → empty ≡ true → rows ≡ []
no_rows [] empty is test = refl
no_rows (row ∷ rows) empty is test =
    let none : nat_eq (length (row ∷ rows)) 0 ≡ true = sym is ∙ test in absurd (grind (arith, nat_tests, none))

pub some_rows : (rows : List CopyRow) (empty : Bool) → empty ≡ nat_eq (length rows) 0 → empty ≡ false → rows ≡ [] → ⊥
some_rows rows empty is test none =
    let some : nat_eq (length rows) 0 ≡ false = sym is ∙ test in
    let count : length rows ≡ 0 = ap length none in
    grind (arith, nat_tests, some, count)

pub has_plan : (most : ℕ) (uploads : UploadsState) (plan : PlanState) (rows : List CopyRow) (sources : List SourceState)
    → plan ≡ record { rows = rows; sources = sources } → PlansCopy uploads.sectors most uploads.queue.maps rows → (rows ≡ [] → ⊥)
    → AreSources uploads.queue rows sources → HasPlan most plan uploads
has_plan most uploads plan rows sources is plans some are =
    subst (λ p. HasPlan most p uploads) (sym is) (record { rows = plans; some = some; sources = are })
