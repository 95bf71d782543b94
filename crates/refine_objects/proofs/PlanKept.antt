-- A plan of a copy that is out stays that of the plain volume while its sources stay in the store.
use Rattle.std.proofs.Common.{◌≡◌, ℕ, ◌+◌, ◌-◌, ◌<◌, ◌≤◌, ◌==◌, ◌&&◌, ◌||◌, cond, Bool, true, false, Option, Some, None, List, []}
use Rattle.std.proofs.Common.{◌∷◌, ◌++◌, length, map, refl, sym, ◌∙◌, ap, subst, arith}
use Rattle.std.specs.Prelude.{IsTrue, IfSome, option_map}
use Rattle.std.specs.List.{All}
use Rattle.std.proofs.lemmas.Bool.Decides.{nat_tests}
use Rattle.std.proofs.lemmas.List.Elements.{All-nil, All-cons, All-head, All-tail}
use Rattle.lsvd_base.specs.declared.geometry.Geometry.{Geometry}
use Rattle.lsvd_objstore.specs.Store.{ReceiptState}
use Rattle.extent_map.specs.Extents.{is_within, place_at}
use Rattle.object_format.specs.declared.copy_row.CopyRow.{CopyRow}
use Rattle.object_format.specs.declared.data_row.DataRow.{DataRow}
use Rattle.gc_copier.specs.Plan.{SourceState, PlanState, numbers_of}
use Rattle.object_stream.specs.declared.object.CopiedSector.{CopiedSector}
use Rattle.object_stream.specs.Stream.{source_in}
use Rattle.object_table.specs.declared.row.ObjectRow.{ObjectRow}
use Rattle.object_table.specs.Table.{TableState, row_of, new_row, added, passed}
use Rattle.volume_maps.specs.declared.place.ObjectPlace.{ObjectPlace}
use Rattle.volume_maps.specs.Places.{object_on}
use Rattle.volume_maps.specs.Maps.{MapsState, settled_at, row_object_place, settled_by}
use Rattle.volume_maps.specs.Maps.{settled_by_row, settled_by_copy, settled_by_copy_row}
use Rattle.volume_maps.specs.Live.{is_live, but_live, HasSameObjects}
use Rattle.volume_maps.proofs.RowsLemmas.{is_in}
use Rattle.object_uploads.specs.declared.rows.SealedRows.{SealedRows}
use Rattle.object_uploads.specs.declared.rows.SealedRows.TheVariants as sealed_rows
use Rattle.object_uploads.specs.State.{NumberedReceipt, SealedState, StoredObject, QueueState}
use Rattle.object_uploads.specs.Queue.{receipt_in, stored_with, SettlesSealed, SettlesObjects}
use Rattle.object_uploads.specs.Collection.{IsStoredSource}
use Rattle.object_uploads.proofs.DeadRows.{row_through}
use Rattle.object_uploads.proofs.StoredLemmas.{front_in, first_receipt, same_stored, stored_parts}
use Rattle.plain_disk.proofs.CheckpointLemmas.{both_true, same_number}
use Rattle.refine_objects.specs.Plan.{IsPlanOf}
use Rattle.refine_objects.specs.PlanLaws.{KeepsSources, KeptSourcesKeepPlan}
use Rattle.refine_objects.proofs.TableRows.{or_new, row_of_more, same_seen}

-- ---- the lever

-- the source of a sector in pairs that reach to a number does not pass it
pub source_within : (frontier k source : ℕ) (pairs : List CopiedSector)
    → All (λ (copied : CopiedSector). copied.source ≤ frontier) pairs → source_in pairs k ≡ Some source → source ≤ frontier
source_within frontier k source [] reached is = absurd cc
source_within frontier k source (first ∷ pairs) reached is =
    elim (first.lba == k) as (λ b. cond b (Some first.source) (source_in pairs k) ≡ Some source → source ≤ frontier) [
      | true ↦ λ is. (
          let same : first.source ≡ source = cc in
          let low = All-head (λ (copied : CopiedSector). copied.source ≤ frontier) first pairs reached in
          omega (arith, same, low))
      | false ↦ λ is.
          source_within frontier k source pairs
          (All-tail (λ (copied : CopiedSector). copied.source ≤ frontier) first pairs reached) is
    ] is

-- a sector that is still in its source was there before
still_there : (frontier source : ℕ) (now old : Option ObjectPlace) → source ≤ frontier
    → IfSome now (λ (place : ObjectPlace). place.number ≤ frontier → old ≡ Some place) → IsTrue (is_live source now)
    → now ≡ old
still_there frontier source None old low settled live = absurd cc
still_there frontier source (Some place) old low settled live =
    let both = both_true (place.level == 0) (place.number == source) live in
    let own = same_number place.number source both.1 in
    sym (settled (omega (arith, own, low)))

plan_kept : (geometry : Geometry) (old new : QueueState) (pairs : List CopiedSector) (plan : PlanState)
    → KeepsSources plan old new
    → All (λ (copied : CopiedSector). copied.source ≤ old.frontier) pairs → IsPlanOf geometry old pairs plan
    → IsPlanOf geometry new pairs plan
plan_kept geometry old new pairs plan keeps reached is = record {
  takes = is.takes;
  count = is.count;
  few = is.few;
  named = is.named;
  stored = keeps.stored is.stored;
  places = λ k source at live.
      (let low = source_within old.frontier k source pairs reached (sym (is.takes k) ∙ at) in
      let same = still_there old.frontier source (settled_at new.maps k) (settled_at old.maps k) low (keeps.settled k) live in
      same ∙ is.places k source at (subst (λ place. IsTrue (is_live source place)) same live));
  stand = λ number past. is.stand number (omega (arith, past, keeps.frontier));
}

pub kept_sources_keep_plan : KeptSourcesKeepPlan
kept_sources_keep_plan old new None plain after keeps plan geometry reached shows = plan ∙ shows
kept_sources_keep_plan old new (Some out) plain after keeps plan geometry reached (pairs, plain_plan, is) =
    let all = subst (λ p. IfSome p (All (λ (copied : CopiedSector). copied.source ≤ old.frontier))) plain_plan reached in (
      pairs,
      plan ∙ plain_plan,
      subst (λ (g : Geometry). IsPlanOf g new pairs out) (sym geometry)
          (plan_kept plain.geometry old new pairs out keeps all is),
    )

-- ---- what keeps sources

-- an object that is in the store stays there
abbrev pub StaysStored : (old new : QueueState) → (number : ℕ) → Type 0
StaysStored old new number =
    (object : StoredObject) → stored_with (receipt_in old.receipts number) (row_of number old.maps.objects.rows) ≡ Some object
    → stored_with (receipt_in new.receipts number) (row_of number new.maps.objects.rows) ≡ Some object

or_true : (b : Bool) → (b || true) ≡ true
or_true true = refl
or_true false = refl

pub all_stay : (old new : QueueState) (sources : List SourceState)
    → ((number : ℕ) → is_in (numbers_of sources) number ≡ true → StaysStored old new number)
    → All (IsStoredSource old) sources → All (IsStoredSource new) sources
all_stay old new [] stays all = All-nil (IsStoredSource new)
all_stay old new (source ∷ sources) stays all =
    let self : (source.number == source.number) ≡ true = grind (arith, nat_tests) in
    let here : is_in (numbers_of (source ∷ sources)) source.number ≡ true =
    ap (λ b. b || is_in (numbers_of sources) source.number) self in
    let object : StoredObject = record { receipt = source.receipt; front = source.front } in
    let own : IsStoredSource new source =
    stays source.number here object (All-head (IsStoredSource old) source sources all) in
    All-cons (IsStoredSource new) source sources own
    (all_stay old new sources (λ number is. stays number
    (ap (λ b. (source.number == number) || b) is ∙ or_true (source.number == number)))
    (All-tail (IsStoredSource old) source sources all))

-- where a place is what it was
pub same_place : (frontier : ℕ) (now old : Option ObjectPlace) → now ≡ old
    → IfSome now (λ (place : ObjectPlace). place.number ≤ frontier → old ≡ Some place)
same_place frontier None old same = tt
same_place frontier (Some place) old same = λ low. sym same

-- a call that leaves receipts, rows and places keeps all sources
pub same_sources : (plan : PlanState) (old new : QueueState) → new.frontier ≡ old.frontier → new.receipts ≡ old.receipts
    → new.maps.objects.rows ≡ old.maps.objects.rows → new.maps.settled.rows ≡ old.maps.settled.rows
    → KeepsSources plan old new
same_sources plan old new frontier receipts rows settled = record {
  frontier = omega (arith, frontier);
  stored = all_stay old new plan.sources (λ number is object stands. rw (receipts, rows) stands);
  settled = λ k. same_place old.frontier (settled_at new.maps k) (settled_at old.maps k)
      (ap (λ list. place_at object_on list k) settled);
}

place_before : (low high : ℕ) (old middle new : Option ObjectPlace) → low ≤ high
    → IfSome middle (λ (place : ObjectPlace). place.number ≤ low → old ≡ Some place)
    → IfSome new (λ (place : ObjectPlace). place.number ≤ high → middle ≡ Some place)
    → IfSome new (λ (place : ObjectPlace). place.number ≤ low → old ≡ Some place)
place_before low high old middle None order first second = tt
place_before low high old middle (Some place) order first second = λ within.
    let there = second (omega (arith, within, order)) in
    let was = subst (λ m. IfSome m (λ (p : ObjectPlace). p.number ≤ low → old ≡ Some p)) there first in
    was within

-- one call after another
pub both_keep : (plan : PlanState) (old middle new : QueueState) → KeepsSources plan old middle → KeepsSources plan middle new
    → KeepsSources plan old new
both_keep plan old middle new first second = record {
  frontier = omega (arith, first.frontier, second.frontier);
  stored = λ all. second.stored (first.stored all);
  settled = λ k. place_before old.frontier middle.frontier (settled_at old.maps k) (settled_at middle.maps k)
      (settled_at new.maps k) first.frontier (first.settled k) (second.settled k);
}

-- ---- objects that are settled

-- a place past a number comes before none up to it
own_place : (frontier next sector : ℕ) (old : Option ObjectPlace) → frontier < next
    → next ≤ frontier → old ≡ Some (record { level = 0; number = next; sector = sector })
own_place frontier next sector old past low = absurd (omega (arith, past, low))

own_row_place : (frontier next i : ℕ) (place : Option ℕ) (old : Option ObjectPlace) → frontier < next
    → IfSome (row_object_place next place i) (λ (p : ObjectPlace). p.number ≤ frontier → old ≡ Some p)
own_row_place frontier next i None old past = tt
own_row_place frontier next i (Some place) old past = own_place frontier next (place + i) old past

module _ (frontier next : ℕ) (past : frontier < next) (old : Option ObjectPlace) where
  -- a place up to the frontier is the old one
  abbrev IsOld : Option ObjectPlace → Type 0
  IsOld now = IfSome now (λ (place : ObjectPlace). place.number ≤ frontier → old ≡ Some place)

  old_by_data : (rows : List DataRow) (before : Option ObjectPlace) (k : ℕ) → IsOld before
      → IsOld (settled_by next rows before k)
  old_by_data [] before k is = is
  old_by_data (row ∷ rows) before k is =
      old_by_data rows (settled_by_row next row before k) k
      (elim (is_within row.lba row.sectors k) as (λ b. IsOld (cond b (row_object_place next row.place (k - row.lba)) before)) [
        | true ↦ own_row_place frontier next (k - row.lba) row.place old past
        | false ↦ is
      ])

  old_by_copy : (rows : List CopyRow) (before : Option ObjectPlace) (k : ℕ) → IsOld before
      → IsOld (settled_by_copy next rows before k)
  old_by_copy [] before k is = is
  old_by_copy (row ∷ rows) before k is =
      let own : ObjectPlace = record { level = 0; number = next; sector = row.place + (k - row.lba) } in
      old_by_copy rows (settled_by_copy_row next row before k) k
      (elim (is_within row.lba row.sectors k && is_live row.source.number before) as (λ b. IsOld (cond b (Some own) before)) [
        | true ↦ own_place frontier next (row.place + (k - row.lba)) old past
        | false ↦ is
      ])

-- a place up to a number is the one that was there first
abbrev IsFirst : (frontier : ℕ) (first now : Option ObjectPlace) → Type 0
IsFirst frontier first now = IfSome now (λ (place : ObjectPlace). place.number ≤ frontier → first ≡ Some place)

first_by_sealed : (frontier number size : ℕ) (rows : SealedRows) (end : ℕ) (old new : MapsState) (k : ℕ)
    (first : Option ObjectPlace) → frontier < number → SettlesSealed number size rows end old new
    → IsFirst frontier first (settled_at old k) → IsFirst frontier first (settled_at new k)
first_by_sealed frontier number size (sealed_rows.Data list) end old new k first past settles is =
    subst (IsFirst frontier first) (sym (settles.settled k))
    (old_by_data frontier number past first list.items (settled_at old k) k is)
first_by_sealed frontier number size (sealed_rows.Copy list) end old new k first past settles is =
    subst (IsFirst frontier first) (sym (settles.settled k))
    (old_by_copy frontier number past first list.items (settled_at old k) k is)
first_by_sealed frontier number size sealed_rows.Checkpoint end old new k first past settles is =
    subst (IsFirst frontier first) (sym (ap (λ m. place_at object_on m.rows k) settles.settled)) is

pub first_by_all : (frontier number : ℕ) (list : List SealedState) (old new : MapsState) (k : ℕ) (first : Option ObjectPlace)
    → frontier ≤ number → SettlesObjects number list old new → IsFirst frontier first (settled_at old k)
    → IsFirst frontier first (settled_at new k)
first_by_all frontier number [] old new k first past settles is =
    subst (λ m. IsFirst frontier first (settled_at m k)) (sym settles) is
first_by_all frontier number (sealed ∷ list) old new k first past settles is =
    first_by_all frontier (number + 1) list settles.0 new k first (omega (arith, past)) settles.2
    (first_by_sealed frontier (number + 1) (length sealed.bytes) sealed.rows sealed.end old settles.0 k first
    (omega (arith, past)) settles.1 is)

-- a row that is there stays, with its front
front_more : (found : Option ObjectRow) (n f : ℕ) (new : ObjectRow) → front_in found ≡ Some f
    → front_in (or_new found n new) ≡ Some f
front_more None n f new is = absurd cc
front_more (Some row) n f new is = is

front_seen : (found now : Option ObjectRow) → option_map but_live now ≡ option_map but_live found
    → front_in now ≡ front_in found
front_seen None None same = refl
front_seen None (Some new) same = absurd cc
front_seen (Some old) None same = absurd cc
front_seen (Some old) (Some new) same =
    let view : but_live new ≡ but_live old = cc in
    ap (λ (r : ObjectRow). Some r.front) view

front_passed : (found : Option ObjectRow) → front_in (option_map passed found) ≡ front_in found
front_passed None = refl
front_passed (Some row) = refl

front_added : (n f : ℕ) (own : ObjectRow) (old new : TableState) → HasSameObjects (added own old) new
    → front_in (row_of n old.rows) ≡ Some f → front_in (row_of n new.rows) ≡ Some f
front_added n f own old new same is =
    front_seen (row_of n (old.rows ++ own ∷ [])) (row_of n new.rows) (same_seen n (old.rows ++ own ∷ []) new.rows same.rows)
    ∙ (ap front_in (row_of_more n old.rows own) ∙ front_more (row_of n old.rows) n f own is)

front_by_sealed : (n f number size : ℕ) (rows : SealedRows) (end : ℕ) (old new : MapsState)
    → SettlesSealed number size rows end old new → front_in (row_of n old.objects.rows) ≡ Some f
    → front_in (row_of n new.objects.rows) ≡ Some f
front_by_sealed n f number size (sealed_rows.Data list) end old new settles is =
    front_added n f _ old.objects new.objects settles.objects is
front_by_sealed n f number size (sealed_rows.Copy list) end old new settles is =
    front_added n f _ old.objects new.objects settles.objects is
front_by_sealed n f number size sealed_rows.Checkpoint end old new settles is =
    let own = new_row number 0 0 in
    ap (λ (t : TableState). front_in (row_of n t.rows)) settles.objects
    ∙ (ap front_in (row_of_more n (map passed old.objects.rows) own)
    ∙ front_more (row_of n (map passed old.objects.rows)) n f own
    (ap front_in (row_through passed n old.objects.rows (λ r. refl)) ∙ (front_passed (row_of n old.objects.rows) ∙ is)))

pub front_by_all : (n f number : ℕ) (list : List SealedState) (old new : MapsState) → SettlesObjects number list old new
    → front_in (row_of n old.objects.rows) ≡ Some f → front_in (row_of n new.objects.rows) ≡ Some f
front_by_all n f number [] old new settles is = ap (λ (m : MapsState). front_in (row_of n m.objects.rows)) settles ∙ is
front_by_all n f number (sealed ∷ list) old new settles is =
    front_by_all n f (number + 1) list settles.0 new settles.2
    (front_by_sealed n f (number + 1) (length sealed.bytes) sealed.rows sealed.end old settles.0 settles.1 is)

-- so does a receipt
receipt_more : (receipts more : List NumberedReceipt) (n : ℕ) (receipt : ReceiptState) → receipt_in receipts n ≡ Some receipt
    → receipt_in (receipts ++ more) n ≡ Some receipt
receipt_more [] more n receipt is = absurd cc
receipt_more (first ∷ receipts) more n receipt is =
    let test = first.number == n in
    first_receipt test first (receipts ++ more) n refl
    ∙ elim test as (λ b. cond b (Some first.receipt) (receipt_in receipts n) ≡ Some receipt
    → cond b (Some first.receipt) (receipt_in (receipts ++ more) n) ≡ Some receipt) [
      | true ↦ λ is. is
      | false ↦ λ is. receipt_more receipts more n receipt is
    ] (sym (first_receipt test first receipts n refl) ∙ is)

some_front : (row : ObjectRow) (found : Option ObjectRow) → found ≡ Some row → front_in found ≡ Some row.front
some_front row found is = ap front_in is

-- an object is in the store still, where its receipt and its front stay
pub stays_by : (old new : QueueState) (n : ℕ)
    → ((receipt : ReceiptState) → receipt_in old.receipts n ≡ Some receipt → receipt_in new.receipts n ≡ Some receipt)
    → ((f : ℕ) → front_in (row_of n old.maps.objects.rows) ≡ Some f → front_in (row_of n new.maps.objects.rows) ≡ Some f)
    → StaysStored old new n
stays_by old new n receipts fronts object is =
    let parts = stored_parts (receipt_in old.receipts n) (row_of n old.maps.objects.rows) object is in
    let front = fronts parts.1.front (some_front parts.1 (row_of n old.maps.objects.rows) parts.3) in
    let same = front ∙ sym (some_front parts.1 (row_of n old.maps.objects.rows) parts.3) in
    ap (λ r. stored_with r (row_of n new.maps.objects.rows)) (receipts parts.0 parts.2 ∙ sym parts.2)
    ∙ (same_stored (receipt_in old.receipts n) (row_of n new.maps.objects.rows) (row_of n old.maps.objects.rows) same ∙ is)

pub settled_sources : (plan : PlanState) (old new : QueueState) (list : List SealedState) (more : List NumberedReceipt)
    → old.frontier ≤ new.frontier → new.receipts ≡ old.receipts ++ more
    → SettlesObjects old.frontier list old.maps new.maps → KeepsSources plan old new
settled_sources plan old new list more frontier receipts settles = record {
  frontier = frontier;
  stored = all_stay old new plan.sources (λ n is. stays_by old new n
      (λ receipt is. ap (λ all. receipt_in all n) receipts ∙ receipt_more old.receipts more n receipt is)
      (λ f is. front_by_all n f old.frontier list old.maps new.maps settles is));
  settled = λ k. first_by_all old.frontier old.frontier list old.maps new.maps k (settled_at old.maps k) (omega arith) settles
      (same_place old.frontier (settled_at old.maps k) (settled_at old.maps k) refl);
}
