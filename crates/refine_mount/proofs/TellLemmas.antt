-- The owners that the newest checkpoint of a recovered list may have had: they tell what the list's table tells of its objects.
use Rattle.std.proofs.Common.{◌≡◌, ℕ, ◌<◌, ◌≤◌, ◌&&◌, ◌||◌, not, eqb, Bool, true, false, cond, Option, Some, None}
use Rattle.std.proofs.Common.{List, [], ◌∷◌, get_or, inl, inr, refl, sym, ◌∙◌, ap, subst, arith}
use Rattle.std.specs.Prelude.{IsSome, nat_eq, map}
use Rattle.std.specs.List.{list_any, filter, range_with_len}
use Rattle.std.proofs.Math.Bool.{and-false}
use Rattle.std.proofs.lemmas.Bool.{cases_lt}
use Rattle.std.proofs.lemmas.Bool.Decides.{nat_tests}
use Rattle.std.proofs.lemmas.List.{get_or_past}
use Rattle.std.proofs.lemmas.List.FromFn.{get_or-map-range_with_len, length-map-range_with_len}
use Rattle.object_stream.specs.declared.owner.Owner.{Owner}
use Rattle.object_stream.specs.Stream.{is_own}
use Rattle.object_table.specs.declared.row.ObjectRow.{ObjectRow}
use Rattle.object_table.specs.Table.{has_number, numbers, row_of}
use Rattle.object_table.specs.Lists.{Climbs}
use Rattle.object_table.proofs.Rows.{its_number}
use Rattle.object_table.proofs.Listed.{found_holds}
use Rattle.volume_maps.specs.declared.place.ObjectPlace.{ObjectPlace}
use Rattle.volume_maps.specs.Maps.{settled_at}
use Rattle.volume_maps.specs.Laws.{place_owner}
use Rattle.volume_maps.specs.Live.{is_live, live_sectors, IsCounted}
use Rattle.volume_maps.proofs.LossLemmas.{known_at}
use Rattle.object_uploads.specs.State.{QueueState}
use Rattle.object_uploads.specs.Queue.{stored_at}
use Rattle.object_uploads.specs.Order.{UnmappedAreDead, AreKnown}
use Rattle.object_uploads.proofs.DeadLemmas.{nowhere, none_live}
use Rattle.plain_disk.proofs.CheckpointLemmas.{both_true, same_number, some_owns, owns_some}
use Rattle.object_uploads.specs.Collection.{IsInsideObject}
use Rattle.object_recovery.specs.Places.{HasPlacesInside}
use Rattle.object_recovery.specs.Table.{HasTableFrom}
use Rattle.refine_mount.proofs.MissingLemmas.{not_there}

-- ---- what owners tell

-- Owners that may be a checkpoint's of this number: they name no object without a row; of those with one below the checkpoint
-- they name just those that are not unmapped; and where no object came after the checkpoint, they are those of the objects' map.
pub record Tells (checkpoint : ℕ) (queue : QueueState) (owned : List (Option Owner)) : Type 0 where
  pub holds : queue.frontier ≡ checkpoint → (k : ℕ) → get_or owned k None ≡ place_owner (settled_at queue.maps k)
  pub none : (number : ℕ) → row_of number queue.maps.objects.rows ≡ None → list_any (is_own number) owned ≡ false
  pub mapped : (number : ℕ) (row : ObjectRow) → row_of number queue.maps.objects.rows ≡ Some row → number < checkpoint
      → list_any (is_own number) owned ≡ not row.is_unmapped

-- ---- an owner for each object that is mapped

abbrev own : ObjectRow → Option Owner
own row = Some (record { level = 0; number = row.number })

abbrev owners_told : List ObjectRow → List (Option Owner)
owners_told rows = map own (filter (λ (row : ObjectRow). not row.is_unmapped) rows)

-- what they tell of a number, by its row
abbrev told_by : Option ObjectRow → Bool
told_by None = false
told_by (Some row) = not row.is_unmapped

any_first : (test : Bool) (number : ℕ) (row : ObjectRow) (rest : List ObjectRow)
    → list_any (is_own number) (map own (cond test (row ∷ rest) rest))
    ≡ ((test && has_number number row) || list_any (is_own number) (map own rest))
any_first true number row rest = refl
any_first false number row rest = refl

-- a number below all rows is none of theirs
none_below : (low number : ℕ) (rows : List ObjectRow) → number ≤ low → Climbs low (numbers rows)
    → list_any (is_own number) (owners_told rows) ≡ false
none_below low number [] below order = refl
none_below low number (row ∷ rows) below order =
    let rest : List ObjectRow = filter (λ (r : ObjectRow). not r.is_unmapped) rows in
    let first = order.0 in
    let other : has_number number row ≡ false = grind (arith, nat_tests) in
    any_first (not row.is_unmapped) number row rest
    ∙ (ap (λ b. (not row.is_unmapped && b) || list_any (is_own number) (map own rest)) other
    ∙ (ap (λ b. b || list_any (is_own number) (map own rest)) (and-false (not row.is_unmapped))
    ∙ none_below row.number number rows (omega (arith, below, first)) order.1))

both_of : (told any : Bool) → any ≡ false → ((told && true) || any) ≡ told
both_of true any none = refl
both_of false any none = none

neither_of : (told any : Bool) → ((told && false) || any) ≡ any
neither_of true any = refl
neither_of false any = refl

told_of_rows : (low number : ℕ) (rows : List ObjectRow) → Climbs low (numbers rows)
    → list_any (is_own number) (owners_told rows) ≡ told_by (row_of number rows)
told_of_rows low number [] order = refl
told_of_rows low number (row ∷ rows) order =
    let rest : List ObjectRow = filter (λ (r : ObjectRow). not r.is_unmapped) rows in
    let told : Bool = not row.is_unmapped in
    let any : Bool = list_any (is_own number) (map own rest) in
    let later : has_number number row ≡ true → any ≡ false = λ here.
    (let same : row.number ≡ number = grind (arith, nat_tests) in
    none_below row.number number rows (omega (arith, same)) order.1) in
    any_first told number row rest
    ∙ (elim (has_number number row) as (λ b. (b ≡ true → any ≡ false)
    → ((told && b) || any) ≡ told_by (cond b (Some row) (row_of number rows))) [
      | true ↦ λ none. both_of told any (none refl)
      | false ↦ λ none. neither_of told any ∙ told_of_rows row.number number rows order.1
    ] later)

-- where objects came after the checkpoint, these may have been its owners
pub rows_tell : (checkpoint : ℕ) (queue : QueueState) → Climbs 0 (numbers queue.maps.objects.rows)
    → checkpoint < queue.frontier → Tells checkpoint queue (owners_told queue.maps.objects.rows)
rows_tell checkpoint queue order past = record {
  holds = λ last. absurd (omega (arith, last, past));
  none = λ number is. told_of_rows 0 number queue.maps.objects.rows order ∙ ap told_by is;
  mapped = λ number row is low. told_of_rows 0 number queue.maps.objects.rows order ∙ ap told_by is;
}

-- ---- the owners of the objects' map

-- what a map may have at a sector of the volume
abbrev StandsInside : (sectors k : ℕ) → QueueState → ObjectPlace → Type 0
StandsInside sectors k queue place = (k < sectors) × IsInsideObject (stored_at queue place) place.sector

-- the owners that the objects' map gives
abbrev pub held_owners : (sectors : ℕ) → QueueState → List (Option Owner)
held_owners sectors queue = map (λ k. place_owner (settled_at queue.maps k)) (range_with_len 0 sectors)

none_held_past : (sectors k : ℕ) (queue : QueueState) (place : Option ObjectPlace)
    → ((some : ObjectPlace) → place ≡ Some some → StandsInside sectors k queue some) → sectors ≤ k → place_owner place ≡ None
none_held_past sectors k queue None inside past = refl
none_held_past sectors k queue (Some place) inside past = absurd (omega (arith, (inside place refl).0))

pub held_owner_at : (sectors : ℕ) (queue : QueueState) → HasPlacesInside sectors queue → (k : ℕ)
    → place_owner (settled_at queue.maps k) ≡ get_or (held_owners sectors queue) k None
held_owner_at sectors queue inside k =
    let f : ℕ → Option Owner = λ k. place_owner (settled_at queue.maps k) in
    elim (cases_lt k sectors) [
      | inl low ↦ sym (get_or-map-range_with_len f 0 sectors k k None low (omega arith))
      | inr past ↦
          none_held_past sectors k queue (settled_at queue.maps k) (inside k) past
          ∙ sym (get_or_past (held_owners sectors queue) k None (omega (arith, length-map-range_with_len f 0 sectors)))
    ]

-- an owner is an object just where the place is in it
pub own_live : (number : ℕ) (place : Option ObjectPlace) → is_own number (place_owner place) ≡ is_live number place
own_live number None = refl
own_live number (Some place) = refl

-- a place that is in an object
live_place : (number : ℕ) (found : Option ObjectPlace) → is_live number found ≡ true
    → (place : ObjectPlace) × (found ≡ Some place) × (place.level ≡ 0) × (place.number ≡ number)
live_place number None is = absurd cc
live_place number (Some place) is =
    let both = both_true (eqb place.level 0) (eqb place.number number) is in
    (place, refl, same_number place.level 0 both.0, same_number place.number number both.1)

-- an object that a place is in has a row, and a live sector
pub live_has_row : (number k : ℕ) (queue : QueueState) → IsCounted queue.maps.settled.rows queue.maps.objects
    → is_live number (settled_at queue.maps k) ≡ true → IsSome (row_of number queue.maps.objects.rows)
live_has_row number k queue counted live =
    let at = live_place number (settled_at queue.maps k) live in
    let rows = queue.maps.objects.rows in
    subst (λ n. IsSome (row_of n rows)) at.3 (known_at rows queue.maps.settled.rows k at.0 counted.known at.1 at.2)

-- so it is not unmapped
pub live_is_mapped : (number k : ℕ) (queue : QueueState) (row : ObjectRow) → IsCounted queue.maps.settled.rows queue.maps.objects
    → UnmappedAreDead queue.maps → row_of number queue.maps.objects.rows ≡ Some row
    → is_live number (settled_at queue.maps k) ≡ true → row.is_unmapped ≡ false
live_is_mapped number k queue row counted dead at live =
    elim row.is_unmapped as (λ b. row.is_unmapped ≡ b → b ≡ false) [
      | true ↦ λ unmapped. (
          let gone = (dead number (row, at, unmapped)).0 in
          let none : gone.0.live ≡ 0 = gone.3 in
          let count = found_holds (λ (r : ObjectRow). r.live ≡ live_sectors r.number queue.maps.settled.rows) number
          queue.maps.objects.rows gone.0 gone.1 counted.live in
          let is = its_number number queue.maps.objects.rows gone.0 gone.1 in
          let no_sector : live_sectors number queue.maps.settled.rows ≡ 0 =
          ap (λ n. live_sectors n queue.maps.settled.rows) (sym is) ∙ (sym count ∙ none) in
          let not_live = nowhere number queue.maps.settled.rows k no_sector in
          absurd cc)
      | false ↦ λ mapped. refl
    ] refl

module _ (uuid : List ℕ) (sectors checkpoint : ℕ) (queue : QueueState) (known : AreKnown uuid queue)
    (inside : HasPlacesInside sectors queue) (table : HasTableFrom checkpoint queue) where
  abbrev held : List (Option Owner)
  held = held_owners sectors queue

  held_is : (number k : ℕ) → is_own number (get_or held k None) ≡ is_live number (settled_at queue.maps k)
  held_is number k = ap (is_own number) (sym (held_owner_at sectors queue inside k)) ∙ own_live number (settled_at queue.maps k)

  -- an object without a row owns none of them
  held_none : (number : ℕ) → row_of number queue.maps.objects.rows ≡ None → list_any (is_own number) held ≡ false
  held_none number none =
      elim (list_any (is_own number) held) as (λ b. list_any (is_own number) held ≡ b → b ≡ false) [
        | true ↦ λ any. (
            let at = some_owns number held any in
            let there = live_has_row number at.0 queue known.counted (sym (held_is number at.0) ∙ at.1) in
            absurd (not_there (row_of number queue.maps.objects.rows) none there))
        | false ↦ λ other. refl
      ] refl

  -- one with a row owns one just where it has a live sector
  held_live : (number : ℕ) (row : ObjectRow) → row_of number queue.maps.objects.rows ≡ Some row
      → list_any (is_own number) held ≡ not (nat_eq row.live 0)
  held_live number row at =
      let count = found_holds (λ (r : ObjectRow). r.live ≡ live_sectors r.number queue.maps.settled.rows) number
      queue.maps.objects.rows row at known.counted.live in
      let is = its_number number queue.maps.objects.rows row at in
      let same : row.live ≡ live_sectors number queue.maps.settled.rows =
      count ∙ ap (λ n. live_sectors n queue.maps.settled.rows) is in
      elim (list_any (is_own number) held) as (λ b. list_any (is_own number) held ≡ b → b ≡ not (nat_eq row.live 0)) [
        | true ↦ λ any. (
            let owned = some_owns number held any in
            let live = sym (held_is number owned.0) ∙ owned.1 in
            let some : row.live ≡ 0 → ⊥ = λ none.
            (let not_live = nowhere number queue.maps.settled.rows owned.0 (sym same ∙ none) in absurd cc) in
            let test : nat_eq row.live 0 ≡ false = grind (arith, nat_tests, some) in
            sym (ap not test))
        | false ↦ λ unowned. (
            let none = none_live number queue.maps.settled.rows known.shortest (λ k. none_at number k unowned) in
            let zero_is : row.live ≡ 0 = same ∙ none in
            let test : nat_eq row.live 0 ≡ true = grind (arith, nat_tests) in
            sym (ap not test))
      ] refl
    where
      none_at : (number k : ℕ) → list_any (is_own number) held ≡ false → is_live number (settled_at queue.maps k) ≡ false
      none_at number k unowned =
          elim (is_live number (settled_at queue.maps k)) as (λ b. is_live number (settled_at queue.maps k) ≡ b → b ≡ false) [
            | true ↦ λ live. (
                let any = owns_some number held k (held_is number k ∙ live) in
                absurd cc)
            | false ↦ λ dead. refl
          ] refl

  -- where none came after it, these may have been the checkpoint's owners
  held_tell : queue.frontier ≡ checkpoint → Tells checkpoint queue held
  held_tell last = record {
    holds = λ again k. sym (held_owner_at sectors queue inside k);
    none = held_none;
    mapped = λ number row at low.
        let told = found_holds (λ (r : ObjectRow). r.number < checkpoint → r.is_unmapped ≡ nat_eq r.live 0) number
        queue.maps.objects.rows row at (table.exact last) in
        let is = its_number number queue.maps.objects.rows row at in
        held_live number row at ∙ ap not (sym (told (omega (arith, is, low))));
  }

  -- some owners may always have been
  pub some_tell : (owned : List (Option Owner)) × Tells checkpoint queue owned
  some_tell =
      elim (cases_lt checkpoint queue.frontier) [
        | inl past ↦ (owners_told queue.maps.objects.rows, rows_tell checkpoint queue known.order past)
        | inr reached ↦
            (held, held_tell (omega (arith, reached, table.checkpoint_is, known.checkpoint)))
      ]
