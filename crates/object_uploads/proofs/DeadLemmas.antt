-- An object without a live sector gains none while the rows of another are settled.
use Rattle.std.proofs.Common.{◌≡◌, ℕ, ◌+◌, ◌-◌, ◌<◌, ◌==◌, ◌&&◌, Bool, true, false, cond, Option, Some, None, List, []}
use Rattle.std.proofs.Common.{◌∷◌, inl, inr, refl, sym, ◌∙◌, ap, arith}
use Rattle.std.proofs.lemmas.Bool.{cases_lt}
use Rattle.std.proofs.lemmas.Bool.Decides.{nat_tests}
use Rattle.std.proofs.lemmas.List.Sums.{sum_by-cons}
use Rattle.extent_map.specs.declared.extent.Extent.{Extent}
use Rattle.extent_map.specs.Extents.{is_within, place_at, IsShortest}
use Rattle.extent_map.proofs.Places.{at_inside, at_past, after_row, none_before}
use Rattle.object_format.specs.declared.copy_row.CopyRow.{CopyRow}
use Rattle.object_format.specs.declared.data_row.DataRow.{DataRow}
use Rattle.volume_maps.specs.declared.place.ObjectPlace.{ObjectPlace}
use Rattle.volume_maps.specs.Places.{object_on}
use Rattle.volume_maps.specs.Maps.{row_object_place, settled_by_row, settled_by, settled_by_copy_row, settled_by_copy}
use Rattle.volume_maps.specs.Live.{is_in_object, is_live, sectors_in, live_sectors}

-- a change of places gives sectors to the object of a number alone: no other one comes to have a sector that it did not have
abbrev pub GivesAlone : (next : ℕ) → (Option ObjectPlace → ℕ → Option ObjectPlace) → Type 0
GivesAlone next settle =
    (number : ℕ) (before : Option ObjectPlace) (k : ℕ) → (next ≡ number → ⊥) → is_live number before ≡ false
    → is_live number (settle before k) ≡ false

module _ (number : ℕ) where
  -- ---- a map without a live sector of the object has no place in it

  -- a row has none
  row_is_elsewhere : (test : Bool) (sectors : ℕ) → 0 < sectors → cond test sectors 0 ≡ 0 → test ≡ false
  row_is_elsewhere true sectors some none = absurd (omega arith)
  row_is_elsewhere false sectors some none = refl

  nowhere_by : (test : Bool) (row : Extent ObjectPlace) (rest : Option ObjectPlace) (k : ℕ)
      → is_within row.lba row.sectors k ≡ test → sectors_in number row ≡ 0 → is_live number rest ≡ false
      → is_live number (cond test (Some (object_on (k - row.lba) row.place)) rest) ≡ false
  nowhere_by true row rest k within none more =
      let some : 0 < row.sectors = grind (arith, nat_tests) in
      row_is_elsewhere (is_in_object number row.place) row.sectors some none
  nowhere_by false row rest k within none more = more

  pub nowhere : (rows : List (Extent ObjectPlace)) (k : ℕ) → live_sectors number rows ≡ 0
      → is_live number (place_at object_on rows k) ≡ false
  nowhere [] k none = refl
  nowhere (row ∷ rows) k none =
      let sum = sum_by-cons (sectors_in number) row rows in
      nowhere_by (is_within row.lba row.sectors k) row (place_at object_on rows k) k refl (omega (arith, sum))
      (nowhere rows k (omega (arith, sum)))

  -- ---- nor has it one once the rows of another object are settled

  module _ (next : ℕ) (other : next ≡ number → ⊥) where
    other_own : (sector : ℕ) → is_live number (Some (record { level = 0; number = next; sector = sector })) ≡ false
    other_own sector =
        let differ : (next == number) ≡ false = grind (arith, nat_tests) in
        rw differ refl

    other_place : (place : Option ℕ) (i : ℕ) → is_live number (row_object_place next place i) ≡ false
    other_place None i = refl
    other_place (Some place) i = other_own (place + i)

    settled_row_by : (test : Bool) (place : Option ℕ) (before : Option ObjectPlace) (i : ℕ) → is_live number before ≡ false
        → is_live number (cond test (row_object_place next place i) before) ≡ false
    settled_row_by true place before i none = other_place place i
    settled_row_by false place before i none = none

    nowhere_settled : (rows : List DataRow) (before : Option ObjectPlace) (k : ℕ) → is_live number before ≡ false
        → is_live number (settled_by next rows before k) ≡ false
    nowhere_settled [] before k none = none
    nowhere_settled (row ∷ rows) before k none =
        nowhere_settled rows (settled_by_row next row before k) k
        (settled_row_by (is_within row.lba row.sectors k) row.place before (k - row.lba) none)

    copied_row_by : (test : Bool) (sector : ℕ) (before : Option ObjectPlace) → is_live number before ≡ false
        → is_live number (cond test (Some (record { level = 0; number = next; sector = sector })) before) ≡ false
    copied_row_by true sector before none = other_own sector
    copied_row_by false sector before none = none

    nowhere_copied : (rows : List CopyRow) (before : Option ObjectPlace) (k : ℕ) → is_live number before ≡ false
        → is_live number (settled_by_copy next rows before k) ≡ false
    nowhere_copied [] before k none = none
    nowhere_copied (row ∷ rows) before k none =
        nowhere_copied rows (settled_by_copy_row next row before k) k
        (copied_row_by (is_within row.lba row.sectors k && is_live row.source.number before) (row.place + (k - row.lba)) before
        none)

  -- ---- and where a map has no place in it, no live sector is

  rest_nowhere : (row : Extent ObjectPlace) (rows : List (Extent ObjectPlace)) → IsShortest object_on (row ∷ rows)
      → ((k : ℕ) → is_live number (place_at object_on (row ∷ rows) k) ≡ false)
      → (k : ℕ) → is_live number (place_at object_on rows k) ≡ false
  rest_nowhere row rows shortest none k =
      let past = row.lba + row.sectors in
      elim (cases_lt k past) [
        | inl low ↦
            ap (is_live number) (none_before object_on rows past k shortest.2 (after_row object_on row rows shortest.1) low)
        | inr high ↦ sym (ap (is_live number) (at_past object_on row rows k high)) ∙ none k
      ]

  pub none_live : (rows : List (Extent ObjectPlace)) → IsShortest object_on rows
      → ((k : ℕ) → is_live number (place_at object_on rows k) ≡ false) → live_sectors number rows ≡ 0
  none_live [] shortest none = refl
  none_live (row ∷ rows) shortest none =
      let here = at_inside object_on row rows row.lba (omega arith) (omega (arith, shortest.0)) in
      let elsewhere : is_in_object number row.place ≡ false = sym (ap (is_live number) here) ∙ none row.lba in
      let own : sectors_in number row ≡ 0 = ap (λ b. cond b row.sectors 0) elsewhere in
      let rest = none_live rows shortest.2 (rest_nowhere row rows shortest none) in
      omega (arith, sum_by-cons (sectors_in number) row rows, own, rest)

-- the rows of a data object give sectors to it alone, and so do those of a copy
pub data_gives : (next : ℕ) (rows : List DataRow) → GivesAlone next (settled_by next rows)
data_gives next rows number before k other none = nowhere_settled number next other rows before k none

pub copy_gives : (next : ℕ) (rows : List CopyRow) → GivesAlone next (settled_by_copy next rows)
copy_gives next rows number before k other none = nowhere_copied number next other rows before k none

-- where another object is settled, the object still has no live sector
pub still_none_live : (number next : ℕ) (settle : Option ObjectPlace → ℕ → Option ObjectPlace)
    (old new : List (Extent ObjectPlace)) → GivesAlone next settle → (next ≡ number → ⊥) → IsShortest object_on new
    → ((k : ℕ) → place_at object_on new k ≡ settle (place_at object_on old k) k)
    → live_sectors number old ≡ 0 → live_sectors number new ≡ 0
still_none_live number next settle old new gives other shortest settled none =
    none_live number new shortest (λ k.
    ap (is_live number) (settled k) ∙ gives number (place_at object_on old k) k other (nowhere number old k none))
