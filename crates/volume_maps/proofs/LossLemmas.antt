-- The counts of the table of objects while the map of them changes in a range.
use Rattle.std.proofs.Common.{ℕ, ◌+◌, ◌-◌, ◌≤◌, ◌≡◌, ◌≢◌, Bool, true, false, cond, ◌&&◌, Option, Some, None}
use Rattle.std.proofs.Common.{List, [], ◌∷◌, inl, inr, refl, sym, ◌∙◌, ap, subst, arith}
use Rattle.std.specs.Prelude.{IsSome, ◌==◌}
use Rattle.std.specs.List.{All}
use Rattle.std.proofs.lemmas.Bool.{cases_lt}
use Rattle.std.proofs.lemmas.Bool.Decides.{nat_tests}
use Rattle.std.proofs.lemmas.List.Elements.{All-nil, All-cons, All-head, All-tail, All-weaker}
use Rattle.std.proofs.lemmas.Option.{same_Some}
use Rattle.extent_map.specs.declared.extent.Extent.{Extent}
use Rattle.extent_map.specs.Extents.{is_within, place_at, IsShortest, StartsRange}
use Rattle.extent_map.specs.Extents.{IsBare}
use Rattle.extent_map.proofs.Places.{at_inside, at_past, after_row, none_before}
use Rattle.object_table.specs.declared.row.ObjectRow.{ObjectRow}
use Rattle.object_table.specs.Table.{TableState, row_of, live_in, live_of, with_changed, lost}
use Rattle.object_table.specs.Lists.{Climbs}
use Rattle.object_table.proofs.Rows.{its_number}
use Rattle.object_table.proofs.Listed.{found_holds}
use Rattle.volume_maps.specs.declared.place.ObjectPlace.{ObjectPlace}
use Rattle.volume_maps.specs.Places.{object_on}
use Rattle.volume_maps.specs.Live.{is_in_object, is_live, sectors_in, live_sectors, HasSameObjects}
use Rattle.volume_maps.specs.Kept.{IsKept, passing, live_between, IsCountedBut, after_loss}
use Rattle.volume_maps.proofs.Counts.{split, live_nowhere, live_in_row, live_part}
use Rattle.volume_maps.proofs.TableLemmas.{same_twice, same_changed, same_numbers, still_there, changed_all}

-- ---- which objects the places of a map are in

-- a place in one of the volume's own objects is in one of these
abbrev pub IsKnown : List ObjectRow → ObjectPlace → Type 0
IsKnown objects place = place.level ≡ 0 → IsSome (row_of place.number objects)

module _ (objects : List ObjectRow) where
  -- by a test, whether the first row has a sector
  known_by : (test : Bool) (i : ℕ) (first place : ObjectPlace) (rest : Option ObjectPlace) → IsKnown objects first
      → (rest ≡ Some place → IsKnown objects place) → cond test (Some (object_on i first)) rest ≡ Some place
      → IsKnown objects place
  known_by true i first place rest known more is =
      subst (IsKnown objects) (same_Some (object_on i first) place is) known
  known_by false i first place rest known more is = more is

  -- so is the place that rows give a sector
  pub known_at : (rows : List (Extent ObjectPlace)) (k : ℕ) (place : ObjectPlace)
      → All (λ (row : Extent ObjectPlace). IsKnown objects row.place) rows → place_at object_on rows k ≡ Some place
      → IsKnown objects place
  known_at [] k place known is = absurd cc
  known_at (row ∷ rows) k place known is =
      known_by (is_within row.lba row.sectors k) (k - row.lba) row.place place (place_at object_on rows k)
      (All-head (λ (row : Extent ObjectPlace). IsKnown objects row.place) row rows known)
      (known_at rows k place (All-tail (λ (row : Extent ObjectPlace). IsKnown objects row.place) row rows known)) is

  -- what the rest of the rows give a sector, all of them give it
  given_by_all : (row : Extent ObjectPlace) (rows : List (Extent ObjectPlace)) (k : ℕ) (place : ObjectPlace)
      → IsShortest object_on (row ∷ rows) → place_at object_on rows k ≡ Some place
      → place_at object_on (row ∷ rows) k ≡ Some place
  given_by_all row rows k place shortest is =
      let past = row.lba + row.sectors in
      elim (cases_lt k past) [
        | inl low ↦
            let none = none_before object_on rows past k shortest.2 (after_row object_on row rows shortest.1) low in
            absurd cc
        | inr high ↦ at_past object_on row rows k high ∙ is
      ]

  -- so are the places of rows, where those of all sectors are
  pub all_known : (rows : List (Extent ObjectPlace)) → IsShortest object_on rows
      → ((k : ℕ) (place : ObjectPlace) → place_at object_on rows k ≡ Some place → IsKnown objects place)
      → All (λ (row : Extent ObjectPlace). IsKnown objects row.place) rows
  all_known [] shortest known = All-nil (λ (row : Extent ObjectPlace). IsKnown objects row.place)
  all_known (row ∷ rows) shortest known =
      All-cons (λ (row : Extent ObjectPlace). IsKnown objects row.place) row rows
      (known row.lba (object_on (row.lba - row.lba) row.place) (at_inside object_on row rows row.lba (omega arith) (omega arith)))
      (all_known rows shortest.2 (λ k place is. known k place (given_by_all row rows k place shortest is)))

-- ---- a row's sectors in an object

-- the sectors at a place of the volume's own are in the object of the place's number
pub own_sectors : (place : ObjectPlace) (number sectors : ℕ) → (place.level == 0) ≡ true → place.number ≡ number
    → cond (is_in_object number place) sectors 0 ≡ sectors
own_sectors place number sectors own same =
    let it : (place.number == number) ≡ true = grind (arith, nat_tests) in
    rw (own, it) refl

-- by the two tests of a place: none of the sectors of an object that it is not in
none_by : (a b : Bool) (place : ObjectPlace) (number sectors : ℕ) → (place.level == 0) ≡ a → (place.number == number) ≡ b
    → (place.level ≡ 0 → place.number ≡ number → ⊥) → cond (a && b) sectors 0 ≡ 0
none_by false b place number sectors own same other = refl
none_by true false place number sectors own same other = refl
none_by true true place number sectors own same other =
    absurd (other (grind (arith, nat_tests)) (grind (arith, nat_tests)))

-- a place that is not in an object has none of its sectors
pub none_in : (place : ObjectPlace) (number sectors : ℕ) → (place.level ≡ 0 → place.number ≡ number → ⊥)
    → cond (is_in_object number place) sectors 0 ≡ 0
none_in place number sectors other =
    none_by (place.level == 0) (place.number == number) place number sectors refl refl other

-- none where its number is another
pub none_of_other : (place : ObjectPlace) (number sectors : ℕ) → place.number ≢ number
    → cond (is_in_object number place) sectors 0 ≡ 0
none_of_other place number sectors other = none_in place number sectors (λ own same. other same)

-- and where it is in an object of another volume
pub none_of_clone : (place : ObjectPlace) (number sectors : ℕ) → (place.level == 0) ≡ false
    → cond (is_in_object number place) sectors 0 ≡ 0
none_of_clone place number sectors other = rw other refl

-- ---- an object that is there

-- what is found where something is
some_is : {X : Type 0} (found : Option X) → IsSome found → (x : X) × (found ≡ Some x)
some_is None some = absurd cc
some_is (Some x) some = (x, refl)

-- what a fact on all objects says of one by its number, and its count
pub found_by : (P : ObjectRow → Type 0) (number : ℕ) (objects : List ObjectRow) → IsSome (row_of number objects) → All P objects
    → (object : ObjectRow) × P object × (object.number ≡ number) × (live_of number objects ≡ object.live)
found_by P number objects some all =
    let found = some_is (row_of number objects) some in (
      found.0,
      found_holds P number objects found.0 found.1 all,
      its_number number objects found.0 found.1,
      ap live_in found.1,
    )

-- ---- a row more of a range is lost

module _ (rows : List (Extent ObjectPlace)) (lba from rest : ℕ) (row : Extent ObjectPlace) (order : lba ≤ from)
    (starts : StartsRange object_on from rest (place_at object_on rows) row) where
  -- the range up to the row's end
  more_live : (number : ℕ)
      → live_between number (place_at object_on rows) lba (row.lba + row.sectors - lba)
      ≡ live_between number (place_at object_on rows) lba (from - lba) + sectors_in number row
  more_live number =
      let places = place_at object_on rows in
      let test : ℕ → Bool = λ k. is_live number (places k) in
      let past = row.lba + row.sectors in
      let size : past - row.lba ≡ row.sectors = omega arith in
      omega (
        arith,
        split test lba from past order (omega (arith, starts.from)),
        split test from row.lba past starts.from (omega arith),
        live_nowhere number places from (row.lba - from)
            (λ k low high. starts.none_before k low (omega (arith, starts.from))),
        ap (passing test row.lba) size,
        live_in_row number places row starts.places,
      )

  module _ (was table : TableState) (kept : IsKept rows was) (same : HasSameObjects was table)
      (counted : IsCountedBut rows lba (from - lba) table) where
    -- an object that lost what it has before the row has the row's sectors left
    lose_fits_by : (b : Bool) → (row.place.level == 0) ≡ b → row.place.level ≡ 0
        → row.sectors ≤ live_of row.place.number table.rows
    lose_fits_by false clone own = absurd (grind (arith, nat_tests))
    lose_fits_by true test own =
        let number = row.place.number in
        let here = starts.places row.lba (omega arith) (omega (arith, starts.some)) in
        let there = known_at was.rows rows row.lba (object_on (row.lba - row.lba) row.place) kept.counted.known here own in
        let found = found_by (λ object. object.live + live_between object.number (place_at object_on rows) lba (from - lba)
        ≡ live_sectors object.number rows) number table.rows (still_there number was table same there) counted in
        let count = ap (λ n. live_between n (place_at object_on rows) lba (from - lba)) found.2 in
        let all = ap (λ n. live_sectors n rows) found.2 in
        omega (
          arith,
          found.1,
          found.3,
          count,
          all,
          more_live number,
          own_sectors row.place number row.sectors test refl,
          live_part number rows kept.shortest lba (row.lba + row.sectors) (omega (arith, starts.from)),
        )

    -- so it loses no more than it has
    pub lose_fits : row.place.level ≡ 0 → row.sectors ≤ live_of row.place.number table.rows
    lose_fits own = lose_fits_by (row.place.level == 0) refl own

    -- by a test, whether the place is in an object of the volume's own
    lost_by : (b : Bool) → (row.place.level == 0) ≡ b
        → IsCountedBut rows lba (row.lba + row.sectors - lba)
        (cond b (with_changed (lost row.sectors) row.place.number table) table)
    lost_by false clone =
        All-weaker
        (λ object. object.live + live_between object.number (place_at object_on rows) lba (from - lba)
        ≡ live_sectors object.number rows)
        (λ object. object.live + live_between object.number (place_at object_on rows) lba (row.lba + row.sectors - lba)
        ≡ live_sectors object.number rows)
        (λ object is. omega (arith, is, more_live object.number, none_of_clone row.place object.number row.sectors clone))
        table.rows counted
    lost_by true test =
        let own : row.place.level ≡ 0 = grind (arith, nat_tests) in
        changed_all
        (λ object. object.live + live_between object.number (place_at object_on rows) lba (from - lba)
        ≡ live_sectors object.number rows)
        (λ object. object.live + live_between object.number (place_at object_on rows) lba (row.lba + row.sectors - lba)
        ≡ live_sectors object.number rows)
        (lost row.sectors) row.place.number 0 table.rows
        (subst (Climbs 0) (sym (same_numbers was table same)) kept.order)
        (λ object other is. omega (
          arith,
          is,
          more_live object.number,
          none_of_other row.place object.number row.sectors (λ number. other (sym number)),
        ))
        (λ object number found is. omega (
          arith,
          is,
          more_live object.number,
          own_sectors row.place object.number row.sectors test (sym number),
          ap live_in found,
          lose_fits own,
        ))
        counted

    -- and the counts are then those without the row
    pub lost_more : IsCountedBut rows lba (row.lba + row.sectors - lba) (after_loss row table)
    lost_more = lost_by (row.place.level == 0) refl

    -- the objects stay the same, by this test
    same_by : (b : Bool) → HasSameObjects was (cond b (with_changed (lost row.sectors) row.place.number table) table)
    same_by false = same
    same_by true =
        same_twice was table (with_changed (lost row.sectors) row.place.number table) same
        (same_changed (lost row.sectors) row.place.number table (λ object. refl))

    -- and in each case
    pub same_more : HasSameObjects was (after_loss row table)
    same_more = same_by (row.place.level == 0)

-- the room for further objects stays
pub after_loss-spare : (row : Extent ObjectPlace) (table : TableState) → (after_loss row table).spare ≡ table.spare
after_loss-spare row table =
    elim (row.place.level == 0) as (λ b. (cond b (with_changed (lost row.sectors) row.place.number table) table).spare
    ≡ table.spare) [
      | true ↦ refl
      | false ↦ refl
    ]

-- no sector of a range is lost yet
pub lost_none : (rows : List (Extent ObjectPlace)) (lba : ℕ) (table : TableState) → IsKept rows table
    → IsCountedBut rows lba (lba - lba) table
lost_none rows lba table kept =
    let none : lba - lba ≡ 0 = omega arith in
    All-weaker (λ object. object.live ≡ live_sectors object.number rows)
    (λ object. object.live + live_between object.number (place_at object_on rows) lba (lba - lba)
    ≡ live_sectors object.number rows)
    (λ object is. omega (
      arith,
      is,
      live_nowhere object.number (place_at object_on rows) lba (lba - lba) (λ k low high. absurd (omega arith)),
    ))
    table.rows kept.counted.live

-- and all are once the rest of it is bare
pub lost_all : (rows : List (Extent ObjectPlace)) (lba from sectors : ℕ) (table : TableState) → lba ≤ from
    → from ≤ lba + sectors → IsBare from (lba + sectors - from) (place_at object_on rows)
    → IsCountedBut rows lba (from - lba) table → IsCountedBut rows lba sectors table
lost_all rows lba from sectors table low high bare counted =
    let places = place_at object_on rows in
    let size : lba + sectors - lba ≡ sectors = omega arith in
    All-weaker (λ object. object.live + live_between object.number places lba (from - lba) ≡ live_sectors object.number rows)
    (λ object. object.live + live_between object.number places lba sectors ≡ live_sectors object.number rows)
    (λ object is. omega (
      arith,
      is,
      split (λ k. is_live object.number (places k)) lba from (lba + sectors) low high,
      ap (passing (λ k. is_live object.number (places k)) lba) size,
      live_nowhere object.number places from (lba + sectors - from) bare,
    ))
    table.rows counted
