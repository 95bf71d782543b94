-- The row of a number, with the rows changed there or without it.
use Rattle.std.proofs.Common.{ℕ, zero, suc, ◌<◌, ◌≤◌, ◌≡◌, ◌≢◌, true, false, Some, None, List, [], ◌∷◌, length, get_or, set}
use Rattle.std.proofs.Common.{refl, ap, sym, subst, ◌∙◌, IfSome, IsTrue, arith, inl, inr}
use Rattle.std.specs.Prelude.{Option, Result, Ok, Err, MatchResult}
use Rattle.std.specs.List.{remove}
use Rattle.std.specs.List.Sorted.{IsSearchInRange, IsBinarySearchResult, IsNonDecreasingBy}
use Rattle.std.specs.Result.{result_ok}
use Rattle.std.specs.Ordering.{nat_cmp, ordering_index}
use Rattle.std.proofs.lemmas.Cmp.{ranked}
use Rattle.std.proofs.lemmas.List.Sorted.{IsNonDecreasingBy-from_default}
use Rattle.std.proofs.lemmas.Bool.{cases_lt}
use Rattle.std.proofs.lemmas.Bool.Decides.{nat_tests}
use Rattle.object_table.specs.declared.row.ObjectRow.{ObjectRow}
use Rattle.object_table.specs.Table.{has_number, numbers, row_of, changed, without, with_changed, TableState}
use Rattle.object_table.specs.Lists.{Climbs, IsPlaceOf, KeepsUnmapped, with_row}

-- a row for reads outside a list
abbrev pub blank : ObjectRow
blank = record {
  number = 0;
  payload = 0;
  front = 0;
  live = 0;
  pins = 0;
  is_copied = false;
  is_unmapped = false;
  is_held = false;
}

pub above_row : (low : ℕ) (rows : List ObjectRow) (i : ℕ) (d : ObjectRow) → Climbs low (numbers rows) → i < length rows
    → low < (get_or rows i d).number
above_row low [] i d order inside = absurd (omega arith)
above_row low (row ∷ rows) zero d order inside = order.0
above_row low (row ∷ rows) (suc i) d order inside =
    let rest = above_row row.number rows i d order.1 (omega arith) in omega (arith, order.0, rest)

pub row_rises : (low : ℕ) (rows : List ObjectRow) (i j : ℕ) (d : ObjectRow) → Climbs low (numbers rows) → i ≤ j
    → j < length rows → (get_or rows i d).number ≤ (get_or rows j d).number
row_rises low [] i j d order le inside = absurd (omega arith)
row_rises low (row ∷ rows) zero zero d order le inside = omega arith
row_rises low (row ∷ rows) zero (suc j) d order le inside =
    let rest = above_row row.number rows j d order.1 (omega arith) in omega (arith, rest)
row_rises low (row ∷ rows) (suc i) zero d order le inside = absurd (omega arith)
row_rises low (row ∷ rows) (suc i) (suc j) d order le inside =
    row_rises row.number rows i j d order.1 (omega arith) (omega arith)

-- ---- the row at a place

pub row_at : (low number : ℕ) (rows : List ObjectRow) (i : ℕ) (d : ObjectRow) → Climbs low (numbers rows) → i < length rows
    → (get_or rows i d).number ≡ number → row_of number rows ≡ Some (get_or rows i d)
row_at low number [] i d order inside is = absurd (omega arith)
row_at low number (row ∷ rows) zero d order inside is =
    let it : has_number number row ≡ true = grind (arith, nat_tests) in
    rw it refl
row_at low number (row ∷ rows) (suc i) d order inside is =
    let more = above_row row.number rows i d order.1 (omega arith) in
    let not_it : has_number number row ≡ false = grind (arith, nat_tests) in
    rw not_it (row_at row.number number rows i d order.1 (omega arith) is)

pub set_row_at : (low : ℕ) (new : ObjectRow) (rows : List ObjectRow) (i : ℕ) (d : ObjectRow) → Climbs low (numbers rows)
    → i < length rows → (get_or rows i d).number ≡ new.number → set rows i new ≡ with_row new rows
set_row_at low new [] i d order inside is = absurd (omega arith)
set_row_at low new (row ∷ rows) zero d order inside is =
    let it : has_number new.number row ≡ true = grind (arith, nat_tests) in
    rw it refl
set_row_at low new (row ∷ rows) (suc i) d order inside is =
    let more = above_row row.number rows i d order.1 (omega arith) in
    let not_it : has_number new.number row ≡ false = grind (arith, nat_tests) in
    rw not_it (ap (λ rest. row ∷ rest) (set_row_at row.number new rows i d order.1 (omega arith) is))

pub removed_row_at : (low number : ℕ) (rows : List ObjectRow) (i : ℕ) (d : ObjectRow) → Climbs low (numbers rows)
    → i < length rows → (get_or rows i d).number ≡ number → remove rows i ≡ without number rows
removed_row_at low number [] i d order inside is = absurd (omega arith)
removed_row_at low number (row ∷ rows) zero d order inside is =
    let it : has_number number row ≡ true = grind (arith, nat_tests) in
    rw it refl
removed_row_at low number (row ∷ rows) (suc i) d order inside is =
    let more = above_row row.number rows i d order.1 (omega arith) in
    let not_it : has_number number row ≡ false = grind (arith, nat_tests) in
    rw not_it (ap (λ rest. row ∷ rest) (removed_row_at row.number number rows i d order.1 (omega arith) is))

-- ---- a number that is absent

pub row_nowhere : (number : ℕ) (rows : List ObjectRow) (d : ObjectRow)
    → ((k : ℕ) → k < length rows → (get_or rows k d).number ≢ number) → row_of number rows ≡ None
row_nowhere number [] d absent = refl
row_nowhere number (row ∷ rows) d absent =
    let first : row.number ≢ number = absent 0 (omega arith) in
    let not_it : has_number number row ≡ false = grind (arith, nat_tests) in
    rw not_it (row_nowhere number rows d (λ k less. absent (suc k) (omega arith)))

-- ---- the row that a search found

pub its_number : (number : ℕ) (rows : List ObjectRow) (row : ObjectRow) → row_of number rows ≡ Some row → row.number ≡ number
its_number number [] row is = cc
its_number number (first ∷ rows) row is =
    let rest = its_number number rows row in grind (arith, nat_tests, rest)

pub found_above : (low number : ℕ) (rows : List ObjectRow) (row : ObjectRow) → Climbs low (numbers rows)
    → row_of number rows ≡ Some row → low < number
found_above low number [] row order is = cc
found_above low number (first ∷ rows) row order is =
    let here = order.0 in
    let rest = found_above first.number number rows row order.1 in
    grind (arith, nat_tests, here, rest)

pub changed_by_row : (change : ObjectRow → ObjectRow) (number : ℕ) (rows : List ObjectRow) (row : ObjectRow)
    → (change row).number ≡ number → row_of number rows ≡ Some row
    → with_row (change row) rows ≡ changed change number rows
changed_by_row change number [] row same is = refl
changed_by_row change number (first ∷ rows) row same is =
    let rest = changed_by_row change number rows row same in
    grind (arith, nat_tests, rest)

pub unchanged : (change : ObjectRow → ObjectRow) (number : ℕ) (rows : List ObjectRow) → row_of number rows ≡ None
    → rows ≡ changed change number rows
unchanged change number [] is = refl
unchanged change number (first ∷ rows) is =
    let rest = unchanged change number rows in
    grind (arith, nat_tests, rest)

pub nothing_out : (number : ℕ) (rows : List ObjectRow) → row_of number rows ≡ None → rows ≡ without number rows
nothing_out number [] is = refl
nothing_out number (first ∷ rows) is =
    let rest = nothing_out number rows in
    grind (arith, nat_tests, rest)

pub nothing_replaced : (new : ObjectRow) (rows : List ObjectRow) → row_of new.number rows ≡ None → rows ≡ with_row new rows
nothing_replaced new [] is = refl
nothing_replaced new (first ∷ rows) is =
    let rest = nothing_replaced new rows in
    grind (arith, nat_tests, rest)

-- a search by number ends at the row, or at the gap for it
module _ (number : ℕ) (rows : List ObjectRow) (order : Climbs 0 (numbers rows)) where
  comparisons_rise : IsNonDecreasingBy (λ (row : ObjectRow). ordering_index (nat_cmp row.number number)) rows
  comparisons_rise =
      IsNonDecreasingBy-from_default (λ (row : ObjectRow). ordering_index (nat_cmp row.number number)) rows blank
      (λ i j le within. (let rise = row_rises 0 rows i j blank order le within in grind (arith, nat_tests)))

  pub row_searched : (found : Result ℕ ℕ) → IsSearchInRange found (length rows)
      → IsBinarySearchResult (λ (row : ObjectRow). nat_cmp row.number number) rows found
      → MatchResult found (λ at. IsPlaceOf number rows (Some at)) (λ _. IsPlaceOf number rows None)
  row_searched (Ok at) within equal = (within, λ d. ranked _ number _ (sym (equal d)))
  row_searched (Err at) within parted =
      row_nowhere number rows blank (λ k less is. elim (cases_lt k at) [
        | inl low ↦ (let h : (get_or rows k blank).number < number =
            ranked _ number _ (sym ((parted comparisons_rise).0 k blank (omega arith) low)) in omega (arith, h, is))
        | inr high ↦ (let h : number < (get_or rows k blank).number =
            ranked _ number _ (sym ((parted comparisons_rise).1 k blank high less)) in omega (arith, h, is))
      ])

  pub place_searched : (found : Result ℕ ℕ) → IsSearchInRange found (length rows)
      → IsBinarySearchResult (λ (row : ObjectRow). nat_cmp row.number number) rows found
      → IsPlaceOf number rows (result_ok found)
  place_searched (Ok at) within equal = row_searched (Ok at) within equal
  place_searched (Err at) within parted = row_searched (Err at) within parted

-- what a row that is put asks of the one with its number
abbrev pub KeptFrom : ObjectRow → Option ObjectRow → Type 0
KeptFrom new found =
    IfSome found (λ (old : ObjectRow). IsTrue new.is_unmapped → IsTrue old.is_unmapped × (new.live ≤ old.live))

-- a row that is put keeps its number and, if it is unmapped, was so and had no fewer live sectors
pub keeps : (number : ℕ) (new old : ObjectRow) (rows : List ObjectRow) → new.number ≡ old.number
    → row_of number rows ≡ Some old → (IsTrue new.is_unmapped → IsTrue old.is_unmapped × (new.live ≤ old.live))
    → KeepsUnmapped rows new
keeps number new old rows same is unmapped =
    let found : row_of new.number rows ≡ Some old =
    ap (λ number. row_of number rows) (same ∙ its_number number rows old is) ∙ is in
    subst (KeptFrom new) (sym found) unmapped

-- a table with its row changed, or without one to change
pub changed_table : (change : ObjectRow → ObjectRow) (number : ℕ) (table : TableState) (row : ObjectRow)
    → (change row).number ≡ row.number → row_of number table.rows ≡ Some row
    → record table { rows = with_row (change row) table.rows } ≡ with_changed change number table
changed_table change number table row same is =
    ap (λ rows. record table { rows = rows })
    (changed_by_row change number table.rows row (same ∙ its_number number table.rows row is) is)

pub unchanged_table : (change : ObjectRow → ObjectRow) (number : ℕ) (table : TableState)
    → row_of number table.rows ≡ None → table ≡ with_changed change number table
unchanged_table change number table is = ap (λ rows. record table { rows = rows }) (unchanged change number table.rows is)

-- a place that was found among the same rows
pub placed : (number : ℕ) (given rows : List ObjectRow) (found place : Option ℕ) → given ≡ rows → found ≡ place
    → IsPlaceOf number given found → IsPlaceOf number rows place
placed number given rows found place same is at =
    subst (λ rows. IsPlaceOf number rows place) same (subst (IsPlaceOf number given) is at)
