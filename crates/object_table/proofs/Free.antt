-- The first of the numbers that pass a test is the lowest.
use Rattle.std.proofs.Common.{ℕ, ◌≤◌, ◌≡◌, Bool, true, false, cond, not, ◌&&◌, Some, List, [], ◌∷◌, ◌++◌, refl, ap, sym, arith}
use Rattle.std.proofs.Common.{get_or, drop, nat_eq, IsTrue}
use Rattle.std.specs.Prelude.{slice_get}
use Rattle.std.specs.List.{filter}
use Rattle.std.proofs.lemmas.Bool.{and_parts, and_from, not-true, not_from_false}
use Rattle.std.proofs.lemmas.Bool.Decides.{nat_tests}
use Rattle.object_table.specs.declared.row.ObjectRow.{ObjectRow}
use Rattle.object_table.specs.Table.{has_number, numbers, row_of, TableState, IsRemovable, IsLowestRemovable}
use Rattle.object_table.specs.Lists.{Climbs, IsListed, StaysUnmapped, is_free}
use Rattle.object_table.proofs.Rows.{found_above, its_number}
use Rattle.object_table.proofs.Listed.{found_holds}

-- the row of a number that passes the test is among those that pass
pub some_passes : (test : ObjectRow → Bool) (number : ℕ) (rows : List ObjectRow) (row : ObjectRow)
    → row_of number rows ≡ Some row → test row ≡ true → numbers (filter test rows) ≡ [] → ⊥
some_passes test number [] row is passes none = cc
some_passes test number (first ∷ rows) row is passes none =
    let rest = some_passes test number rows row in
    grind (arith, nat_tests, rest)

-- and none that passes has a number lower than the first
pub first_is_lowest : (test : ObjectRow → Bool) (low number lowest : ℕ) (ns : List ℕ) (rows : List ObjectRow) (row : ObjectRow)
    → Climbs low (numbers rows) → row_of number rows ≡ Some row → test row ≡ true
    → numbers (filter test rows) ≡ lowest ∷ ns → lowest ≤ number
first_is_lowest test low number lowest ns [] row order is passes some = cc
first_is_lowest test low number lowest ns (first ∷ rows) row order is passes some =
    let rest = first_is_lowest test first.number number lowest ns rows row order.1 in
    let above = found_above first.number number rows row order.1 in
    grind (arith, nat_tests, rest, above)

-- a number among those that pass has a row that passes
abbrev pub Passing : (ObjectRow → Bool) → ℕ → List ObjectRow → Type 0
Passing test number rows = (row : ObjectRow) × (row_of number rows ≡ Some row) × (test row ≡ true)

deeper : (test : ObjectRow → Bool) (low number : ℕ) (first : ObjectRow) (rows : List ObjectRow)
    → Climbs low (numbers (first ∷ rows)) → Passing test number rows → Passing test number (first ∷ rows)
deeper test low number first rows order found =
    let above = found_above first.number number rows found.0 order.1 found.1 in
    let not_it : has_number number first ≡ false = grind (arith, nat_tests) in
    (found.0, rw not_it found.1, found.2)

one_more : (test : ObjectRow → Bool) (low number : ℕ) (before more : List ℕ) (first : ObjectRow) (rows : List ObjectRow)
    → Climbs low (numbers (first ∷ rows))
    → ((before : List ℕ) → numbers (filter test rows) ≡ before ++ number ∷ more → Passing test number rows)
    → (passes : Bool) → test first ≡ passes
    → numbers (cond passes (first ∷ filter test rows) (filter test rows)) ≡ before ++ number ∷ more
    → Passing test number (first ∷ rows)
one_more test low number [] more first rows order rest true is listed =
    let same : first.number ≡ number = ap (λ ns. get_or ns 0 0) listed in
    let it : has_number number first ≡ true = grind (arith, nat_tests) in
    (first, rw it refl, is)
one_more test low number (n ∷ before) more first rows order rest true is listed =
    deeper test low number first rows order (rest before (ap (drop 1) listed))
one_more test low number before more first rows order rest false is listed =
    deeper test low number first rows order (rest before listed)

pub passing : (test : ObjectRow → Bool) (low number : ℕ) (before more : List ℕ) (rows : List ObjectRow)
    → Climbs low (numbers rows) → numbers (filter test rows) ≡ before ++ number ∷ more → Passing test number rows
passing test low number [] more [] order listed = absurd cc
passing test low number (n ∷ before) more [] order listed = absurd cc
passing test low number before more (first ∷ rows) order listed =
    one_more test low number before more first rows order
    (λ before listed. passing test first.number number before more rows order.1 listed) (test first) refl listed

-- ---- the object that may be removed

free_parts : (row : ObjectRow) → is_free row ≡ true
    → IsTrue row.is_unmapped × (row.pins ≡ 0) × (row.is_copied ≡ false) × (row.is_held ≡ false)
free_parts row is =
    let kept = and_parts (row.is_unmapped && nat_eq row.pins 0 && not row.is_copied) (not row.is_held) is in
    let taken = and_parts (row.is_unmapped && nat_eq row.pins 0) (not row.is_copied) kept.0 in
    let parts = and_parts row.is_unmapped (nat_eq row.pins 0) taken.0 in
    let no_pins = parts.1 in (
      parts.0,
      grind (arith, nat_tests, no_pins),
      not-true row.is_copied taken.1,
      not-true row.is_held kept.1,
    )

is_removed : (table : TableState) (number : ℕ) (removable : IsRemovable table number) → is_free removable.row ≡ true
is_removed table number removable =
    let pins = removable.no_pins in
    let none : nat_eq removable.row.pins 0 ≡ true = grind (arith, nat_tests) in
    let row = removable.row in
    and_from (row.is_unmapped && nat_eq row.pins 0 && not row.is_copied) (not row.is_held)
    (and_from (row.is_unmapped && nat_eq row.pins 0) (not row.is_copied)
    (and_from row.is_unmapped (nat_eq row.pins 0) removable.unmapped none) (not_from_false row.is_copied removable.not_copied))
    (not_from_false row.is_held removable.not_held)

pub lowest : (table : TableState) (dead free candidates : List ℕ)
    → IsListed table.checkpoint table.rows dead free candidates → IsLowestRemovable table (slice_get free 0)
lowest table dead [] candidates listed = λ number removable.
    some_passes is_free number table.rows removable.row removable.stands (is_removed table number removable) (sym listed.free_are)
lowest table dead (first ∷ rest) candidates listed =
    let found = passing is_free 0 first [] rest table.rows listed.order (sym listed.free_are) in
    let parts = free_parts found.0 found.2 in
    let stays = found_holds (StaysUnmapped table.checkpoint) first table.rows found.0 found.1 listed.unmapped parts.0 in
    let same = its_number first table.rows found.0 found.1 in (
      record {
        row = found.0;
        stands = found.1;
        below = omega (arith, same, stays.1);
        unmapped = parts.0;
        dead = stays.0;
        no_pins = parts.1;
        not_copied = parts.2;
        not_held = parts.3;
      },
      λ number removable.
          first_is_lowest is_free 0 number first rest table.rows removable.row listed.order removable.stands
          (is_removed table number removable) (sym listed.free_are),
    )
