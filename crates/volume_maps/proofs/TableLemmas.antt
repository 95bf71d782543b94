-- The table of objects where the live counts of one object change: the same objects, and what their counts are then.
use Rattle.std.proofs.Common.{ℕ, ◌≤◌, ◌≡◌, ◌≢◌, true, false, cond, Option, Some, None, List, [], ◌∷◌}
use Rattle.std.proofs.Common.{refl, sym, ◌∙◌, ap, arith}
use Rattle.std.specs.Prelude.{IsSome, map, option_map}
use Rattle.std.specs.List.{All}
use Rattle.std.proofs.lemmas.Bool.Decides.{nat_tests}
use Rattle.std.proofs.lemmas.List.Elements.{All-nil, All-cons, All-head, All-tail}
use Rattle.object_table.specs.declared.row.ObjectRow.{ObjectRow}
use Rattle.object_table.specs.Table.{TableState, has_number, numbers, row_of, changed, with_changed}
use Rattle.object_table.specs.Lists.{Climbs}
use Rattle.volume_maps.specs.Live.{MayGain, but_live, HasSameObjects}

-- ---- the same objects

-- a table has its own objects
pub same_table : (table : TableState) → HasSameObjects table table
same_table table = record { rows = refl; checkpoint = refl }

-- and those of a table that has those of a third
pub same_twice : (a b c : TableState) → HasSameObjects a b → HasSameObjects b c → HasSameObjects a c
same_twice a b c first second = record {
  rows = second.rows ∙ first.rows;
  checkpoint = second.checkpoint ∙ first.checkpoint;
}

-- a change of one object that a view does not see
pub changed_unseen : {V : Type 0} (seen : ObjectRow → V) (change : ObjectRow → ObjectRow) (number : ℕ) (rows : List ObjectRow)
    → ((row : ObjectRow) → seen (change row) ≡ seen row) → map seen (changed change number rows) ≡ map seen rows
changed_unseen seen change number [] keeps = refl
changed_unseen seen change number (row ∷ rows) keeps =
    elim (has_number number row) as (λ b. map seen (cond b (change row ∷ rows) (row ∷ changed change number rows))
    ≡ seen row ∷ map seen rows) [
      | true ↦ ap (λ first. first ∷ map seen rows) (keeps row)
      | false ↦ ap (λ rest. seen row ∷ rest) (changed_unseen seen change number rows keeps)
    ]

-- a change of live sectors alone
pub same_changed : (change : ObjectRow → ObjectRow) (number : ℕ) (table : TableState)
    → ((row : ObjectRow) → but_live (change row) ≡ but_live row) → HasSameObjects table (with_changed change number table)
same_changed change number table keeps = record {
  rows = changed_unseen but_live change number table.rows keeps;
  checkpoint = refl;
}

-- the numbers of objects but for their live sectors
numbers_but : (rows : List ObjectRow) → numbers (map but_live rows) ≡ numbers rows
numbers_but [] = refl
numbers_but (row ∷ rows) = ap (λ rest. row.number ∷ rest) (numbers_but rows)

-- the same objects have the same numbers
pub same_numbers : (old new : TableState) → HasSameObjects old new → numbers new.rows ≡ numbers old.rows
same_numbers old new same = sym (numbers_but new.rows) ∙ ap numbers same.rows ∙ numbers_but old.rows

-- the row of a number but for its live sectors
row_but : (number : ℕ) (rows : List ObjectRow) → row_of number (map but_live rows) ≡ option_map but_live (row_of number rows)
row_but number [] = refl
row_but number (row ∷ rows) =
    elim (has_number number row) as (λ b. cond b (Some (but_live row)) (row_of number (map but_live rows))
    ≡ option_map but_live (cond b (Some row) (row_of number rows))) [
      | true ↦ refl
      | false ↦ row_but number rows
    ]

-- the row of a number in both
same_row : (number : ℕ) (old new : TableState) → HasSameObjects old new
    → option_map but_live (row_of number new.rows) ≡ option_map but_live (row_of number old.rows)
same_row number old new same =
    sym (row_but number new.rows) ∙ ap (row_of number) same.rows ∙ row_but number old.rows

-- an object as one of two tables has it, where the other has it
abbrev IsBoth : Option ObjectRow → Option ObjectRow → Type 0
IsBoth old new =
    (row : ObjectRow) → old ≡ Some row
    → (other : ObjectRow) × (new ≡ Some other) × (other.is_unmapped ≡ row.is_unmapped)

-- which is but for its live sectors the same
both : (old new : Option ObjectRow) → option_map but_live new ≡ option_map but_live old → IsBoth old new
both None None same row is = absurd cc
both None (Some other) same row is = absurd cc
both (Some first) None same row is = absurd cc
both (Some first) (Some other) same row is =
    let rows : but_live other ≡ but_live row = cc in
    (other, refl, ap (λ (r : ObjectRow). r.is_unmapped) rows)

-- an object that may gain sectors still may
pub still_gains : (number : ℕ) (old new : TableState) → HasSameObjects old new → MayGain number old → MayGain number new
still_gains number old new same gains =
    let found = both (row_of number old.rows) (row_of number new.rows) (same_row number old new same) gains.0 gains.1 in
    (found.0, found.1, found.2 ∙ gains.2)

-- an object that one of two tables has, the other has
some_both : (old new : Option ObjectRow) → option_map but_live new ≡ option_map but_live old → IsSome old → IsSome new
some_both None None same some = some
some_both None (Some other) same some = refl
some_both (Some first) None same some = absurd cc
some_both (Some first) (Some other) same some = refl

-- an object that was there still is
pub still_there : (number : ℕ) (old new : TableState) → HasSameObjects old new → IsSome (row_of number old.rows)
    → IsSome (row_of number new.rows)
still_there number old new same some =
    some_both (row_of number old.rows) (row_of number new.rows) (same_row number old new same) some

-- ---- counts

-- what holds of rows with other numbers
others : (P Q : ObjectRow → Type 0) (number low : ℕ) (rows : List ObjectRow) → number ≤ low → Climbs low (numbers rows)
    → ((row : ObjectRow) → row.number ≢ number → P row → Q row) → All P rows → All Q rows
others P Q number low [] le order keeps all = All-nil Q
others P Q number low (row ∷ rows) le order keeps all =
    All-cons Q row rows (keeps row (omega (arith, order.0)) (All-head P row rows all))
    (others P Q number row.number rows (omega (arith, order.0)) order.1 keeps (All-tail P row rows all))

-- what holds of all rows once the one of a number was changed
pub changed_all : (P Q : ObjectRow → Type 0) (change : ObjectRow → ObjectRow) (number low : ℕ) (rows : List ObjectRow)
    → Climbs low (numbers rows)
    → ((row : ObjectRow) → row.number ≢ number → P row → Q row)
    → ((row : ObjectRow) → row.number ≡ number → row_of number rows ≡ Some row → P row → Q (change row))
    → All P rows → All Q (changed change number rows)
changed_all P Q change number low [] order keeps changes all = All-nil Q
changed_all P Q change number low (row ∷ rows) order keeps changes all =
    let same : has_number number row ≡ true → row.number ≡ number = λ it. grind (arith, nat_tests) in
    let other : has_number number row ≡ false → row.number ≢ number = λ it. grind (arith, nat_tests) in
    elim (has_number number row) as (λ b. (b ≡ true → row.number ≡ number) → (b ≡ false → row.number ≢ number)
    → ((found : ObjectRow) → found.number ≡ number → cond b (Some row) (row_of number rows) ≡ Some found → P found
    → Q (change found))
    → All Q (cond b (change row ∷ rows) (row ∷ changed change number rows))) [
      | true ↦ (λ same other changes.
          All-cons Q (change row) rows (changes row (same refl) refl (All-head P row rows all))
          (others P Q number row.number rows (omega (arith, same refl)) order.1 keeps (All-tail P row rows all)))
      | false ↦ (λ same other changes.
          All-cons Q row (changed change number rows) (keeps row (other refl) (All-head P row rows all))
          (changed_all P Q change number row.number rows order.1 keeps changes (All-tail P row rows all)))
    ] same other changes
