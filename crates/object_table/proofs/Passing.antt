-- The dead rows where a checkpoint passes them one by one, from the last on.
use Rattle.std.proofs.Common.{ℕ, ◌<◌, ◌≡◌, Bool, true, false, cond, not, nat_eq, ◌&&◌, Some, None, List, [], ◌∷◌, ◌++◌}
use Rattle.std.proofs.Common.{map, get_or, set, refl, ap, sym, subst, ◌∙◌, arith}
use Rattle.std.specs.List.{All, filter}
use Rattle.std.proofs.lemmas.Bool.{and_parts, and_right}
use Rattle.std.proofs.lemmas.Bool.Decides.{nat_tests}
use Rattle.std.proofs.lemmas.List.Elements.{All-cons, All-head, All-tail}
use Rattle.std.proofs.lemmas.Option.{none-some, same_Some}
use Rattle.object_table.specs.declared.row.ObjectRow.{ObjectRow}
use Rattle.object_table.specs.Table.{has_number, numbers, row_of, is_candidate, candidates, passed}
use Rattle.object_table.specs.Lists.{IsListed, IsPlaceOf, StaysUnmapped, is_dead, is_free, relisted, with_row}
use Rattle.object_table.proofs.Numbers.{removed_last}
use Rattle.object_table.proofs.Rows.{row_at, set_row_at}
use Rattle.object_table.proofs.Listed.{found_holds, listed_with, orders}
use Rattle.object_table.proofs.Free.{passing}

-- some of the dead rows were passed, and the candidates are what they were
pub record IsPassing (checkpoint : ℕ) (before rows : List ObjectRow) (dead free : List ℕ) : Type 0 where
  pub listed : IsListed checkpoint rows dead free (candidates before)
  pub same : map passed rows ≡ map passed before
  pub below : All (λ (row : ObjectRow). row.number < checkpoint) rows

passed_with : (new old : ObjectRow) (rows : List ObjectRow) → row_of new.number rows ≡ Some old → passed new ≡ passed old
    → map passed (with_row new rows) ≡ map passed rows
passed_with new old [] is same = refl
passed_with new old (row ∷ rows) is same =
    let rest : row_of new.number rows ≡ Some old → map passed (with_row new rows) ≡ map passed rows =
    (λ is. passed_with new old rows is same) in
    elim (has_number new.number row) as (λ b. cond b (Some row) (row_of new.number rows) ≡ Some old
    → map passed (cond b (new ∷ rows) (row ∷ with_row new rows)) ≡ passed row ∷ map passed rows) [
      | true ↦ (λ e. ap (λ first. first ∷ map passed rows) (same ∙ ap passed (sym (same_Some row old e))))
      | false ↦ (λ e. ap (λ rest. passed row ∷ rest) (rest e))
    ] is

all_with : (P : ObjectRow → Type 0) (new : ObjectRow) (rows : List ObjectRow) → P new → All P rows → All P (with_row new rows)
all_with P new [] here all = all
all_with P new (row ∷ rows) here all =
    let rest = All-tail P row rows all in
    elim (has_number new.number row) as (λ b. All P (cond b (new ∷ rows) (row ∷ with_row new rows))) [
      | true ↦ All-cons P new rows here rest
      | false ↦ All-cons P row (with_row new rows) (All-head P row rows all) (all_with P new rows here rest)
    ]

-- whether an object may be a victim does not turn on which checkpoint maps it
candidates_passed : (rows : List ObjectRow) → candidates (map passed rows) ≡ candidates rows
candidates_passed [] = refl
candidates_passed (row ∷ rows) =
    let rest = candidates_passed rows in
    elim (is_candidate row) as (λ b. numbers
    (cond b (passed row ∷ filter is_candidate (map passed rows)) (filter is_candidate (map passed rows)))
    ≡ numbers (cond b (row ∷ filter is_candidate rows) (filter is_candidate rows))) [
      | true ↦ ap (λ ns. row.number ∷ ns) rest
      | false ↦ rest
    ]

same_candidates : (before rows : List ObjectRow) → map passed rows ≡ map passed before → candidates rows ≡ candidates before
same_candidates before rows same = sym (candidates_passed rows) ∙ (ap candidates same ∙ candidates_passed before)

-- the last dead row is passed
pass_row : (checkpoint at : ℕ) (row : ObjectRow) (before rows : List ObjectRow) (dead free : List ℕ)
    → IsPassing checkpoint before rows (dead ++ row.number ∷ []) free → IsPlaceOf row.number rows (Some at)
    → row ≡ get_or rows at row
    → (set rows at (record row { is_unmapped = true }) ≡ with_row (record row { is_unmapped = true }) rows)
    × IsPassing checkpoint before (with_row (record row { is_unmapped = true }) rows) dead
    (relisted (is_free (record row { is_unmapped = true })) row.number free)
pass_row checkpoint at row before rows dead free passes place is =
    let new : ObjectRow = record row { is_unmapped = true } in
    let listed = passes.listed in
    let found : row_of row.number rows ≡ Some row =
    row_at 0 row.number rows at row listed.order place.0 (place.1 row) ∙ ap Some (sym is) in
    let dies = passing is_dead 0 row.number dead [] rows listed.order (sym listed.dead_are) in
    let died : is_dead row ≡ true = subst (λ row. is_dead row ≡ true) (same_Some dies.0 row (sym dies.1 ∙ found)) dies.2 in
    let not_live = (and_parts (nat_eq row.live 0) (not row.is_unmapped) died).0 in
    let no_live : row.live ≡ 0 = grind (arith, nat_tests, not_live) in
    let low = found_holds (λ (row : ObjectRow). row.number < checkpoint) row.number rows row found passes.below in
    let put =
    listed_with checkpoint new row rows (dead ++ row.number ∷ []) free (candidates before) found
    (λ unmapped. (no_live, low)) listed in
    let not_dead : is_dead new ≡ false = and_right (nat_eq row.live 0) false refl in
    let popped : relisted (is_dead new) row.number (dead ++ row.number ∷ []) ≡ dead =
    ap (λ b. relisted b row.number (dead ++ row.number ∷ [])) not_dead
    ∙ removed_last 0 row.number dead (orders checkpoint rows (dead ++ row.number ∷ []) free (candidates before) listed).0 in
    let same = passed_with new row rows found refl ∙ passes.same in
    let kept = put.candidates_are ∙ same_candidates before (with_row new rows) same in (
      set_row_at 0 new rows at row listed.order place.0 (place.1 row),
      record {
        listed =
            subst
            (λ candidates. IsListed checkpoint (with_row new rows) dead (relisted (is_free new) row.number free) candidates)
            kept
            (subst
            (λ dead. IsListed checkpoint (with_row new rows) dead (relisted (is_free new) row.number free)
            (relisted (is_candidate new) row.number (candidates before))) popped put);
        same = same;
        below = all_with (λ (row : ObjectRow). row.number < checkpoint) new rows low passes.below;
      },
    )

pub pass_at : (checkpoint at number : ℕ) (row : ObjectRow) (before rows : List ObjectRow) (dead free : List ℕ)
    → IsPassing checkpoint before rows (dead ++ number ∷ []) free → IsPlaceOf number rows (Some at)
    → row ≡ get_or rows at row
    → (set rows at (record row { is_unmapped = true }) ≡ with_row (record row { is_unmapped = true }) rows)
    × IsPassing checkpoint before (with_row (record row { is_unmapped = true }) rows) dead
    (relisted (is_free (record row { is_unmapped = true })) number free)
pass_at checkpoint at number row before rows dead free passes place is =
    let same : row.number ≡ number = ap (λ (row : ObjectRow). row.number) is ∙ place.1 row in
    subst
    (λ number. IsPassing checkpoint before rows (dead ++ number ∷ []) free → IsPlaceOf number rows (Some at)
    → (set rows at (record row { is_unmapped = true }) ≡ with_row (record row { is_unmapped = true }) rows)
    × IsPassing checkpoint before (with_row (record row { is_unmapped = true }) rows) dead
    (relisted (is_free (record row { is_unmapped = true })) number free)) same
    (λ passes place. pass_row checkpoint at row before rows dead free passes place is) passes place

-- each dead number has its row
pub pass_nowhere : (checkpoint number : ℕ) (before rows : List ObjectRow) (dead free : List ℕ)
    → IsPassing checkpoint before rows (dead ++ number ∷ []) free → IsPlaceOf number rows None → ⊥
pass_nowhere checkpoint number before rows dead free passes place =
    let found = passing is_dead 0 number dead [] rows passes.listed.order (sym passes.listed.dead_are) in
    none-some found.0 (sym place ∙ found.1)

-- ---- all were passed

right_mark : (unmapped empty : Bool) → (unmapped ≡ true → empty ≡ true) → empty && not unmapped ≡ false → unmapped ≡ empty
right_mark true true stays alive = refl
right_mark true false stays alive = sym (stays refl)
right_mark false true stays alive = sym alive
right_mark false false stays alive = refl

mark : (checkpoint : ℕ) (row : ObjectRow) → StaysUnmapped checkpoint row → is_dead row ≡ false → row ≡ passed row
mark checkpoint row stays alive =
    let empty : row.is_unmapped ≡ true → nat_eq row.live 0 ≡ true =
    (λ unmapped. (let none = (stays unmapped).0 in grind (arith, nat_tests, none))) in
    ap (λ b. record row { is_unmapped = b }) (right_mark row.is_unmapped (nat_eq row.live 0) empty alive)

mark_more : (checkpoint : ℕ) (row : ObjectRow) (rows : List ObjectRow) → StaysUnmapped checkpoint row
    → ([] ≡ numbers (filter is_dead rows) → rows ≡ map passed rows)
    → (dies : Bool) → is_dead row ≡ dies → [] ≡ numbers (cond dies (row ∷ filter is_dead rows) (filter is_dead rows))
    → row ∷ rows ≡ map passed (row ∷ rows)
mark_more checkpoint row rows stays rest true is none = absurd cc
mark_more checkpoint row rows stays rest false is none =
    ap (λ first. first ∷ rows) (mark checkpoint row stays is) ∙ ap (λ rest. passed row ∷ rest) (rest none)

mark_all : (checkpoint : ℕ) (rows : List ObjectRow) → All (StaysUnmapped checkpoint) rows → [] ≡ numbers (filter is_dead rows)
    → rows ≡ map passed rows
mark_all checkpoint [] all none = refl
mark_all checkpoint (row ∷ rows) all none =
    mark_more checkpoint row rows (All-head (StaysUnmapped checkpoint) row rows all)
    (λ none. mark_all checkpoint rows (All-tail (StaysUnmapped checkpoint) row rows all) none) (is_dead row) refl none

pub all_passed : (checkpoint : ℕ) (before rows : List ObjectRow) (free : List ℕ) → IsPassing checkpoint before rows [] free
    → rows ≡ map passed before
all_passed checkpoint before rows free passes =
    mark_all checkpoint rows passes.listed.unmapped passes.listed.dead_are ∙ passes.same

-- and each keeps its number
pub below_passed : (number : ℕ) (rows : List ObjectRow) → All (λ (row : ObjectRow). row.number < number) rows
    → All (λ (row : ObjectRow). row.number < number) (map passed rows)
below_passed number [] all = all
below_passed number (row ∷ rows) all =
    let Below = λ (row : ObjectRow). row.number < number in
    All-cons Below (passed row) (map passed rows) (All-head Below row rows all)
    (below_passed number rows (All-tail Below row rows all))
