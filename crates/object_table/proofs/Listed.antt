-- The three lists of numbers where a row is replaced, added or taken out.
use Rattle.std.proofs.Common.{ℕ, ◌*◌, ◌<◌, ◌≤◌, ◌≡◌, Bool, true, false, cond, Some, List, [], ◌∷◌, ◌++◌, length, refl, ap, arith}
use Rattle.std.proofs.Common.{◌∙◌, sym, subst, suc, get_or, set, not, ◌&&◌, true≢false, append-nil}
use Rattle.std.specs.Prelude.{nat_eq, nat_lt}
use Rattle.std.specs.List.{All, filter, remove}
use Rattle.std.proofs.lemmas.Bool.Decides.{nat_tests}
use Rattle.std.proofs.lemmas.List.Elements.{All-cons, All-head, All-tail}
use Rattle.std.proofs.lemmas.Option.{same_Some}
use Rattle.object_table.specs.declared.row.ObjectRow.{ObjectRow}
use Rattle.object_table.specs.Table.{has_number, numbers, row_of, without, is_candidate}
use Rattle.object_table.specs.Lists.{Climbs, removed, relisted, IsListed, IsPlaceOf, StaysUnmapped, KeepsUnmapped}
use Rattle.object_table.specs.Lists.{is_dead, is_free, with_row}
use Rattle.object_table.proofs.Numbers.{lower, inserted_front, removed_below}
use Rattle.object_table.proofs.Rows.{KeptFrom, found_above, its_number, row_at, set_row_at, removed_row_at, blank}

pub climbs_with : (low : ℕ) (new : ObjectRow) (rows : List ObjectRow) → Climbs low (numbers rows)
    → Climbs low (numbers (with_row new rows))
climbs_with low new [] order = tt
climbs_with low new (row ∷ rows) order =
    let here : has_number new.number row ≡ true → row.number ≡ new.number = λ is. grind (arith, nat_tests) in
    elim (has_number new.number row) as (λ b. (b ≡ true → row.number ≡ new.number)
    → Climbs low (numbers (cond b (new ∷ rows) (row ∷ with_row new rows)))) [
      | true ↦ (λ same. subst (λ n. (low < n) × Climbs n (numbers rows)) (same refl) order)
      | false ↦ (λ same. (order.0, climbs_with row.number new rows order.1))
    ] here

pub climbs_without : (low number : ℕ) (rows : List ObjectRow) → Climbs low (numbers rows)
    → Climbs low (numbers (without number rows))
climbs_without low number [] order = tt
climbs_without low number (row ∷ rows) order =
    elim (has_number number row) as (λ b. Climbs low (numbers (cond b rows (row ∷ without number rows)))) [
      | true ↦ lower low row.number (numbers rows) (omega (arith, order.0)) order.1
      | false ↦ (order.0, climbs_without row.number number rows order.1)
    ]

pub climbs_filter : (test : ObjectRow → Bool) (low : ℕ) (rows : List ObjectRow) → Climbs low (numbers rows)
    → Climbs low (numbers (filter test rows))
climbs_filter test low [] order = tt
climbs_filter test low (row ∷ rows) order =
    let rest = climbs_filter test row.number rows order.1 in
    elim (test row) as (λ b. Climbs low (numbers (cond b (row ∷ filter test rows) (filter test rows)))) [
      | true ↦ (order.0, rest)
      | false ↦ lower low row.number (numbers (filter test rows)) (omega (arith, order.0)) rest
    ]

-- one is put into ascending numbers, or taken out, at their front and behind it
relisted_first : (is_in was_in : Bool) (number : ℕ) (ns : List ℕ) → Climbs number ns
    → cond is_in (number ∷ ns) ns ≡ relisted is_in number (cond was_in (number ∷ ns) ns)
relisted_first true true number ns order =
    let not_before : nat_lt number number ≡ false = grind (arith, nat_tests) in
    let it : nat_eq number number ≡ true = grind (arith, nat_tests) in
    rw (not_before, it) refl
relisted_first true false number ns order = sym (inserted_front number ns order)
relisted_first false true number ns order =
    let it : nat_eq number number ≡ true = grind (arith, nat_tests) in
    rw it refl
relisted_first false false number ns order = sym (removed_below number number ns order (omega arith))

relisted_after : (is_in : Bool) (first number : ℕ) (ns : List ℕ) → first < number
    → first ∷ relisted is_in number ns ≡ relisted is_in number (first ∷ ns)
relisted_after true first number ns less =
    let not_before : nat_lt number first ≡ false = grind (arith, nat_tests) in
    let not_it : nat_eq first number ≡ false = grind (arith, nat_tests) in
    rw (not_before, not_it) refl
relisted_after false first number ns less =
    let not_it : nat_eq first number ≡ false = grind (arith, nat_tests) in
    rw not_it refl

numbers_cond : (b : Bool) (row : ObjectRow) (rows : List ObjectRow)
    → numbers (cond b (row ∷ rows) rows) ≡ cond b (row.number ∷ numbers rows) (numbers rows)
numbers_cond true row rows = refl
numbers_cond false row rows = refl

-- the numbers that pass a test, where a row is replaced
pub relisted_with : (test : ObjectRow → Bool) (low : ℕ) (new old : ObjectRow) (rows : List ObjectRow)
    → Climbs low (numbers rows) → row_of new.number rows ≡ Some old
    → numbers (filter test (with_row new rows)) ≡ relisted (test new) new.number (numbers (filter test rows))
relisted_with test low new old [] order is = cc
relisted_with test low new old (row ∷ rows) order is =
    let same : has_number new.number row ≡ true → row.number ≡ new.number = λ it. grind (arith, nat_tests) in
    let below : has_number new.number row ≡ false → row.number < new.number =
    (λ not_it. found_above row.number new.number rows old order.1 (rw not_it at is)) in
    let rest : has_number new.number row ≡ false
    → numbers (filter test (with_row new rows)) ≡ relisted (test new) new.number (numbers (filter test rows)) =
    (λ not_it. relisted_with test row.number new old rows order.1 (rw not_it at is)) in
    elim (has_number new.number row) as (λ b. (b ≡ true → row.number ≡ new.number) → (b ≡ false → row.number < new.number)
    → (b ≡ false
    → numbers (filter test (with_row new rows)) ≡ relisted (test new) new.number (numbers (filter test rows)))
    → numbers (filter test (cond b (new ∷ rows) (row ∷ with_row new rows)))
    ≡ relisted (test new) new.number (numbers (cond (test row) (row ∷ filter test rows) (filter test rows)))) [
      | true ↦ (λ same below rest.
          let e = same refl in
          let climbs = climbs_filter test row.number rows order.1 in
          let climbs_new = subst (λ n. Climbs n (numbers (filter test rows))) e climbs in
          numbers_cond (test new) new (filter test rows)
          ∙ (relisted_first (test new) (test row) new.number (numbers (filter test rows)) climbs_new
          ∙ ap (λ ns. relisted (test new) new.number ns)
          (ap (λ n. cond (test row) (n ∷ numbers (filter test rows)) (numbers (filter test rows))) (sym e)
          ∙ sym (numbers_cond (test row) row (filter test rows)))))
      | false ↦ (λ same below rest.
          elim (test row) as (λ t. numbers (cond t (row ∷ filter test (with_row new rows)) (filter test (with_row new rows)))
          ≡ relisted (test new) new.number (numbers (cond t (row ∷ filter test rows) (filter test rows)))) [
            | true ↦ ap (λ ns. row.number ∷ ns) (rest refl)
                ∙ relisted_after (test new) row.number new.number (numbers (filter test rows)) (below refl)
            | false ↦ rest refl
          ])
    ] same below rest

-- and where one is taken out
pub relisted_without : (test : ObjectRow → Bool) (low number : ℕ) (old : ObjectRow) (rows : List ObjectRow)
    → Climbs low (numbers rows) → row_of number rows ≡ Some old
    → numbers (filter test (without number rows)) ≡ removed number (numbers (filter test rows))
relisted_without test low number old [] order is = cc
relisted_without test low number old (row ∷ rows) order is =
    let same : has_number number row ≡ true → row.number ≡ number = λ it. grind (arith, nat_tests) in
    let below : has_number number row ≡ false → row.number < number =
    (λ not_it. found_above row.number number rows old order.1 (rw not_it at is)) in
    let rest : has_number number row ≡ false
    → numbers (filter test (without number rows)) ≡ removed number (numbers (filter test rows)) =
    (λ not_it. relisted_without test row.number number old rows order.1 (rw not_it at is)) in
    elim (has_number number row) as (λ b. (b ≡ true → row.number ≡ number) → (b ≡ false → row.number < number)
    → (b ≡ false → numbers (filter test (without number rows)) ≡ removed number (numbers (filter test rows)))
    → numbers (filter test (cond b rows (row ∷ without number rows)))
    ≡ removed number (numbers (cond (test row) (row ∷ filter test rows) (filter test rows)))) [
      | true ↦ (λ same below rest.
          let e = same refl in
          let climbs = climbs_filter test row.number rows order.1 in
          let climbs_new = subst (λ n. Climbs n (numbers (filter test rows))) e climbs in
          relisted_first false (test row) number (numbers (filter test rows)) climbs_new
          ∙ ap (λ ns. removed number ns)
          (ap (λ n. cond (test row) (n ∷ numbers (filter test rows)) (numbers (filter test rows))) (sym e)
          ∙ sym (numbers_cond (test row) row (filter test rows))))
      | false ↦ (λ same below rest.
          elim (test row) as (λ t. numbers (cond t (row ∷ filter test (without number rows)) (filter test (without number rows)))
          ≡ removed number (numbers (cond t (row ∷ filter test rows) (filter test rows)))) [
            | true ↦ ap (λ ns. row.number ∷ ns) (rest refl)
                ∙ relisted_after false row.number number (numbers (filter test rows)) (below refl)
            | false ↦ rest refl
          ])
    ] same below rest

stays_with : (checkpoint : ℕ) (new : ObjectRow) (rows : List ObjectRow) → StaysUnmapped checkpoint new
    → All (StaysUnmapped checkpoint) rows → All (StaysUnmapped checkpoint) (with_row new rows)
stays_with checkpoint new [] here all = all
stays_with checkpoint new (row ∷ rows) here all =
    let rest = All-tail (StaysUnmapped checkpoint) row rows all in
    elim (has_number new.number row) as (λ b.
    All (StaysUnmapped checkpoint) (cond b (new ∷ rows) (row ∷ with_row new rows))) [
      | true ↦ All-cons (StaysUnmapped checkpoint) new rows here rest
      | false ↦ All-cons (StaysUnmapped checkpoint) row (with_row new rows)
          (All-head (StaysUnmapped checkpoint) row rows all)
          (stays_with checkpoint new rows here rest)
    ]

stays_without : (checkpoint number : ℕ) (rows : List ObjectRow) → All (StaysUnmapped checkpoint) rows
    → All (StaysUnmapped checkpoint) (without number rows)
stays_without checkpoint number [] all = all
stays_without checkpoint number (row ∷ rows) all =
    let rest = All-tail (StaysUnmapped checkpoint) row rows all in
    elim (has_number number row) as (λ b.
    All (StaysUnmapped checkpoint) (cond b rows (row ∷ without number rows))) [
      | true ↦ rest
      | false ↦ All-cons (StaysUnmapped checkpoint) row (without number rows)
          (All-head (StaysUnmapped checkpoint) row rows all)
          (stays_without checkpoint number rows rest)
    ]

-- the lists after a row is replaced, and after one is taken out
pub listed_with : (checkpoint : ℕ) (new old : ObjectRow) (rows : List ObjectRow) (dead free candidates : List ℕ)
    → row_of new.number rows ≡ Some old → StaysUnmapped checkpoint new → IsListed checkpoint rows dead free candidates
    → IsListed checkpoint (with_row new rows) (relisted (is_dead new) new.number dead) (relisted (is_free new) new.number free)
    (relisted (is_candidate new) new.number candidates)
listed_with checkpoint new old rows dead free candidates is stays listed = record {
  order = climbs_with 0 new rows listed.order;
  unmapped = stays_with checkpoint new rows stays listed.unmapped;
  dead_are =
      ap (λ ns. relisted (is_dead new) new.number ns) listed.dead_are
      ∙ sym (relisted_with is_dead 0 new old rows listed.order is);
  free_are =
      ap (λ ns. relisted (is_free new) new.number ns) listed.free_are
      ∙ sym (relisted_with is_free 0 new old rows listed.order is);
  candidates_are =
      ap (λ ns. relisted (is_candidate new) new.number ns) listed.candidates_are
      ∙ sym (relisted_with is_candidate 0 new old rows listed.order is);
}

pub listed_without : (checkpoint number : ℕ) (old : ObjectRow) (rows : List ObjectRow) (dead free candidates : List ℕ)
    → row_of number rows ≡ Some old → IsListed checkpoint rows dead free candidates
    → IsListed checkpoint (without number rows) (removed number dead) (removed number free) (removed number candidates)
listed_without checkpoint number old rows dead free candidates is listed = record {
  order = climbs_without 0 number rows listed.order;
  unmapped = stays_without checkpoint number rows listed.unmapped;
  dead_are = ap (λ ns. removed number ns) listed.dead_are ∙ sym (relisted_without is_dead 0 number old rows listed.order is);
  free_are = ap (λ ns. removed number ns) listed.free_are ∙ sym (relisted_without is_free 0 number old rows listed.order is);
  candidates_are =
      ap (λ ns. removed number ns) listed.candidates_are
      ∙ sym (relisted_without is_candidate 0 number old rows listed.order is);
}

-- ---- what the calls ask of the lists

pub found_holds : (P : ObjectRow → Type 0) (number : ℕ) (rows : List ObjectRow) (row : ObjectRow) → row_of number rows ≡ Some row
    → All P rows → P row
found_holds P number [] row is all = cc
found_holds P number (first ∷ rows) row is all =
    let rest : row_of number rows ≡ Some row → P row = λ e. found_holds P number rows row e (All-tail P first rows all) in
    let here : P first = All-head P first rows all in
    elim (has_number number first) as (λ b. cond b (Some first) (row_of number rows) ≡ Some row → P row) [
      | true ↦ (λ e. subst P (same_Some first row e) here)
      | false ↦ (λ e. rest e)
    ] is

pub orders : (checkpoint : ℕ) (rows : List ObjectRow) (dead free candidates : List ℕ)
    → IsListed checkpoint rows dead free candidates → Climbs 0 dead × Climbs 0 free × Climbs 0 candidates
orders checkpoint rows dead free candidates listed = (
  subst (Climbs 0) (sym listed.dead_are) (climbs_filter is_dead 0 rows listed.order),
  subst (Climbs 0) (sym listed.free_are) (climbs_filter is_free 0 rows listed.order),
  subst (Climbs 0) (sym listed.candidates_are) (climbs_filter is_candidate 0 rows listed.order),
)

few_pass : (test : ObjectRow → Bool) (rows : List ObjectRow) → length (numbers (filter test rows)) ≤ length rows
few_pass test [] = omega arith
few_pass test (row ∷ rows) =
    let rest = few_pass test rows in
    elim (test row) as (λ b. length (numbers (cond b (row ∷ filter test rows) (filter test rows))) ≤ suc (length rows)) [
      | true ↦ omega (arith, rest)
      | false ↦ omega (arith, rest)
    ]

pub are_few : (checkpoint : ℕ) (rows : List ObjectRow) (dead free candidates : List ℕ)
    → IsListed checkpoint rows dead free candidates
    → (length dead ≤ length rows) × (length free ≤ length rows) × (length candidates ≤ length rows)
are_few checkpoint rows dead free candidates listed = (
  omega (arith, ap length listed.dead_are, few_pass is_dead rows),
  omega (arith, ap length listed.free_are, few_pass is_free rows),
  omega (arith, ap length listed.candidates_are, few_pass is_candidate rows),
)

pub length-with_row : (new : ObjectRow) (rows : List ObjectRow) → length (with_row new rows) ≡ length rows
length-with_row new [] = refl
length-with_row new (row ∷ rows) =
    let rest = length-with_row new rows in
    elim (has_number new.number row) as (λ b. length (cond b (new ∷ rows) (row ∷ with_row new rows)) ≡ suc (length rows)) [
      | true ↦ refl
      | false ↦ ap suc rest
    ]

pub length-without : (number : ℕ) (rows : List ObjectRow) → length (without number rows) ≤ length rows
length-without number [] = omega arith
length-without number (row ∷ rows) =
    let rest = length-without number rows in
    elim (has_number number row) as (λ b. length (cond b rows (row ∷ without number rows)) ≤ suc (length rows)) [
      | true ↦ omega arith
      | false ↦ omega (arith, rest)
    ]

-- the old row's promise of an unmapped one holds of the new one too
stays_put : (checkpoint : ℕ) (new old : ObjectRow) (rows : List ObjectRow) → row_of new.number rows ≡ Some old
    → KeepsUnmapped rows new → All (StaysUnmapped checkpoint) rows → StaysUnmapped checkpoint new
stays_put checkpoint new old rows is keeps all unmapped =
    let kept = subst (KeptFrom new) is keeps unmapped in
    let before = found_holds (StaysUnmapped checkpoint) new.number rows old is all kept.0 in
    let same = its_number new.number rows old is in
    (omega (arith, kept.1, before.0), omega (arith, same, before.1))

-- a row is put at its place
pub put_at : (checkpoint at : ℕ) (new : ObjectRow) (rows : List ObjectRow) (dead free candidates : List ℕ)
    → IsListed checkpoint rows dead free candidates → KeepsUnmapped rows new → IsPlaceOf new.number rows (Some at)
    → (set rows at new ≡ with_row new rows)
    × IsListed checkpoint (with_row new rows) (relisted (is_dead new) new.number dead) (relisted (is_free new) new.number free)
    (relisted (is_candidate new) new.number candidates)
put_at checkpoint at new rows dead free candidates listed keeps place =
    let found = row_at 0 new.number rows at blank listed.order place.0 (place.1 blank) in (
      set_row_at 0 new rows at blank listed.order place.0 (place.1 blank),
      listed_with checkpoint new (get_or rows at blank) rows dead free candidates found
          (stays_put checkpoint new (get_or rows at blank) rows found keeps listed.unmapped) listed,
    )

-- the row at a place is taken out
pub taken_at : (checkpoint at number : ℕ) (rows : List ObjectRow) (dead free candidates : List ℕ)
    → IsListed checkpoint rows dead free candidates → IsPlaceOf number rows (Some at)
    → (remove rows at ≡ without number rows)
    × IsListed checkpoint (without number rows) (removed number dead) (removed number free) (removed number candidates)
taken_at checkpoint at number rows dead free candidates listed place = (
  removed_row_at 0 number rows at blank listed.order place.0 (place.1 blank),
  listed_without checkpoint number (get_or rows at blank) rows dead free candidates
      (row_at 0 number rows at blank listed.order place.0 (place.1 blank)) listed,
)

-- ---- a row is put last

filter_last : (test : ObjectRow → Bool) (row : ObjectRow) (rows : List ObjectRow)
    → numbers (filter test (rows ++ row ∷ [])) ≡ numbers (filter test rows) ++ cond (test row) (row.number ∷ []) []
filter_last test row [] = numbers_cond (test row) row []
filter_last test row (first ∷ rows) =
    let rest = filter_last test row rows in
    elim (test first) as (λ b. numbers (cond b (first ∷ filter test (rows ++ row ∷ [])) (filter test (rows ++ row ∷ [])))
    ≡ numbers (cond b (first ∷ filter test rows) (filter test rows)) ++ cond (test row) (row.number ∷ []) []) [
      | true ↦ ap (λ ns. first.number ∷ ns) rest
      | false ↦ rest
    ]

climbs_last : (low : ℕ) (row : ObjectRow) (rows : List ObjectRow) → low < row.number
    → All (λ (other : ObjectRow). other.number < row.number) rows → Climbs low (numbers rows)
    → Climbs low (numbers (rows ++ row ∷ []))
climbs_last low row [] more all order = (more, tt)
climbs_last low row (first ∷ rows) more all order =
    let Below = λ (other : ObjectRow). other.number < row.number in
    (order.0, climbs_last first.number row rows (All-head Below first rows all) (All-tail Below first rows all) order.1)

stays_last : (checkpoint : ℕ) (row : ObjectRow) (rows : List ObjectRow) → StaysUnmapped checkpoint row
    → All (StaysUnmapped checkpoint) rows → All (StaysUnmapped checkpoint) (rows ++ row ∷ [])
stays_last checkpoint row [] here all = All-cons (StaysUnmapped checkpoint) row [] here all
stays_last checkpoint row (first ∷ rows) here all =
    All-cons (StaysUnmapped checkpoint) first (rows ++ row ∷ []) (All-head (StaysUnmapped checkpoint) first rows all)
    (stays_last checkpoint row rows here (All-tail (StaysUnmapped checkpoint) first rows all))

-- a list that a row put last is among, and one that it is not among
last_passes : (test : ObjectRow → Bool) (row : ObjectRow) (rows : List ObjectRow) (ns : List ℕ) → test row ≡ true
    → ns ≡ numbers (filter test rows) → ns ++ row.number ∷ [] ≡ numbers (filter test (rows ++ row ∷ []))
last_passes test row rows ns passes listed =
    ap (λ ns. ns ++ row.number ∷ []) listed
    ∙ (ap (λ b. numbers (filter test rows) ++ cond b (row.number ∷ []) []) (sym passes)
    ∙ sym (filter_last test row rows))

last_fails : (test : ObjectRow → Bool) (row : ObjectRow) (rows : List ObjectRow) (ns : List ℕ) → test row ≡ false
    → ns ≡ numbers (filter test rows) → ns ≡ numbers (filter test (rows ++ row ∷ []))
last_fails test row rows ns fails listed =
    listed
    ∙ (sym (append-nil (numbers (filter test rows)))
    ∙ (ap (λ b. numbers (filter test rows) ++ cond b (row.number ∷ []) []) (sym fails)
    ∙ sym (filter_last test row rows)))

pub listed_last : (checkpoint : ℕ) (row : ObjectRow) (rows : List ObjectRow) (dead free candidates : List ℕ) → 0 < row.number
    → All (λ (other : ObjectRow). other.number < row.number) rows → row.live ≡ 0 → row.is_unmapped ≡ false
    → IsListed checkpoint rows dead free candidates
    → IsListed checkpoint (rows ++ row ∷ []) (dead ++ row.number ∷ []) free candidates
listed_last checkpoint row rows dead free candidates some last none mapped listed =
    let dies : is_dead row ≡ true = rw (none, mapped) refl in
    let not_free : is_free row ≡ false = ap (λ b. b && nat_eq row.pins 0 && not row.is_copied && not row.is_held) mapped in
    let not_candidate : is_candidate row ≡ false =
    ap (λ live. nat_lt 0 live && nat_lt (live * 100) (70 * row.payload) && not row.is_held) none in
    record {
      order = climbs_last 0 row rows some last listed.order;
      unmapped = stays_last checkpoint row rows (λ unmapped. absurd (true≢false (sym unmapped ∙ mapped))) listed.unmapped;
      dead_are = last_passes is_dead row rows dead dies listed.dead_are;
      free_are = last_fails is_free row rows free not_free listed.free_are;
      candidates_are = last_fails is_candidate row rows candidates not_candidate listed.candidates_are;
    }
