-- The sectors of rows in order, as an ascending list.
use Rattle.std.proofs.Common.{◌≡◌, ℕ, zero, suc, ◌+◌, ◌-◌, ◌<◌, ◌≤◌, inl, inr, cond, Bool, true, false, ◌||◌, Some}
use Rattle.std.proofs.Common.{List, [], ◌∷◌, ◌++◌, length, take, refl, sym, ◌∙◌, ap, arith, min}
use Rattle.std.specs.Prelude.{◌==◌}
use Rattle.std.specs.List.{filter, flat_map, range_with_len, sum_by}
use Rattle.std.specs.Option.{is_some}
use Rattle.std.proofs.lemmas.Bool.{cases_lt}
use Rattle.std.proofs.lemmas.Bool.Decides.{nat_tests}
use Rattle.std.proofs.lemmas.List.{length-append}
use Rattle.std.proofs.lemmas.List.Elements.{filter-append}
use Rattle.std.proofs.lemmas.List.FromFn.{length-range_with_len}
use Rattle.std.proofs.lemmas.List.Sums.{sum_by-cons}
use Rattle.extent_map.specs.declared.extent.Extent.{Extent}
use Rattle.extent_map.specs.Extents.{is_within, place_at, IsShortest}
use Rattle.extent_map.specs.Join.{EndBy}
use Rattle.extent_map.specs.Laws.{StartsFrom}
use Rattle.extent_map.proofs.Places.{not_below, not_past, at_inside, at_past, after_row, none_before}

-- ---- sectors one after the other

-- a range in two parts, by their lengths
pub range_in_parts : (from a b : ℕ) → range_with_len from (a + b) ≡ range_with_len from a ++ range_with_len (from + a) b
range_in_parts from zero b =
    let none : zero + b ≡ b = omega arith in
    let start : from ≡ from + zero = omega arith in
    ap (range_with_len from) none ∙ ap (λ n. range_with_len n b) start
range_in_parts from (suc a) b =
    let more : suc a + b ≡ suc (a + b) = omega arith in
    let on : from + 1 + a ≡ from + suc a = omega arith in
    ap (range_with_len from) more
    ∙ ap (λ ks. from ∷ ks) (range_in_parts (from + 1) a b ∙ ap (λ n. range_with_len (from + 1) a ++ range_with_len n b) on)

-- the sectors up to one, and those from there on
pub range_split : (from middle end : ℕ) → from ≤ middle → middle ≤ end
    → range_with_len from (end - from) ≡ range_with_len from (middle - from) ++ range_with_len middle (end - middle)
range_split from middle end first second =
    let sum : end - from ≡ middle - from + (end - middle) = omega arith in
    let there : from + (middle - from) ≡ middle = omega arith in
    ap (range_with_len from) sum
    ∙ range_in_parts from (middle - from) (end - middle)
    ∙ ap (λ n. range_with_len from (middle - from) ++ range_with_len n (end - middle)) there

module _ (test : ℕ → Bool) where
  -- sectors that all pass a test, or of which none does
  pub none_pass : (from n : ℕ) → ((k : ℕ) → from ≤ k → k < from + n → test k ≡ false) → filter test (range_with_len from n) ≡ []
  none_pass from zero all = refl
  none_pass from (suc n) all =
      ap (λ b. cond b (from ∷ filter test (range_with_len (from + 1) n)) (filter test (range_with_len (from + 1) n)))
      (all from (omega arith) (omega arith))
      ∙ none_pass (from + 1) n (λ k low high. all k (omega arith) (omega arith))

  pub all_pass : (from n : ℕ) → ((k : ℕ) → from ≤ k → k < from + n → test k ≡ true)
      → filter test (range_with_len from n) ≡ range_with_len from n
  all_pass from zero all = refl
  all_pass from (suc n) all =
      ap (λ b. cond b (from ∷ filter test (range_with_len (from + 1) n)) (filter test (range_with_len (from + 1) n)))
      (all from (omega arith) (omega arith))
      ∙ ap (λ ks. from ∷ ks) (all_pass (from + 1) n (λ k low high. all k (omega arith) (omega arith)))

  -- tests that say the same there
  pub same_pass : (other : ℕ → Bool) (from n : ℕ) → ((k : ℕ) → from ≤ k → k < from + n → test k ≡ other k)
      → filter test (range_with_len from n) ≡ filter other (range_with_len from n)
  same_pass other from zero same = refl
  same_pass other from (suc n) same =
      ap (λ b. cond b (from ∷ filter test (range_with_len (from + 1) n)) (filter test (range_with_len (from + 1) n)))
      (same from (omega arith) (omega arith))
      ∙ ap (λ ks. cond (other from) (from ∷ ks) ks)
      (same_pass other (from + 1) n (λ k low high. same k (omega arith) (omega arith)))

-- ---- numbers of a list

-- a number is in a list
abbrev pub is_in : List ℕ → (k : ℕ) → Bool
is_in [] k = false
is_in (first ∷ rest) k = (first == k) || is_in rest k

pub in_parts : (ks more : List ℕ) (k : ℕ) → is_in (ks ++ more) k ≡ (is_in ks k || is_in more k)
in_parts [] more k = refl
in_parts (first ∷ rest) more k =
    ap (λ b. (first == k) || b) (in_parts rest more k)
    ∙ elim (first == k) as (λ b. (b || (is_in rest k || is_in more k)) ≡ ((b || is_in rest k) || is_in more k)) [
      | true ↦ refl
      | false ↦ refl
    ]

-- where a sector within a range lies
pub inside_of : (lba n k : ℕ) → is_within lba n k ≡ true → (lba ≤ k) × (k < lba + n)
inside_of lba n k is = (grind (arith, nat_tests), grind (arith, nat_tests))

-- a range has the sectors that are within it
pub in_range : (from n k : ℕ) → is_in (range_with_len from n) k ≡ is_within from n k
in_range from zero k = elim (cases_lt k from) [
  | inl low ↦ sym (not_below from zero k low)
  | inr high ↦ sym (not_past from zero k (omega arith))
]
in_range from (suc n) k =
    let rest = in_range (from + 1) n k in
    grind (arith, nat_tests, rest)

-- the first numbers of two lists
pub take_parts : {X : Type 0} (most : ℕ) (xs ys : List X) → take most (xs ++ ys) ≡ take most xs ++ take (most - length xs) ys
take_parts zero [] ys = refl
take_parts (suc most) [] ys =
    let all : suc most - zero ≡ suc most = omega arith in
    sym (ap (λ n. take n ys) all)
take_parts zero (x ∷ xs) ys =
    let none : zero - suc (length xs) ≡ zero = omega arith in
    sym (ap (λ n. take n ys) none)
take_parts (suc most) (x ∷ xs) ys =
    let less : most - length xs ≡ suc most - suc (length xs) = omega arith in
    ap (λ rest. x ∷ rest) (take_parts most xs ys ∙ ap (λ n. take most xs ++ take n ys) less)

-- and of a range
pub take_range : (most from n : ℕ) → take most (range_with_len from n) ≡ range_with_len from (min n most)
take_range zero from n =
    let none : min n zero ≡ zero = omega arith in
    sym (ap (range_with_len from) none)
take_range (suc most) from zero =
    let none : min zero (suc most) ≡ zero = omega arith in
    sym (ap (range_with_len from) none)
take_range (suc most) from (suc n) =
    let more : min (suc n) (suc most) ≡ suc (min n most) = omega arith in
    ap (λ ks. from ∷ ks) (take_range most (from + 1) n) ∙ sym (ap (range_with_len from) more)

-- which are all in the list
pub in_first : (most : ℕ) (ks : List ℕ) (k : ℕ) → is_in (take most ks) k ≡ true → is_in ks k ≡ true
in_first zero ks k is = absurd cc
in_first (suc most) [] k is = is
in_first (suc most) (first ∷ rest) k is =
    elim (first == k) as (λ b. (b || is_in (take most rest) k) ≡ true → (b || is_in rest k) ≡ true) [
      | true ↦ λ is. refl
      | false ↦ λ is. in_first most rest k is
    ] is

-- ---- the sectors of rows

module _ {P : Type 0} (on : ℕ → P → P) where
  abbrev pub sectors_of : List (Extent P) → List ℕ
  sectors_of rows = flat_map (λ (row : Extent P). range_with_len row.lba row.sectors) rows

  -- they are as many as the rows have
  pub sectors_count : (rows : List (Extent P)) → length (sectors_of rows) ≡ sum_by (λ (row : Extent P). row.sectors) rows
  sectors_count [] = refl
  sectors_count (row ∷ rows) =
      omega (
        arith,
        length-append (range_with_len row.lba row.sectors) (sectors_of rows),
        length-range_with_len row.lba row.sectors,
        sectors_count rows,
        sum_by-cons (λ (row : Extent P). row.sectors) row rows,
      )

  -- of the sectors from one to another, between which rows lie, they are those that have a place
  pub sectors_placed : (from end : ℕ) (rows : List (Extent P)) → from ≤ end → IsShortest on rows → StartsFrom from rows
      → EndBy end rows
      → filter (λ k. is_some (place_at on rows k)) (range_with_len from (end - from)) ≡ sectors_of rows
  sectors_placed from end [] order shortest starts ends =
      none_pass (λ k. is_some (place_at on [] k)) from (end - from) (λ k low high. refl)
  sectors_placed from end (row ∷ rows) order shortest starts ends =
      let test : ℕ → Bool = λ k. is_some (place_at on (row ∷ rows) k) in
      let past = row.lba + row.sectors in
      let size : past - row.lba ≡ row.sectors = omega arith in
      let before : filter test (range_with_len from (row.lba - from)) ≡ [] = none_pass test from (row.lba - from)
      (λ k low high. ap is_some (none_before on (row ∷ rows) row.lba k shortest (omega arith) (omega arith))) in
      let own : filter test (range_with_len row.lba (past - row.lba)) ≡ range_with_len row.lba row.sectors =
      ap (λ n. filter test (range_with_len row.lba n)) size
      ∙ all_pass test row.lba row.sectors (λ k low high. ap is_some (at_inside on row rows k low high)) in
      let after : filter test (range_with_len past (end - past)) ≡ sectors_of rows =
      same_pass test (λ k. is_some (place_at on rows k)) past (end - past)
      (λ k low high. ap is_some (at_past on row rows k low))
      ∙ sectors_placed past end rows ends.0 shortest.2 (after_row on row rows shortest.1) ends.1 in
      ap (filter test) (range_split from row.lba end starts (omega (arith, ends.0)))
      ∙ filter-append test (range_with_len from (row.lba - from)) (range_with_len row.lba (end - row.lba))
      ∙ ap (λ ks. ks ++ filter test (range_with_len row.lba (end - row.lba))) before
      ∙ ap (filter test) (range_split row.lba past end (omega arith) ends.0)
      ∙ filter-append test (range_with_len row.lba (past - row.lba)) (range_with_len past (end - past))
      ∙ ap (λ ks. ks ++ filter test (range_with_len past (end - past))) own
      ∙ ap (λ ks. range_with_len row.lba row.sectors ++ ks) after

  -- one of them has a place
  pub placed_in : (rows : List (Extent P)) (k : ℕ) → is_in (sectors_of rows) k ≡ is_some (place_at on rows k)
  placed_in [] k = refl
  placed_in (row ∷ rows) k =
      in_parts (range_with_len row.lba row.sectors) (sectors_of rows) k
      ∙ ap (λ b. b || is_in (sectors_of rows) k) (in_range row.lba row.sectors k)
      ∙ ap (λ b. is_within row.lba row.sectors k || b) (placed_in rows k)
      ∙ elim (is_within row.lba row.sectors k) as (λ b. (b || is_some (place_at on rows k))
      ≡ is_some (cond b (Some (on (k - row.lba) row.place)) (place_at on rows k))) [ true ↦ refl | false ↦ refl ]
