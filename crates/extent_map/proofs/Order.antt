-- Rows in order, and their fronts and backs.
use Rattle.std.proofs.Common.{ℕ, zero, suc, ◌+◌, ◌-◌, ◌<◌, ◌≤◌, ◌≡◌, cond, Some, None, List, [], ◌∷◌, ◌++◌, length, get_or, take}
use Rattle.std.proofs.Common.{drop, refl, sym, ◌∙◌, ap, arith}
use Rattle.extent_map.specs.declared.extent.Extent.{Extent}
use Rattle.extent_map.specs.Extents.{is_within, place_at, ComesBefore, ComesBeforeFirst, IsShortest, Fits, AllFit}
use Rattle.extent_map.specs.Laws.{StartsFrom}
use Rattle.extent_map.specs.Join.{EndBy}
use Rattle.extent_map.proofs.Places.{starts_earlier, at_past, after_row}

module _ {P : Type 0} where
  pub fit_append : (number : P → ℕ) (a b : List (Extent P)) → AllFit number a → AllFit number b → AllFit number (a ++ b)
  fit_append number [] b fits_a fits_b = fits_b
  fit_append number (row ∷ a) b fits_a fits_b = (fits_a.0, fit_append number a b fits_a.1 fits_b)

  pub fit_take : (number : P → ℕ) (n : ℕ) (a : List (Extent P)) → AllFit number a → AllFit number (take n a)
  fit_take number zero a fits = tt
  fit_take number (suc n) [] fits = tt
  fit_take number (suc n) (row ∷ a) fits = (fits.0, fit_take number n a fits.1)

  pub fit_drop : (number : P → ℕ) (n : ℕ) (a : List (Extent P)) → AllFit number a → AllFit number (drop n a)
  fit_drop number zero a fits = fits
  fit_drop number (suc n) [] fits = tt
  fit_drop number (suc n) (row ∷ a) fits = fit_drop number n a fits.1

  pub fits_at : (number : P → ℕ) (i : ℕ) (a : List (Extent P)) (d : Extent P) → AllFit number a → i < length a
      → Fits number (get_or a i d)
  fits_at number i [] d fits inside = absurd (omega arith)
  fits_at number zero (row ∷ a) d fits inside = fits.0
  fits_at number (suc i) (row ∷ a) d fits inside = fits_at number i a d fits.1 (omega arith)

module _ {P : Type 0} (on : ℕ → P → P) where
  -- ---- what parts of a list give a sector

  -- rows after a row that give a sector the same
  pub same_after : (row : Extent P) (a b : List (Extent P)) (k : ℕ) → place_at on a k ≡ place_at on b k
      → place_at on (row ∷ a) k ≡ place_at on (row ∷ b) k
  same_after row a b k same =
      ap (λ rest. cond (is_within row.lba row.sectors k) (Some (on (k - row.lba) row.place)) rest) same

  pub same_after_all : (front a b : List (Extent P)) (k : ℕ) → place_at on a k ≡ place_at on b k
      → place_at on (front ++ a) k ≡ place_at on (front ++ b) k
  same_after_all [] a b k same = same
  same_after_all (row ∷ front) a b k same = same_after row (front ++ a) (front ++ b) k (same_after_all front a b k same)

  -- rows that give a sector none do not change what those before them give
  pub in_front : (front back : List (Extent P)) (k : ℕ) → place_at on back k ≡ None
      → place_at on (front ++ back) k ≡ place_at on front k
  in_front [] back k none = none
  in_front (row ∷ front) back k none = same_after row (front ++ back) front k (in_front front back k none)

  -- rows that end before a sector do not give it a place
  pub past_front : (front back : List (Extent P)) (at k : ℕ) → EndBy at front → at ≤ k
      → place_at on (front ++ back) k ≡ place_at on back k
  past_front [] back at k ends high = refl
  past_front (row ∷ front) back at k ends high =
      at_past on row (front ++ back) k (omega (arith, ends.0)) ∙ past_front front back at k ends.1 high

  -- ---- parts of rows in order

  -- what comes before a row comes before one that begins where it does, and with its place
  pub before_same : (row a b : Extent P) → a.lba ≡ b.lba → a.place ≡ b.place → ComesBefore on row a → ComesBefore on row b
  before_same row a b lba place before = record {
    in_order = omega (arith, before.in_order);
    apart = λ touch goes. before.apart (touch ∙ sym lba) (goes ∙ sym place);
  }

  pub shortest_drop : (n : ℕ) (rows : List (Extent P)) → IsShortest on rows → IsShortest on (drop n rows)
  shortest_drop zero rows shortest = shortest
  shortest_drop (suc n) [] shortest = tt
  shortest_drop (suc n) (row ∷ rows) shortest = shortest_drop n rows shortest.2

  before_take : (n : ℕ) (row : Extent P) (rows : List (Extent P)) → ComesBeforeFirst on row rows
      → ComesBeforeFirst on row (take n rows)
  before_take zero row rows before = tt
  before_take (suc n) row [] before = tt
  before_take (suc n) row (next ∷ rows) before = before

  pub shortest_take : (n : ℕ) (rows : List (Extent P)) → IsShortest on rows → IsShortest on (take n rows)
  shortest_take zero rows shortest = tt
  shortest_take (suc n) [] shortest = tt
  shortest_take (suc n) (row ∷ rows) shortest =
      (shortest.0, before_take n row rows shortest.1, shortest_take n rows shortest.2)

  pub before_gap : (row : Extent P) (b : List (Extent P)) (at from : ℕ) → row.lba + row.sectors ≤ at → StartsFrom from b
      → at < from → ComesBeforeFirst on row b
  before_gap row [] at from ends starts gap = tt
  before_gap row (next ∷ b) at from ends starts gap = record {
    in_order = omega arith;
    apart = λ touch goes. absurd (omega arith);
  }

  -- rows with a gap before the rows after them
  pub shortest_append : (a b : List (Extent P)) (at from : ℕ) → IsShortest on a → IsShortest on b → EndBy at a
      → StartsFrom from b → at < from → IsShortest on (a ++ b)
  shortest_append [] b at from shortest_a shortest_b ends starts gap = shortest_b
  shortest_append (row ∷ []) b at from shortest_a shortest_b ends starts gap =
      (shortest_a.0, before_gap row b at from ends.0 starts gap, shortest_b)
  shortest_append (row ∷ next ∷ a) b at from shortest_a shortest_b ends starts gap =
      (shortest_a.0, shortest_a.1, shortest_append (next ∷ a) b at from shortest_a.2 shortest_b ends.1 starts gap)

  -- ---- rows ascend

  pub first_least : (rows : List (Extent P)) (at i : ℕ) (d : Extent P) → IsShortest on rows → StartsFrom at rows
      → i < length rows → at ≤ (get_or rows i d).lba
  first_least [] at i d shortest starts inside = absurd (omega arith)
  first_least (row ∷ rows) at zero d shortest starts inside = starts
  first_least (row ∷ rows) at (suc i) d shortest starts inside =
      first_least rows at i d shortest.2
      (starts_earlier at (row.lba + row.sectors) rows (omega arith) (after_row on row rows shortest.1)) (omega arith)

  pub ascend : (rows : List (Extent P)) → IsShortest on rows → (i j : ℕ) (d : Extent P) → i ≤ j → j < length rows
      → (get_or rows i d).lba ≤ (get_or rows j d).lba
  ascend [] shortest i j d le inside = absurd (omega arith)
  ascend (row ∷ rows) shortest zero j d le inside = first_least (row ∷ rows) row.lba j d shortest (omega arith) inside
  ascend (row ∷ rows) shortest (suc i) zero d le inside = absurd (omega arith)
  ascend (row ∷ rows) shortest (suc i) (suc j) d le inside = ascend rows shortest.2 i j d (omega arith) (omega arith)
