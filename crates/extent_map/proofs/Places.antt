-- What rows in order give a sector.
use Rattle.std.proofs.Common.{ℕ, ◌+◌, ◌-◌, ◌<◌, ◌≤◌, ◌≡◌, inl, inr, true, false, cond, Some, None, List, [], ◌∷◌, refl, ◌∙◌, ap}
use Rattle.std.proofs.Common.{arith}
use Rattle.std.proofs.lemmas.Bool.Decides.{nat_tests}
use Rattle.extent_map.specs.declared.extent.Extent.{Extent}
use Rattle.extent_map.specs.Extents.{NumbersGoOn, is_within, place_at, ComesBeforeFirst, IsShortest}
use Rattle.extent_map.specs.Laws.{StartsFrom}

-- ---- which sectors a range has

pub within : (lba sectors k : ℕ) → lba ≤ k → k < lba + sectors → is_within lba sectors k ≡ true
within lba sectors k low high = grind (arith, nat_tests)

pub not_below : (lba sectors k : ℕ) → k < lba → is_within lba sectors k ≡ false
not_below lba sectors k low = grind (arith, nat_tests)

pub not_past : (lba sectors k : ℕ) → lba + sectors ≤ k → is_within lba sectors k ≡ false
not_past lba sectors k high = grind (arith, nat_tests)

module _ {P : Type 0} where
  pub starts_earlier : (low at : ℕ) (rows : List (Extent P)) → low ≤ at → StartsFrom at rows → StartsFrom low rows
  starts_earlier low at [] le starts = tt
  starts_earlier low at (row ∷ rows) le starts = omega arith

module _ {P : Type 0} (on : ℕ → P → P) where
  -- ---- the number of a place

  pub number_at_most : (number : P → ℕ) → NumbersGoOn on number → (n : ℕ) (p : P) → number (on n p) ≤ number p + n
  number_at_most number number_on n p =
      elim (number_on n p) [ inl counts ↦ omega arith | inr none ↦ omega (arith, none.1) ]

  -- ---- what the first row gives, and what the rest give

  pub at_inside : (row : Extent P) (rows : List (Extent P)) (k : ℕ) → row.lba ≤ k → k < row.lba + row.sectors
      → place_at on (row ∷ rows) k ≡ Some (on (k - row.lba) row.place)
  at_inside row rows k low high =
      ap (λ b. cond b (Some (on (k - row.lba) row.place)) (place_at on rows k)) (within row.lba row.sectors k low high)

  pub at_below : (row : Extent P) (rows : List (Extent P)) (k : ℕ) → k < row.lba
      → place_at on (row ∷ rows) k ≡ place_at on rows k
  at_below row rows k low =
      ap (λ b. cond b (Some (on (k - row.lba) row.place)) (place_at on rows k)) (not_below row.lba row.sectors k low)

  pub at_past : (row : Extent P) (rows : List (Extent P)) (k : ℕ) → row.lba + row.sectors ≤ k
      → place_at on (row ∷ rows) k ≡ place_at on rows k
  at_past row rows k high =
      ap (λ b. cond b (Some (on (k - row.lba) row.place)) (place_at on rows k)) (not_past row.lba row.sectors k high)

  -- ---- rows in order

  pub after_row : (row : Extent P) (rows : List (Extent P)) → ComesBeforeFirst on row rows
      → StartsFrom (row.lba + row.sectors) rows
  after_row row [] before = tt
  after_row row (next ∷ rows) before = before.in_order

  -- no row covers a sector below the first one's
  pub none_before : (rows : List (Extent P)) (at k : ℕ) → IsShortest on rows → StartsFrom at rows → k < at
      → place_at on rows k ≡ None
  none_before [] at k shortest starts low = refl
  none_before (row ∷ rows) at k shortest starts low =
      at_below row rows k (omega arith)
      ∙ none_before rows (row.lba + row.sectors) k shortest.2 (after_row row rows shortest.1) (omega arith)
