-- The first of the rows between two sectors.
use Rattle.std.proofs.Common.{ℕ, ◌≤◌, ◌≡◌, Some, None, List, [], ◌∷◌, refl, sym, ◌∙◌, ap, subst}
use Rattle.std.specs.Prelude.{slice_get}
use Rattle.extent_map.specs.declared.extent.Extent.{Extent}
use Rattle.extent_map.specs.Extents.{IsShortest, Fits, AllFit}
use Rattle.extent_map.specs.Cut.{rows_before, part_before}
use Rattle.extent_map.specs.Laws.{StartsFrom}
use Rattle.extent_map.proofs.Places.{starts_earlier}
use Rattle.extent_map.proofs.Cuts.{ends, crosses, starts, meets, before_ends, before_crosses, nothing_before, part_ends}
use Rattle.extent_map.proofs.Cuts.{part_crosses, part_starts}

module _ {P : Type 0} (on : ℕ → P → P) where
  -- ---- the part before a sector

  pub none_first : (at : ℕ) (rows : List (Extent P)) → None ≡ slice_get rows 0 → None ≡ slice_get (rows_before at rows) 0
  unfolding rows_before
  none_first at [] none = refl
  none_first at (row ∷ rows) none = cc

  -- rows that begin from a later sector on have no part before it
  pub none_in_none : (at later : ℕ) (rows : List (Extent P)) → IsShortest on rows → StartsFrom later rows → at ≤ later
      → None ≡ slice_get (rows_before at rows) 0
  none_in_none at later rows shortest start order =
      sym (ap (λ xs. slice_get xs 0) (nothing_before on at rows shortest (starts_earlier at later rows order start)))

  pub part_first : (at : ℕ) (rows : List (Extent P)) (row : Extent P) → IsShortest on rows → Some row ≡ slice_get rows 0
      → slice_get (part_before at row []) 0 ≡ slice_get (rows_before at rows) 0
  unfolding rows_before
  part_first at [] row shortest first = cc
  part_first at (next ∷ rows) row shortest first =
      let is : row ≡ next = cc in
      rw is (elim (meets at next) [
        | ends ended ↦
            ap (λ xs. slice_get xs 0) (part_ends at next [] ended)
            ∙ sym (ap (λ xs. slice_get xs 0) (before_ends at next rows ended))
        | crosses after inside ↦
            ap (λ xs. slice_get xs 0) (part_crosses at next [] after inside)
            ∙ sym (ap (λ xs. slice_get xs 0) (before_crosses at next rows after inside))
        | starts before inside ↦
            ap (λ xs. slice_get xs 0) (part_starts at next [] before inside)
            ∙ sym (ap (λ xs. slice_get xs 0) (nothing_before on at (next ∷ rows) shortest before))
      ])

  pub fits_first : (number : P → ℕ) (rows : List (Extent P)) (row : Extent P) → AllFit number rows
      → Some row ≡ slice_get rows 0 → Fits number row
  fits_first number [] row fits first = cc
  fits_first number (next ∷ rows) row fits first = let is : next ≡ row = cc in subst (Fits number) is fits.0
