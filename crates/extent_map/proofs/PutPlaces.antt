-- A row that is put at a place of a list: the row there, and the one before it.
use Rattle.std.proofs.Common.{ℕ, zero, suc, ◌+◌, ◌-◌, ◌≡◌, inl, inr, Bool, true, false, Some, None, List, [], ◌∷◌, ◌++◌, length}
use Rattle.std.proofs.Common.{get_or, take, drop, refl, sym, ◌∙◌, ap, subst, arith, length-take-le}
use Rattle.std.proofs.Math.ListN.{set}
use Rattle.std.specs.List.{slice_get}
use Rattle.std.proofs.lemmas.Option.{slice_get_within, get_or_from_slice_get}
use Rattle.std.proofs.lemmas.List.{drop_more, take_more, take_at, drop_at, same_from_push}
use Rattle.extent_map.specs.declared.extent.Extent.{Extent}
use Rattle.extent_map.specs.Extents.{Fits, AllFit}
use Rattle.extent_map.specs.Join.{GoesOn, joined, TakesNext, IsPutAfter}
use Rattle.extent_map.proofs.Order.{fits_at}
use Rattle.extent_map.proofs.Put.{put_over}

pub differ : {b : Bool} → b ≡ true → b ≡ false → ⊥
differ is not = cc (is, not)

module _ {X : Type 0} (xs : List X) (k : ℕ) where
  pub rest_at : (x : X) → slice_get xs k ≡ Some x → drop k xs ≡ x ∷ drop (k + 1) xs
  rest_at x read =
      drop_more xs k x (slice_get_within xs k x read) ∙ ap (λ y. y ∷ drop (k + 1) xs) (get_or_from_slice_get xs k x x read)

  pub front_at : (x : X) → slice_get xs k ≡ Some x → take (k + 1) xs ≡ take k xs ++ x ∷ []
  front_at x read =
      take_more xs k x (slice_get_within xs k x read) ∙ ap (λ y. take k xs ++ y ∷ []) (get_or_from_slice_get xs k x x read)

pub none_left : {X : Type 0} (xs : List X) (k : ℕ) → slice_get xs k ≡ None → drop k xs ≡ []
none_left [] zero none = refl
none_left [] (suc k) none = refl
none_left (x ∷ xs) zero none = absurd (cc)
none_left (x ∷ xs) (suc k) none = none_left xs k none

pub fits_read : {P : Type 0} (number : P → ℕ) (rows : List (Extent P)) (i : ℕ) (row : Extent P) → AllFit number rows
    → slice_get rows i ≡ Some row → Fits number row
fits_read number rows i row fits read =
    subst (Fits number) (get_or_from_slice_get rows i row row read)
    (fits_at number i rows row fits (slice_get_within rows i row read))

module _ {P : Type 0} (on : ℕ → P → P) (rows : List (Extent P)) (k : ℕ) (row : Extent P) where
  pub taken_none : slice_get rows k ≡ None → TakesNext on row (drop k rows) row (drop k rows)
  taken_none none = subst (λ back. TakesNext on row back row back) (sym (none_left rows k none)) (refl, refl)

  pub taken_not : (next : Extent P) → slice_get rows k ≡ Some next → (GoesOn on row next → ⊥)
      → TakesNext on row (drop k rows) row (drop k rows)
  taken_not next read apart =
      subst (λ back. TakesNext on row back row back) (sym (rest_at rows k next read)) (inr (apart, refl, refl))

  module _ (next : Extent P) (read : slice_get rows k ≡ Some next) (left : List (Extent P)) (j : ℕ) (at : j ≡ k + 1)
      (is : left ≡ take k rows ++ drop j rows) where
    front_long : length (take k rows) ≡ k
    front_long = length-take-le k rows (omega (arith, slice_get_within rows k next read))

    pub taken_one : GoesOn on row next → TakesNext on row (drop k rows) (joined row next) (drop k left)
    taken_one goes =
        let back = ap (drop k) is ∙ drop_at (take k rows) (drop j rows) k front_long ∙ ap (λ n. drop n rows) at in
        subst (λ xs. TakesNext on row xs (joined row next) (drop k left)) (sym (rest_at rows k next read))
        (inl (goes, refl, back))

    pub front_left : take k left ≡ take k rows
    front_left = ap (take k) is ∙ take_at (take k rows) (drop j rows) k front_long

  pub put_not : (i : ℕ) (last : Extent P) (new : List (Extent P)) → i + 1 ≡ k → slice_get rows i ≡ Some last
      → (GoesOn on last row → ⊥)
      → new ≡ take k rows ++ row ∷ drop k rows → IsPutAfter on (take k rows) row (drop k rows) new
  put_not i last new next read apart is =
      inr (
        λ rest other front goes.
            let shown = sym (front_at rows i last read) ∙ ap (λ n. take n rows) next ∙ front in
            apart (subst (λ r. GoesOn on r row) (sym (same_from_push (take i rows) rest last other shown).1) goes),
        is,
      )

  pub put_onto : (i : ℕ) (last : Extent P) → i + 1 ≡ k → slice_get rows i ≡ Some last → GoesOn on last row
      → IsPutAfter on (take k rows) row (drop k rows) (set rows i (joined last row))
  put_onto i last next read goes =
      let inside = slice_get_within rows i last read in
      let place : k - 1 ≡ i = omega (arith, next) in
      let is = sym (get_or_from_slice_get rows i last last read) ∙ ap (λ n. get_or rows n last) (sym place) in
      subst (λ n. IsPutAfter on (take k rows) row (drop k rows) (set rows n (joined last row))) place
      (put_over on rows k last row (omega (arith, next)) (omega (arith, next, inside)) is goes)
