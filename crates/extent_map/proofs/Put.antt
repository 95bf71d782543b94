-- A row is put among the rows of a list.
use Rattle.std.proofs.Common.{ℕ, suc, ◌+◌, ◌-◌, ◌<◌, ◌≤◌, ◌≡◌, inl, List, [], ◌∷◌, ◌++◌, length, get_or, set, take, drop, sym}
use Rattle.std.proofs.Common.{◌∙◌, ap, subst, arith}
use Rattle.std.proofs.lemmas.List.{take_more, set_split, take-append-drop}
use Rattle.extent_map.specs.declared.extent.Extent.{Extent}
use Rattle.extent_map.specs.Extents.{NumbersGoOn, place_at, IsShortest, Fits, AllFit}
use Rattle.extent_map.specs.Join.{GoesOn, joined, TakesNext, IsPutAfter}
use Rattle.extent_map.specs.Laws.{StartsFrom}
use Rattle.extent_map.specs.Join.{EndBy}
use Rattle.extent_map.proofs.Order.{same_after_all, fit_append, fit_take, fit_drop}
use Rattle.extent_map.proofs.Joined.{taken_places, taken_shortest, taken_lba, taken_fits, put_places, put_shortest, put_fits}

module _ {P : Type 0} (on : ℕ → P → P) where
  -- a row is joined with the one before an index
  pub put_over : (rows : List (Extent P)) (index : ℕ) (last row : Extent P) → 0 < index → index ≤ length rows
      → last ≡ get_or rows (index - 1) last → GoesOn on last row
      → IsPutAfter on (take index rows) row (drop index rows) (set rows (index - 1) (joined last row))
  put_over rows index last row some inside read goes =
      let i = index - 1 in
      let next : i + 1 ≡ index = omega arith in
      let beyond : suc i ≡ index = omega arith in
      inl (
        take i rows,
        last,
        ap (λ n. take n rows) (sym next)
            ∙ take_more rows i last (omega arith)
            ∙ ap (λ r. take i rows ++ r ∷ []) (sym read),
        goes,
        set_split rows i (joined last row) (omega arith)
            ∙ ap (λ n. take i rows ++ joined last row ∷ drop n rows) beyond,
      )

module _ {P : Type 0} (on : ℕ → P → P) (on_twice : (a b : ℕ) (p : P) → on a (on b p) ≡ on (b + a) p)
    (rows once : List (Extent P)) (index : ℕ) (row new : Extent P)
    (taken : TakesNext on row (drop index rows) new (drop index once)) (same_front : take index once ≡ take index rows) where
  module _ (number : P → ℕ) (number_on : NumbersGoOn on number) (fits : AllFit number rows)
      (row_fits : Fits number row) where
    both_fit : Fits number new × AllFit number (drop index once)
    both_fit =
        taken_fits on on_twice number number_on row (drop index rows) new (drop index once) row_fits
        (fit_drop number index rows fits) taken

    front_fits : AllFit number (take index once)
    front_fits = subst (AllFit number) (sym same_front) (fit_take number index rows fits)

    pub new_fits : Fits number new
    new_fits = both_fit.0

    pub once_fits : AllFit number once
    once_fits =
        subst (AllFit number) (take-append-drop index once)
        (fit_append number (take index once) (drop index once) front_fits both_fit.1)

    pub twice_fits : (twice : List (Extent P)) → IsPutAfter on (take index once) new (drop index once) twice
        → AllFit number twice
    twice_fits twice put =
        put_fits on on_twice number number_on (take index once) new (drop index once) twice front_fits both_fit.0 both_fit.1 put

  module _ (twice : List (Extent P)) (put : IsPutAfter on (take index once) new (drop index once) twice) where
    pub twice_places : (k : ℕ) → place_at on twice k ≡ place_at on (take index rows ++ row ∷ drop index rows) k
    twice_places k =
        put_places on on_twice (take index once) new (drop index once) twice k put
        ∙ ap (λ xs. place_at on (xs ++ new ∷ drop index once) k) same_front
        ∙ same_after_all on (take index rows) (new ∷ drop index once) (row ∷ drop index rows) k
        (taken_places on on_twice row (drop index rows) new (drop index once) k taken)

    pub twice_shortest : 0 < row.sectors → IsShortest on (take index rows) → EndBy row.lba (take index rows)
        → IsShortest on (drop index rows) → StartsFrom (row.lba + row.sectors) (drop index rows) → IsShortest on twice
    twice_shortest some front ends back starts =
        let same_lba = taken_lba on on_twice row (drop index rows) new (drop index once) taken in
        put_shortest on on_twice (take index once) new (drop index once) twice
        (subst (IsShortest on) (sym same_front) front)
        (subst (λ xs. EndBy new.lba xs) (sym same_front) (subst (λ n. EndBy n (take index rows)) (sym same_lba) ends))
        (taken_shortest on on_twice row (drop index rows) new (drop index once) some back starts taken) put
