-- What rows give after a range of sectors was taken out of them, and a row was put in its place.
use Rattle.std.proofs.Common.{ℕ, ◌+◌, ◌-◌, ◌<◌, ◌≤◌, ◌≡◌, inl, inr, cond, Some, None, List, ◌∷◌, ◌++◌, length, take, drop, sym}
use Rattle.std.proofs.Common.{◌∙◌, ap, subst, arith}
use Rattle.std.proofs.lemmas.List.{take_at, drop_at}
use Rattle.std.proofs.lemmas.Bool.{cases_lt}
use Rattle.extent_map.specs.declared.extent.Extent.{Extent}
use Rattle.extent_map.specs.Extents.{NumbersGoOn, place_at, place_after_set, place_after_clear, IsShortest, AllFit}
use Rattle.extent_map.specs.Cut.{rows_before, rows_from}
use Rattle.extent_map.specs.Laws.{StartsFrom}
use Rattle.extent_map.specs.Join.{EndBy}
use Rattle.extent_map.proofs.Places.{within, not_below, not_past, at_inside, at_below, at_past, none_before}
use Rattle.extent_map.proofs.Order.{in_front, past_front, shortest_append, fit_append}
use Rattle.extent_map.proofs.Cuts.{before_end, from_start, shortest_before, shortest_from}
use Rattle.extent_map.proofs.CutPlaces.{places_before, places_from, fit_before, fit_from}

module _ {P : Type 0} (on : ℕ → P → P) (on_twice : (a b : ℕ) (p : P) → on a (on b p) ≡ on (b + a) p)
    (rows : List (Extent P)) (lba sectors : ℕ) (shortest : IsShortest on rows) where
  -- the rows past the range
  abbrev pub rows_past : List (Extent P)
  rows_past = rows_from on (lba + sectors) (rows_from on lba rows)

  -- the rows without the range
  abbrev pub rows_without : List (Extent P)
  rows_without = rows_before lba rows ++ rows_past

  pub shortest_past : IsShortest on rows_past
  shortest_past = shortest_from on on_twice (lba + sectors) (rows_from on lba rows) (shortest_from on on_twice lba rows shortest)

  past_low : (k : ℕ) → k < lba + sectors → place_at on rows_past k ≡ None
  past_low k low =
      none_before on rows_past (lba + sectors) k shortest_past
      (from_start on (lba + sectors) (rows_from on lba rows) (shortest_from on on_twice lba rows shortest)) low

  past_high : (k : ℕ) → lba + sectors ≤ k → place_at on rows_past k ≡ place_at on rows k
  past_high k high =
      places_from on on_twice (lba + sectors) (rows_from on lba rows) k (shortest_from on on_twice lba rows shortest) high
      ∙ places_from on on_twice lba rows k shortest (omega arith)

  pub places_without : (k : ℕ) → place_at on rows_without k ≡ place_after_clear lba sectors (place_at on rows) k
  places_without k =
      elim (cases_lt k lba) [
        | inl low ↦
            in_front on (rows_before lba rows) rows_past k (past_low k (omega arith))
            ∙ places_before on lba rows k low
            ∙ sym (ap (λ b. cond b None (place_at on rows k)) (not_below lba sectors k low))
        | inr from ↦ past_front on (rows_before lba rows) rows_past lba k (before_end on lba rows) from
            ∙ elim (cases_lt k (lba + sectors)) [
              | inl inside ↦
                  past_low k inside ∙ sym (ap (λ b. cond b None (place_at on rows k)) (within lba sectors k from inside))
              | inr past ↦
                  past_high k past ∙ sym (ap (λ b. cond b None (place_at on rows k)) (not_past lba sectors k past))
            ]
      ]

  pub shortest_without : 0 < sectors → IsShortest on rows_without
  shortest_without some =
      shortest_append on (rows_before lba rows) rows_past lba (lba + sectors) (shortest_before on lba rows shortest)
      shortest_past (before_end on lba rows)
      (from_start on (lba + sectors) (rows_from on lba rows) (shortest_from on on_twice lba rows shortest)) (omega arith)

  module _ (number : P → ℕ) (number_on : NumbersGoOn on number) where
    pub fit_without : AllFit number rows → AllFit number rows_without
    fit_without fits =
        fit_append number (rows_before lba rows) rows_past (fit_before on number lba rows fits)
        (fit_from on number number_on (lba + sectors) (rows_from on lba rows) (shortest_from on on_twice lba rows shortest)
        (fit_from on number number_on lba rows shortest fits))

  -- with a row in place of the range
  pub places_with : (place : P) (k : ℕ)
      → place_at on (rows_before lba rows ++ record { lba = lba; sectors = sectors; place = place } ∷ rows_past) k
      ≡ place_after_set on lba sectors place (place_at on rows) k
  places_with place k =
      let row : Extent P = record { lba = lba; sectors = sectors; place = place } in
      let front = rows_before lba rows in
      let set = Some (on (k - lba) place) in
      elim (cases_lt k lba) [
        | inl low ↦
            in_front on front (row ∷ rows_past) k (at_below on row rows_past k low ∙ past_low k (omega arith))
            ∙ places_before on lba rows k low
            ∙ sym (ap (λ b. cond b (Some (on (k - lba) place)) (place_at on rows k)) (not_below lba sectors k low))
        | inr from ↦ past_front on front (row ∷ rows_past) lba k (before_end on lba rows) from
            ∙ elim (cases_lt k (lba + sectors)) [
              | inl inside ↦
                  at_inside on row rows_past k from inside
                  ∙ sym (ap (λ b. cond b (Some (on (k - lba) place)) (place_at on rows k)) (within lba sectors k from inside))
              | inr past ↦
                  at_past on row rows_past k past
                  ∙ past_high k past
                  ∙ sym (ap (λ b. cond b (Some (on (k - lba) place)) (place_at on rows k)) (not_past lba sectors k past))
            ]
      ]

  -- ---- the range taken out, by the index where it stood

  module _ (out : List (Extent P)) (index : ℕ) (is_out : out ≡ rows_without)
      (is_index : index ≡ length (rows_before lba rows)) where
    front_is : take index out ≡ rows_before lba rows
    front_is = ap (take index) is_out ∙ take_at (rows_before lba rows) rows_past index (sym is_index)

    back_is : drop index out ≡ rows_past
    back_is = ap (drop index) is_out ∙ drop_at (rows_before lba rows) rows_past index (sym is_index)

    pub front_shortest : IsShortest on (take index out)
    front_shortest = subst (IsShortest on) (sym front_is) (shortest_before on lba rows shortest)

    pub front_ends : EndBy lba (take index out)
    front_ends = subst (EndBy lba) (sym front_is) (before_end on lba rows)

    pub back_shortest : IsShortest on (drop index out)
    back_shortest = subst (IsShortest on) (sym back_is) shortest_past

    pub back_starts : StartsFrom (lba + sectors) (drop index out)
    back_starts =
        subst (StartsFrom (lba + sectors)) (sym back_is)
        (from_start on (lba + sectors) (rows_from on lba rows) (shortest_from on on_twice lba rows shortest))

    pub places_set : (place : P) (k : ℕ)
        → place_at on (take index out ++ record { lba = lba; sectors = sectors; place = place } ∷ drop index out) k
        ≡ place_after_set on lba sectors place (place_at on rows) k
    places_set place k =
        ap (λ xs. place_at on (xs ++ record { lba = lba; sectors = sectors; place = place } ∷ drop index out) k) front_is
        ∙ ap (λ xs. place_at on (rows_before lba rows ++ record { lba = lba; sectors = sectors; place = place } ∷ xs) k) back_is
        ∙ places_with place k
