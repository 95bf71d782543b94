-- The rows of a range of sectors alone, and the first of them.
use Rattle.std.proofs.Common.{ℕ, ◌+◌, ◌-◌, ◌<◌, ◌≤◌, ◌≡◌, ◌↔◌, inl, inr, cond, Option, None, List, [], ◌∷◌, refl, sym, ◌∙◌, ap}
use Rattle.std.proofs.Common.{subst, arith}
use Rattle.std.specs.Prelude.{IfSome, IsNone, slice_get}
use Rattle.std.proofs.lemmas.Bool.{cases_lt}
use Rattle.std.proofs.lemmas.List.{append-nil}
use Rattle.extent_map.specs.declared.extent.Extent.{Extent}
use Rattle.extent_map.specs.Extents.{NumbersGoOn, place_at, place_in_range, IsShortest, Fits, AllFit, IsFirstOfRange, StartsRange}
use Rattle.extent_map.specs.Extents.{IsBare}
use Rattle.extent_map.specs.Cut.{rows_before, rows_from}
use Rattle.extent_map.proofs.Places.{within, not_below, not_past, none_before, at_inside}
use Rattle.extent_map.proofs.Order.{past_front}
use Rattle.extent_map.proofs.Cuts.{before_end, from_start, shortest_before, shortest_from}
use Rattle.extent_map.proofs.CutPlaces.{places_before, places_from, fit_before, fit_from}

module _ {P : Type 0} where
  -- what a range keeps of the places, and what it drops

  in_range : (lba sectors : ℕ) (old : ℕ → Option P) (k : ℕ) → lba ≤ k → k < lba + sectors
      → place_in_range lba sectors old k ≡ old k
  in_range lba sectors old k from low = ap (λ b. cond b (old k) None) (within lba sectors k from low)

  below_range : (lba sectors : ℕ) (old : ℕ → Option P) (k : ℕ) → k < lba → place_in_range lba sectors old k ≡ None
  below_range lba sectors old k low = ap (λ b. cond b (old k) None) (not_below lba sectors k low)

  past_range : (lba sectors : ℕ) (old : ℕ → Option P) (k : ℕ) → lba + sectors ≤ k
      → place_in_range lba sectors old k ≡ None
  past_range lba sectors old k high = ap (λ b. cond b (old k) None) (not_past lba sectors k high)

module _ {P : Type 0} (on : ℕ → P → P) where
  module _ (on_twice : (a b : ℕ) (p : P) → on a (on b p) ≡ on (b + a) p) (lba sectors : ℕ) (rows : List (Extent P))
      (shortest : IsShortest on rows) where
    -- the rows of the range
    abbrev pub range_rows : List (Extent P)
    range_rows = rows_before (lba + sectors) (rows_from on lba rows)

    from_shortest : IsShortest on (rows_from on lba rows)
    from_shortest = shortest_from on on_twice lba rows shortest

    pub range_shortest : IsShortest on range_rows
    range_shortest = shortest_before on (lba + sectors) (rows_from on lba rows) from_shortest

    pub range_places : (k : ℕ) → place_at on range_rows k ≡ place_in_range lba sectors (place_at on rows) k
    range_places k =
        let later = rows_from on lba rows in
        elim (cases_lt k (lba + sectors)) [
          | inl low ↦ places_before on (lba + sectors) later k low
              ∙ elim (cases_lt k lba) [
                | inl early ↦
                    none_before on later lba k from_shortest (from_start on lba rows shortest) early
                    ∙ sym (below_range lba sectors (place_at on rows) k early)
                | inr from ↦
                    places_from on on_twice lba rows k shortest from
                    ∙ sym (in_range lba sectors (place_at on rows) k from low)
              ]
          | inr past ↦
              ap (λ xs. place_at on xs k) (sym (append-nil range_rows))
              ∙ past_front on range_rows [] (lba + sectors) k (before_end on (lba + sectors) later) past
              ∙ sym (past_range lba sectors (place_at on rows) k past)
        ]

    pub range_fits : (number : P → ℕ) → NumbersGoOn on number → AllFit number rows → AllFit number range_rows
    range_fits number number_on fits =
        fit_before on number (lba + sectors) (rows_from on lba rows) (fit_from on number number_on lba rows shortest fits)

  -- ---- the first of a range's rows

  module _ (lba sectors : ℕ) (old : ℕ → Option P) where
    -- a row's first sector, and its last, are in the range
    first_in : (row : Extent P) (rows : List (Extent P)) → IsShortest on (row ∷ rows)
        → ((k : ℕ) → place_at on (row ∷ rows) k ≡ place_in_range lba sectors old k) → lba ≤ row.lba
    first_in row rows shortest same =
        elim (cases_lt row.lba lba) [
          | inl early ↦
              let gives = at_inside on row rows row.lba (omega arith) (omega (arith, shortest.0)) in
              let none = below_range lba sectors old row.lba early in
              let here = same row.lba in
              cc
          | inr from ↦ from
        ]

    last_in : (row : Extent P) (rows : List (Extent P)) → IsShortest on (row ∷ rows)
        → ((k : ℕ) → place_at on (row ∷ rows) k ≡ place_in_range lba sectors old k)
        → row.lba + row.sectors ≤ lba + sectors
    last_in row rows shortest same =
        let k = row.lba + row.sectors - 1 in
        elim (cases_lt k (lba + sectors)) [
          | inl low ↦ omega (arith, shortest.0)
          | inr past ↦
              let gives = at_inside on row rows k (omega (arith, shortest.0)) (omega (arith, shortest.0)) in
              let none = past_range lba sectors old k past in
              let here = same k in
              cc
        ]

    starts_range : (rows : List (Extent P)) → IsShortest on rows
        → ((k : ℕ) → place_at on rows k ≡ place_in_range lba sectors old k)
        → IfSome (slice_get rows 0) (StartsRange on lba sectors old)
    starts_range [] shortest same = tt
    starts_range (row ∷ rows) shortest same =
        let from = first_in row rows shortest same in
        let to = last_in row rows shortest same in
        record {
          some = shortest.0;
          from = from;
          to = to;
          none_before = λ k after low. sym (in_range lba sectors old k after (omega (arith, shortest.0)))
              ∙ sym (same k)
              ∙ none_before on (row ∷ rows) row.lba k shortest (omega arith) low;
          places = λ k after low. sym (in_range lba sectors old k (omega arith) (omega arith))
              ∙ sym (same k)
              ∙ at_inside on row rows k after low;
        }

    none_is_bare : (rows : List (Extent P)) → IsShortest on rows
        → ((k : ℕ) → place_at on rows k ≡ place_in_range lba sectors old k)
        → IsNone (slice_get rows 0) ↔ IsBare lba sectors old
    none_is_bare [] shortest same = (λ _ k from low. sym (in_range lba sectors old k from low) ∙ sym (same k), λ _. refl)
    none_is_bare (row ∷ rows) shortest same =
        let from = first_in row rows shortest same in
        let to = last_in row rows shortest same in
        let low : row.lba < lba + sectors = omega (arith, shortest.0) in
        let gives = at_inside on row rows row.lba (omega arith) (omega (arith, shortest.0)) in
        let is_in = in_range lba sectors old row.lba from low in
        let here = same row.lba in
        (λ none. absurd (cc), λ bare. let is_bare = bare row.lba from low in absurd (cc))

  head_fits : (number : P → ℕ) (rows : List (Extent P)) → AllFit number rows → IfSome (slice_get rows 0) (Fits number)
  head_fits number [] fits = tt
  head_fits number (row ∷ rows) fits = fits.0

  -- what the first of a range's rows says of the places of the range
  module _ (on_twice : (a b : ℕ) (p : P) → on a (on b p) ≡ on (b + a) p) (lba sectors : ℕ) (rows : List (Extent P))
      (shortest : IsShortest on rows) (first : Option (Extent P))
      (is_first : first ≡ slice_get (range_rows on_twice lba sectors rows shortest) 0) where
    pub first_of_range : IsFirstOfRange on lba sectors (place_at on rows) first
    first_of_range = record {
      rows = range_rows on_twice lba sectors rows shortest;
      shortest = range_shortest on_twice lba sectors rows shortest;
      places = range_places on_twice lba sectors rows shortest;
      is_first = is_first;
    }

    pub first_is_none : IsNone first ↔ IsBare lba sectors (place_at on rows)
    first_is_none =
        subst (λ o. IsNone o ↔ IsBare lba sectors (place_at on rows)) (sym is_first)
        (none_is_bare lba sectors (place_at on rows) (range_rows on_twice lba sectors rows shortest)
        (range_shortest on_twice lba sectors rows shortest) (range_places on_twice lba sectors rows shortest))

    pub first_starts : IfSome first (StartsRange on lba sectors (place_at on rows))
    first_starts =
        subst (λ o. IfSome o (StartsRange on lba sectors (place_at on rows))) (sym is_first)
        (starts_range lba sectors (place_at on rows) (range_rows on_twice lba sectors rows shortest)
        (range_shortest on_twice lba sectors rows shortest) (range_places on_twice lba sectors rows shortest))

    pub first_fits : (number : P → ℕ) → NumbersGoOn on number → AllFit number rows → IfSome first (Fits number)
    first_fits number number_on fits =
        subst (λ o. IfSome o (Fits number)) (sym is_first)
        (head_fits number (range_rows on_twice lba sectors rows shortest)
        (range_fits on_twice lba sectors rows shortest number number_on fits))
