-- What rows that are cut at a sector give, how many they are, and where they end.
use Rattle.std.proofs.Common.{ℕ, ◌+◌, ◌-◌, ◌<◌, ◌≤◌, ◌≡◌, cond, Some, List, [], ◌∷◌, length, refl, sym, ◌∙◌, ap, arith}
use Rattle.std.proofs.lemmas.Bool.Decides.{nat_tests}
use Rattle.extent_map.specs.declared.extent.Extent.{Extent}
use Rattle.extent_map.specs.Extents.{NumbersGoOn, is_within, place_at, IsShortest, AllFit}
use Rattle.extent_map.specs.Cut.{cut_short, rows_before, rows_from, rest_of}
use Rattle.extent_map.proofs.Places.{number_at_most, at_below, at_past, after_row, starts_earlier}
use Rattle.extent_map.proofs.Order.{same_after}
use Rattle.extent_map.proofs.Cuts.{ends, crosses, starts, meets, before_ends, before_crosses, before_starts, from_ends}
use Rattle.extent_map.proofs.Cuts.{from_crosses, from_starts, nothing_before, all_from}

-- a cut leaves the sectors on its side
pub same_within_short : (lba sectors at k : ℕ) → lba < at → at < lba + sectors → k < at
    → is_within lba (at - lba) k ≡ is_within lba sectors k
same_within_short lba sectors at k after inside low = grind (arith, nat_tests)

same_within_rest : (lba sectors at k : ℕ) → lba < at → at < lba + sectors → at ≤ k
    → is_within at (lba + sectors - at) k ≡ is_within lba sectors k
same_within_rest lba sectors at k after inside high = grind (arith, nat_tests)

module _ {P : Type 0} (on : ℕ → P → P) where
  -- the rows before a sector give those below it their places
  pub places_before : (at : ℕ) (rows : List (Extent P)) (k : ℕ) → k < at
      → place_at on (rows_before at rows) k ≡ place_at on rows k
  unfolding rows_before
  places_before at [] k low = refl
  places_before at (row ∷ rows) k low =
      let rest = places_before at rows k low in
      elim (meets at row) [
        | ends ended ↦ rw (before_ends at row rows ended) (same_after on row (rows_before at rows) rows k rest)
        | crosses after inside ↦
            rw (before_crosses at row rows after inside)
            (same_after on (cut_short at row) (rows_before at rows) rows k rest
            ∙ ap (λ b. cond b (Some (on (k - row.lba) row.place)) (place_at on rows k))
            (same_within_short row.lba row.sectors at k after inside low))
        | starts before inside ↦
            rw (before_starts at row rows before inside) (rest ∙ sym (at_below on row rows k (omega arith)))
      ]

  module _ (on_twice : (a b : ℕ) (p : P) → on a (on b p) ≡ on (b + a) p) where
    -- the rows from a sector on give those from it on their places
    pub rest_gives : (at : ℕ) (row : Extent P) (rows : List (Extent P)) (k : ℕ) → row.lba < at → at < row.lba + row.sectors
        → at ≤ k → place_at on (rest_of on at row ∷ rows) k ≡ place_at on (row ∷ rows) k
    rest_gives at row rows k after inside high =
        let far : at - row.lba + (k - at) ≡ k - row.lba = omega arith in
        ap (λ b. cond b (Some (on (k - at) (on (at - row.lba) row.place))) (place_at on rows k))
        (same_within_rest row.lba row.sectors at k after inside high)
        ∙ ap (λ p. cond (is_within row.lba row.sectors k) (Some p) (place_at on rows k))
        (on_twice (k - at) (at - row.lba) row.place ∙ ap (λ n. on n row.place) far)

    pub places_from : (at : ℕ) (rows : List (Extent P)) (k : ℕ) → IsShortest on rows → at ≤ k
        → place_at on (rows_from on at rows) k ≡ place_at on rows k
    unfolding rows_from
    places_from at [] k shortest high = refl
    places_from at (row ∷ rows) k shortest high =
        let rest = places_from at rows k shortest.2 high in
        elim (meets at row) [
          | ends ended ↦
              rw (from_ends on at row rows (omega (arith, shortest.0)) ended) (rest ∙ sym (at_past on row rows k (omega arith)))
          | crosses after inside ↦
              rw (from_crosses on at row rows after inside)
              (same_after on (rest_of on at row) (rows_from on at rows) rows k rest ∙ rest_gives at row rows k after inside high)
          | starts before inside ↦
              rw (from_starts on at row rows before) (same_after on row (rows_from on at rows) rows k rest)
        ]

  -- ---- how many rows they are

  pub count_from : (at : ℕ) (rows : List (Extent P)) → IsShortest on rows → length (rows_from on at rows) ≤ length rows
  unfolding rows_from
  count_from at [] shortest = omega arith
  count_from at (row ∷ rows) shortest =
      let rest = count_from at rows shortest.2 in
      elim (meets at row) [
        | ends ended ↦ omega (arith, rest, ap length (from_ends on at row rows (omega (arith, shortest.0)) ended))
        | crosses after inside ↦ omega (arith, rest, ap length (from_crosses on at row rows after inside))
        | starts before inside ↦ omega (arith, rest, ap length (from_starts on at row rows before))
      ]

  -- a cut adds a row at most
  pub count_cut : (at : ℕ) (rows : List (Extent P)) → IsShortest on rows
      → length (rows_before at rows) + length (rows_from on at rows) ≤ length rows + 1
  unfolding rows_before rows_from
  count_cut at [] shortest = omega arith
  count_cut at (row ∷ rows) shortest =
      let rest = count_cut at rows shortest.2 in
      let beyond = after_row on row rows shortest.1 in
      elim (meets at row) [
        | ends ended ↦
            omega (
              arith,
              rest,
              ap length (before_ends at row rows ended),
              ap length (from_ends on at row rows (omega (arith, shortest.0)) ended),
            )
        | crosses after inside ↦
            let later = starts_earlier at (row.lba + row.sectors) rows (omega arith) beyond in
            omega (
              arith,
              ap length (before_crosses at row rows after inside),
              ap length (from_crosses on at row rows after inside),
              ap length (nothing_before on at rows shortest.2 later),
              ap length (all_from on at rows shortest.2 later),
            )
        | starts before inside ↦
            omega (
              arith,
              ap length (nothing_before on at (row ∷ rows) shortest before),
              ap length (all_from on at (row ∷ rows) shortest before),
            )
      ]

  -- ---- where they end

  pub fit_before : (number : P → ℕ) (at : ℕ) (rows : List (Extent P)) → AllFit number rows
      → AllFit number (rows_before at rows)
  unfolding rows_before
  fit_before number at [] fits = tt
  fit_before number at (row ∷ rows) fits =
      let rest = fit_before number at rows fits.1 in
      elim (meets at row) [
        | ends ended ↦ rw (before_ends at row rows ended) (fits.0, rest)
        | crosses after inside ↦
            rw (before_crosses at row rows after inside)
            (record { sectors = omega (arith, fits.0.sectors); places = omega (arith, fits.0.places) }, rest)
        | starts before inside ↦ rw (before_starts at row rows before inside) rest
      ]

  pub fit_from : (number : P → ℕ) → NumbersGoOn on number → (at : ℕ) (rows : List (Extent P))
      → IsShortest on rows → AllFit number rows → AllFit number (rows_from on at rows)
  unfolding rows_from
  fit_from number number_on at [] shortest fits = tt
  fit_from number number_on at (row ∷ rows) shortest fits =
      let rest = fit_from number number_on at rows shortest.2 fits.1 in
      elim (meets at row) [
        | ends ended ↦ rw (from_ends on at row rows (omega (arith, shortest.0)) ended) rest
        | crosses after inside ↦
            rw (from_crosses on at row rows after inside) (
              record {
                sectors = omega (arith, fits.0.sectors);
                places = omega (arith, fits.0.places, number_at_most on number number_on (at - row.lba) row.place);
              },
              rest,
            )
        | starts before inside ↦ rw (from_starts on at row rows before) (fits.0, rest)
      ]
