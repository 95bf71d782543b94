-- Rows that are walked one by one from a place on, each cut at a sector, up to the first that begins past it.
use Rattle.std.proofs.Common.{ℕ, ◌+◌, ◌-◌, ◌<◌, ◌≤◌, ◌≡◌, Some, None, Option, List, [], ◌∷◌, ◌++◌, drop, refl, sym, ◌∙◌, ap}
use Rattle.std.proofs.Common.{subst, arith, append_assoc}
use Rattle.std.specs.Prelude.{option_to_list, slice_get}
use Rattle.extent_map.specs.declared.extent.Extent.{Extent}
use Rattle.extent_map.specs.Extents.{NumbersGoOn, IsShortest, Fits}
use Rattle.extent_map.specs.Cut.{part_before, rows_before, rest_of}
use Rattle.extent_map.proofs.Places.{number_at_most}
use Rattle.extent_map.proofs.Order.{shortest_drop}
use Rattle.extent_map.proofs.Cuts.{ends, crosses, starts, meets, part_ends, part_crosses, part_starts, nothing_before}
use Rattle.extent_map.proofs.Kept.{before_append}
use Rattle.extent_map.proofs.PutPlaces.{rest_at, none_left}

module _ {P : Type 0} (on : ℕ → P → P) where
  -- a row has one part before a sector at most
  one_before : (at : ℕ) (row : Extent P) → option_to_list (slice_get (part_before at row []) 0) ≡ part_before at row []
  one_before at row =
      elim (meets at row) [
        | ends ended ↦ rw (part_ends at row [] ended) refl
        | crosses after inside ↦ rw (part_crosses at row [] after inside) refl
        | starts before inside ↦ rw (part_starts at row [] before inside) refl
      ]

  -- a row and the rows after it, before a sector
  pub walked_row : (end : ℕ) (row : Extent P) (rows : List (Extent P)) (part : Option (Extent P))
      → part ≡ slice_get (part_before end row []) 0
      → option_to_list part ++ rows_before end rows ≡ rows_before end (row ∷ rows)
  unfolding rows_before
  walked_row end row rows part is =
      ap (λ xs. xs ++ rows_before end rows) (ap option_to_list is ∙ one_before end row)
      ∙ sym (before_append end row [] (rows_before end rows))

  -- the rest of a row ends where the row does
  pub rest_fits : (number : P → ℕ) → NumbersGoOn on number → (at : ℕ) (row rest : Extent P) → Fits number row → row.lba < at
      → at < row.lba + row.sectors → rest ≡ rest_of on at row → Fits number rest
  rest_fits number number_on at row rest fits after inside is =
      subst (Fits number) (sym is) (record {
        sectors = omega (arith, fits.sectors);
        places = omega (arith, fits.places, number_at_most on number number_on (at - row.lba) row.place);
      })

  module _ (end n : ℕ) (rows : List (Extent P)) where
    module _ (row : Extent P) (read : slice_get rows n ≡ Some row) where
      -- one row more
      pub walked_step : (m : ℕ) (part : Extent P) (found new whole : List (Extent P)) → m ≡ n + 1
          → Some part ≡ slice_get (part_before end row []) 0
          → new ≡ found ++ part ∷ [] → found ++ rows_before end (drop n rows) ≡ whole
          → new ++ rows_before end (drop m rows) ≡ whole
      walked_step m part found new whole next some is all =
          ap (λ k. new ++ rows_before end (drop k rows)) next
          ∙ ap (λ xs. xs ++ rows_before end (drop (n + 1) rows)) is
          ∙ append_assoc found (part ∷ []) (rows_before end (drop (n + 1) rows))
          ∙ ap (λ xs. found ++ xs) (walked_row end row (drop (n + 1) rows) (Some part) some)
          ∙ ap (λ xs. found ++ rows_before end xs) (sym (rest_at rows n row read))
          ∙ all

      past_end : None ≡ slice_get (part_before end row []) 0 → end ≤ row.lba
      past_end none =
          elim (meets end row) [
            | ends ended ↦ absurd (cc (none, part_ends end row [] ended))
            | crosses after inside ↦ absurd (cc (none, part_crosses end row [] after inside))
            | starts before inside ↦ before
          ]

      -- from a row on that begins past the sector there is nothing more
      pub walked_past : IsShortest on rows → None ≡ slice_get (part_before end row []) 0 → rows_before end (drop n rows) ≡ []
      walked_past shortest none =
          let is = rest_at rows n row read in
          let rest = subst (IsShortest on) is (shortest_drop on n rows shortest) in
          ap (rows_before end) is ∙ nothing_before on end (row ∷ drop (n + 1) rows) rest (past_end none)

    pub walked_all : slice_get rows n ≡ None → rows_before end (drop n rows) ≡ []
    unfolding rows_before
    walked_all none = ap (rows_before end) (none_left rows n none)
