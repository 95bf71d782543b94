-- What rows of which some lost the sectors of a range give.
use Rattle.std.proofs.Common.{ℕ, ◌+◌, ◌-◌, ◌<◌, ◌≤◌, ◌≡◌, inl, inr, Bool, true, false, cond, Some, None, List, [], ◌∷◌, refl, sym}
use Rattle.std.proofs.Common.{◌∙◌, ap, arith}
use Rattle.std.proofs.lemmas.Bool.{cases_lt, cases_Bool}
use Rattle.extent_map.specs.declared.extent.Extent.{Extent}
use Rattle.extent_map.specs.Extents.{IsSteady, is_within, place_at, place_unless, place_after_clear_if, IsShortest}
use Rattle.extent_map.specs.Cut.{cut_short, part_before, part_from, rest_of}
use Rattle.extent_map.specs.Clear.{parts_left, rows_left}
use Rattle.extent_map.proofs.Places.{within, not_below, not_past, at_inside, at_below, at_past, after_row, none_before}
use Rattle.extent_map.proofs.Order.{same_after}
use Rattle.extent_map.proofs.Cuts.{ends, crosses, starts, meets, part_ends, part_crosses, part_starts, rest_starts, rest_crosses}
use Rattle.extent_map.proofs.Cuts.{rest_ends}
use Rattle.extent_map.proofs.CutPlaces.{same_within_short, rest_gives}
use Rattle.extent_map.proofs.Left.{left_true, left_false, starts_left, shortest_left}

module _ {P : Type 0} (on : ℕ → P → P) where
  -- ---- the part of a row before a sector

  before_low : (at : ℕ) (row : Extent P) (rows : List (Extent P)) (k : ℕ) → k < at
      → place_at on (part_before at row rows) k ≡ place_at on (row ∷ rows) k
  before_low at row rows k low =
      elim (meets at row) [
        | ends ended ↦ rw (part_ends at row rows ended)
        | crosses after inside ↦
            rw (part_crosses at row rows after inside)
            (ap (λ b. cond b (Some (on (k - row.lba) row.place)) (place_at on rows k))
            (same_within_short row.lba row.sectors at k after inside low))
        | starts before inside ↦ rw (part_starts at row rows before inside) (sym (at_below on row rows k (omega arith)))
      ]

  before_high : (at : ℕ) (row : Extent P) (rows : List (Extent P)) (k : ℕ) → at ≤ k
      → place_at on (part_before at row rows) k ≡ place_at on rows k
  before_high at row rows k high =
      elim (meets at row) [
        | ends ended ↦ rw (part_ends at row rows ended) (at_past on row rows k (omega arith))
        | crosses after inside ↦
            rw (part_crosses at row rows after inside) (at_past on (cut_short at row) rows k (omega arith))
        | starts before inside ↦ rw (part_starts at row rows before inside)
      ]

  -- ---- and from it on

  from_low : (at : ℕ) (row : Extent P) (rows : List (Extent P)) (k : ℕ) → 0 < row.sectors → k < at
      → place_at on (part_from on at row rows) k ≡ place_at on rows k
  from_low at row rows k some low =
      elim (meets at row) [
        | ends ended ↦ rw (rest_ends on at row rows (omega arith) ended)
        | crosses after inside ↦
            rw (rest_crosses on at row rows after inside) (at_below on (rest_of on at row) rows k low)
        | starts before inside ↦ rw (rest_starts on at row rows before) (at_below on row rows k (omega arith))
      ]

  module _ (on_twice : (a b : ℕ) (p : P) → on a (on b p) ≡ on (b + a) p) where
    from_high : (at : ℕ) (row : Extent P) (rows : List (Extent P)) (k : ℕ) → 0 < row.sectors → at ≤ k
        → place_at on (part_from on at row rows) k ≡ place_at on (row ∷ rows) k
    from_high at row rows k some high =
        elim (meets at row) [
          | ends ended ↦ rw (rest_ends on at row rows (omega arith) ended) (sym (at_past on row rows k (omega arith)))
          | crosses after inside ↦
              rw (rest_crosses on at row rows after inside) (rest_gives on on_twice at row rows k after inside high)
          | starts before inside ↦ rw (rest_starts on at row rows before)
        ]

    module _ (lba sectors : ℕ) where
      -- ---- the parts of a row that are left

      parts_outside : (row : Extent P) (rows : List (Extent P)) (k : ℕ) → 0 < row.sectors
          → is_within lba sectors k ≡ false
          → place_at on (parts_left on lba (lba + sectors) row rows) k ≡ place_at on (row ∷ rows) k
      parts_outside row rows k some outside =
          let more = part_from on (lba + sectors) row rows in
          elim (cases_lt k lba) [
            | inl low ↦
                before_low lba row more k low
                ∙ same_after on row more rows k (from_low (lba + sectors) row rows k some (omega arith))
            | inr from ↦ elim (cases_lt k (lba + sectors)) [
              | inl inside ↦ cc (within lba sectors k from inside)
              | inr past ↦ before_high lba row more k from ∙ from_high (lba + sectors) row rows k some past
            ]
          ]

      parts_inside : (row : Extent P) (rows : List (Extent P)) (k : ℕ) → 0 < row.sectors → lba ≤ k → k < lba + sectors
          → place_at on (parts_left on lba (lba + sectors) row rows) k ≡ place_at on rows k
      parts_inside row rows k some from inside =
          before_high lba row (part_from on (lba + sectors) row rows) k from
          ∙ from_low (lba + sectors) row rows k some inside

      module _ (some : 0 < sectors) (test : P → Bool) (same : IsSteady on test) where
        order : lba < lba + sectors
        order = omega arith

        -- ---- the sectors outside the range

        left_outside : (rows : List (Extent P)) (k : ℕ) → IsShortest on rows → is_within lba sectors k ≡ false
            → place_at on (rows_left on lba (lba + sectors) test rows) k ≡ place_at on rows k
        unfolding rows_left
        left_outside [] k shortest outside = refl
        left_outside (row ∷ rows) k shortest outside =
            let more = rows_left on lba (lba + sectors) test rows in
            let rest = same_after on row more rows k (left_outside rows k shortest.2 outside) in
            elim (cases_Bool (test row.place)) [
              | inl passes ↦
                  ap (λ xs. place_at on xs k) (left_true on lba (lba + sectors) order test row rows passes)
                  ∙ parts_outside row more k shortest.0 outside
                  ∙ rest
              | inr fails ↦
                  ap (λ xs. place_at on xs k) (left_false on lba (lba + sectors) order test row rows fails) ∙ rest
            ]

        -- ---- and those inside

        unless_true : (place : P) → test place ≡ true → place_unless test (Some place) ≡ None
        unless_true place passes = ap (λ b. cond b None (Some place)) passes

        unless_false : (place : P) → test place ≡ false → place_unless test (Some place) ≡ Some place
        unless_false place fails = ap (λ b. cond b None (Some place)) fails

        -- a row gives none of the sectors that it does not cover
        beside_row : (row : Extent P) (rows : List (Extent P)) (k : ℕ) → 0 < row.sectors → lba ≤ k → k < lba + sectors
            → ((xs : List (Extent P)) → place_at on (row ∷ xs) k ≡ place_at on xs k)
            → place_at on (rows_left on lba (lba + sectors) test (row ∷ rows)) k
            ≡ place_at on (rows_left on lba (lba + sectors) test rows) k
        beside_row row rows k some_row from inside beside =
            let more = rows_left on lba (lba + sectors) test rows in
            elim (cases_Bool (test row.place)) [
              | inl passes ↦
                  ap (λ xs. place_at on xs k) (left_true on lba (lba + sectors) order test row rows passes)
                  ∙ parts_inside row more k some_row from inside
              | inr fails ↦
                  ap (λ xs. place_at on xs k) (left_false on lba (lba + sectors) order test row rows fails) ∙ beside more
            ]

        -- and those that it covers, if its place fails the test
        inside_row : (row : Extent P) (rows : List (Extent P)) (k : ℕ) → IsShortest on (row ∷ rows) → lba ≤ k
            → k < lba + sectors → row.lba ≤ k → k < row.lba + row.sectors
            → place_at on (rows_left on lba (lba + sectors) test (row ∷ rows)) k
            ≡ place_unless test (place_at on (row ∷ rows) k)
        inside_row row rows k shortest from inside begun covered =
            let more = rows_left on lba (lba + sectors) test rows in
            let place = on (k - row.lba) row.place in
            let alike = same (k - row.lba) row.place in
            let given = at_inside on row rows k begun covered in
            elim (cases_Bool (test row.place)) [
              | inl passes ↦
                  ap (λ xs. place_at on xs k) (left_true on lba (lba + sectors) order test row rows passes)
                  ∙ parts_inside row more k shortest.0 from inside
                  ∙ none_before on more (row.lba + row.sectors) k
                  (shortest_left on lba (lba + sectors) order test on_twice rows shortest.2)
                  (starts_left on lba (lba + sectors) order test (row.lba + row.sectors) rows shortest.2
                  (after_row on row rows shortest.1)) covered
                  ∙ sym (ap (place_unless test) given ∙ unless_true place (alike ∙ passes))
              | inr fails ↦
                  ap (λ xs. place_at on xs k) (left_false on lba (lba + sectors) order test row rows fails)
                  ∙ at_inside on row more k begun covered
                  ∙ sym (ap (place_unless test) given ∙ unless_false place (alike ∙ fails))
            ]

        left_inside : (rows : List (Extent P)) (k : ℕ) → IsShortest on rows → lba ≤ k → k < lba + sectors
            → place_at on (rows_left on lba (lba + sectors) test rows) k ≡ place_unless test (place_at on rows k)
        unfolding rows_left
        left_inside [] k shortest from inside = refl
        left_inside (row ∷ rows) k shortest from inside =
            let rest = left_inside rows k shortest.2 from inside in
            elim (cases_lt k row.lba) [
              | inl low ↦
                  beside_row row rows k shortest.0 from inside (λ xs. at_below on row xs k low)
                  ∙ rest
                  ∙ sym (ap (place_unless test) (at_below on row rows k low))
              | inr begun ↦ elim (cases_lt k (row.lba + row.sectors)) [
                | inl covered ↦ inside_row row rows k shortest from inside begun covered
                | inr past ↦
                    beside_row row rows k shortest.0 from inside (λ xs. at_past on row xs k past)
                    ∙ rest
                    ∙ sym (ap (place_unless test) (at_past on row rows k past))
              ]
            ]

        pub places_left : (rows : List (Extent P)) (k : ℕ) → IsShortest on rows
            → place_at on (rows_left on lba (lba + sectors) test rows) k
            ≡ place_after_clear_if lba sectors test (place_at on rows) k
        places_left rows k shortest =
            let old = place_at on rows k in
            elim (cases_lt k lba) [
              | inl low ↦
                  let out = not_below lba sectors k low in
                  left_outside rows k shortest out
                  ∙ sym (ap (λ b. cond b (place_unless test (place_at on rows k)) (place_at on rows k)) out)
              | inr from ↦ elim (cases_lt k (lba + sectors)) [
                | inl inside ↦
                    left_inside rows k shortest from inside
                    ∙ sym (ap (λ b. cond b (place_unless test (place_at on rows k)) (place_at on rows k))
                    (within lba sectors k from inside))
                | inr past ↦
                    let out = not_past lba sectors k past in
                    left_outside rows k shortest out
                    ∙ sym (ap (λ b. cond b (place_unless test (place_at on rows k)) (place_at on rows k)) out)
              ]
            ]
