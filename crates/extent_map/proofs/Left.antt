-- Rows of which some lose the sectors of a range, row by row.
use Rattle.std.proofs.Common.{ℕ, ◌+◌, ◌-◌, ◌<◌, ◌≤◌, ◌≡◌, inl, inr, Bool, true, false, cond, List, [], ◌∷◌, refl, sym, ◌∙◌, ap}
use Rattle.std.proofs.Common.{subst, arith}
use Rattle.std.proofs.lemmas.Bool.{cases_lt, cases_Bool}
use Rattle.extent_map.specs.declared.extent.Extent.{Extent}
use Rattle.extent_map.specs.Extents.{NumbersGoOn, ComesBeforeFirst, IsShortest, AllFit}
use Rattle.extent_map.specs.Cut.{cut_short, part_from, rest_of}
use Rattle.extent_map.specs.Clear.{parts_left, rows_left}
use Rattle.extent_map.specs.Join.{EndBy}
use Rattle.extent_map.specs.Laws.{StartsFrom}
use Rattle.extent_map.proofs.Places.{number_at_most, starts_earlier, after_row}
use Rattle.extent_map.proofs.Order.{before_same, before_gap}
use Rattle.extent_map.proofs.Cuts.{ends, crosses, starts, meets, part_ends, part_crosses, part_starts, rest_starts, rest_crosses}
use Rattle.extent_map.proofs.Cuts.{rest_ends, rest_before}

module _ {P : Type 0} (on : ℕ → P → P) (lba end : ℕ) (order : lba < end) where
  -- which parts of a row are left, and the rows after it
  pub data Left (row : Extent P) (rows left : List (Extent P)) : Type 0 where
    whole : left ≡ row ∷ rows → Left row rows left
    front : row.lba < lba → lba < row.lba + row.sectors → row.lba + row.sectors ≤ end → left ≡ cut_short lba row ∷ rows
        → Left row rows left
    back : lba ≤ row.lba → row.lba < end → end < row.lba + row.sectors → left ≡ rest_of on end row ∷ rows
        → Left row rows left
    both : row.lba < lba → end < row.lba + row.sectors → left ≡ cut_short lba row ∷ rest_of on end row ∷ rows
        → Left row rows left
    none : left ≡ rows → Left row rows left

  parts_are : (row : Extent P) (rows : List (Extent P)) → Left row rows (parts_left on lba end row rows)
  parts_are row rows =
      let later = part_from on end row rows in
      elim (meets lba row) [
        | ends ended ↦
            whole
            (part_ends lba row later ended ∙ ap (λ xs. row ∷ xs) (rest_ends on end row rows (omega arith) (omega arith)))
        | crosses after inside ↦ elim (cases_lt end (row.lba + row.sectors)) [
          | inl over ↦
              both after over
              (part_crosses lba row later after inside
              ∙ ap (λ xs. cut_short lba row ∷ xs) (rest_crosses on end row rows (omega arith) over))
          | inr ended ↦
              front after inside ended
              (part_crosses lba row later after inside
              ∙ ap (λ xs. cut_short lba row ∷ xs) (rest_ends on end row rows (omega arith) ended))
        ]
        | starts before inside ↦ elim (cases_lt row.lba end) [
          | inl early ↦ elim (cases_lt end (row.lba + row.sectors)) [
            | inl over ↦
                back before early over
                (part_starts lba row later before inside ∙ rest_crosses on end row rows early over)
            | inr ended ↦ none (part_starts lba row later before inside ∙ rest_ends on end row rows early ended)
          ]
          | inr beyond ↦
              whole (part_starts lba row later before inside ∙ rest_starts on end row rows beyond)
        ]
      ]

  module _ (test : P → Bool) where
    pub left_true : (row : Extent P) (rows : List (Extent P)) → test row.place ≡ true
        → rows_left on lba end test (row ∷ rows) ≡ parts_left on lba end row (rows_left on lba end test rows)
    unfolding rows_left
    left_true row rows passes =
        ap (λ b. cond b (parts_left on lba end row (rows_left on lba end test rows)) (row ∷ rows_left on lba end test rows))
        passes

    pub left_false : (row : Extent P) (rows : List (Extent P)) → test row.place ≡ false
        → rows_left on lba end test (row ∷ rows) ≡ row ∷ rows_left on lba end test rows
    unfolding rows_left
    left_false row rows fails =
        ap (λ b. cond b (parts_left on lba end row (rows_left on lba end test rows)) (row ∷ rows_left on lba end test rows)) fails

    left_is : (row : Extent P) (rows : List (Extent P))
        → Left row (rows_left on lba end test rows) (rows_left on lba end test (row ∷ rows))
    left_is row rows =
        let more = rows_left on lba end test rows in
        elim (cases_Bool (test row.place)) [
          | inl passes ↦ subst (Left row more) (sym (left_true row rows passes)) (parts_are row more)
          | inr fails ↦ whole (left_false row rows fails)
        ]

    -- ---- rows outside the range

    row_past : (row : Extent P) (rows : List (Extent P)) → end ≤ row.lba → 0 < row.sectors
        → rows_left on lba end test (row ∷ rows) ≡ row ∷ rows_left on lba end test rows
    row_past row rows beyond some =
        let more = rows_left on lba end test rows in
        elim (cases_Bool (test row.place)) [
          | inl passes ↦
              left_true row rows passes
              ∙ part_starts lba row (part_from on end row more) (omega arith) (omega arith)
              ∙ rest_starts on end row more beyond
          | inr fails ↦ left_false row rows fails
        ]

    row_early : (row : Extent P) (rows : List (Extent P)) → row.lba + row.sectors ≤ lba
        → rows_left on lba end test (row ∷ rows) ≡ row ∷ rows_left on lba end test rows
    row_early row rows ended =
        let more = rows_left on lba end test rows in
        elim (cases_Bool (test row.place)) [
          | inl passes ↦
              left_true row rows passes
              ∙ part_ends lba row (part_from on end row more) ended
              ∙ ap (λ xs. row ∷ xs) (rest_ends on end row more (omega arith) (omega arith))
          | inr fails ↦ left_false row rows fails
        ]

    pub all_past : (rows : List (Extent P)) → IsShortest on rows → StartsFrom end rows
        → rows_left on lba end test rows ≡ rows
    unfolding rows_left
    all_past [] shortest start = refl
    all_past (row ∷ rows) shortest start =
        row_past row rows start shortest.0
        ∙ ap (λ xs. row ∷ xs) (all_past rows shortest.2
        (starts_earlier end (row.lba + row.sectors) rows (omega arith) (after_row on row rows shortest.1)))

    pub all_early : (rows : List (Extent P)) → EndBy lba rows → rows_left on lba end test rows ≡ rows
    unfolding rows_left
    all_early [] ended = refl
    all_early (row ∷ rows) ended =
        row_early row rows ended.0 ∙ ap (λ xs. row ∷ xs) (all_early rows ended.1)

    -- ---- they are in order

    pub starts_left : (at : ℕ) (rows : List (Extent P)) → IsShortest on rows → StartsFrom at rows
        → StartsFrom at (rows_left on lba end test rows)
    unfolding rows_left
    starts_left at [] shortest start = tt
    starts_left at (row ∷ rows) shortest start =
        let more = starts_left at rows shortest.2
        (starts_earlier at (row.lba + row.sectors) rows (omega arith) (after_row on row rows shortest.1)) in
        elim (left_is row rows) [
          | whole is ↦ subst (StartsFrom at) (sym is) start
          | front after inside ended is ↦ subst (StartsFrom at) (sym is) start
          | back from early over is ↦ subst (StartsFrom at) (sym is) (omega arith)
          | both after over is ↦ subst (StartsFrom at) (sym is) start
          | none is ↦ subst (StartsFrom at) (sym is) more
        ]

    first_left : (row : Extent P) (rows : List (Extent P)) → IsShortest on rows → ComesBeforeFirst on row rows
        → ComesBeforeFirst on row (rows_left on lba end test rows)
    unfolding rows_left
    first_left row [] shortest before = tt
    first_left row (next ∷ rows) shortest before =
        let in_order = before.in_order in
        let short = before_same on row next (cut_short lba next) refl refl before in
        elim (left_is next rows) [
          | whole is ↦ subst (ComesBeforeFirst on row) (sym is) before
          | front after inside ended is ↦ subst (ComesBeforeFirst on row) (sym is) short
          | back from early over is ↦
              subst (ComesBeforeFirst on row) (sym is)
              (record { in_order = omega arith; apart = λ touch goes. absurd (omega arith) })
          | both after over is ↦ subst (ComesBeforeFirst on row) (sym is) short
          | none is ↦
              subst (ComesBeforeFirst on row) (sym is)
              (before_gap on row (rows_left on lba end test rows) (row.lba + row.sectors) (next.lba + next.sectors) (omega arith)
              (starts_left (next.lba + next.sectors) rows shortest.2 (after_row on next rows shortest.1))
              (omega (arith, shortest.0)))
        ]

    module _ (on_twice : (a b : ℕ) (p : P) → on a (on b p) ≡ on (b + a) p) where
      pub shortest_left : (rows : List (Extent P)) → IsShortest on rows → IsShortest on (rows_left on lba end test rows)
      unfolding rows_left
      shortest_left [] shortest = tt
      shortest_left (row ∷ rows) shortest =
          let more = rows_left on lba end test rows in
          let rest = shortest_left rows shortest.2 in
          let first = first_left row rows shortest.2 shortest.1 in
          let beyond = starts_left (row.lba + row.sectors) rows shortest.2 (after_row on row rows shortest.1) in
          elim (left_is row rows) [
            | whole is ↦ subst (IsShortest on) (sym is) (shortest.0, first, rest)
            | front after inside ended is ↦
                subst (IsShortest on) (sym is) (
                  omega arith,
                  before_gap on (cut_short lba row) more lba (row.lba + row.sectors) (omega arith) beyond
                      (omega arith),
                  rest,
                )
            | back from early over is ↦
                subst (IsShortest on) (sym is) (omega arith, rest_before on on_twice end row more early over first, rest)
            | both after over is ↦
                subst (IsShortest on) (sym is) (
                  omega arith,
                  record { in_order = omega arith; apart = λ touch goes. absurd (omega arith) },
                  (omega arith, rest_before on on_twice end row more (omega arith) over first, rest),
                )
            | none is ↦ subst (IsShortest on) (sym is) rest
          ]

    -- ---- how many rows they are, and where they end

    pub fit_left : (number : P → ℕ) → NumbersGoOn on number → (rows : List (Extent P)) → AllFit number rows
        → AllFit number (rows_left on lba end test rows)
    unfolding rows_left
    fit_left number number_on [] fits = tt
    fit_left number number_on (row ∷ rows) fits =
        let rest = fit_left number number_on rows fits.1 in
        let sectors = fits.0.sectors in
        let places = fits.0.places in
        elim (left_is row rows) [
          | whole is ↦ subst (AllFit number) (sym is) (fits.0, rest)
          | front after inside ended is ↦
              subst (AllFit number) (sym is) (record { sectors = omega arith; places = omega arith }, rest)
          | back from early over is ↦
              subst (AllFit number) (sym is) (
                record {
                  sectors = omega arith;
                  places = omega (arith, number_at_most on number number_on (end - row.lba) row.place);
                },
                rest,
              )
          | both after over is ↦
              subst (AllFit number) (sym is) (
                record { sectors = omega arith; places = omega arith },
                (
                  record {
                    sectors = omega arith;
                    places = omega (arith, number_at_most on number number_on (end - row.lba) row.place);
                  },
                  rest,
                ),
              )
          | none is ↦ subst (AllFit number) (sym is) rest
        ]
