-- What is left of rows, by the first of those that may reach between the two sectors.
use Rattle.std.proofs.Common.{ℕ, zero, suc, ◌+◌, ◌-◌, ◌<◌, ◌≤◌, ◌≡◌, inl, inr, Some, None, Bool, true, false, List, [], ◌∷◌, ◌++◌}
use Rattle.std.proofs.Common.{take, drop, sym, ◌∙◌, ap, subst, arith, take-append-drop}
use Rattle.std.specs.Prelude.{slice_get}
use Rattle.std.proofs.lemmas.Bool.{cases_lt}
use Rattle.std.proofs.lemmas.List.{append-nil}
use Rattle.extent_map.specs.declared.extent.Extent.{Extent}
use Rattle.extent_map.specs.Extents.{IsShortest}
use Rattle.extent_map.specs.Cut.{cut_short, part_from, rest_of, before_count}
use Rattle.extent_map.specs.Clear.{NoneSpans, parts_left, rows_left}
use Rattle.extent_map.specs.Join.{EndBy}
use Rattle.extent_map.specs.Laws.{StartsFrom}
use Rattle.extent_map.proofs.Places.{starts_earlier, after_row}
use Rattle.extent_map.proofs.Order.{shortest_drop}
use Rattle.extent_map.proofs.Cuts.{part_crosses, rest_crosses}
use Rattle.extent_map.proofs.Counts.{starts_after}
use Rattle.extent_map.proofs.CutIndex.{no_count_starts}
use Rattle.extent_map.proofs.Looked.{ends_before}
use Rattle.extent_map.proofs.PutPlaces.{rest_at, none_left}
use Rattle.extent_map.proofs.Left.{left_true, left_false, all_past, all_early}
use Rattle.extent_map.proofs.Kept.{left_append}

module _ {P : Type 0} (on : ℕ → P → P) where
  starts_drop : (at n : ℕ) (rows : List (Extent P)) → IsShortest on rows → StartsFrom at rows → StartsFrom at (drop n rows)
  starts_drop at zero rows shortest start = start
  starts_drop at (suc n) [] shortest start = tt
  starts_drop at (suc n) (row ∷ rows) shortest start =
      starts_drop at n rows shortest.2
      (starts_earlier at (row.lba + row.sectors) rows (omega arith) (after_row on row rows shortest.1))

  -- rows from a sector on do not reach over it
  spans_after : (lba end : ℕ) (rows : List (Extent P)) → IsShortest on rows → StartsFrom lba rows → NoneSpans lba end rows
  spans_after lba end [] shortest start = tt
  spans_after lba end (row ∷ rows) shortest start = (
    λ early. absurd (omega arith),
    spans_after lba end rows shortest.2
        (starts_earlier lba (row.lba + row.sectors) rows (omega arith) (after_row on row rows shortest.1)),
  )

  module _ (lba end : ℕ) (order : lba < end) (test : P → Bool) (rows : List (Extent P)) (shortest : IsShortest on rows)
      (first : ℕ) (is_first : first ≡ before_count lba rows - 1) where
    early : EndBy lba (take first rows)
    early = subst (λ n. EndBy lba (take n rows)) (sym is_first) (ends_before on lba rows shortest)

    pub none_met : slice_get rows first ≡ None → rows ≡ rows_left on lba end test rows
    none_met none =
        let all : take first rows ≡ rows =
        sym (append-nil (take first rows))
        ∙ ap (λ xs. take first rows ++ xs) (sym (none_left rows first none))
        ∙ take-append-drop first rows in
        sym (subst (λ xs. rows_left on lba end test xs ≡ xs) all (all_early on lba end order test (take first rows) early))

    -- the rows before the first are left, and what is left of the others
    pub some_kept : take first rows ++ rows_left on lba end test (drop first rows) ≡ rows_left on lba end test rows
    some_kept =
        ap (λ xs. xs ++ rows_left on lba end test (drop first rows))
        (sym (all_early on lba end order test (take first rows) early))
        ∙ sym (left_append on lba end order test (take first rows) (drop first rows))
        ∙ ap (rows_left on lba end test) (take-append-drop first rows)

    module _ (row : Extent P) (read : slice_get rows first ≡ Some row) where
      at_first : drop first rows ≡ row ∷ drop (first + 1) rows
      at_first = rest_at rows first row read

      from_first : IsShortest on (row ∷ drop (first + 1) rows)
      from_first = subst (IsShortest on) at_first (shortest_drop on first rows shortest)

      rest_past : end < row.lba + row.sectors → rows_left on lba end test (drop (first + 1) rows) ≡ drop (first + 1) rows
      rest_past over =
          all_past on lba end order test (drop (first + 1) rows) from_first.2
          (starts_earlier end (row.lba + row.sectors) (drop (first + 1) rows) (omega arith)
          (after_row on row (drop (first + 1) rows) from_first.1))

      pub cut_left : test row.place ≡ true → row.lba < lba → end < row.lba + row.sectors
          → take first rows ++ cut_short lba row ∷ rest_of on end row ∷ drop (first + 1) rows ≡ rows_left on lba end test rows
      cut_left passes begun over =
          let back = drop (first + 1) rows in
          ap (λ xs. take first rows ++ xs) (sym (ap (rows_left on lba end test) at_first
          ∙ left_true on lba end order test row back passes
          ∙ ap (parts_left on lba end row) (rest_past over)
          ∙ part_crosses lba row (part_from on end row back) begun (omega arith)
          ∙ ap (λ xs. cut_short lba row ∷ xs) (rest_crosses on end row back (omega arith) over)))
          ∙ some_kept

      pub whole_left : test row.place ≡ false → end < row.lba + row.sectors → rows ≡ rows_left on lba end test rows
      whole_left fails over =
          let back = drop (first + 1) rows in
          sym (take-append-drop first rows)
          ∙ ap (λ xs. take first rows ++ xs) (at_first
          ∙ sym (ap (rows_left on lba end test) at_first
          ∙ left_false on lba end order test row back fails
          ∙ ap (λ xs. row ∷ xs) (rest_past over)))
          ∙ some_kept

      pub none_spans : (row.lba < lba → row.lba + row.sectors ≤ end) → NoneSpans lba end (drop first rows)
      none_spans spans =
          let start : StartsFrom lba (drop (first + 1) rows) =
          elim (cases_lt 0 (before_count lba rows)) [
            | inl some ↦
                let is : first + 1 ≡ before_count lba rows = omega (arith, is_first) in
                subst (λ n. StartsFrom lba (drop n rows)) (sym is) (starts_after lba rows)
            | inr none ↦
                starts_drop lba (first + 1) rows shortest (no_count_starts on lba rows (omega arith))
          ] in
          subst (NoneSpans lba end) (sym at_first) (spans, spans_after lba end (drop (first + 1) rows) from_first.2 start)
