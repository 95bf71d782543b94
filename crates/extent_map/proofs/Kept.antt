-- The loop that keeps what is left of rows.
use Rattle.std.proofs.Common.{ℕ, ◌+◌, ◌-◌, ◌<◌, ◌≤◌, ◌≡◌, inl, inr, Some, None, Bool, true, false, List, [], ◌∷◌, ◌++◌, take}
use Rattle.std.proofs.Common.{drop, refl, sym, ◌∙◌, ap, subst, arith, append_assoc}
use Rattle.std.specs.Prelude.{option_to_list, slice_get}
use Rattle.std.specs.Option.{option_or}
use Rattle.std.proofs.lemmas.Bool.{cases_lt, cases_Bool}
use Rattle.std.proofs.lemmas.List.{drop-drop}
use Rattle.extent_map.specs.declared.extent.Extent.{Extent}
use Rattle.extent_map.specs.Extents.{IsShortest, Fits, AllFit}
use Rattle.extent_map.specs.Cut.{part_before, part_from}
use Rattle.extent_map.specs.Clear.{NoneSpans, parts_left, rows_left}
use Rattle.extent_map.specs.Laws.{StartsFrom}
use Rattle.extent_map.proofs.Cuts.{ends, crosses, starts, meets, part_ends, part_crosses, part_starts, rest_starts, rest_crosses}
use Rattle.extent_map.proofs.Cuts.{rest_ends}
use Rattle.extent_map.proofs.Left.{left_true, left_false, all_past}
use Rattle.extent_map.proofs.PutPlaces.{rest_at, none_left}

module _ {P : Type 0} where
  pub before_append : (at : ℕ) (row : Extent P) (a b : List (Extent P)) → part_before at row (a ++ b) ≡ part_before at row a ++ b
  before_append at row a b =
      elim (meets at row) [
        | ends ended ↦ rw (part_ends at row (a ++ b) ended, part_ends at row a ended)
        | crosses after inside ↦
            rw (part_crosses at row (a ++ b) after inside, part_crosses at row a after inside)
        | starts before inside ↦
            rw (part_starts at row (a ++ b) before inside, part_starts at row a before inside)
      ]

module _ {P : Type 0} (on : ℕ → P → P) (lba end : ℕ) (test : P → Bool) (number : P → ℕ) (whole : List (Extent P)) where
  -- the rows that were kept, and what is left of those that are still to be read, are these rows
  pub record KeptSoFar (rows : List (Extent P)) (kept index : ℕ) : Type 0 where
    pub all : take kept rows ++ rows_left on lba end test (drop index rows) ≡ whole
    pub behind : kept ≤ index
    pub shortest : IsShortest on (drop index rows)
    pub fits : AllFit number (drop index rows)
    pub spans : NoneSpans lba end (drop index rows)

module _ {P : Type 0} (on : ℕ → P → P) where
  pub from_append : (at : ℕ) (row : Extent P) (a b : List (Extent P))
      → part_from on at row (a ++ b) ≡ part_from on at row a ++ b
  from_append at row a b =
      elim (cases_lt row.lba at) [
        | inl early ↦ elim (cases_lt at (row.lba + row.sectors)) [
          | inl inside ↦ rw (rest_crosses on at row (a ++ b) early inside, rest_crosses on at row a early inside)
          | inr ended ↦ rw (rest_ends on at row (a ++ b) early ended, rest_ends on at row a early ended)
        ]
        | inr before ↦ rw (rest_starts on at row (a ++ b) before, rest_starts on at row a before)
      ]

  module _ (lba end : ℕ) (order : lba < end) where
    parts_append : (row : Extent P) (a b : List (Extent P))
        → parts_left on lba end row (a ++ b) ≡ parts_left on lba end row a ++ b
    parts_append row a b =
        ap (part_before lba row) (from_append end row a b) ∙ before_append lba row (part_from on end row a) b

    -- a row that does not reach over both sectors has one part at most
    pub one_part : (row : Extent P) → (row.lba < lba → row.lba + row.sectors ≤ end)
        → option_to_list (option_or (slice_get (part_before lba row []) 0) (slice_get (part_from on end row []) 0))
        ≡ parts_left on lba end row []
    one_part row spans =
        elim (meets lba row) [
          | ends ended ↦
              rw (
                part_ends lba row (part_from on end row []) ended,
                part_ends lba row [] ended,
                rest_ends on end row []
                    (omega arith) (omega arith),
              )
          | crosses after inside ↦
              rw (
                part_crosses lba row (part_from on end row []) after inside,
                part_crosses lba row [] after inside,
                rest_ends on
                    end row [] (omega arith) (spans after),
              )
          | starts before inside ↦
              rw (part_starts lba row (part_from on end row []) before inside, part_starts lba row [] before inside)
              (elim (cases_lt row.lba end) [
                | inl early ↦ elim (cases_lt end (row.lba + row.sectors)) [
                  | inl over ↦ rw (rest_crosses on end row [] early over)
                  | inr ended ↦ rw (rest_ends on end row [] early ended)
                ]
                | inr beyond ↦ rw (rest_starts on end row [] beyond)
              ])
        ]

    module _ (test : P → Bool) where
      pub left_append : (a b : List (Extent P))
          → rows_left on lba end test (a ++ b) ≡ rows_left on lba end test a ++ rows_left on lba end test b
      unfolding rows_left
      left_append [] b = refl
      left_append (row ∷ a) b =
          let more = rows_left on lba end test a in
          let rest = left_append a b in
          elim (cases_Bool (test row.place)) [
            | inl passes ↦
                left_true on lba end order test row (a ++ b) passes
                ∙ ap (parts_left on lba end row) rest
                ∙ parts_append row more (rows_left on lba end test b)
                ∙ sym (ap (λ xs. xs ++ rows_left on lba end test b) (left_true on lba end order test row a passes))
            | inr fails ↦
                left_false on lba end order test row (a ++ b) fails
                ∙ ap (λ xs. row ∷ xs) rest
                ∙ sym (ap (λ xs. xs ++ rows_left on lba end test b) (left_false on lba end order test row a fails))
          ]

      left_of_none : rows_left on lba end test [] ≡ []
      unfolding rows_left
      left_of_none = refl

      -- ---- one row

      pub kept_row : (row : Extent P) → test row.place ≡ false → row ∷ [] ≡ rows_left on lba end test (row ∷ [])
      kept_row row fails =
          sym (left_false on lba end order test row [] fails ∙ ap (λ xs. row ∷ xs) left_of_none)

      pub kept_part : (row : Extent P) → test row.place ≡ true
          → parts_left on lba end row [] ≡ rows_left on lba end test (row ∷ [])
      kept_part row passes =
          sym (left_true on lba end order test row [] passes ∙ ap (parts_left on lba end row) left_of_none)

      -- ---- the loop

      module _ (number : P → ℕ) (whole rows : List (Extent P)) (kept index : ℕ)
          (so_far : KeptSoFar on lba end test number whole rows kept index) where
        pub kept_all : slice_get rows index ≡ None → take kept rows ++ drop index rows ≡ whole
        kept_all none =
            let is = none_left rows index none in
            ap (λ xs. take kept rows ++ xs) (is ∙ sym (ap (rows_left on lba end test) is ∙ left_of_none)) ∙ so_far.all

        module _ (row : Extent P) (read : slice_get rows index ≡ Some row) where
          is_next : drop index rows ≡ row ∷ drop (index + 1) rows
          is_next = rest_at rows index row read

          pub next_fits : Fits number row
          next_fits = (subst (AllFit number) is_next so_far.fits).0

          pub next_spans : row.lba < lba → row.lba + row.sectors ≤ end
          next_spans = (subst (NoneSpans lba end) is_next so_far.spans).0

          pub kept_past : end ≤ row.lba → take kept rows ++ drop index rows ≡ whole
          kept_past late =
              let start = subst (StartsFrom end) (sym is_next) late in
              ap (λ xs. take kept rows ++ xs) (sym (all_past on lba end order test (drop index rows) so_far.shortest start))
              ∙ so_far.all

          -- what is left of the row is put behind the rows that were kept
          pub kept_more : (next parts : List (Extent P)) (k m n : ℕ) → parts ≡ rows_left on lba end test (row ∷ [])
              → take k next ≡ take kept rows ++ parts → drop (kept + 1) next ≡ drop (kept + 1) rows → k ≤ kept + 1 → m ≡ k
              → n ≡ index + 1
              → KeptSoFar on lba end test number whole next m n
          kept_more next parts k m n left front back near same_kept more_read =
              let far : kept + 1 + (index - kept) ≡ index + 1 = omega (arith, so_far.behind) in
              let same : drop (index + 1) next ≡ drop (index + 1) rows =
              ap (λ n. drop n next) (sym far)
              ∙ sym (drop-drop (index - kept) (kept + 1) next)
              ∙ ap (drop (index - kept)) back
              ∙ drop-drop (index - kept) (kept + 1) rows
              ∙ ap (λ n. drop n rows) far in
              let more = rows_left on lba end test (drop (index + 1) rows) in
              let here : KeptSoFar on lba end test number whole next k (index + 1) = record {
                all = ap (λ xs. xs ++ rows_left on lba end test (drop (index + 1) next)) front
                    ∙ ap (λ xs. (take kept rows ++ parts) ++ rows_left on lba end test xs) same
                    ∙ append_assoc (take kept rows) parts more
                    ∙ ap (λ xs. take kept rows ++ xs) (ap (λ xs. xs ++ more) left
                    ∙ sym (left_append (row ∷ []) (drop (index + 1) rows))
                    ∙ ap (rows_left on lba end test) (sym is_next))
                    ∙ so_far.all;
                behind = omega (arith, near, so_far.behind);
                shortest = subst (IsShortest on) (sym same) (subst (IsShortest on) is_next so_far.shortest).2;
                fits = subst (AllFit number) (sym same) (subst (AllFit number) is_next so_far.fits).1;
                spans = subst (NoneSpans lba end) (sym same) (subst (NoneSpans lba end) is_next so_far.spans).1;
              } in
              subst (λ j. KeptSoFar on lba end test number whole next m j) (sym more_read)
              (subst (λ j. KeptSoFar on lba end test number whole next j (index + 1)) (sym same_kept) here)
