-- Rows that are cut at a sector, row by row.
use Rattle.std.proofs.Common.{ℕ, ◌+◌, ◌-◌, ◌<◌, ◌≤◌, ◌≡◌, inl, inr, true, false, nat_le, nat_lt, List, [], ◌∷◌, refl, sym, ◌∙◌}
use Rattle.std.proofs.Common.{ap, arith}
use Rattle.std.proofs.lemmas.Bool.{cases_lt}
use Rattle.std.proofs.lemmas.Bool.Decides.{nat_tests}
use Rattle.extent_map.specs.declared.extent.Extent.{Extent}
use Rattle.extent_map.specs.Extents.{ComesBeforeFirst, IsShortest}
use Rattle.extent_map.specs.Cut.{cut_short, part_before, part_from, rows_before, rows_from, rest_of}
use Rattle.extent_map.specs.Laws.{StartsFrom}
use Rattle.extent_map.proofs.Places.{starts_earlier, after_row}
use Rattle.extent_map.specs.Join.{EndBy}
use Rattle.extent_map.proofs.Order.{before_same}

is_le : (a b : ℕ) → a ≤ b → nat_le a b ≡ true
is_le a b h = grind (arith, nat_tests)

not_le : (a b : ℕ) → b < a → nat_le a b ≡ false
not_le a b h = grind (arith, nat_tests)

is_lt : (a b : ℕ) → a < b → nat_lt a b ≡ true
is_lt a b h = grind (arith, nat_tests)

not_lt : (a b : ℕ) → b ≤ a → nat_lt a b ≡ false
not_lt a b h = grind (arith, nat_tests)

module _ {P : Type 0} where
  -- ---- where a sector is to a row

  pub data Meets (at : ℕ) (row : Extent P) : Type 0 where
    ends : row.lba + row.sectors ≤ at → Meets at row
    crosses : row.lba < at → at < row.lba + row.sectors → Meets at row
    starts : at ≤ row.lba → at < row.lba + row.sectors → Meets at row

  pub meets : (at : ℕ) (row : Extent P) → Meets at row
  meets at row =
      elim (cases_lt at (row.lba + row.sectors)) [
        | inl inside ↦ elim (cases_lt row.lba at) [ inl after ↦ crosses after inside | inr before ↦ starts before inside ]
        | inr ended ↦ ends ended
      ]

  -- ---- the part of a row before a sector

  pub part_ends : (at : ℕ) (row : Extent P) (rows : List (Extent P)) → row.lba + row.sectors ≤ at
      → part_before at row rows ≡ row ∷ rows
  part_ends at row rows ended = rw (is_le (row.lba + row.sectors) at ended)

  pub part_crosses : (at : ℕ) (row : Extent P) (rows : List (Extent P)) → row.lba < at → at < row.lba + row.sectors
      → part_before at row rows ≡ cut_short at row ∷ rows
  part_crosses at row rows after inside = rw (not_le (row.lba + row.sectors) at inside, is_lt row.lba at after)

  pub part_starts : (at : ℕ) (row : Extent P) (rows : List (Extent P)) → at ≤ row.lba → at < row.lba + row.sectors
      → part_before at row rows ≡ rows
  part_starts at row rows before inside = rw (not_le (row.lba + row.sectors) at inside, not_lt row.lba at before)

  -- ---- the rows before a sector

  pub before_ends : (at : ℕ) (row : Extent P) (rows : List (Extent P)) → row.lba + row.sectors ≤ at
      → rows_before at (row ∷ rows) ≡ row ∷ rows_before at rows
  unfolding rows_before
  before_ends at row rows ended = part_ends at row (rows_before at rows) ended

  pub before_crosses : (at : ℕ) (row : Extent P) (rows : List (Extent P)) → row.lba < at → at < row.lba + row.sectors
      → rows_before at (row ∷ rows) ≡ cut_short at row ∷ rows_before at rows
  unfolding rows_before
  before_crosses at row rows after inside = part_crosses at row (rows_before at rows) after inside

  pub before_starts : (at : ℕ) (row : Extent P) (rows : List (Extent P)) → at ≤ row.lba → at < row.lba + row.sectors
      → rows_before at (row ∷ rows) ≡ rows_before at rows
  unfolding rows_before
  before_starts at row rows before inside = part_starts at row (rows_before at rows) before inside

module _ {P : Type 0} (on : ℕ → P → P) where
  -- ---- the part of a row from a sector on

  pub rest_starts : (at : ℕ) (row : Extent P) (rows : List (Extent P)) → at ≤ row.lba
      → part_from on at row rows ≡ row ∷ rows
  rest_starts at row rows before = rw (is_le at row.lba before)

  pub rest_crosses : (at : ℕ) (row : Extent P) (rows : List (Extent P)) → row.lba < at → at < row.lba + row.sectors
      → part_from on at row rows ≡ rest_of on at row ∷ rows
  rest_crosses at row rows after inside = rw (not_le at row.lba after, is_lt at (row.lba + row.sectors) inside)

  pub rest_ends : (at : ℕ) (row : Extent P) (rows : List (Extent P)) → row.lba < at → row.lba + row.sectors ≤ at
      → part_from on at row rows ≡ rows
  rest_ends at row rows after ended = rw (not_le at row.lba after, not_lt at (row.lba + row.sectors) ended)

  -- ---- the rows from a sector on

  pub from_starts : (at : ℕ) (row : Extent P) (rows : List (Extent P)) → at ≤ row.lba
      → rows_from on at (row ∷ rows) ≡ row ∷ rows_from on at rows
  unfolding rows_from
  from_starts at row rows before = rest_starts at row (rows_from on at rows) before

  pub from_crosses : (at : ℕ) (row : Extent P) (rows : List (Extent P)) → row.lba < at → at < row.lba + row.sectors
      → rows_from on at (row ∷ rows) ≡ rest_of on at row ∷ rows_from on at rows
  unfolding rows_from
  from_crosses at row rows after inside = rest_crosses at row (rows_from on at rows) after inside

  pub from_ends : (at : ℕ) (row : Extent P) (rows : List (Extent P)) → row.lba < at → row.lba + row.sectors ≤ at
      → rows_from on at (row ∷ rows) ≡ rows_from on at rows
  unfolding rows_from
  from_ends at row rows after ended = rest_ends at row (rows_from on at rows) after ended

  -- ---- rows that lie on one side

  pub nothing_before : (at : ℕ) (rows : List (Extent P)) → IsShortest on rows → StartsFrom at rows → rows_before at rows ≡ []
  unfolding rows_before
  nothing_before at [] shortest start = refl
  nothing_before at (row ∷ rows) shortest start =
      before_starts at row rows start (omega (arith, shortest.0))
      ∙ nothing_before at rows shortest.2
      (starts_earlier at (row.lba + row.sectors) rows (omega arith) (after_row on row rows shortest.1))

  pub all_from : (at : ℕ) (rows : List (Extent P)) → IsShortest on rows → StartsFrom at rows → rows_from on at rows ≡ rows
  unfolding rows_from
  all_from at [] shortest start = refl
  all_from at (row ∷ rows) shortest start =
      from_starts at row rows start
      ∙ ap (λ rest. row ∷ rest) (all_from at rows shortest.2
      (starts_earlier at (row.lba + row.sectors) rows (omega arith) (after_row on row rows shortest.1)))

  -- ---- both are in order

  pub before_end : (at : ℕ) (rows : List (Extent P)) → EndBy at (rows_before at rows)
  unfolding rows_before
  before_end at [] = tt
  before_end at (row ∷ rows) =
      elim (meets at row) [
        | ends ended ↦ rw (before_ends at row rows ended) (ended, before_end at rows)
        | crosses after inside ↦ rw (before_crosses at row rows after inside) (omega arith, before_end at rows)
        | starts before inside ↦ rw (before_starts at row rows before inside) (before_end at rows)
      ]

  pub from_start : (at : ℕ) (rows : List (Extent P)) → IsShortest on rows → StartsFrom at (rows_from on at rows)
  unfolding rows_from
  from_start at [] shortest = tt
  from_start at (row ∷ rows) shortest =
      elim (meets at row) [
        | ends ended ↦ rw (from_ends at row rows (omega (arith, shortest.0)) ended) (from_start at rows shortest.2)
        | crosses after inside ↦ rw (from_crosses at row rows after inside) (omega arith)
        | starts before inside ↦ rw (from_starts at row rows before) before
      ]

  -- what comes before rows comes before their part before a sector
  first_before : (at : ℕ) (row : Extent P) (rows : List (Extent P)) → IsShortest on rows → ComesBeforeFirst on row rows
      → ComesBeforeFirst on row (rows_before at rows)
  unfolding rows_before
  first_before at row [] shortest before = tt
  first_before at row (next ∷ rows) shortest before =
      elim (meets at next) [
        | ends ended ↦ rw (before_ends at next rows ended) before
        | crosses after inside ↦
            rw (before_crosses at next rows after inside) (before_same on row next (cut_short at next) refl refl before)
        | starts start inside ↦ rw (nothing_before at (next ∷ rows) shortest start) tt
      ]

  pub shortest_before : (at : ℕ) (rows : List (Extent P)) → IsShortest on rows → IsShortest on (rows_before at rows)
  unfolding rows_before
  shortest_before at [] shortest = tt
  shortest_before at (row ∷ rows) shortest =
      elim (meets at row) [
        | ends ended ↦
            rw (before_ends at row rows ended)
            (shortest.0, first_before at row rows shortest.2 shortest.1, shortest_before at rows shortest.2)
        | crosses after inside ↦
            let none = nothing_before at rows shortest.2
            (starts_earlier at (row.lba + row.sectors) rows (omega arith) (after_row on row rows shortest.1)) in
            rw (before_crosses at row rows after inside, none) (omega arith, tt, tt)
        | starts before inside ↦ rw (nothing_before at (row ∷ rows) shortest before) tt
      ]

  module _ (on_twice : (a b : ℕ) (p : P) → on a (on b p) ≡ on (b + a) p) where
    -- the rest of a row goes on as the row does
    pub rest_before : (at : ℕ) (row : Extent P) (rows : List (Extent P)) → row.lba < at → at < row.lba + row.sectors
        → ComesBeforeFirst on row rows → ComesBeforeFirst on (rest_of on at row) rows
    rest_before at row [] after inside before = tt
    rest_before at row (next ∷ rows) after inside before =
        let end : at + (row.lba + row.sectors - at) ≡ row.lba + row.sectors = omega arith in
        let far : at - row.lba + (row.lba + row.sectors - at) ≡ row.sectors = omega arith in
        record {
          in_order = omega (arith, before.in_order);
          apart = λ touch goes. before.apart (sym end ∙ touch)
              (sym (on_twice (row.lba + row.sectors - at) (at - row.lba) row.place ∙ ap (λ n. on n row.place) far) ∙ goes);
        }

    pub shortest_from : (at : ℕ) (rows : List (Extent P)) → IsShortest on rows → IsShortest on (rows_from on at rows)
    unfolding rows_from
    shortest_from at [] shortest = tt
    shortest_from at (row ∷ rows) shortest =
        elim (meets at row) [
          | ends ended ↦
              rw (from_ends at row rows (omega (arith, shortest.0)) ended) (shortest_from at rows shortest.2)
          | crosses after inside ↦
              let all = all_from at rows shortest.2
              (starts_earlier at (row.lba + row.sectors) rows (omega arith) (after_row on row rows shortest.1)) in
              rw (from_crosses at row rows after inside, all)
              (omega arith, rest_before at row rows after inside shortest.1, shortest.2)
          | starts before inside ↦ rw (all_from at (row ∷ rows) shortest before) shortest
        ]
