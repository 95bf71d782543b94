-- Rows that are cut at a sector, by how many of them begin before it.
use Rattle.std.proofs.Common.{ℕ, zero, suc, ◌+◌, ◌<◌, ◌≤◌, ◌≡◌, inl, inr, List, [], ◌∷◌, ◌++◌, get_or, take, drop, ◌∙◌, ap, subst}
use Rattle.std.proofs.Common.{arith}
use Rattle.std.proofs.lemmas.Bool.{cases_lt}
use Rattle.extent_map.specs.declared.extent.Extent.{Extent}
use Rattle.extent_map.specs.Extents.{ComesBeforeFirst, IsShortest}
use Rattle.extent_map.specs.Cut.{cut_short, rows_before, rows_from, rest_of, before_count}
use Rattle.extent_map.specs.Laws.{StartsFrom}
use Rattle.extent_map.proofs.Cuts.{before_ends, before_crosses, from_ends, from_crosses, nothing_before, all_from}
use Rattle.extent_map.proofs.Counts.{count_early, count_late, starts_after}

module _ {P : Type 0} (on : ℕ → P → P) where
  -- a row ends before a sector where more of the rows after it begin before it
  pub ends_early : (at i : ℕ) (row : Extent P) (rows : List (Extent P)) → ComesBeforeFirst on row rows
      → before_count at rows ≡ suc i → row.lba + row.sectors ≤ at
  ends_early at i row [] before count = absurd (omega (arith, count))
  ends_early at i row (next ∷ rows) before count =
      elim (cases_lt next.lba at) [
        | inl early ↦ omega (arith, before.in_order)
        | inr late ↦ absurd (omega (arith, count, count_late at next rows late))
      ]

  pub no_count_starts : (at : ℕ) (rows : List (Extent P)) → before_count at rows ≡ 0 → StartsFrom at rows
  no_count_starts at rows count = subst (λ n. StartsFrom at (drop n rows)) count (starts_after at rows)

  rest_count : (at i : ℕ) (row : Extent P) (rows : List (Extent P)) → before_count at (row ∷ rows) ≡ suc i
      → (row.lba < at) × (before_count at rows ≡ i)
  rest_count at i row rows count =
      elim (cases_lt row.lba at) [
        | inl early ↦ (early, omega (arith, count, count_early at row rows early))
        | inr late ↦ absurd (omega (arith, count, count_late at row rows late))
      ]

  -- the last row that begins before the sector
  pub last_early : (at i : ℕ) (rows : List (Extent P)) (d : Extent P) → before_count at rows ≡ suc i
      → (get_or rows i d).lba < at
  last_early at i [] d count = absurd (omega (arith, count))
  last_early at zero (row ∷ rows) d count = (rest_count at zero row rows count).0
  last_early at (suc i) (row ∷ rows) d count = last_early at i rows d (rest_count at (suc i) row rows count).1

  -- where it ends before the sector, no row is cut
  pub before_last : (at i : ℕ) (rows : List (Extent P)) (d : Extent P) → IsShortest on rows
      → before_count at rows ≡ suc i → (get_or rows i d).lba + (get_or rows i d).sectors ≤ at
      → rows_before at rows ≡ take (suc i) rows
  before_last at i [] d shortest count ended = absurd (omega (arith, count))
  before_last at zero (row ∷ rows) d shortest count ended =
      before_ends at row rows ended
      ∙ ap (λ rest. row ∷ rest) (nothing_before on at rows shortest.2
      (no_count_starts at rows (rest_count at zero row rows count).1))
  before_last at (suc i) (row ∷ rows) d shortest count ended =
      let rest = (rest_count at (suc i) row rows count).1 in
      before_ends at row rows (ends_early at i row rows shortest.1 rest)
      ∙ ap (λ more. row ∷ more) (before_last at i rows d shortest.2 rest ended)

  pub from_last : (at i : ℕ) (rows : List (Extent P)) (d : Extent P) → IsShortest on rows
      → before_count at rows ≡ suc i → (get_or rows i d).lba + (get_or rows i d).sectors ≤ at
      → rows_from on at rows ≡ drop (suc i) rows
  from_last at i [] d shortest count ended = absurd (omega (arith, count))
  from_last at zero (row ∷ rows) d shortest count ended =
      from_ends on at row rows (rest_count at zero row rows count).0 ended
      ∙ all_from on at rows shortest.2 (no_count_starts at rows (rest_count at zero row rows count).1)
  from_last at (suc i) (row ∷ rows) d shortest count ended =
      let rest = rest_count at (suc i) row rows count in
      from_ends on at row rows rest.0 (ends_early at i row rows shortest.1 rest.1)
      ∙ from_last at i rows d shortest.2 rest.1 ended

  -- where it reaches over the sector, it is cut
  pub before_cut : (at i : ℕ) (rows : List (Extent P)) (d : Extent P) → IsShortest on rows
      → before_count at rows ≡ suc i → at < (get_or rows i d).lba + (get_or rows i d).sectors
      → rows_before at rows ≡ take i rows ++ cut_short at (get_or rows i d) ∷ []
  before_cut at i [] d shortest count over = absurd (omega (arith, count))
  before_cut at zero (row ∷ rows) d shortest count over =
      let rest = rest_count at zero row rows count in
      before_crosses at row rows rest.0 over
      ∙ ap (λ more. cut_short at row ∷ more) (nothing_before on at rows shortest.2 (no_count_starts at rows rest.1))
  before_cut at (suc i) (row ∷ rows) d shortest count over =
      let rest = (rest_count at (suc i) row rows count).1 in
      before_ends at row rows (ends_early at i row rows shortest.1 rest)
      ∙ ap (λ more. row ∷ more) (before_cut at i rows d shortest.2 rest over)

  pub from_cut : (at i : ℕ) (rows : List (Extent P)) (d : Extent P) → IsShortest on rows
      → before_count at rows ≡ suc i → at < (get_or rows i d).lba + (get_or rows i d).sectors
      → rows_from on at rows ≡ rest_of on at (get_or rows i d) ∷ drop (suc i) rows
  from_cut at i [] d shortest count over = absurd (omega (arith, count))
  from_cut at zero (row ∷ rows) d shortest count over =
      let rest = rest_count at zero row rows count in
      from_crosses on at row rows rest.0 over
      ∙ ap (λ more. rest_of on at row ∷ more) (all_from on at rows shortest.2 (no_count_starts at rows rest.1))
  from_cut at (suc i) (row ∷ rows) d shortest count over =
      let rest = rest_count at (suc i) row rows count in
      from_ends on at row rows rest.0 (ends_early at i row rows shortest.1 rest.1)
      ∙ from_cut at i rows d shortest.2 rest.1 over
