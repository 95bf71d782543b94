-- The rows that end before the first sector of a range.
use Rattle.std.proofs.Common.{ℕ, zero, suc, ◌-◌, ◌≡◌, inl, inr, List, [], ◌∷◌, take, sym, subst, arith}
use Rattle.std.proofs.lemmas.Bool.{cases_lt}
use Rattle.extent_map.specs.declared.extent.Extent.{Extent}
use Rattle.extent_map.specs.Extents.{IsShortest}
use Rattle.extent_map.specs.Cut.{before_count}
use Rattle.extent_map.specs.Join.{EndBy}
use Rattle.extent_map.proofs.Counts.{count_early, count_late}
use Rattle.extent_map.proofs.CutIndex.{ends_early}

module _ {P : Type 0} (on : ℕ → P → P) where
  -- all rows that begin before a sector but the last end before it
  ends_before_last : (at c : ℕ) (rows : List (Extent P)) → IsShortest on rows → before_count at rows ≡ suc c
      → EndBy at (take c rows)
  ends_before_last at zero rows shortest count = tt
  ends_before_last at (suc c) [] shortest count = absurd (omega (arith, count))
  ends_before_last at (suc c) (row ∷ rows) shortest count =
      elim (cases_lt row.lba at) [
        | inl early ↦
            let rest : before_count at rows ≡ suc c = omega (arith, count, count_early at row rows early) in
            (ends_early on at c row rows shortest.1 rest, ends_before_last at c rows shortest.2 rest)
        | inr late ↦ absurd (omega (arith, count, count_late at row rows late))
      ]

  pub ends_before : (at : ℕ) (rows : List (Extent P)) → IsShortest on rows → EndBy at (take (before_count at rows - 1) rows)
  ends_before at rows shortest =
      elim (cases_lt 0 (before_count at rows)) [
        | inl some ↦ ends_before_last at (before_count at rows - 1) rows shortest (omega arith)
        | inr none ↦
            let zero_is : before_count at rows - 1 ≡ 0 = omega arith in
            subst (λ n. EndBy at (take n rows)) (sym zero_is) tt
      ]
