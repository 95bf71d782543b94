-- How many rows begin before a sector, and what is on either side.
use Rattle.std.proofs.Common.{ℕ, ◌+◌, ◌<◌, ◌≤◌, ◌≡◌, inl, inr, true, false, cond, nat_lt, List, [], ◌∷◌, drop, ap, arith}
use Rattle.std.proofs.Math.Numerals.{one-add}
use Rattle.std.specs.List.Sorted.{IsPartitionedBy}
use Rattle.std.proofs.lemmas.Bool.{cases_lt}
use Rattle.std.proofs.lemmas.Bool.Decides.{nat_tests}
use Rattle.std.proofs.lemmas.List.Sorted.{IsPartitionedBy-ltb}
use Rattle.extent_map.specs.declared.extent.Extent.{Extent}
use Rattle.extent_map.specs.Extents.{IsShortest}
use Rattle.extent_map.specs.Cut.{before_count}
use Rattle.extent_map.specs.Laws.{StartsFrom}
use Rattle.extent_map.proofs.Order.{ascend}

module _ {P : Type 0} where
  pub count_early : (at : ℕ) (row : Extent P) (rows : List (Extent P)) → row.lba < at
      → before_count at (row ∷ rows) ≡ 1 + before_count at rows
  count_early at row rows early =
      let yes : nat_lt row.lba at ≡ true = grind (arith, nat_tests) in
      ap (λ b. cond b (1 + before_count at rows) 0) yes

  pub count_late : (at : ℕ) (row : Extent P) (rows : List (Extent P)) → at ≤ row.lba → before_count at (row ∷ rows) ≡ 0
  count_late at row rows late =
      let no : nat_lt row.lba at ≡ false = grind (arith, nat_tests) in
      ap (λ b. cond b (1 + before_count at rows) 0) no

  -- the rows from there on begin from the sector on
  pub starts_after : (at : ℕ) (rows : List (Extent P)) → StartsFrom at (drop (before_count at rows) rows)
  starts_after at [] = tt
  starts_after at (row ∷ rows) =
      elim (cases_lt row.lba at) [
        | inl early ↦ rw (count_early at row rows early, one-add) (starts_after at rows)
        | inr late ↦ rw (count_late at row rows late) late
      ]

module _ {P : Type 0} (on : ℕ → P → P) where
  pub partitioned : (at : ℕ) (rows : List (Extent P)) → IsShortest on rows
      → IsPartitionedBy (λ row. nat_lt row.lba at) rows
  partitioned at rows shortest = IsPartitionedBy-ltb (λ row. row.lba) rows at (ascend on rows shortest)
