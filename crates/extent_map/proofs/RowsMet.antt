-- The rows that share a sector with a range: those that begin in it do.
use Rattle.std.proofs.Common.{ℕ, ◌+◌, ◌<◌, ◌≤◌, ◌≡◌, inl, inr, true, cond, max, min, List, [], ◌∷◌, ap, arith}
use Rattle.std.specs.Prelude.{IsTrue, ◌↔◌}
use Rattle.std.proofs.lemmas.Bool.{cases_lt}
use Rattle.std.proofs.lemmas.Bool.Decides.{nat_tests}
use Rattle.std.proofs.lemmas.List.Sums.{sum_by-cons}
use Rattle.extent_map.specs.declared.extent.Extent.{Extent}
use Rattle.extent_map.specs.Extents.{IsShortest, is_within, is_met, met}
use Rattle.extent_map.specs.Cut.{before_count}
use Rattle.extent_map.specs.Laws.{StartsFrom}
use Rattle.extent_map.proofs.Counts.{count_early, count_late}
use Rattle.extent_map.proofs.Places.{within, not_below, not_past, starts_earlier, after_row}

-- ---- a row that is met has a sector of the range

within_is : (lba sectors k : ℕ) → IsTrue (is_within lba sectors k) → (lba ≤ k) × (k < lba + sectors)
within_is lba sectors k is =
    elim (cases_lt k lba) [
      | inl below ↦ absurd (cc (is, not_below lba sectors k below))
      | inr from ↦
          elim (cases_lt k (lba + sectors)) [
            | inl inside ↦ (from, inside)
            | inr past ↦ absurd (cc (is, not_past lba sectors k past))
          ]
    ]

module _ {P : Type 0} (lba sectors : ℕ) (row : Extent P) where
  met_by : (k : ℕ) → IsTrue (is_within lba sectors k) → IsTrue (is_within row.lba row.sectors k) → IsTrue (is_met lba sectors row)
  met_by k inside of_row =
      let a = within_is lba sectors k inside in
      let b = within_is row.lba row.sectors k of_row in
      let order : max lba row.lba < min (lba + sectors) (row.lba + row.sectors) = omega (arith, a.0, a.1, b.0, b.1) in
      grind (arith, nat_tests, order)

  met_at : IsTrue (is_met lba sectors row) → (k : ℕ) × IsTrue (is_within lba sectors k) × IsTrue (is_within row.lba row.sectors k)
  met_at is =
      let order : max lba row.lba < min (lba + sectors) (row.lba + row.sectors) = grind (arith, nat_tests, is) in (
        max lba row.lba,
        within lba sectors (max lba row.lba) (omega arith) (omega (arith, order)),
        within row.lba row.sectors (max lba row.lba) (omega arith) (omega (arith, order)),
      )

  pub meets_by_sectors : IsTrue (is_met lba sectors row)
      ↔ ((k : ℕ) × IsTrue (is_within lba sectors k) × IsTrue (is_within row.lba row.sectors k))
  meets_by_sectors = (met_at, λ found. met_by found.0 found.1 found.2)

-- ---- the rows that begin in the range

module _ {P : Type 0} (lba sectors : ℕ) where
  met_more : (row : Extent P) (rows : List (Extent P)) → met lba sectors rows ≤ met lba sectors (row ∷ rows)
  met_more row rows = omega (arith, sum_by-cons (λ row. cond (is_met lba sectors row) 1 0) row rows)

  met_one : (row : Extent P) (rows : List (Extent P)) → lba ≤ row.lba → row.lba < lba + sectors → 0 < row.sectors
      → met lba sectors (row ∷ rows) ≡ 1 + met lba sectors rows
  met_one row rows from inside some =
      let order : max lba row.lba < min (lba + sectors) (row.lba + row.sectors) = omega arith in
      let yes : is_met lba sectors row ≡ true = grind (arith, nat_tests, order) in
      omega (arith, sum_by-cons (λ row. cond (is_met lba sectors row) 1 0) row rows, ap {B = ℕ} (λ b. cond b 1 0) yes)

module _ {P : Type 0} (on : ℕ → P → P) (lba sectors : ℕ) where
  late_met : (rows : List (Extent P)) → IsShortest on rows → StartsFrom lba rows
      → before_count (lba + sectors) rows ≤ met lba sectors rows
  late_met [] shortest start = omega arith
  late_met (row ∷ rows) shortest start =
      let later = starts_earlier lba (row.lba + row.sectors) rows (omega (arith, start)) (after_row on row rows shortest.1) in
      elim (cases_lt row.lba (lba + sectors)) [
        | inl inside ↦
            omega (
              arith,
              count_early (lba + sectors) row rows inside,
              met_one lba sectors row rows start inside
                  shortest.0,
              late_met rows shortest.2 later,
            )
        | inr past ↦ omega (arith, count_late (lba + sectors) row rows past)
      ]

  -- they are no more than the rows that the sectors meet
  pub begin_met : (rows : List (Extent P)) → IsShortest on rows
      → before_count (lba + sectors) rows ≤ before_count lba rows + met lba sectors rows
  begin_met [] shortest = omega arith
  begin_met (row ∷ rows) shortest =
      elim (cases_lt row.lba lba) [
        | inl early ↦
            omega (
              arith,
              count_early lba row rows early,
              count_early (lba + sectors) row rows (omega (arith, early)),
              begin_met rows shortest.2,
              met_more lba sectors row rows,
            )
        | inr late ↦ omega (arith, late_met (row ∷ rows) shortest late)
      ]
