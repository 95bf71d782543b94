-- For this crate's own clauses: rows of which some lose the sectors of a range.
use Rattle.std.specs.Prelude.{ℕ, ◌+◌, ◌<◌, ◌≤◌, Bool, if◌then◌else◌, List, [], ◌∷◌}
use Rattle.extent_map.specs.declared.extent.Extent.{Extent}
use Rattle.extent_map.specs.Cut.{part_before, part_from}

module _ {P : Type 0} where
  -- no row reaches over both sectors
  abbrev pub NoneSpans : ℕ → ℕ → List (Extent P) → Type 0
  NoneSpans lba end [] = Unit {0}
  NoneSpans lba end (row ∷ rows) = (row.lba < lba → row.lba + row.sectors ≤ end) × NoneSpans lba end rows

module _ {P : Type 0} (on : ℕ → P → P) (lba end : ℕ) where
  -- the parts of a row that are not between two sectors, and these rows after them
  abbrev pub parts_left : Extent P → List (Extent P) → List (Extent P)
  parts_left row rows = part_before lba row (part_from on end row rows)

  -- these parts of each row whose place passes a test, and the other rows whole
  unfoldable pub rows_left : (P → Bool) → List (Extent P) → List (Extent P)
  rows_left test [] = []
  rows_left test (row ∷ rows) =
      (if test row.place then parts_left row (rows_left test rows) else row ∷ rows_left test rows)
