-- For this crate's own clauses: rows that are cut at a sector.
use Rattle.std.specs.Prelude.{ℕ, ◌+◌, ◌-◌, nat_le, nat_lt, if◌then◌else◌, List, [], ◌∷◌}
use Rattle.std.specs.List.{prefix_len}
use Rattle.extent_map.specs.declared.extent.Extent.{Extent}

module _ {P : Type 0} where
  -- a row cut short at a sector
  abbrev pub cut_short : ℕ → Extent P → Extent P
  cut_short at row = record row { sectors = at - row.lba }

  -- the part of a row before the sector, and these rows after it
  abbrev pub part_before : ℕ → Extent P → List (Extent P) → List (Extent P)
  part_before at row rows =
      (if nat_le (row.lba + row.sectors) at
      then row ∷ rows
      else (if nat_lt row.lba at then cut_short at row ∷ rows else rows))

  -- what rows are before a sector
  unfoldable pub rows_before : ℕ → List (Extent P) → List (Extent P)
  rows_before at [] = []
  rows_before at (row ∷ rows) = part_before at row (rows_before at rows)

  -- how many rows begin before a sector, up to the first that does not
  abbrev pub before_count : ℕ → List (Extent P) → ℕ
  before_count at rows = prefix_len (λ row. nat_lt row.lba at) rows

module _ {P : Type 0} (on : ℕ → P → P) where
  -- the rest of a row from a sector of it on
  abbrev pub rest_of : ℕ → Extent P → Extent P
  rest_of at row = record {
    lba = at;
    sectors = row.lba + row.sectors - at;
    place = on (at - row.lba) row.place;
  }

  -- the part of a row from the sector on, and these rows after it
  abbrev pub part_from : ℕ → Extent P → List (Extent P) → List (Extent P)
  part_from at row rows =
      (if nat_le at row.lba
      then row ∷ rows
      else (if nat_lt at (row.lba + row.sectors) then rest_of at row ∷ rows else rows))

  -- what rows are from a sector on
  unfoldable pub rows_from : ℕ → List (Extent P) → List (Extent P)
  rows_from at [] = []
  rows_from at (row ∷ rows) = part_from at row (rows_from at rows)
