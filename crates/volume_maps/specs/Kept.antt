-- For this crate's own clauses: what holds of the objects' map and its table, and how many sectors of a range an object has.
use Rattle.std.specs.Prelude.{◌≡◌, ℕ, zero, suc, ◌+◌, ◌-◌, ◌==◌, Bool, Option, Some, None, List, if◌then◌else◌}
use Rattle.std.specs.List.{All}
use Rattle.extent_map.specs.declared.extent.Extent.{Extent}
use Rattle.extent_map.specs.Extents.{place_at, IsShortest}
use Rattle.object_format.specs.declared.copy_row.CopyRow.{CopyRow}
use Rattle.object_table.specs.declared.row.ObjectRow.{ObjectRow}
use Rattle.object_table.specs.Table.{TableState, numbers, with_changed, gained, lost}
use Rattle.object_table.specs.Lists.{Climbs}
use Rattle.volume_maps.specs.declared.place.ObjectPlace.{ObjectPlace}
use Rattle.volume_maps.specs.Places.{object_on}
use Rattle.volume_maps.specs.Live.{is_in_object, is_live, live_sectors, IsCounted}

-- the rows of a map are its shortest list, the numbers of a table ascend, and the table counts the sectors of the map
pub record IsKept (rows : List (Extent ObjectPlace)) (table : TableState) : Type 0 where
  pub shortest : IsShortest object_on rows
  pub order : Climbs 0 (numbers table.rows)
  pub counted : IsCounted rows table

-- ---- sectors of a range

-- how many of the N sectors from one on pass a test
unfoldable pub passing : (ℕ → Bool) → (from sectors : ℕ) → ℕ
passing test from zero = 0
passing test from (suc n) = passing test from n + (if test (from + n) then 1 else 0)

-- how many of the N sectors from one on have their places, by these, in that object
abbrev pub live_between : (number : ℕ) → (ℕ → Option ObjectPlace) → (from sectors : ℕ) → ℕ
live_between number places from sectors = passing (λ k. is_live number (places k)) from sectors

-- the live counts of a table are those of the rows of a map without the sectors of a range
abbrev pub IsCountedBut : List (Extent ObjectPlace) → (lba sectors : ℕ) → TableState → Type 0
IsCountedBut rows lba sectors table =
    All (λ (object : ObjectRow). object.live + live_between object.number (place_at object_on rows) lba sectors
    ≡ live_sectors object.number rows) table.rows

-- ---- changes of the table

-- a table after the sectors of a row are lost, where its place is in one of the volume's own objects
abbrev pub after_loss : Extent ObjectPlace → TableState → TableState
after_loss row table =
    (if row.place.level == 0 then with_changed (lost row.sectors) row.place.number table else table)

-- and after so many sectors are gained at a place
abbrev pub after_gain : ObjectPlace → (sectors : ℕ) → TableState → TableState
after_gain place sectors table =
    (if place.level == 0 then with_changed (gained sectors) place.number table else table)

-- ---- a part of a copy's row

-- Where the copy of this number has a part of a row's sectors, which a map has there: none where it is not in the row's source.
abbrev pub place_in_copy : (number : ℕ) → CopyRow → Extent ObjectPlace → Option ObjectPlace
place_in_copy number row part =
    if is_in_object row.source.number part.place
    then Some (record { level = 0; number = number; sector = row.place + (part.lba - row.lba) }) else None
