-- Contract: ranges that have all sectors of an object's rows, and what the reverse of the objects' map has to do with it.
use Rattle.std.specs.Prelude.{◌≡◌, ℕ, ◌==◌, IsTrue, IfSome, List, map, if◌then◌else◌}
use Rattle.std.specs.List.{AllByRecursion}
use Rattle.extent_map.specs.declared.extent.Extent.{Extent}
use Rattle.extent_map.specs.Extents.{is_within, place_at}
use Rattle.object_format.specs.declared.copy_row.CopyRow.{CopyRow}
use Rattle.object_format.specs.declared.data_row.DataRow.{DataRow}
use Rattle.object_table.specs.Table.{TableState, numbers}
use Rattle.reverse_map.specs.declared.range.SectorRange.{SectorRange}
use Rattle.reverse_map.specs.Ranges.{ObjectRanges, is_in_ranges, ranges_of, with_range}
use Rattle.volume_maps.specs.declared.place.ObjectPlace.{ObjectPlace}
use Rattle.volume_maps.specs.Places.{object_on}
use Rattle.volume_maps.specs.Live.{is_live}

-- ranges have these sectors
abbrev pub Cover : List SectorRange → (lba sectors : ℕ) → Type 0
Cover ranges lba sectors = (k : ℕ) → IsTrue (is_within lba sectors k) → IsTrue (is_in_ranges ranges k)

-- they have all sectors that the rows of a data object put, and all of the rows of a copy
abbrev pub CoverRows : List SectorRange → List DataRow → Type 0
CoverRows ranges rows =
    AllByRecursion (λ (row : DataRow). IfSome row.place (λ (place : ℕ). Cover ranges row.lba row.sectors)) rows

abbrev pub CoverCopyRows : List SectorRange → List CopyRow → Type 0
CoverCopyRows ranges rows = AllByRecursion (λ (row : CopyRow). Cover ranges row.lba row.sectors) rows

-- ---- for this crate's own clauses

-- each sector that a map has in one of the volume's own objects is in that object's ranges
abbrev pub AreReversed : List (Extent ObjectPlace) → List ObjectRanges → Type 0
AreReversed rows objects =
    (number k : ℕ) → IsTrue (is_live number (place_at object_on rows k)) → IsTrue (is_in_ranges (ranges_of number objects) k)

-- so is the reverse of a map, which has the objects of the table
pub record IsReverse (rows : List (Extent ObjectPlace)) (table : TableState) (objects : List ObjectRanges) : Type 0 where
  pub reversed : AreReversed rows objects
  pub known : map (λ (object : ObjectRanges). object.number) objects ≡ numbers table.rows

-- the ranges of objects after sectors were added to those of the object that has them at a place, if it is the volume's own
abbrev pub with_sectors : (lba sectors : ℕ) → ObjectPlace → List ObjectRanges → List ObjectRanges
with_sectors lba sectors place objects =
    (if place.level == 0 then with_range place.number (record { lba = lba; sectors = sectors }) objects else objects)
