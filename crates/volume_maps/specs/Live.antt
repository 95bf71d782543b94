-- Contract: how many sectors of the objects' map are in each object, and how the table of objects changes with the map.
use Rattle.std.specs.Prelude.{◌≡◌, ℕ, ◌==◌, ◌&&◌, Bool, false, Option, Some, None, IsSome, List, map, if◌then◌else◌}
use Rattle.std.specs.List.{All, sum_by}
use Rattle.extent_map.specs.declared.extent.Extent.{Extent}
use Rattle.object_table.specs.declared.row.ObjectRow.{ObjectRow}
use Rattle.object_table.specs.Table.{TableState, row_of}
use Rattle.volume_maps.specs.declared.place.ObjectPlace.{ObjectPlace}

-- ---- live sectors

-- a place is in the volume's own object of this number
abbrev pub is_in_object : (number : ℕ) → ObjectPlace → Bool
is_in_object number place = (place.level == 0) && (place.number == number)

-- a sector's place, if it has one, is in the volume's own object of this number
abbrev pub is_live : (number : ℕ) → Option ObjectPlace → Bool
is_live number None = false
is_live number (Some place) = is_in_object number place

-- how many sectors a row has in that object
abbrev pub sectors_in : (number : ℕ) → Extent ObjectPlace → ℕ
sectors_in number row = if is_in_object number row.place then row.sectors else 0

-- and how many rows have
abbrev pub live_sectors : (number : ℕ) → List (Extent ObjectPlace) → ℕ
live_sectors number rows = sum_by (sectors_in number) rows

-- The live counts of a table are those of the rows of a map, and each of the volume's own objects that these name is in the
-- table.
pub record IsCounted (rows : List (Extent ObjectPlace)) (table : TableState) : Type 0 where
  pub live : All (λ (object : ObjectRow). object.live ≡ live_sectors object.number rows) table.rows
  pub known : All (λ (row : Extent ObjectPlace). row.place.level ≡ 0 → IsSome (row_of row.place.number table.rows)) rows

-- ---- changes of the table

-- an object is there, and no acknowledged checkpoint has passed it that does not map it: so it may gain sectors
abbrev pub MayGain : (number : ℕ) → TableState → Type 0
MayGain number table = (row : ObjectRow) × (row_of number table.rows ≡ Some row) × (row.is_unmapped ≡ false)

-- an object but for its live sectors
abbrev pub but_live : ObjectRow → ObjectRow
but_live row = record row { live = 0 }

-- the same objects, but for how many live sectors each has, and the same newest checkpoint
pub record HasSameObjects (old new : TableState) : Type 0 where
  pub rows : map but_live new.rows ≡ map but_live old.rows
  pub checkpoint : new.checkpoint ≡ old.checkpoint
