-- Contract: the rows of a checkpoint: their bytes, and which may stand one after the other.
use Rattle.std.specs.Prelude.{ℕ, ◌+◌, ◌^◌, ◌<◌, IsTrue, Bool, ◌&&◌, ◌||◌, nat_lt, nat_le, Option, Some, None, List, [], ◌∷◌, ◌++◌}
use Rattle.std.specs.List.{flat_map}
use Rattle.std.specs.Int.{w32, w64, to_be_bytes}
use Rattle.lsvd_bytes.specs.Places.{number_at}
use Rattle.extent_map.specs.declared.extent.Extent.{Extent}
use Rattle.extent_map.specs.Extents.{ComesBefore, IsShortest}
use Rattle.object_format.specs.declared.expected.Expected.{Expected}
use Rattle.object_format.specs.Rows.{is_inside}
use Rattle.ckpt_format.specs.declared.place.StoredPlace.{StoredPlace}
use Rattle.ckpt_format.specs.Places.{stored_on}

-- ---- their bytes

-- the 36 bytes of a row
unfoldable pub row_bytes : Extent StoredPlace → List ℕ
row_bytes row =
    to_be_bytes w64 row.lba
    ++ to_be_bytes w64 row.sectors
    ++ to_be_bytes w32 row.place.level
    ++ to_be_bytes w64 row.place.number
    ++ to_be_bytes w64 row.place.place

-- those of rows, one after the other
abbrev pub rows_bytes : List (Extent StoredPlace) → List ℕ
rows_bytes rows = flat_map row_bytes rows

-- the row with the fields that bytes begin with
abbrev pub row_in : List ℕ → Extent StoredPlace
row_in bytes = record {
  lba = number_at w64 0 bytes;
  sectors = number_at w64 8 bytes;
  place = record {
    level = number_at w32 16 bytes;
    number = number_at w64 20 bytes;
    place = number_at w64 28 bytes;
  };
}

-- its numbers have the width of their place in the bytes
pub record HasRowWidths (row : Extent StoredPlace) : Type 0 where
  pub lba : row.lba < 2 ^ 64
  pub sectors : row.sectors < 2 ^ 64
  pub level : row.place.level < 2 ^ 32
  pub number : row.place.number < 2 ^ 64
  pub place : row.place.place < 2 ^ 64

-- ---- which may stand

-- What a row says may stand in the expected checkpoint: it has sectors, all inside the volume; its object is of the volume, and
-- then has a lower number than the checkpoint, or is of an ancestor; and a payload may have its places.
abbrev pub may_stand : Expected → Extent StoredPlace → Bool
may_stand expected row =
    is_inside expected.sectors row.lba row.sectors
    && nat_le row.place.level expected.ancestors
    && (nat_lt 0 row.place.level || nat_lt row.place.number expected.number)
    && nat_le (row.place.place + row.sectors) 131071

-- it may stand after the row before it, or as the first: the rows ascend, and the two are not one row
abbrev pub MayComeAfter : Expected → Option (Extent StoredPlace) → Extent StoredPlace → Type 0
MayComeAfter expected None row = IsTrue (may_stand expected row)
MayComeAfter expected (Some before) row = IsTrue (may_stand expected row) × ComesBefore stored_on before row

-- each row may stand, and its numbers have their widths
abbrev pub AllMayStand : Expected → List (Extent StoredPlace) → Type 0
AllMayStand expected [] = Unit {0}
AllMayStand expected (row ∷ rows) = IsTrue (may_stand expected row) × HasRowWidths row × AllMayStand expected rows

-- the rows are those of the expected checkpoint in their one spelling: the shortest list in order, of rows that may stand
pub record AreCheckpointRows (expected : Expected) (rows : List (Extent StoredPlace)) : Type 0 where
  pub shortest : IsShortest stored_on rows
  pub all_stand : AllMayStand expected rows
