-- For this crate's own clauses: when changes may be written as an object, and that they are.
use Rattle.std.specs.Prelude.{ℕ, ◌≡◌, ◌<◌, ◌≤◌, IsTrue, Some, None, List, ◌++◌, length}
use Rattle.std.specs.List.{sum_by}
use Rattle.lsvd_base.specs.declared.entry.Entry.{Entry}
use Rattle.extent_map.specs.declared.extent.Extent.{Extent}
use Rattle.extent_map.specs.Extents.{AllFit}
use Rattle.object_format.specs.declared.expected.Expected.{Expected}
use Rattle.object_format.specs.declared.rows.Rows.TheVariants.{Data}
use Rattle.object_format.specs.Rows.{data_rows_may_stand}
use Rattle.object_format.specs.Writing.{object_header_of, front_bytes}
use Rattle.batcher.specs.declared.place.BatchPlace.{BatchPlace}
use Rattle.batcher.specs.declared.sealing.WrittenObject.{WrittenObject}
use Rattle.batcher.specs.Places.{batch_place_number}
use Rattle.batcher.specs.Rows.{rows_of, payload_bytes, extent_payload, AreInBodies}

-- These changes, by entries with seqs from the first one up to the end, may be written as the expected object.
pub record MayBeSealed (expected : Expected) (first end : ℕ) (entries : List Entry) (extents : List (Extent BatchPlace)) :
    Type 0 where
  pub some : first < end
  pub end_before : expected.end_before ≡ Some first
  pub fits : AllFit batch_place_number extents
  pub rows : length (rows_of extents) ≤ 65536
  pub payload : sum_by extent_payload extents ≤ 131071
  pub spelling : IsTrue (data_rows_may_stand expected.sectors (sum_by extent_payload extents) None 0 (rows_of extents))
  pub bodies : AreInBodies entries extents

-- an object with its rows is these changes
pub record IsWritten (expected : Expected) (first end : ℕ) (entries : List Entry) (extents : List (Extent BatchPlace))
    (written : WrittenObject) : Type 0 where
  pub rows : written.rows.items ≡ rows_of extents
  pub bytes : written.object
      ≡ front_bytes (object_header_of expected first end (Data written.rows)) (Data written.rows) ++ payload_bytes
      entries extents
