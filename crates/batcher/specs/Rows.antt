-- For this crate's own clauses: the rows and the payload of an object, by the extents of what it changes.
use Rattle.std.specs.Prelude.{ℕ, ◌+◌, ◌*◌, ◌^◌, ◌<◌, ◌≤◌, ◌==◌, ◌&&◌, Bool, is_some, Option, Some, None, option_to_list, List, []}
use Rattle.std.specs.Prelude.{◌∷◌, ◌++◌, length, take, drop, if◌then◌else◌}
use Rattle.std.specs.List.{flat_map}
use Rattle.lsvd_base.specs.declared.entry.Entry.{Entry}
use Rattle.extent_map.specs.declared.extent.Extent.{Extent}
use Rattle.object_format.specs.declared.data_row.DataRow.{DataRow}
use Rattle.object_format.specs.Rows.{data_payload}
use Rattle.batcher.specs.declared.place.BatchPlace.{BatchPlace}
use Rattle.batcher.specs.declared.place.BatchPlace.TheVariants.{Data, Zeros}
use Rattle.batcher.specs.declared.rows.RowMaker.{RowMaker}
use Rattle.batcher.specs.Places.{entry_body_at}

-- ---- rows

-- the place of a row with these places, where its data, if it has any, stand at a sector of the payload
abbrev pub row_place : (payload : ℕ) → BatchPlace → Option ℕ
row_place payload (Data entry from) = Some payload
row_place payload Zeros = None

-- the row for an extent
abbrev pub extent_row : (payload : ℕ) → Extent BatchPlace → DataRow
extent_row payload extent = record { lba = extent.lba; sectors = extent.sectors; place = row_place payload extent.place }

-- the next row touches a row, and both have data
abbrev pub joins : DataRow → DataRow → Bool
joins row next = (row.lba + row.sectors == next.lba) && is_some row.place && is_some next.place

-- a row and the next one as one row
abbrev pub joined : DataRow → DataRow → DataRow
joined row next = record row { sectors = row.sectors + next.sectors }

-- The rows from a row on that may still go on, if there is one, for the extents after it, where the payload has this many
-- sectors by then. Rows of data that touch are one row.
unfoldable pub rows_from : Option DataRow → (payload : ℕ) → List (Extent BatchPlace) → List DataRow
rows_from last payload [] = option_to_list last
rows_from None payload (extent ∷ extents) =
    rows_from (Some (extent_row payload extent)) (payload + data_payload (extent_row payload extent)) extents
rows_from (Some row) payload (extent ∷ extents) =
    if joins row (extent_row payload extent)
    then rows_from (Some (joined row (extent_row payload extent))) (payload + data_payload (extent_row payload extent)) extents
    else row ∷ rows_from (Some (extent_row payload extent)) (payload + data_payload (extent_row payload extent)) extents

-- the rows of an object that makes these changes
abbrev pub rows_of : List (Extent BatchPlace) → List DataRow
rows_of extents = rows_from None 0 extents

-- the rows that there will be, with those for further extents
abbrev pub rows_with : RowMaker → List (Extent BatchPlace) → List DataRow
rows_with maker extents = maker.rows.items ++ rows_from maker.last maker.payload extents

-- the row that may still go on ends below 2^63
abbrev pub EndsInTime : Option DataRow → Type 0
EndsInTime None = Unit {0}
EndsInTime (Some row) = row.lba + row.sectors < 2 ^ 63

-- ---- the payload

-- the data of the sectors of an extent
abbrev pub piece_at : List Entry → (sectors : ℕ) → BatchPlace → List ℕ
piece_at entries sectors (Data entry from) = take (512 * sectors) (drop (512 * from) (entry_body_at entries entry))
piece_at entries sectors Zeros = []

abbrev pub piece_of : List Entry → Extent BatchPlace → List ℕ
piece_of entries extent = piece_at entries extent.sectors extent.place

-- the payload of an object that makes these changes
abbrev pub payload_bytes : List Entry → List (Extent BatchPlace) → List ℕ
payload_bytes entries extents = flat_map (piece_of entries) extents

-- the sectors of data of an extent
abbrev pub extent_payload : Extent BatchPlace → ℕ
extent_payload extent = data_payload (extent_row 0 extent)

-- an extent's data lie within the body of their entry
abbrev pub IsInBody : List Entry → (sectors : ℕ) → BatchPlace → Type 0
IsInBody entries sectors (Data entry from) = (entry < length entries)
    × (512 * (from + sectors) ≤ length (entry_body_at entries entry))
IsInBody entries sectors Zeros = Unit {0}

abbrev pub AreInBodies : List Entry → List (Extent BatchPlace) → Type 0
AreInBodies entries [] = Unit {0}
AreInBodies entries (extent ∷ extents) = IsInBody entries extent.sectors extent.place × AreInBodies entries extents
