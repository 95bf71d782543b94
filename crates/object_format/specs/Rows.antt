-- Contract: the rows of an object: their bytes, and which may stand one after the other.
use Rattle.std.specs.Prelude.{ℕ, zero, suc, ◌≡◌, ◌+◌, ◌==◌, IsTrue, not, Bool, true, false, ◌&&◌, ◌||◌, nat_lt, nat_le, Option}
use Rattle.std.specs.Prelude.{Some, None, List, [], ◌∷◌, ◌++◌, length, drop, if◌then◌else◌}
use Rattle.std.specs.List.{flat_map}
use Rattle.std.specs.Int.{w32, w64, to_be_bytes}
use Rattle.lsvd_bytes.specs.Places.{number_at}
use Rattle.object_format.specs.declared.kind.Kind.{Kind}
use Rattle.object_format.specs.declared.kind.Kind.TheVariants as kinds
use Rattle.object_format.specs.declared.header.Header.{Header}
use Rattle.object_format.specs.declared.data_row.DataRow.{DataRow}
use Rattle.object_format.specs.declared.copy_row.Source.{Source}
use Rattle.object_format.specs.declared.copy_row.CopyRow.{CopyRow}
use Rattle.object_format.specs.declared.rows.Rows.{Rows}
use Rattle.object_format.specs.declared.rows.Rows.TheVariants.{Data, Copy, Checkpoint}

-- ---- their bytes

-- the number of a place: the greatest of 64 bits where there is none
abbrev pub place_number : Option ℕ → ℕ
place_number None = 18446744073709551615
place_number (Some place) = place

abbrev pub place_from : ℕ → Option ℕ
place_from number = if number == 18446744073709551615 then None else Some number

unfoldable pub data_row_bytes : DataRow → List ℕ
data_row_bytes row =
    to_be_bytes w64 row.lba
    ++ to_be_bytes w64 row.sectors
    ++ to_be_bytes w64 (place_number row.place)

unfoldable pub copy_row_bytes : CopyRow → List ℕ
copy_row_bytes row =
    to_be_bytes w64 row.lba
    ++ to_be_bytes w64 row.sectors
    ++ to_be_bytes w64 row.place
    ++ to_be_bytes w32 row.source.level
    ++ to_be_bytes w64 row.source.number
    ++ to_be_bytes w64 row.source.place

abbrev pub rows_bytes : Rows → List ℕ
rows_bytes (Data rows) = flat_map data_row_bytes rows.items
rows_bytes (Copy rows) = flat_map copy_row_bytes rows.items
rows_bytes Checkpoint = []

-- ---- what is read in bytes

-- the row with the fields that bytes begin with
abbrev pub data_row_in : List ℕ → DataRow
data_row_in bytes = record {
  lba = number_at w64 0 bytes;
  sectors = number_at w64 8 bytes;
  place = place_from (number_at w64 16 bytes);
}

abbrev pub copy_row_in : List ℕ → CopyRow
copy_row_in bytes = record {
  lba = number_at w64 0 bytes;
  sectors = number_at w64 8 bytes;
  place = number_at w64 16 bytes;
  source = record {
    level = number_at w32 24 bytes;
    number = number_at w64 28 bytes;
    place = number_at w64 36 bytes;
  };
}

-- `count` rows, each of which takes `size` bytes
abbrev pub rows_in : {R : Type 0} → ℕ → (List ℕ → R) → ℕ → List ℕ → List R
rows_in size row_in zero bytes = []
rows_in size row_in (suc count) bytes = row_in bytes ∷ rows_in size row_in count (drop size bytes)

-- ---- which may stand

-- a row has sectors, all of them inside the volume
abbrev pub is_inside : (volume lba sectors : ℕ) → Bool
is_inside volume lba sectors = nat_lt 0 sectors && nat_le (lba + sectors) volume

-- one of two rows is for zeros, and the other is not
abbrev pub differ : Option ℕ → Option ℕ → Bool
differ None None = false
differ None (Some place) = true
differ (Some place) None = true
differ (Some place) (Some other) = false

-- the sectors of a row's payload: none where it has no place
abbrev pub payload_at : ℕ → Option ℕ → ℕ
payload_at sectors None = 0
payload_at sectors (Some place) = sectors

abbrev pub data_payload : DataRow → ℕ
data_payload row = payload_at row.sectors row.place

-- a row's payload, if it has one, is at this place
abbrev pub is_at : ℕ → Option ℕ → Bool
is_at place None = true
is_at place (Some at) = at == place

-- a row begins where the row before it ends, or past that, and there only where the two are not one row
abbrev pub data_may_follow : Option DataRow → DataRow → Bool
data_may_follow None row = true
data_may_follow (Some before) row =
    nat_lt (before.lba + before.sectors) row.lba
    || ((before.lba + before.sectors == row.lba) && differ before.place row.place)

-- a row may stand after a row (none where it is the first), with its payload at a place of the payload
abbrev pub data_may_stand : (volume payload : ℕ) → Option DataRow → ℕ → DataRow → Bool
data_may_stand volume payload before place row =
    is_inside volume row.lba row.sectors
    && data_may_follow before row
    && is_at place row.place
    && nat_le (place + data_payload row) payload

-- rows may stand after a row, with their payload from a place on to the payload's end
abbrev pub data_rows_may_stand : (volume payload : ℕ) → Option DataRow → ℕ → List DataRow → Bool
data_rows_may_stand volume payload before place [] = place == payload
data_rows_may_stand volume payload before place (row ∷ rows) =
    data_may_stand volume payload before place row
    && data_rows_may_stand volume payload (Some row) (place + data_payload row) rows

-- the source of a row does not go on where that of the row before it ends
abbrev pub breaks_off : CopyRow → Source → Bool
breaks_off before source =
    not (before.source.level == source.level)
    || not (before.source.number == source.number)
    || not (before.source.place + before.sectors == source.place)

abbrev pub copy_may_follow : Option CopyRow → CopyRow → Bool
copy_may_follow None row = true
copy_may_follow (Some before) row =
    nat_lt (before.lba + before.sectors) row.lba
    || ((before.lba + before.sectors == row.lba) && breaks_off before row.source)

-- the source is payload of an older object of the volume's own
abbrev pub is_source : (number sectors : ℕ) → Source → Bool
is_source number sectors source =
    (source.level == 0) && nat_lt source.number number && nat_le (source.place + sectors) 131071

abbrev pub copy_may_stand : (volume payload number : ℕ) → Option CopyRow → ℕ → CopyRow → Bool
copy_may_stand volume payload number before place row =
    is_inside volume row.lba row.sectors
    && copy_may_follow before row
    && (row.place == place)
    && nat_le (place + row.sectors) payload
    && is_source number row.sectors row.source

abbrev pub copy_rows_may_stand : (volume payload number : ℕ) → Option CopyRow → ℕ → List CopyRow → Bool
copy_rows_may_stand volume payload number before place [] = place == payload
copy_rows_may_stand volume payload number before place (row ∷ rows) =
    copy_may_stand volume payload number before place row
    && copy_rows_may_stand volume payload number (Some row) (place + row.sectors) rows

-- the rows of an object keep their one spelling, in a volume of this many sectors
abbrev pub may_stand : ℕ → Header → Rows → Bool
may_stand volume header (Data rows) = data_rows_may_stand volume header.payload None 0 rows.items
may_stand volume header (Copy rows) = copy_rows_may_stand volume header.payload header.number None 0 rows.items
may_stand volume header Checkpoint = header.payload == 0

-- ---- what the header says of them

abbrev pub rows_kind : Rows → Kind
rows_kind (Data rows) = kinds.Data
rows_kind (Copy rows) = kinds.Copy
rows_kind Checkpoint = kinds.Checkpoint

abbrev pub count_of : Rows → ℕ
count_of (Data rows) = length rows.items
count_of (Copy rows) = length rows.items
count_of Checkpoint = 0

-- the rows are those of an object with this header, in a volume of this many sectors
pub record AreObjectRows (volume : ℕ) (header : Header) (rows : Rows) : Type 0 where
  pub kind : rows_kind rows ≡ header.kind
  pub count : count_of rows ≡ header.rows
  pub spelling : IsTrue (may_stand volume header rows)

-- bytes are those of an object with this header, from which these rows are read
abbrev pub AreReadAs : Header → List ℕ → Rows → Type 0
AreReadAs header bytes (Data rows) = (header.kind ≡ kinds.Data) × (rows.items ≡ rows_in 24 data_row_in header.rows bytes)
AreReadAs header bytes (Copy rows) = (header.kind ≡ kinds.Copy) × (rows.items ≡ rows_in 44 copy_row_in header.rows bytes)
AreReadAs header bytes Checkpoint = (header.kind ≡ kinds.Checkpoint) × (header.rows ≡ 0)
