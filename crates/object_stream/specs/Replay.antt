-- Contract: the replay of objects by what their bytes in a store say.
use Rattle.std.specs.Prelude.{◌≡◌, ℕ, zero, suc, ◌+◌, ◌*◌, Option, Some, None, List, [], ◌∷◌, length, drop, if◌then◌else◌}
use Rattle.lsvd_names.specs.declared.name.ObjName.{ObjName}
use Rattle.lsvd_names.specs.Names.{numbered_name}
use Rattle.lsvd_objstore.specs.Objects.{Objects, found}
use Rattle.extent_map.specs.Extents.{is_within}
use Rattle.object_format.specs.declared.header.Header.{Header}
use Rattle.object_format.specs.declared.expected.Expected.{Expected}
use Rattle.object_format.specs.declared.copy_row.CopyRow.{CopyRow}
use Rattle.object_format.specs.declared.rows.Rows.{Rows}
use Rattle.object_format.specs.declared.rows.Rows.TheVariants.{Data, Copy, Checkpoint}
use Rattle.object_format.specs.Layout.{front_sectors}
use Rattle.object_format.specs.Object.{IsObject}
use Rattle.object_stream.specs.Changes.{change_in}
use Rattle.object_stream.specs.Stream.{Owners, owner_by_change, owner_by_copy}

-- the name of the object of this number of the volume that is expected
abbrev pub object_name : Expected → (number : ℕ) → ObjName
object_name volume number = numbered_name volume.uuid number

-- bytes that are a whole object of the grammar under the expected number, with its header, its rows and its payload
pub record HasParts (expected : Expected) (bytes : List ℕ) (header : Header) (rows : Rows) (payload : List ℕ) : Type 0 where
  pub is_object : IsObject bytes (length bytes) expected header rows
  pub payload_is : payload ≡ drop (512 * front_sectors header) bytes

-- the source of a sector in the rows of a copy, by number
abbrev pub source_at : List CopyRow → ℕ → Option ℕ
source_at [] k = None
source_at (row ∷ rows) k = if is_within row.lba row.sectors k then Some row.source.number else source_at rows k

-- the owners after the object of this number, by its rows
abbrev pub after_rows : (number : ℕ) → Rows → (payload : List ℕ) → Owners → Owners
after_rows number (Data rows) payload before k = owner_by_change number (change_in rows.items payload k) (before k)
after_rows number (Copy rows) payload before k = owner_by_copy number (source_at rows.items k) (before k)
after_rows number Checkpoint payload before k = before k

-- What is expected of a volume's object of this number after one with this end; the rest is the volume's.
abbrev pub expected_at : Expected → (number end_before : ℕ) → Expected
expected_at volume number end_before = record volume { number = number; end_before = Some end_before }

-- The objects after one of this number and this end are replayed, as many as this, by what the store has: each is there under its
-- name, a whole object that goes on where the one before it ends. These are the owners before and after.
abbrev pub Replays : Objects → Expected → (number end : ℕ) → Owners → (count : ℕ) → (last_end : ℕ) → Owners → Type 0
Replays objects volume number end before zero last_end after = (last_end ≡ end) × ((k : ℕ) → after k ≡ before k)
Replays objects volume number end before (suc count) last_end after =
    (bytes : List ℕ) × (header : Header) × (rows : Rows) × (payload : List ℕ)
    × (found objects (object_name volume (number + 1)) ≡ Some bytes)
    × HasParts (expected_at volume (number + 1) end) bytes header rows payload
    × Replays objects volume (number + 1) header.end_seq (after_rows (number + 1) rows payload before) count last_end after
