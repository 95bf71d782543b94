-- Contract: what written objects have to do with those that are read.
use Rattle.std.specs.Prelude.{ℕ, ◌≡◌, ◌+◌, ◌*◌, ◌^◌, ◌<◌, IsTrue, Option, Some, None, List, [], ◌∷◌, ◌++◌, length}
use Rattle.std.specs.List.{sum_by}
use Rattle.object_format.specs.declared.header.Header.{Header}
use Rattle.object_format.specs.declared.expected.Expected.{Expected}
use Rattle.object_format.specs.declared.data_row.DataRow.{DataRow}
use Rattle.object_format.specs.declared.copy_row.CopyRow.{CopyRow}
use Rattle.object_format.specs.declared.rows.Rows.{Rows}
use Rattle.object_format.specs.declared.rows.Rows.TheVariants.{Data, Copy, Checkpoint}
use Rattle.object_format.specs.Header.{HasWidths, IsObjectHeader}
use Rattle.object_format.specs.Rows.{data_payload, data_may_stand, data_rows_may_stand, copy_may_stand, copy_rows_may_stand}
use Rattle.object_format.specs.Object.{IsObject}
use Rattle.object_format.specs.Writing.{payload_of, object_header_of, MayBeWritten, front_bytes}

-- what is written, with a payload of as many sectors as the rows have, is an object
abbrev pub WritesObjects : Type 0
WritesObjects =
    (expected : Expected) (first_seq end_seq : ℕ) (rows : Rows) (payload : List ℕ)
    → HasWidths (object_header_of expected first_seq end_seq rows)
    → MayBeWritten expected (object_header_of expected first_seq end_seq rows) rows
    → length payload ≡ 512 * payload_of rows
    → IsObject (front_bytes (object_header_of expected first_seq end_seq rows) rows ++ payload)
    (length (front_bytes (object_header_of expected first_seq end_seq rows) rows ++ payload)) expected
    (object_header_of expected first_seq end_seq rows) rows

-- two values are the same rows
abbrev pub AreSameRows : Rows → Rows → Type 0
AreSameRows (Data rows) (Data others) = rows.items ≡ others.items
AreSameRows (Copy rows) (Copy others) = rows.items ≡ others.items
AreSameRows Checkpoint Checkpoint = Unit {0}
AreSameRows _ _ = ⊥

-- bytes are an object with one header and with one list of rows, whatever is expected of them
abbrev pub HasOneReading : Type 0
HasOneReading =
    (bytes : List ℕ) (size : ℕ) (expected another : Expected) (a b : Header) (rows others : Rows) → expected.sectors < 2 ^ 64
    → another.sectors < 2 ^ 64
    → IsObject bytes size expected a rows → IsObject bytes size another b others
    → (a ≡ b) × AreSameRows rows others

-- no object begins another: where further bytes after those of one make another, there are none
abbrev pub BeginsNoOther : Type 0
BeginsNoOther =
    (bytes more : List ℕ) (expected another : Expected) (a b : Header)
    → IsObjectHeader bytes (length bytes) expected a → IsObjectHeader (bytes ++ more) (length (bytes ++ more)) another b → more
    ≡ []

-- ---- rows that are made one after the other

-- the last of rows after a row, if there is one
abbrev pub last_of : {R : Type 0} → Option R → List R → Option R
last_of before [] = before
last_of before (row ∷ rows) = last_of (Some row) rows

-- rows that may stand may have another at their end, which then may stand after the last, with its payload
-- after theirs
abbrev pub DataRowsMayGoOn : Type 0
DataRowsMayGoOn =
    (volume payload : ℕ) (rows : List DataRow) (row : DataRow)
    → IsTrue (data_rows_may_stand volume payload None 0 rows)
    → IsTrue (data_may_stand volume (payload + data_payload row) (last_of None rows) payload row)
    → IsTrue (data_rows_may_stand volume (payload + data_payload row) None 0 (rows ++ row ∷ []))

abbrev pub CopyRowsMayGoOn : Type 0
CopyRowsMayGoOn =
    (volume payload number : ℕ) (rows : List CopyRow) (row : CopyRow)
    → IsTrue (copy_rows_may_stand volume payload number None 0 rows)
    → IsTrue (copy_may_stand volume (payload + row.sectors) number (last_of None rows) payload row)
    → IsTrue (copy_rows_may_stand volume (payload + row.sectors) number None 0 (rows ++ row ∷ []))

-- rows that may stand have all of the payload
abbrev pub DataRowsHavePayload : Type 0
DataRowsHavePayload =
    (volume payload : ℕ) (rows : List DataRow) → IsTrue (data_rows_may_stand volume payload None 0 rows)
    → sum_by data_payload rows ≡ payload

abbrev pub CopyRowsHavePayload : Type 0
CopyRowsHavePayload =
    (volume payload number : ℕ) (rows : List CopyRow) → IsTrue (copy_rows_may_stand volume payload number None 0 rows)
    → sum_by (λ row. row.sectors) rows ≡ payload
