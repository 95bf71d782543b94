-- Contract: the objects of the store: a header, rows, zeros up to a whole sector, and the payload.
use Rattle.std.specs.Prelude.{ℕ, ◌≡◌, ◌*◌, ◌≤◌, List, length, replicate}
use Rattle.lsvd_bytes.specs.Places.{bytes_at}
use Rattle.object_format.specs.declared.header.Header.{Header}
use Rattle.object_format.specs.declared.expected.Expected.{Expected}
use Rattle.object_format.specs.declared.rows.Rows.{Rows}
use Rattle.object_format.specs.Layout.{rows_length, rows_end, front_sectors, padding}
use Rattle.object_format.specs.Header.{IsObjectHeader}
use Rattle.object_format.specs.Rows.{rows_bytes, AreObjectRows}

-- The first bytes of an object of this many bytes, up to its payload at least, have this header and these rows under the
-- expected number. The payload is all that stands after the zeros.
pub record IsObject (bytes : List ℕ) (size : ℕ) (expected : Expected) (header : Header) (rows : Rows) : Type 0 where
  pub head : IsObjectHeader bytes size expected header
  pub whole_front : 512 * front_sectors header ≤ length bytes
  pub rows_are : AreObjectRows expected.sectors header rows
  pub row_bytes : bytes_at 64 (rows_length header.kind header.rows) bytes ≡ rows_bytes rows
  pub zeros : bytes_at (rows_end header) (padding header) bytes ≡ replicate (padding header) 0
