-- Contract: what is written of an object, and under which conditions.
use Rattle.std.specs.Prelude.{ℕ, IsTrue, List, ◌++◌, replicate}
use Rattle.std.specs.List.{sum_by}
use Rattle.object_format.specs.declared.header.Header.{Header}
use Rattle.object_format.specs.declared.expected.Expected.{Expected}
use Rattle.object_format.specs.declared.rows.Rows.{Rows}
use Rattle.object_format.specs.declared.rows.Rows.TheVariants.{Data, Copy, Checkpoint}
use Rattle.object_format.specs.Layout.{padding}
use Rattle.object_format.specs.Header.{header_bytes, has_due_seqs, is_header_within_limits}
use Rattle.object_format.specs.Rows.{data_payload, rows_bytes, rows_kind, count_of, may_stand}

-- the sectors of the payload of rows
abbrev pub payload_of : Rows → ℕ
payload_of (Data rows) = sum_by data_payload rows.items
payload_of (Copy rows) = sum_by (λ row. row.sectors) rows.items
payload_of Checkpoint = 0

-- the header of the expected object that holds entries with these seqs, with these rows
abbrev pub object_header_of : Expected → (first_seq end_seq : ℕ) → Rows → Header
object_header_of expected first_seq end_seq rows = record {
  kind = rows_kind rows;
  uuid = expected.uuid;
  number = expected.number;
  first_seq = first_seq;
  end_seq = end_seq;
  rows = count_of rows;
  payload = payload_of rows;
}

-- rows may be written under such a header
pub record MayBeWritten (expected : Expected) (header : Header) (rows : Rows) : Type 0 where
  pub seqs : IsTrue (has_due_seqs expected header)
  pub limits : IsTrue (is_header_within_limits expected header)
  pub spelling : IsTrue (may_stand expected.sectors header rows)

-- an object up to its payload
abbrev pub front_bytes : Header → Rows → List ℕ
front_bytes header rows = header_bytes header ++ rows_bytes rows ++ replicate (padding header) 0

-- the bytes of an object that are written so far, and how many it will have
pub record Written : Type 0 where
  pub bytes : List ℕ
  pub size : ℕ
