-- For callers: an object that goes on where the one before it ends is whole, wherever it begins.
use Rattle.std.proofs.Common.{ℕ, Bool, true, false, ◌&&◌, List, refl}
use Rattle.std.specs.Prelude.{IsTrue, Some}
use Rattle.object_format.specs.declared.header.Header.{Header}
use Rattle.object_format.specs.declared.expected.Expected.{Expected}
use Rattle.object_format.specs.declared.rows.Rows.{Rows}
use Rattle.object_format.specs.Header.{has_seqs_of_kind, begins_at}
use Rattle.object_stream.specs.Replay.{HasParts, expected_at}
use Rattle.stopped_volume.specs.Expected.{expected_alone}
use Rattle.stopped_volume.specs.Objects.{IsWhole}

-- two tests hold, and so does the first
first_alone : (first second : Bool) → IsTrue (first && second) → IsTrue (first && true)
first_alone true second both = refl
first_alone false second both = both

pub is_whole : (volume : Expected) (number end_before : ℕ) (bytes : List ℕ) (header : Header) (rows : Rows) (payload : List ℕ)
    → HasParts (expected_at volume number end_before) bytes header rows payload → IsWhole (expected_alone volume number) bytes
is_whole volume number end_before bytes header rows payload parts =
    let object = parts.is_object in
    let head = object.head in (
      header,
      rows,
      record {
        head = record {
          head = head.head;
          has_size = head.has_size;
          uuid = head.uuid;
          number = head.number;
          seqs = first_alone (has_seqs_of_kind header header.kind) (begins_at header.first_seq (Some end_before)) head.seqs;
          limits = head.limits;
          widths = head.widths;
        };
        whole_front = object.whole_front;
        rows_are = object.rows_are;
        row_bytes = object.row_bytes;
        zeros = object.zeros;
      },
    )
