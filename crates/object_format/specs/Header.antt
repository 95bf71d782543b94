-- Contract: the header of an object: its bytes, and which header may stand under a number of the store.
use Rattle.std.specs.Prelude.{ℕ, ◌≡◌, ◌==◌, ◌^◌, ◌<◌, Bool, true, ◌&&◌, nat_lt, nat_le, IsTrue, Option, Some, None, List, ◌++◌}
use Rattle.std.specs.Prelude.{length, take, codes}
use Rattle.std.specs.Int.{w32, w64, to_be_bytes}
use Rattle.std.specs.Option.{option_map}
use Rattle.lsvd_bytes.specs.Places.{bytes_at, number_at}
use Rattle.object_format.specs.declared.kind.Kind.{Kind}
use Rattle.object_format.specs.declared.kind.Kind.TheVariants.{Data, Copy, Checkpoint}
use Rattle.object_format.specs.declared.header.Header.{Header}
use Rattle.object_format.specs.declared.expected.Expected.{Expected}
use Rattle.object_format.specs.Layout.{number_of, kind_from, length_of}

-- ---- its bytes

-- the 64 bytes of a header
unfoldable pub header_bytes : Header → List ℕ
header_bytes header =
    codes "LSVDOBJ1"
    ++ to_be_bytes w32 (number_of header.kind)
    ++ header.uuid
    ++ to_be_bytes w64 header.number
    ++ to_be_bytes w64 header.first_seq
    ++ to_be_bytes w64 header.end_seq
    ++ to_be_bytes w32 header.rows
    ++ to_be_bytes w64 header.payload

-- its numbers and its uuid have the width of their place
pub record HasWidths (header : Header) : Type 0 where
  pub uuid : length header.uuid ≡ 16
  pub number : header.number < 2 ^ 64
  pub first_seq : header.first_seq < 2 ^ 64
  pub end_seq : header.end_seq < 2 ^ 64
  pub rows : header.rows < 2 ^ 32
  pub payload : header.payload < 2 ^ 64

-- the header of a kind with the fields that stand in 64 bytes
abbrev pub header_with : Kind → List ℕ → Header
header_with kind head = record {
  kind = kind;
  uuid = bytes_at 12 16 head;
  number = number_at w64 28 head;
  first_seq = number_at w64 36 head;
  end_seq = number_at w64 44 head;
  rows = number_at w32 52 head;
  payload = number_at w64 56 head;
}

-- the header with the fields of 64 bytes, if the number of the kind in them is one
abbrev pub header_in : List ℕ → Option Header
header_in head = option_map (λ kind. header_with kind head) (kind_from (number_at w32 8 head))

-- ---- which may stand

-- the seqs of a data object are one at least, and those of another object none
abbrev pub has_seqs_of_kind : Header → Kind → Bool
has_seqs_of_kind header Data = nat_lt header.first_seq header.end_seq
has_seqs_of_kind header Copy = header.first_seq == header.end_seq
has_seqs_of_kind header Checkpoint = header.first_seq == header.end_seq

-- an object begins with the seq at which the object before it ends, where that is known
abbrev pub begins_at : ℕ → Option ℕ → Bool
begins_at first_seq None = true
begins_at first_seq (Some end_before) = first_seq == end_before

abbrev pub has_due_seqs : Expected → Header → Bool
has_due_seqs expected header = has_seqs_of_kind header header.kind && begins_at header.first_seq expected.end_before

-- the most rows of an object, for a volume of this many sectors
abbrev pub most_rows : ℕ → Kind → ℕ
most_rows volume Data = 65536
most_rows volume Copy = 65536
most_rows volume Checkpoint = volume

abbrev pub is_header_within_limits : Expected → Header → Bool
is_header_within_limits expected header =
    nat_le header.rows (most_rows expected.sectors header.kind) && nat_le header.payload 131071

-- The first bytes of an object of this many bytes have a header that may stand under the expected number, and the object is
-- as long as it says.
pub record IsObjectHeader (bytes : List ℕ) (size : ℕ) (expected : Expected) (header : Header) : Type 0 where
  pub head : take 64 bytes ≡ header_bytes header
  pub has_size : size ≡ length_of header
  pub uuid : header.uuid ≡ expected.uuid
  pub number : header.number ≡ expected.number
  pub seqs : IsTrue (has_due_seqs expected header)
  pub limits : IsTrue (is_header_within_limits expected header)
  pub widths : HasWidths header
