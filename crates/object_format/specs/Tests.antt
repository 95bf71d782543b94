-- Contract: for which reason bytes are no object: the tests, and their order.
use Rattle.std.specs.Prelude.{ℕ, ◌≡◌, ◌==◌, ◌<◌, Bool, nat_le, IsTrue, IsSome, IsSomeAnd, Option, Some, None, List, take, codes}
use Rattle.std.specs.Int.{w64}
use Rattle.lsvd_bytes.specs.Places.{bytes_at, number_at}
use Rattle.object_format.specs.declared.header.Header.{Header}
use Rattle.object_format.specs.declared.expected.Expected.{Expected}
use Rattle.object_format.specs.declared.reason.BadObject.{BadObject}
use Rattle.object_format.specs.declared.reason.BadObject.TheVariants as reasons
use Rattle.object_format.specs.declared.rows.Rows.{Rows}
use Rattle.object_format.specs.declared.rows_reading.RowsReadError.{RowsReadError}
use Rattle.object_format.specs.declared.rows_reading.RowsReadError.TheVariants.{Bad, OutOfMemory}
use Rattle.object_format.specs.Layout.{length_of}
use Rattle.object_format.specs.Header.{header_in, has_due_seqs, is_header_within_limits}
use Rattle.object_format.specs.Object.{IsObject}

-- the number of a reason, in the order of the tests
abbrev pub code_of : BadObject → ℕ
code_of reasons.Length = 1
code_of reasons.Magic = 2
code_of reasons.Kind = 3
code_of reasons.Uuid = 4
code_of reasons.Number = 5
code_of reasons.Seqs = 6
code_of reasons.Counts = 7
code_of reasons.Rows = 8

-- an object may have this many bytes: as many as its header says, or, where its kind is unknown, at least the header's
abbrev pub is_length : Option Header → ℕ → Bool
is_length None size = nat_le 64 size
is_length (Some header) size = size == length_of header

-- the first bytes of an object of this many bytes pass the test that a reason stands for
abbrev pub PassesObjectTest : (bytes : List ℕ) (size : ℕ) → Expected → BadObject → Type 0
PassesObjectTest bytes size expected reasons.Length = IsTrue (is_length (header_in (take 64 bytes)) size)
PassesObjectTest bytes size expected reasons.Magic = take 8 (take 64 bytes) ≡ codes "LSVDOBJ1"
PassesObjectTest bytes size expected reasons.Kind = IsSome (header_in (take 64 bytes))
PassesObjectTest bytes size expected reasons.Uuid = bytes_at 12 16 (take 64 bytes) ≡ expected.uuid
PassesObjectTest bytes size expected reasons.Number = number_at w64 28 (take 64 bytes) ≡ expected.number
PassesObjectTest bytes size expected reasons.Seqs =
    IsSomeAnd (header_in (take 64 bytes)) (λ header. IsTrue (has_due_seqs expected header))
PassesObjectTest bytes size expected reasons.Counts =
    IsSomeAnd (header_in (take 64 bytes)) (λ header. IsTrue (is_header_within_limits expected header))
PassesObjectTest bytes size expected reasons.Rows = (header : Header) × (rows : Rows) × IsObject bytes size expected header rows

-- the first test that they do not pass is that of this reason
pub record IsObjectRefusedAs (bytes : List ℕ) (size : ℕ) (expected : Expected) (reason : BadObject) : Type 0 where
  pub earlier : (other : BadObject) → code_of other < code_of reason → PassesObjectTest bytes size expected other
  pub failed : ¬ PassesObjectTest bytes size expected reason

-- what an error of a read of rows says of the bytes: the rows are the first that fails
abbrev pub IsObjectReason : (bytes : List ℕ) (size : ℕ) → Expected → RowsReadError → Type 0
IsObjectReason bytes size expected (Bad reason) = (reason ≡ reasons.Rows) × IsObjectRefusedAs bytes size expected reason
IsObjectReason bytes size expected OutOfMemory = Unit {0}
