-- Written checkpoints are read again, in one way.
use Rattle.std.proofs.Common.{◌≡◌, ℕ, List, [], ◌++◌, length, take, drop, replicate, refl, sym, ◌∙◌, ap}
use Rattle.std.proofs.Common.{append_assoc, arith}
use Rattle.std.proofs.lemmas.Bool.{and_from, le-leb, eq-eqb}
use Rattle.std.proofs.lemmas.List.{length-append, length-replicate, length-drop, take_at, take_all, take-append-drop, append-nil}
use Rattle.lsvd_bytes.specs.Places.{bytes_at}
use Rattle.object_format.specs.declared.header.Header.{Header}
use Rattle.object_format.specs.declared.expected.Expected.{Expected}
use Rattle.object_format.specs.declared.rows.Rows.TheVariants.{Checkpoint}
use Rattle.object_format.specs.Layout.{padding, length_of}
use Rattle.object_format.specs.Header.{header_bytes, begins_at}
use Rattle.object_format.specs.Object.{IsObject}
use Rattle.object_format.proofs.HeaderLemmas.{length-header_bytes}
use Rattle.object_format.proofs.LawLemmas.{begins_no_other}
use Rattle.ckpt_format.specs.Rows.{rows_bytes}
use Rattle.ckpt_format.specs.Checkpoint.{checkpoint_header, checkpoint_bytes, IsCheckpoint}
use Rattle.ckpt_format.specs.Laws.{WritesCheckpoints, HasOneReading, ReadsWhatIsWritten, BeginsNoObject}
use Rattle.ckpt_format.specs.Laws.{IsObjectWithoutRows}
use Rattle.ckpt_format.specs.Fields.{rows_at, EndsInZeros}
use Rattle.ckpt_format.proofs.RowLemmas.{length-rows_bytes}
use Rattle.ckpt_format.proofs.SpellingLemmas.{count_within}
use Rattle.ckpt_format.proofs.CheckpointLemmas.{header_of_both, rows_of_checkpoint, zeros_of_checkpoint}

-- ---- what is written is a checkpoint

pub writes_checkpoints : WritesCheckpoints
writes_checkpoints expected end_seq rows may =
    let header = checkpoint_header expected end_seq (length rows) in
    let head = header_bytes header in
    let part = rows_bytes rows in
    let zeros : List ℕ = replicate (padding header) 0 in
    let bytes = checkpoint_bytes expected end_seq rows in
    let head_size : length head ≡ 64 = length-header_bytes header may.widths.uuid in
    let size : length bytes ≡ length_of header =
    omega (
      arith,
      length-append (head ++ part) zeros,
      length-append head part,
      head_size,
      length-rows_bytes rows,
      length-replicate {A = ℕ} (padding header) 0,
    ) in
    record {
      head = record {
        head = ap (take 64) (append_assoc head part zeros) ∙ take_at head (part ++ zeros) 64 head_size;
        has_size = size;
        uuid = refl;
        number = refl;
        seqs = and_from _ (begins_at end_seq expected.end_before) (eq-eqb end_seq end_seq refl) may.goes_on;
        limits = and_from _ _ (le-leb (length rows) expected.sectors (count_within expected rows may.rows_are)) refl;
        widths = may.widths;
      };
      rows_are = may.rows_are;
      whole = refl;
    }

-- ---- one reading

pub has_one_reading : HasOneReading
has_one_reading bytes expected another end_seq end_too rows others is other =
    let mine = checkpoint_header expected end_seq (length rows) in
    let theirs = checkpoint_header another end_too (length others) in
    let same : mine ≡ theirs = header_of_both bytes (length bytes) expected another mine theirs is.head other.head in
    let count : length rows ≡ length others = ap (λ (h : Header). h.rows) same in (
      same,
      sym (rows_of_checkpoint bytes expected end_seq rows is)
          ∙ ap (λ n. rows_at 0 n bytes) count
          ∙ rows_of_checkpoint bytes another end_too others other,
    )

pub reads_what_is_written : ReadsWhatIsWritten
reads_what_is_written expected another end_seq end_too rows others may is =
    let bytes = checkpoint_bytes expected end_seq rows in
    let one = has_one_reading bytes another expected end_too end_seq others rows is
    (writes_checkpoints expected end_seq rows may) in
    (ap (λ (h : Header). h.end_seq) one.0, one.1)

pub begins_no_object : BeginsNoObject
begins_no_object bytes more expected another end_seq rows header is object =
    begins_no_other bytes more expected another (checkpoint_header expected end_seq (length rows)) header is.head object

-- ---- without rows

-- the zeros of its one sector
zero_part : (bytes : List ℕ) → length bytes ≡ 512 → EndsInZeros 0 bytes → bytes_at 64 448 bytes ≡ replicate 448 0
zero_part bytes size zeros =
    let left : length (drop 64 bytes) ≡ 448 = omega (arith, length-drop 64 bytes, size) in
    take_all 448 (drop 64 bytes) (omega (arith, left)) ∙ zeros ∙ ap (λ n. replicate n 0) left

as_object : (bytes : List ℕ) (expected : Expected) (end_seq : ℕ) → IsCheckpoint bytes expected end_seq []
    → IsObject bytes (length bytes) expected (checkpoint_header expected end_seq 0) Checkpoint
as_object bytes expected end_seq is =
    let zeros = zeros_of_checkpoint bytes expected end_seq [] is in
    record {
      head = is.head;
      whole_front = omega (arith, is.head.has_size);
      rows_are = record { kind = refl; count = refl; spelling = refl };
      row_bytes = refl;
      zeros = zero_part bytes (omega (arith, is.head.has_size)) zeros;
    }

as_checkpoint : (bytes : List ℕ) (expected : Expected) (end_seq : ℕ)
    → IsObject bytes (length bytes) expected (checkpoint_header expected end_seq 0) Checkpoint
    → IsCheckpoint bytes expected end_seq []
as_checkpoint bytes expected end_seq is =
    let size : length bytes ≡ 512 = is.head.has_size in
    let head = header_bytes (checkpoint_header expected end_seq 0) in
    let rest : drop 64 bytes ≡ replicate 448 0 =
    sym (take_all 448 (drop 64 bytes) (omega (arith, length-drop 64 bytes, size))) ∙ is.zeros in
    record {
      head = is.head;
      rows_are = record { shortest = tt; all_stand = tt };
      whole =
          sym (take-append-drop 64 bytes)
          ∙ ap (λ xs. xs ++ drop 64 bytes) is.head.head
          ∙ ap (λ xs. head ++ xs) rest
          ∙ ap (λ xs. xs ++ replicate 448 0) (sym (append-nil head));
    }

pub is_object_without_rows : IsObjectWithoutRows
is_object_without_rows bytes expected end_seq = (as_object bytes expected end_seq, as_checkpoint bytes expected end_seq)
