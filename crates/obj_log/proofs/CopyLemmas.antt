-- What was copied by a plan is written as the next object.
use Rattle.std.proofs.Common.{◌≡◌, ℕ, ◌+◌, ◌*◌, ◌^◌, ◌<◌, ◌≤◌, leb, ltb, Some, None, List, ◌++◌, length, drop, refl, sym, ◌∙◌, ap}
use Rattle.std.proofs.Common.{subst, arith, length-append}
use Rattle.std.specs.Prelude.{IsTrue}
use Rattle.std.specs.Global.{Vec}
use Rattle.std.proofs.lemmas.Bool.{and_from, le-leb, eq-eqb}
use Rattle.std.proofs.lemmas.Bool.Decides.{nat_tests}
use Rattle.std.proofs.lemmas.List.{drop_at}
use Rattle.gc_copier.specs.Plan.{sectors_of}
use Rattle.gc_copier.specs.Copying.{CopiedState}
use Rattle.object_format.specs.declared.copy_row.CopyRow.{CopyRow}
use Rattle.object_format.specs.declared.expected.Expected.{Expected}
use Rattle.object_format.specs.declared.header.Header.{Header}
use Rattle.object_format.specs.declared.rows.Rows.{Rows}
use Rattle.object_format.specs.declared.rows.Rows.TheVariants.{Data, Copy, Checkpoint}
use Rattle.object_format.specs.Header.{HasWidths, is_header_within_limits}
use Rattle.object_format.specs.Layout.{front_sectors, length_of}
use Rattle.object_format.specs.Object.{IsObject}
use Rattle.object_format.specs.Rows.{copy_rows_may_stand, count_of}
use Rattle.object_format.specs.Writing.{payload_of, object_header_of, MayBeWritten, front_bytes}
use Rattle.object_format.proofs.LawLemmas.{writes_objects}
use Rattle.object_stream.specs.Replay.{HasParts, source_at}
use Rattle.object_uploads.specs.declared.rows.SealedRows.TheVariants as sealed_rows
use Rattle.object_uploads.specs.Queue.{end_of_last}
use Rattle.object_uploads.specs.Changes.{IsSealedNext}
use Rattle.obj_log.specs.State.{ObjLogState}
use Rattle.obj_log.specs.Changes.{next_of, HasSealedCopy}

-- rows of a copy may be written, with the end of the object before it
pub may_be_written : (expected : Expected) (end : ℕ) (rows : Vec CopyRow) → expected.end_before ≡ Some end
    → length rows.items ≤ 65536 → sectors_of rows.items ≤ 131071
    → IsTrue (copy_rows_may_stand expected.sectors (sectors_of rows.items) expected.number None 0 rows.items)
    → MayBeWritten expected (object_header_of expected end end (Copy rows)) (Copy rows)
may_be_written expected end rows before few most stand = record {
  seqs = rw before (and_from _ _ (eq-eqb end end refl) (eq-eqb end end refl));
  limits =
      and_from (leb (length rows.items) 65536) (leb (sectors_of rows.items) 131071) (le-leb (length rows.items) 65536 few)
      (le-leb (sectors_of rows.items) 131071 most);
  spelling = stand;
}

-- the payload is what comes after a front of this many bytes
payload_after : (bytes front payload : List ℕ) (n : ℕ) → bytes ≡ front ++ payload → length front ≡ n → payload ≡ drop n bytes
payload_after bytes front payload n is size = sym (ap (drop n) is ∙ drop_at front payload n size)

-- what may be written has counts that have the width of their place
few_rows : (expected : Expected) (end : ℕ) (rows : Rows)
    → MayBeWritten expected (object_header_of expected end end rows) rows → count_of rows ≤ 65536
few_rows expected end (Data rows) may = let limits = may.limits in grind (arith, nat_tests)
few_rows expected end (Copy rows) may = let limits = may.limits in grind (arith, nat_tests)
few_rows expected end Checkpoint may = omega arith

few_sectors : (expected : Expected) (end : ℕ) (rows : Rows)
    → MayBeWritten expected (object_header_of expected end end rows) rows → payload_of rows ≤ 131071
few_sectors expected end rows may = let limits = may.limits in grind (arith, nat_tests)

-- what is written is an object
pub has_parts : (expected : Expected) (end : ℕ) (rows : Rows) (payload bytes : List ℕ)
    → length expected.uuid ≡ 16 → expected.number < 2 ^ 64 → end < 2 ^ 64
    → MayBeWritten expected (object_header_of expected end end rows) rows → length payload ≡ 512 * payload_of rows
    → bytes ≡ front_bytes (object_header_of expected end end rows) rows ++ payload
    → HasParts expected bytes (object_header_of expected end end rows) rows payload
has_parts expected end rows payload bytes uuid number seqs may size is =
    let header = object_header_of expected end end rows in
    let few = few_rows expected end rows may in
    let most = few_sectors expected end rows may in
    let widths : HasWidths header = record {
      uuid = uuid;
      number = number;
      first_seq = seqs;
      end_seq = seqs;
      rows = omega (arith, few);
      payload = omega (arith, most);
    } in
    let object = writes_objects expected end end rows payload widths may size in
    let whole = object.head.has_size in
    record {
      is_object = subst (λ bytes. IsObject bytes (length bytes) expected header rows) (sym is) object;
      payload_is =
          payload_after bytes (front_bytes header rows) payload (512 * front_sectors header) is
          (omega (arith, whole, length-append (front_bytes header rows) payload, size));
    }

-- ---- the next object of a list

-- what was copied may be written as it
pub may_be_next : (log : ObjLogState) (copied : List CopyRow) (expected : Expected) (end : ℕ) (rows : Vec CopyRow)
    → expected ≡ next_of log → end ≡ log.batch.first → rows.items ≡ copied → length copied ≤ 65536
    → sectors_of copied ≤ 131071
    → IsTrue (copy_rows_may_stand log.batch.geometry.sectors (sectors_of copied) (log.uploads.window.last + 1) None 0 copied)
    → MayBeWritten expected (object_header_of expected end end (Copy rows)) (Copy rows)
may_be_next log copied expected end rows next first are few most stand =
    rw next (may_be_written (next_of log) end rows (ap (λ n. Some n) (sym first)) (rw are few) (rw are most) (rw are stand))

-- a copy has the rows that it is made of
pub same_copies : (rows others : Vec CopyRow) → Copy rows ≡ Copy others → rows ≡ others
same_copies rows others same = cc

-- it was sealed so
pub is_sealed_copy : (old new : ObjLogState) (copied : CopiedState) (expected : Expected) (end : ℕ) (bytes : List ℕ)
    (rows : Vec CopyRow)
    → expected ≡ next_of old → end ≡ old.batch.first → rows.items ≡ copied.rows
    → HasParts expected bytes (object_header_of expected end end (Copy rows)) (Copy rows) copied.payload
    → IsSealedNext bytes (sealed_rows.Copy rows) (end_of_last old.uploads.queue.end old.uploads.queue.sealed) old.uploads
    new.uploads
    → new.batch ≡ old.batch → HasSealedCopy copied old new
is_sealed_copy old new copied expected end bytes rows next first are parts sealed batch =
    let parts_next : HasParts (next_of old) bytes
    (object_header_of (next_of old) old.batch.first old.batch.first (Copy rows)) (Copy rows) copied.payload =
    subst (λ e. HasParts e bytes (object_header_of e old.batch.first old.batch.first (Copy rows)) (Copy rows) copied.payload) next
    (subst (λ n. HasParts expected bytes (object_header_of expected n n (Copy rows)) (Copy rows) copied.payload) first parts) in
    record {
      bytes = bytes;
      rows = rows;
      rows_are = are;
      parts = parts_next;
      holds = λ pairs same.
          record {
            header = object_header_of (next_of old) old.batch.first old.batch.first (Copy rows);
            rows_of = Copy rows;
            payload = copied.payload;
            parts = parts_next;
            rows_are = refl;
            ends = refl;
            sources = λ k. ap (λ (list : List CopyRow). source_at list k) are ∙ same k;
          };
      uploads = sealed;
      batch = batch;
    }
