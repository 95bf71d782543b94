-- The rows of a data object fit the volume, and what was sealed of a batch.
use Rattle.std.proofs.Common.{◌≡◌, ℕ, ◌+◌, ◌≤◌, ◌&&◌, nat_le, Option, Some, None, List, [], ◌∷◌, length, drop, sym, ◌∙◌, ap}
use Rattle.std.proofs.Common.{subst, arith}
use Rattle.std.specs.Prelude.{IsTrue, IfSome}
use Rattle.std.specs.Global.{Vec}
use Rattle.std.specs.List.{AllByRecursion}
use Rattle.std.proofs.lemmas.Bool.{and_parts}
use Rattle.std.proofs.lemmas.Bool.Decides.{nat_tests}
use Rattle.std.proofs.lemmas.List.Sums.{sum_by-cons}
use Rattle.object_format.specs.declared.copy_row.CopyRow.{CopyRow}
use Rattle.object_format.specs.declared.data_row.DataRow.{DataRow}
use Rattle.object_format.specs.declared.header.Header.{Header}
use Rattle.object_format.specs.declared.expected.Expected.{Expected}
use Rattle.object_format.specs.declared.rows.Rows.TheVariants.{Data, Copy}
use Rattle.object_format.specs.Header.{most_rows}
use Rattle.object_format.specs.Object.{IsObject}
use Rattle.object_format.specs.Rows.{payload_at, data_payload, is_at, data_may_stand, data_rows_may_stand}
use Rattle.object_format.specs.Rows.{copy_may_stand, copy_rows_may_stand}
use Rattle.object_format.specs.Writing.{object_header_of}
use Rattle.object_stream.specs.Replay.{HasParts}
use Rattle.batcher.specs.declared.sealing.SealedBatch.{SealedBatch}
use Rattle.batcher.specs.Sealing as batches
use Rattle.object_uploads.specs.declared.rows.SealedRows.TheVariants as sealed_rows
use Rattle.object_uploads.specs.State.{UploadsState}
use Rattle.object_uploads.specs.Queue.{FitsVolume, FitObject, CopyFitsVolume, FitCopy, copied_sectors}
use Rattle.object_uploads.specs.Changes as objects
use Rattle.batcher.specs.State.{BatchState}
use Rattle.obj_log.specs.State.{ObjLogState}
use Rattle.obj_log.specs.Changes.{next_of, HasSealedObject}

-- ---- rows that the grammar lets stand

place_fits : (sectors place payload : ℕ) (at : Option ℕ) → IsTrue (is_at place at)
    → IsTrue (nat_le (place + payload_at sectors at) payload)
    → payload ≤ 131071 → IfSome at (λ p. p + sectors ≤ 131071)
place_fits sectors place payload None is within most = tt
place_fits sectors place payload (Some at) is within most = grind (arith, nat_tests)

row_fits : (volume payload place : ℕ) (before : Option DataRow) (row : DataRow) → payload ≤ 131071
    → IsTrue (data_may_stand volume payload before place row) → FitsVolume volume row
row_fits volume payload place before row most stand = record {
  sectors_are = grind (arith, nat_tests);
  place = place_fits row.sectors place payload row.place (grind (arith, nat_tests)) (grind (arith, nat_tests)) most;
}

rows_fit : (volume payload place : ℕ) (before : Option DataRow) (rows : List DataRow) → payload ≤ 131071
    → IsTrue (data_rows_may_stand volume payload before place rows) → AllByRecursion (FitsVolume volume) rows
rows_fit volume payload place before [] most stand = tt
rows_fit volume payload place before (row ∷ rows) most stand = (
  row_fits volume payload place before row most (grind (arith, nat_tests)),
  rows_fit volume payload (place + data_payload row) (Some row) rows most (grind (arith, nat_tests)),
)

-- ---- the rows of an object

-- as the header of an object of the grammar says, it has at most that many
few_rows : (bytes : List ℕ) (size : ℕ) (expected : Expected) (head : Header) (rows : Vec DataRow)
    → IsObject bytes size expected head (Data rows)
    → length rows.items ≤ 65536
few_rows bytes size expected head rows is =
    let limits = subst (λ k. IsTrue (nat_le head.rows (most_rows expected.sectors k) && nat_le head.payload 131071))
    (sym is.rows_are.kind) is.head.limits in
    let count : length rows.items ≡ head.rows = is.rows_are.count in
    grind (arith, nat_tests)

-- For the proofs of callers too: the rows of an object fit the volume that is expected.
pub object_fits : (bytes : List ℕ) (size : ℕ) (expected : Expected) (head : Header) (rows : Vec DataRow)
    → IsObject bytes size expected head (Data rows) → FitObject expected.sectors rows.items
object_fits bytes size expected head rows is =
    let most : head.payload ≤ 131071 = grind (arith, nat_tests, is.head.limits) in
    record {
      count = few_rows bytes size expected head rows is;
      fit = rows_fit expected.sectors head.payload 0 None rows.items most is.rows_are.spelling;
    }

-- ---- those of a copy

copy_row_fits : (volume payload number place : ℕ) (before : Option CopyRow) (row : CopyRow) → payload ≤ 131071
    → IsTrue (copy_may_stand volume payload number before place row) → CopyFitsVolume volume row
copy_row_fits volume payload number place before row most stand = record {
  sectors_are = grind (arith, nat_tests);
  place = grind (arith, nat_tests);
}

-- each row fits, and together they have the sectors of the payload from a place on
record CopiesFit (volume payload place : ℕ) (rows : List CopyRow) : Type 0 where
  fit : AllByRecursion (CopyFitsVolume volume) rows
  copied : place + copied_sectors rows ≡ payload

copies_fit : (volume payload number place : ℕ) (before : Option CopyRow) (rows : List CopyRow) → payload ≤ 131071
    → IsTrue (copy_rows_may_stand volume payload number before place rows) → CopiesFit volume payload place rows
copies_fit volume payload number place before [] most stand = record { fit = tt; copied = grind (arith, nat_tests) }
copies_fit volume payload number place before (row ∷ rows) most stand =
    let parts = and_parts (copy_may_stand volume payload number before place row)
    (copy_rows_may_stand volume payload number (Some row) (place + row.sectors) rows) stand in
    let rest = copies_fit volume payload number (place + row.sectors) (Some row) rows most parts.1 in
    record {
      fit = (copy_row_fits volume payload number place before row most parts.0, rest.fit);
      copied = omega (arith, rest.copied, sum_by-cons (λ (r : CopyRow). r.sectors) row rows);
    }

few_copies : (bytes : List ℕ) (size : ℕ) (expected : Expected) (head : Header) (rows : Vec CopyRow)
    → IsObject bytes size expected head (Copy rows)
    → length rows.items ≤ 65536
few_copies bytes size expected head rows is =
    let limits = subst (λ k. IsTrue (nat_le head.rows (most_rows expected.sectors k) && nat_le head.payload 131071))
    (sym is.rows_are.kind) is.head.limits in
    let count : length rows.items ≡ head.rows = is.rows_are.count in
    grind (arith, nat_tests)

-- For the proofs of callers: so do the rows of a copy.
pub copy_fits : (bytes : List ℕ) (size : ℕ) (expected : Expected) (head : Header) (rows : Vec CopyRow)
    → IsObject bytes size expected head (Copy rows) → FitCopy expected.sectors rows.items
copy_fits bytes size expected head rows is =
    let most : head.payload ≤ 131071 = grind (arith, nat_tests, is.head.limits) in
    let fits = copies_fit expected.sectors head.payload head.number 0 None rows.items most is.rows_are.spelling in
    record {
      count = few_copies bytes size expected head rows is;
      copied = omega (arith, fits.copied);
      fit = fits.fit;
    }

-- ---- sealing

pub sealed_fit : (expected : Expected) (bytes : List ℕ) (head : Header) (rows : Vec DataRow) (payload : List ℕ)
    → HasParts expected bytes head (Data rows) payload → FitObject expected.sectors rows.items
sealed_fit expected bytes head rows payload parts = object_fits bytes (length bytes) expected head rows parts.is_object

-- what was sealed of a batch, entered, and released
pub is_sealed : (old : ObjLogState) (expected : Expected) (sealed : SealedBatch) (end : ℕ) (batch : BatchState)
    (uploads : UploadsState)
    → expected ≡ next_of old → batches.IsSealed old.batch expected sealed → end ≡ old.batch.first + sealed.entries
    → objects.IsSealedNext sealed.object (sealed_rows.Data sealed.rows) end old.uploads uploads
    → batch.geometry ≡ old.batch.geometry → batch.first ≡ old.batch.first + sealed.rest.after
    → batch.entries ≡ drop sealed.rest.after old.batch.entries
    → HasSealedObject old (record { batch = batch; uploads = uploads })
is_sealed old expected sealed end batch uploads next is end_is entered geometry first entries = record {
  count = sealed.entries;
  is_count = is.count;
  bytes = sealed.object;
  rows = sealed.rows;
  payload = is.payload;
  parts = subst (λ e. HasParts e sealed.object
      (object_header_of e old.batch.first (old.batch.first + sealed.entries) (Data sealed.rows))
      (Data sealed.rows) is.payload) next is.parts;
  changes = is.changes;
  uploads = rw (← end_is) entered;
  geometry = geometry;
  first = first ∙ ap (λ n. old.batch.first + n) is.after;
  entries = entries ∙ ap (λ n. drop n old.batch.entries) is.after;
}

-- rows that may stand in a copy fit the volume
pub copies_fit_volume : (sectors number : ℕ) (rows : List CopyRow) → length rows ≤ 65536 → copied_sectors rows ≤ 131071
    → IsTrue (copy_rows_may_stand sectors (copied_sectors rows) number None 0 rows) → FitCopy sectors rows
copies_fit_volume sectors number rows few most stand = record {
  count = few;
  copied = most;
  fit = (copies_fit sectors (copied_sectors rows) number 0 None rows most stand).fit;
}
