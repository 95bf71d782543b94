-- The sealed objects of a list that shows a plain volume have as many sectors of payload as it says.
use Rattle.std.proofs.Common.{◌≡◌, ℕ, suc, ◌+◌, ◌-◌, ◌*◌, ◌/◌, List, [], ◌∷◌, get_or, length, take, drop, refl, sym}
use Rattle.std.proofs.Common.{◌∙◌, ap, subst, arith}
use Rattle.std.specs.Prelude.{IsTrue, None}
use Rattle.lsvd_base.specs.declared.entry.Entry.{Entry}
use Rattle.lsvd_base.specs.declared.geometry.Geometry.{Geometry}
use Rattle.object_format.specs.declared.copy_row.CopyRow.{CopyRow}
use Rattle.object_format.specs.declared.data_row.DataRow.{DataRow}
use Rattle.object_format.specs.declared.expected.Expected.{Expected}
use Rattle.object_format.specs.declared.header.Header.{Header}
use Rattle.object_format.specs.declared.kind.Kind.{Kind}
use Rattle.object_format.specs.declared.kind.Kind.TheVariants as kinds
use Rattle.object_format.specs.declared.rows.Rows.{Rows}
use Rattle.object_format.specs.declared.rows.Rows.TheVariants as rows
use Rattle.object_format.specs.Layout.{front_with}
use Rattle.object_format.specs.Object.{IsObject}
use Rattle.object_format.specs.Rows.{data_rows_may_stand, copy_rows_may_stand}
use Rattle.object_stream.specs.declared.object.CopiedSector.{CopiedSector}
use Rattle.object_stream.specs.declared.object.Content.{Content}
use Rattle.object_stream.specs.declared.object.Content.TheVariants.{Data, Copy, Checkpoint}
use Rattle.object_stream.specs.declared.object.StreamObject.{StreamObject}
use Rattle.object_stream.specs.Changes.{change_at, change_in, place_in_payload}
use Rattle.object_stream.specs.Stream.{Stream, Owners, owners, after_object, end_at, source_in, place_in_copy}
use Rattle.object_stream.specs.Laws.{from_object}
use Rattle.object_stream.specs.Replay.{expected_at, source_at}
use Rattle.object_uploads.specs.declared.rows.SealedRows.{SealedRows}
use Rattle.object_uploads.specs.declared.rows.SealedRows.TheVariants as sealed_rows
use Rattle.object_uploads.specs.State.{SealedState}
use Rattle.object_uploads.specs.Queue.{payload_of as data_payload_of, copy_payload_of}
use Rattle.object_uploads.specs.Order.{IsUploads}
use Rattle.object_uploads.specs.Stream.{AreRows, AreCopyRows, HoldsContent, AreSealedOf}
use Rattle.obj_log.specs.State.{ObjLogState}
use Rattle.obj_log.specs.Changes.{expected_of_volume}
use Rattle.plain_disk.specs.State.{PlainState, stream_in, payload_by, payloads_after, payload_of}
use Rattle.plain_disk.specs.Valid.{IsPlainVolume}
use Rattle.plain_disk.proofs.EndLemmas.{frontier_is_sealed}
use Rattle.refine_objects.specs.Shows.{ShowsObjects}
use Rattle.refine_objects.proofs.ShowLemmas.{shown_have_counts}
use Rattle.refine_objects.proofs.PayloadsOf.{payload_past}
use Rattle.refine_objects.proofs.RowPayload.{data_rank, copy_rank}
use Rattle.refine_objects.proofs.SettledRows.{payload_in, HavePayloads}

-- ---- one object

-- its sectors, without those before its payload
past_front : (size payload front its : ℕ) → size ≡ 512 * (its + payload) → its ≡ front → size / 512 - front ≡ payload
past_front size payload front its is same = omega (arith, is, same)

front_is : (kind other : Kind) (count rows : ℕ) → other ≡ kind → count ≡ rows → front_with kind rows ≡ front_with other count
front_is kind other count rows same_kind same =
    ap (λ k. front_with k rows) (sym same_kind) ∙ ap (front_with other) (sym same)

data_payload_is : (expected : Expected) (bytes payload : List ℕ) (header : Header) (all : Rows) (entries : List Entry)
    (items : List DataRow) → AreRows all items → IsObject bytes (length bytes) expected header all
    → ((k : ℕ) → change_in items payload k ≡ change_at entries k)
    → data_payload_of (length bytes) items ≡ place_in_payload entries expected.sectors
data_payload_is expected bytes payload header (rows.Data list) entries items are is same =
    let stand : IsTrue (data_rows_may_stand expected.sectors header.payload None 0 items) =
    subst (λ (l : List DataRow). IsTrue (data_rows_may_stand expected.sectors header.payload None 0 l)) are is.rows_are.spelling
    in
    let count : length items ≡ header.rows = ap length (sym are) ∙ is.rows_are.count in
    past_front (length bytes) header.payload (front_with kinds.Data (length items)) (front_with header.kind header.rows)
    is.head.has_size (front_is header.kind kinds.Data (length items) header.rows is.rows_are.kind count)
    ∙ data_rank expected.sectors header.payload payload entries items stand same
data_payload_is expected bytes payload header (rows.Copy list) entries items are is same = absurd are
data_payload_is expected bytes payload header rows.Checkpoint entries items are is same = absurd are

copy_payload_is : (expected : Expected) (bytes : List ℕ) (header : Header) (all : Rows) (pairs : List CopiedSector)
    (items : List CopyRow) → AreCopyRows all items → IsObject bytes (length bytes) expected header all
    → ((k : ℕ) → source_at items k ≡ source_in pairs k)
    → copy_payload_of (length bytes) items ≡ place_in_copy pairs expected.sectors
copy_payload_is expected bytes header (rows.Data list) pairs items are is same = absurd are
copy_payload_is expected bytes header (rows.Copy list) pairs items are is same =
    let stand : IsTrue (copy_rows_may_stand expected.sectors header.payload header.number None 0 items) =
    subst (λ (l : List CopyRow). IsTrue (copy_rows_may_stand expected.sectors header.payload header.number None 0 l)) are
    is.rows_are.spelling in
    let count : length items ≡ header.rows = ap length (sym are) ∙ is.rows_are.count in
    past_front (length bytes) header.payload (front_with kinds.Copy (length items)) (front_with header.kind header.rows)
    is.head.has_size (front_is header.kind kinds.Copy (length items) header.rows is.rows_are.kind count)
    ∙ copy_rank expected.sectors header.payload header.number pairs items stand same
copy_payload_is expected bytes header rows.Checkpoint pairs items are is same = absurd are

-- an object that holds this content
content_payload : (stream : Stream) (expected : Expected) (content : Content) (entries : List Entry) (before : Owners) (end : ℕ)
    (bytes : List ℕ) (all : SealedRows) → HoldsContent stream expected content entries before end bytes all
    → payload_in (length bytes) all ≡ payload_by expected.sectors entries content
content_payload stream expected Data entries before end bytes (sealed_rows.Data list) holds =
    data_payload_is expected bytes holds.payload holds.header holds.rows_of entries list.items holds.rows_are
    holds.parts.is_object holds.changes
content_payload stream expected (Copy pairs) entries before end bytes (sealed_rows.Copy list) holds =
    copy_payload_is expected bytes holds.header holds.rows_of pairs list.items holds.rows_are holds.parts.is_object holds.sources
content_payload stream expected Checkpoint entries before end bytes sealed_rows.Checkpoint holds = refl
content_payload stream expected content entries before end bytes all holds = absurd holds

-- ---- all of them

all_payloads : (stream : Stream) (volume : Expected) (payload : ℕ → ℕ) (number end : ℕ) (entries : List Entry) (before : Owners)
    (list : List StreamObject) (sealed : List SealedState) → AreSealedOf stream volume number end entries before list sealed
    → ((i : ℕ) → payload (number + 1 + i) ≡ get_or (payloads_after volume.sectors end entries list) i 0)
    → HavePayloads payload number sealed
all_payloads stream volume payload number end entries before [] [] are is = tt
all_payloads stream volume payload number end entries before [] (first ∷ sealed) are is = absurd are
all_payloads stream volume payload number end entries before (object ∷ list) [] are is = absurd are
all_payloads stream volume payload number end entries before (object ∷ list) (first ∷ sealed) are is =
    let part = take (object.end - end) entries in
    let own = content_payload stream (expected_at volume (number + 1) end) object.content part before object.end first.bytes
    first.rows are.0.holds in
    let here : number + 1 + 0 ≡ number + 1 = omega arith in
    let rest : (i : ℕ) → payload (number + 1 + 1 + i)
    ≡ get_or (payloads_after volume.sectors object.end (drop (object.end - end) entries) list) i 0 = λ i.
    (let next : number + 1 + 1 + i ≡ number + 1 + suc i = omega arith in ap payload next ∙ is (suc i)) in (
      own ∙ (sym (is 0) ∙ ap payload here),
      all_payloads stream volume payload (number + 1) object.end
          (drop (object.end - end) entries) (after_object (number + 1) object.content part before) list sealed are.1 rest,
    )

pub payloads_shown : (data_at : ℕ → ℕ) (objects : ObjLogState) (plain : PlainState) → IsUploads objects.uploads
    → IsPlainVolume plain → ShowsObjects data_at objects plain
    → HavePayloads (payload_of plain) objects.uploads.queue.frontier objects.uploads.queue.sealed
payloads_shown data_at objects plain uploads valid shows =
    let stream = stream_in plain in
    let volume = expected_of_volume objects in
    let are = shows.stream.objects in
    let from = objects.uploads.queue.frontier in
    let part = from_object from stream in
    let counts = shown_have_counts data_at objects plain uploads valid shows in
    let list = subst (λ e. AreSealedOf stream volume from e part.entries (owners stream from) part.objects
    objects.uploads.queue.sealed) are.end are.sealed in
    let high = frontier_is_sealed plain valid in
    let sectors : plain.geometry.sectors ≡ volume.sectors = sym (ap (λ (g : Geometry). g.sectors) shows.geometry) in
    all_payloads stream volume (payload_of plain) from (end_at stream from) part.entries (owners stream from) part.objects
    objects.uploads.queue.sealed list (λ i.
    payload_past plain from i valid are.from (omega (arith, high, counts.frontier))
    ∙ ap (λ n. get_or (payloads_after n (end_at stream from) part.entries part.objects) i 0) sectors)
