-- The payload of a plain volume's object in a store is what the volume knows.
use Rattle.std.proofs.Common.{◌≡◌, ℕ, zero, suc, ◌+◌, ◌-◌, ◌<◌, ◌≤◌, inl, inr, Some, List, [], ◌∷◌, length, take}
use Rattle.std.proofs.Common.{drop}
use Rattle.std.proofs.Common.{get_or, sym, ◌∙◌, ap, subst, arith}
use Rattle.std.specs.List.{slice_get}
use Rattle.lsvd_base.specs.declared.entry.Entry.{Entry}
use Rattle.object_format.specs.declared.expected.Expected.{Expected}
use Rattle.object_format.specs.declared.header.Header.{Header}
use Rattle.object_format.specs.declared.kind.Kind.TheVariants as kinds
use Rattle.object_format.specs.declared.rows.Rows.{Rows}
use Rattle.object_format.specs.declared.rows.Rows.TheVariants as rows_of
use Rattle.object_format.specs.Header.{IsObjectHeader}
use Rattle.ckpt_format.specs.Checkpoint.{checkpoint_header}
use Rattle.ckpt_format.proofs.CheckpointLemmas.{header_of_both}
use Rattle.object_stream.specs.declared.object.Content.{Content}
use Rattle.object_stream.specs.declared.object.Content.TheVariants.{Data, Copy, Checkpoint}
use Rattle.object_stream.specs.declared.object.StreamObject.{StreamObject}
use Rattle.object_stream.specs.Replay.{HasParts, expected_at}
use Rattle.object_stream.specs.Stream.{Stream, owners, end_after, end_at, last_number, entries_in_object, place_in_object}
use Rattle.object_uploads.specs.Stream.{HoldsOwners, HoldsContent}
use Rattle.stopped_volume.specs.Expected.{expected_alone}
use Rattle.plain_disk.specs.State.{PlainState, stream_in, payload_by, payloads_after, payload_of}
use Rattle.plain_disk.specs.Valid.{IsPlainVolume}
use Rattle.refine_objects.proofs.PayloadsOf.{payload_past}
use Rattle.refine_objects.proofs.RowPayload.{data_rank, copy_rank}
use Rattle.refine_store.specs.Puts.{IsOpeningObject, IsLaterObject, IsObjectOf}
use Rattle.refine_store.proofs.DataLemmas.{AreContentRows, sectors_of_content, owners_of_content}
use Rattle.refine_store.proofs.ObjectLemmas.{end_up_to}

-- ---- by its rows

rows_payload : (expected : Expected) (content : Content) (entries : List Entry) (bytes : List ℕ) (header : Header) (rows : Rows)
    (payload : List ℕ) → HasParts expected bytes header rows payload → AreContentRows content entries rows payload
    → header.payload ≡ place_in_object content entries expected.sectors
rows_payload expected Data entries bytes header (rows_of.Data list) payload parts are =
    data_rank expected.sectors header.payload payload entries list.items parts.is_object.rows_are.spelling are
rows_payload expected (Copy pairs) entries bytes header (rows_of.Copy list) payload parts are =
    copy_rank expected.sectors header.payload header.number pairs list.items parts.is_object.rows_are.spelling are
rows_payload expected Data entries bytes header (rows_of.Copy list) payload parts are = absurd are
rows_payload expected Data entries bytes header rows_of.Checkpoint payload parts are = absurd are
rows_payload expected (Copy pairs) entries bytes header (rows_of.Data list) payload parts are = absurd are
rows_payload expected (Copy pairs) entries bytes header rows_of.Checkpoint payload parts are = absurd are
rows_payload expected Checkpoint entries bytes header rows payload parts are = absurd are

-- ---- by the plain volume

-- the payload of the first of some objects, from one on
first_payload : (sectors end : ℕ) (entries : List Entry) (i : ℕ) (objects : List StreamObject) (object : StreamObject)
    → slice_get objects i ≡ Some object
    → get_or (payloads_after sectors end entries (drop i objects)) 0 0
    ≡ payload_by sectors (take (object.end - end) entries) object.content
first_payload sectors end entries i [] object at = absurd cc
first_payload sectors end entries zero (first ∷ more) object at =
    let same : first ≡ object = cc in
    ap (λ (o : StreamObject). payload_by sectors (take (o.end - end) entries) o.content) same
first_payload sectors end entries (suc i) (first ∷ more) object at = first_payload sectors end entries i more object at

module _ (plain : PlainState) (number : ℕ) (object : StreamObject) (valid : IsPlainVolume plain) (past : plain.number < number)
    (sealed : number ≤ last_number (stream_in plain))
    (there : slice_get plain.objects (number - (plain.number + 1)) ≡ Some object) where
  abbrev stream : Stream
  stream = stream_in plain

  ends : end_at stream number ≡ object.end
  ends =
      let next : number - plain.number ≡ suc (number - (plain.number + 1)) = omega (arith, past) in
      ap (λ n. end_after plain.end (take n plain.objects)) next
      ∙ end_up_to plain.end (number - (plain.number + 1)) plain.objects object there

  payload_is : payload_of plain number ≡ payload_by plain.geometry.sectors (entries_in_object stream number) object.content
  payload_is =
      let sectors = plain.geometry.sectors in
      let from = number - 1 in
      let end = end_at stream from in
      let entries = drop (end - plain.end) plain.entries in
      let sum : from + 1 + 0 ≡ number = omega (arith, past) in
      let index : number - (plain.number + 1) ≡ from - plain.number = omega (arith, past) in
      ap (payload_of plain) (sym sum)
      ∙ (payload_past plain from 0 valid (omega (arith, past)) (omega (arith, sealed))
      ∙ (first_payload sectors end entries (from - plain.number) plain.objects object
      (ap (slice_get plain.objects) (sym index) ∙ there)
      ∙ ap (λ last. payload_by sectors (take (last - end) entries) object.content) (sym ends)))

-- ---- an object in the store

module _ (volume : Expected) (plain : PlainState) (number : ℕ) (bytes : List ℕ) (valid : IsPlainVolume plain)
    (same : volume.sectors ≡ plain.geometry.sectors) (sealed : number ≤ last_number (stream_in plain)) (header : Header)
    (is_header : IsObjectHeader bytes (length bytes) (expected_alone volume number) header)
    (no_checkpoint : header.kind ≡ kinds.Checkpoint → ⊥) where
  not_opening : IsOpeningObject volume plain number bytes → ⊥
  not_opening is =
      let alone : Expected = expected_alone volume number in
      let head = checkpoint_header alone plain.end (length is.rows) in
      let one = header_of_both bytes (length bytes) alone alone head header is.is_checkpoint.head is_header in
      no_checkpoint (sym (ap (λ (h : Header). h.kind) one))

  not_checkpoint : (is : IsLaterObject volume plain number bytes) → is.object.content ≡ Checkpoint → ⊥
  not_checkpoint is kind =
      let stream = stream_in plain in
      let expected : Expected = expected_at volume number (end_at stream (number - 1)) in
      let holds : HoldsOwners stream expected (owners stream (number - 1)) is.object.end bytes =
      owners_of_content stream expected (entries_in_object stream number) (owners stream (number - 1)) is.object.end bytes is.rows
      (subst (λ c. HoldsContent stream expected c (entries_in_object stream number) (owners stream (number - 1)) is.object.end
      bytes is.rows) kind is.holds) in
      let head = checkpoint_header expected is.object.end (length holds.holds.rows) in
      let one = header_of_both bytes (length bytes) expected (expected_alone volume number) head header
      holds.holds.is_checkpoint.head is_header in
      no_checkpoint (sym (ap (λ (h : Header). h.kind) one))

  later_payload : IsLaterObject volume plain number bytes → header.payload ≡ payload_of plain number
  later_payload is =
      let stream = stream_in plain in
      let own = entries_in_object stream number in
      let expected : Expected = expected_at volume number (end_at stream (number - 1)) in
      let has = sectors_of_content stream expected is.object.content own (owners stream (number - 1)) is.object.end bytes is.rows
      (not_checkpoint is) is.holds in
      let one = header_of_both bytes (length bytes) (expected_alone volume number) expected header has.header is_header
      has.parts.is_object.head in
      ap (λ (h : Header). h.payload) one
      ∙ (rows_payload expected is.object.content own bytes has.header has.rows has.payload has.parts has.are
      ∙ (ap (place_in_object is.object.content own) same
      ∙ sym (payload_is plain number is.object valid is.past sealed is.there)))

  pub object_payload : IsObjectOf volume plain number bytes → header.payload ≡ payload_of plain number
  object_payload (inl first) = absurd (not_opening first)
  object_payload (inr is) = later_payload is
