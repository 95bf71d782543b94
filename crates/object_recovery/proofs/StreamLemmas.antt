-- The list that is recovered is that of the stream whose objects the store has.
use Rattle.std.proofs.Common.{◌≡◌, ℕ, zero, suc, ◌+◌, ◌-◌, ◌*◌, ◌^◌, ◌<◌, ◌≤◌, inl, inr, Option, Some, None, List, [], ◌∷◌, ◌++◌}
use Rattle.std.proofs.Common.{length, take, drop, get_or, refl, sym, ◌∙◌, ap, subst, arith, length-drop}
use Rattle.std.specs.Prelude.{true, is_some}
use Rattle.std.specs.List.{All}
use Rattle.std.specs.Global.{Vec}
use Rattle.std.proofs.Math.Seq.{take-add}
use Rattle.std.proofs.lemmas.Bool.{cases_lt}
use Rattle.std.proofs.lemmas.List.{drop-drop, take_more, take-append-drop, get_or-take, length-take}
use Rattle.std.proofs.lemmas.List.Elements.{All-take, All-drop}
use Rattle.lsvd_base.specs.declared.entry.Entry.{Entry}
use Rattle.lsvd_base.specs.Image.{Image, after}
use Rattle.lsvd_base.specs.Laws.{EndsBy}
use Rattle.lsvd_base.proofs.SectorLemmas.{applies_in_parts}
use Rattle.lsvd_objstore.specs.Objects.{Objects, found}
use Rattle.lsvd_objstore.specs.Store.{ReceiptState}
use Rattle.object_format.specs.declared.copy_row.CopyRow.{CopyRow}
use Rattle.object_format.specs.declared.expected.Expected.{Expected}
use Rattle.object_format.specs.declared.header.Header.{Header}
use Rattle.object_format.specs.declared.rows.Rows.TheVariants as rows_of
use Rattle.object_format.specs.declared.kind.Kind.TheVariants as kinds
use Rattle.object_format.specs.Layout.{front_sectors, front_with}
use Rattle.object_format.specs.Rows.{AreObjectRows}
use Rattle.object_stream.specs.declared.object.CopiedSector.{CopiedSector}
use Rattle.object_stream.specs.declared.object.Content.{Content}
use Rattle.object_stream.specs.declared.object.Content.TheVariants as content
use Rattle.object_stream.specs.declared.object.StreamObject.{StreamObject}
use Rattle.object_stream.specs.Replay.{object_name, HasParts, expected_at}
use Rattle.object_stream.specs.Stored.{HasContent, IsObjectStored, AreStored}
use Rattle.object_stream.specs.Stream.{Stream, Owners, after_object, after_objects, owners, end_after, end_at, last_number}
use Rattle.object_stream.specs.Stream.{GoesTo, EndsFollow}
use Rattle.object_stream.specs.Value.{copied_in}
use Rattle.object_stream.proofs.OneLemmas.{AreSameParts, same_parts}
use Rattle.object_stream.proofs.StreamLemmas.{end_in_parts, goes_on, end_no_earlier, follow_first}
use Rattle.object_stream.proofs.ValueLemmas.{length-after}
use Rattle.object_uploads.specs.declared.rows.SealedRows.{SealedRows}
use Rattle.object_uploads.specs.declared.rows.SealedRows.TheVariants as sealed_rows
use Rattle.object_uploads.specs.Queue.{copy_front_of}
use Rattle.object_uploads.specs.Stream.{HoldsEntries, HoldsCopy}
use Rattle.object_uploads.specs.Laws.{with_adopted, with_copy}
use Rattle.object_uploads.proofs.GrowLemmas.{all_objects}
use Rattle.obj_log.specs.State.{ObjLogState}
use Rattle.obj_log.specs.Changes.{expected_of_volume, next_of, HasAdoptedObject}
use Rattle.obj_log.specs.Stream.{IsOfStream}
use Rattle.obj_log.proofs.ImageLemmas.{adopting_keeps_stream, adopting_copy_keeps_stream}
use Rattle.obj_log.proofs.ImageLemmas.{adopting_makes_image, adopting_copy_keeps_image}
use Rattle.object_uploads.specs.Order.{IsUploads}
use Rattle.object_uploads.specs.Image.{HasImage, HasOwnReceipts, HasLiveSectors}
use Rattle.object_recovery.specs.Adoption.{IsStoredAs}
use Rattle.object_recovery.specs.Recovery.{up_to_object, HasDataUpTo, HasStreamTo}
use Rattle.object_recovery.proofs.ContentLemmas.{IsDataOf, data_of, IsCopyOf, copy_of}
use Rattle.object_recovery.proofs.SourceLemmas.{has_source, owns_still}

-- ---- the objects of a stream one by one

-- one of some objects that are stored
stored_at : (objects : Objects) (uuid_at : ℕ → Option (List ℕ)) (volume : Expected) (number end : ℕ) (entries : List Entry)
    (before : Owners) (list : List StreamObject) (count i : ℕ) (d : StreamObject)
    → i < count → i < length list → EndsFollow end list
    → AreStored objects uuid_at volume number end entries before (take count list)
    → IsObjectStored objects uuid_at (expected_at volume (number + i + 1) (end_after end (take i list)))
    (after_objects number end entries before (take i list)) (get_or list i d)
    (take ((get_or list i d).end - end_after end (take i list)) (drop (end_after end (take i list) - end) entries))
stored_at objects uuid_at volume number end entries before list zero i d below inside follow stored =
    absurd (omega (arith, below))
stored_at objects uuid_at volume number end entries before [] (suc count) i d below inside follow stored =
    absurd (omega (arith, inside))
stored_at objects uuid_at volume number end entries before (object ∷ more) (suc count) zero d below inside follow stored =
    let at : number + 1 ≡ number + 0 + 1 = omega arith in
    let none : 0 ≡ end - end = omega arith in
    subst (λ n. IsObjectStored objects uuid_at (expected_at volume n end) before object
    (take (object.end - end) (drop (end - end) entries)))
    at
    (subst (λ k. IsObjectStored objects uuid_at (expected_at volume (number + 1) end) before object
    (take (object.end - end) (drop k entries)))
    none stored.0)
stored_at objects uuid_at volume number end entries before (object ∷ more) (suc count) (suc i) d below inside follow stored =
    let last = end_after object.end (take i more) in
    let first : end ≤ object.end = goes_on object.content end object.end follow.0 in
    let then : object.end ≤ last = end_no_earlier object.end (take i more) (follow_first object.end i more follow.1) in
    let skip : object.end - end + (last - object.end) ≡ last - end = omega arith in
    let at : number + 1 + i + 1 ≡ number + suc i + 1 = omega arith in
    let then_before = after_object (number + 1) object.content (take (object.end - end) entries) before in
    let owned = after_objects (number + 1) object.end (drop (object.end - end) entries) then_before (take i more) in
    let rest = stored_at objects uuid_at volume (number + 1) object.end (drop (object.end - end) entries) then_before more count i
    d (omega (arith, below))
    (omega (arith, inside)) follow.1 stored.1 in
    let part = drop-drop (last - object.end) (object.end - end) entries ∙ ap (λ k. drop k entries) skip in
    subst (λ n. IsObjectStored objects uuid_at (expected_at volume n last) owned (get_or more i d)
    (take ((get_or more i d).end - last) (drop (last - end) entries))) at
    (subst (λ es. IsObjectStored objects uuid_at (expected_at volume (number + 1 + i + 1) last) owned (get_or more i d)
    (take ((get_or more i d).end - last) es)) part rest)

-- it goes on where the one before it ends
goes_at : (end : ℕ) (list : List StreamObject) (i : ℕ) (d : StreamObject) → i < length list → EndsFollow end list
    → GoesTo (get_or list i d).content (end_after end (take i list)) (get_or list i d).end
goes_at end [] i d inside follow = absurd (omega (arith, inside))
goes_at end (object ∷ more) zero d inside follow = follow.0
goes_at end (object ∷ more) (suc i) d inside follow = goes_at object.end more i d (omega (arith, inside)) follow.1

end_next : (end : ℕ) (list : List StreamObject) (i : ℕ) (d : StreamObject) → i < length list
    → end_after end (take (i + 1) list) ≡ (get_or list i d).end
end_next end list i d inside = ap (end_after end) (take_more list i d inside)
    ∙ end_in_parts end (take i list) (get_or list i d ∷ [])

follow_rest : (end n : ℕ) (list : List StreamObject) → EndsFollow end list
    → EndsFollow (end_after end (take n list)) (drop n list)
follow_rest end zero list follow = follow
follow_rest end (suc n) [] follow = tt
follow_rest end (suc n) (object ∷ more) follow = follow_rest object.end n more follow.1

-- the first of some objects end no later than all
end_within : (end n : ℕ) (list : List StreamObject) → EndsFollow end list → end_after end (take n list) ≤ end_after end list
end_within end n list follow =
    let parts = ap (end_after end) (sym (take-append-drop n list)) ∙ end_in_parts end (take n list) (drop n list) in
    omega (arith, parts, end_no_earlier (end_after end (take n list)) (drop n list) (follow_rest end n list follow))

-- ---- one step

module _ (volume : Expected) (uuid_at : ℕ → Option (List ℕ)) (objects : Objects) (stream : Stream)
    (opening : Image) (number : ℕ) (wide : volume.sectors < 2 ^ 64)
    (has : HasDataUpTo volume uuid_at objects stream opening number) where
  abbrev all : List StreamObject
  all = stream.objects

  enough : number ≤ stream.number + length stream.objects
  enough = has.stored.last

  -- the first missing number is that past the last object
  pub missing_at : (at : ℕ) (bytes : List ℕ) → at ≤ number → found objects (object_name volume (at + 1)) ≡ Some bytes
      → at < number
  missing_at at bytes to there =
      elim (cases_lt at number) [
        | inl low ↦ low
        | inr from ↦
            let same : at ≡ number = omega arith in
            let absent = has.stored.missing.absent in
            let present : found objects (object_name volume (number + 1)) ≡ Some bytes =
            subst (λ n. found objects (object_name volume (n + 1)) ≡ Some bytes) same there in
            absurd (let e = ap is_some present in cc)
      ]

  pub reached : (at : ℕ) → stream.number ≤ at → at ≤ number → found objects (object_name volume (at + 1)) ≡ None → at ≡ number
  reached at from to absent =
      elim (cases_lt at number) [
        | inl low ↦
            let landed = has.stored.missing.least (at + 1) (omega (arith, has.stored.base)) (omega arith) in
            absurd (let e = ap is_some absent in let f : is_some (found objects (object_name volume (at + 1))) ≡ true =
            landed in cc)
        | inr past ↦ omega arith
      ]

  module _ (at : ℕ) (from : stream.number ≤ at) (below : at < number) where
    abbrev i : ℕ
    i = at - stream.number

    abbrev d : StreamObject
    d = record { content = content.Data; end = 0 }

    abbrev object : StreamObject
    object = get_or all i d

    abbrev end_before : ℕ
    end_before = end_at stream at

    abbrev part : List Entry
    part = take (object.end - end_before) (drop (end_before - stream.end) stream.entries)

    inside : i < length all
    inside = omega (arith, enough)

    pub is_stored : IsObjectStored objects uuid_at (expected_at volume (at + 1) end_before) (owners stream at) object part
    is_stored =
        let next : stream.number + i + 1 ≡ at + 1 = omega arith in
        let count : i < number - stream.number = omega arith in
        subst (λ n. IsObjectStored objects uuid_at (expected_at volume n end_before) (owners stream at) object part) next
        (stored_at objects uuid_at volume stream.number stream.end stream.entries stream.opening all
        (number - stream.number) i d count inside has.valid.ends has.stored.stored)

    no_checkpoint_here : object.content ≡ content.Checkpoint → ⊥
    no_checkpoint_here is =
        let count : i < number - stream.number = omega arith in
        let taken : i < length (take (number - stream.number) all) =
        omega (arith, length-take (number - stream.number) all, inside) in
        has.no_checkpoint i d taken
        (ap (λ (o : StreamObject). o.content) (get_or-take (number - stream.number) all i d count) ∙ is)

    goes : GoesTo object.content end_before object.end
    goes = goes_at stream.end all i d inside has.valid.ends

    no_earlier : end_before ≤ object.end
    no_earlier = goes_on object.content end_before object.end goes

    order : stream.end ≤ end_before
    order = end_no_earlier stream.end (take i all) (follow_first stream.end i all has.valid.ends)

    pub next_end : end_at stream (at + 1) ≡ object.end
    next_end =
        let more : at + 1 - stream.number ≡ i + 1 = omega arith in
        ap (λ n. end_after stream.end (take n all)) more ∙ end_next stream.end all i d inside

    last_end : object.end ≤ stream.end + length stream.entries
    last_end =
        let total = ap (end_after stream.end) (all_objects stream) in
        omega (
          arith,
          end_next stream.end all i d inside,
          end_within stream.end (i + 1) all
              has.valid.ends,
          total,
          has.valid.within,
        )

    part_size : length part ≡ object.end - end_before
    part_size =
        omega (
          arith,
          length-take (object.end - end_before) (drop (end_before - stream.end) stream.entries),
          length-drop
              (end_before - stream.end) stream.entries,
          order,
          no_earlier,
          last_end,
        )

    -- the entries of the objects up to the next one
    entries_more : (up_to_object at stream).entries ++ part ≡ (up_to_object (at + 1) stream).entries
    entries_more =
        let sum : end_before - stream.end + (object.end - end_before) ≡ end_at stream (at + 1) - stream.end =
        omega (arith, order, no_earlier, next_end) in
        sym (take-add (end_before - stream.end) (object.end - end_before) stream.entries) ∙ ap (λ n. take n stream.entries) sum

    objects_more : (kind : Content) (end : ℕ) → object.content ≡ kind → object.end ≡ end
        → (up_to_object at stream).objects ++ record { content = kind; end = end } ∷ []
        ≡ (up_to_object (at + 1) stream).objects
    objects_more kind end is ends =
        let more : i + 1 ≡ at + 1 - stream.number = omega arith in
        let own = ap (λ (c : Content). let o : StreamObject = record { content = c; end = object.end } in o) is in
        let whole = ap (λ (e : ℕ). let o : StreamObject = record { content = kind; end = e } in o) ends in
        ap (λ (o : StreamObject). take i all ++ o ∷ []) (sym whole ∙ sym own) ∙ sym (take_more all i d inside)
        ∙ ap (λ n. take n all) more

    grown : (end : ℕ) → object.content ≡ content.Data → object.end ≡ end
        → with_adopted part end (up_to_object at stream) ≡ up_to_object (at + 1) stream
    grown end is ends =
        ap (λ (es : List Entry). let s : Stream =
        record stream {
          entries = es;
          objects = (up_to_object at stream).objects ++ record {
            content = content.Data;
            end = end;
          } ∷ [];
        } in s) entries_more
        ∙ ap (λ (os : List StreamObject). let s : Stream =
        record stream { entries = (up_to_object (at + 1) stream).entries; objects = os } in s)
        (objects_more content.Data end is ends)

    -- a copy has none
    same_entries : object.end ≡ end_before → (up_to_object at stream).entries ≡ (up_to_object (at + 1) stream).entries
    same_entries ends =
        let same : end_before - stream.end ≡ end_at stream (at + 1) - stream.end = omega (arith, next_end, ends) in
        ap (λ n. take n stream.entries) same

    grown_copy : (pairs : List CopiedSector) → object.content ≡ content.Copy pairs → object.end ≡ end_before
        → with_copy pairs (up_to_object at stream) ≡ up_to_object (at + 1) stream
    grown_copy pairs is ends =
        let end = ends ∙ sym (ap (end_after stream.end) (all_objects (up_to_object at stream))) in
        let last = end_at (up_to_object at stream) (last_number (up_to_object at stream)) in
        ap (λ (es : List Entry). let s : Stream =
        record stream {
          entries = es;
          objects = (up_to_object at stream).objects ++ record {
            content = content.Copy pairs;
            end = last;
          } ∷ [];
        } in s) (same_entries ends)
        ∙ ap (λ (os : List StreamObject). let s : Stream =
        record stream { entries = (up_to_object (at + 1) stream).entries; objects = os } in s)
        (objects_more (content.Copy pairs) last is end)

    -- ---- the object that the store has

    module _ (rows : SealedRows) (end : ℕ) (receipt : ReceiptState)
        (stored : IsStoredAs objects (expected_at volume (at + 1) end_before) rows end receipt) where
      abbrev expected : Expected
      expected = expected_at volume (at + 1) end_before

      abbrev payload : List ℕ
      payload = drop (512 * front_sectors stored.header) stored.bytes

      parts : HasParts expected stored.bytes stored.header stored.rows_read payload
      parts = record { is_object = stored.is_object; payload_is = refl }

      one : AreSameParts stored.rows_read is_stored.rows_of payload is_stored.payload stored.header is_stored.header
      one =
          let same : stored.bytes ≡ is_stored.bytes = let e = stored.present in let f = is_stored.present in cc in
          same_parts expected expected stored.bytes is_stored.bytes stored.header is_stored.header
          stored.rows_read is_stored.rows_of payload is_stored.payload
          wide wide same parts is_stored.parts

      object_end : object.end ≡ end
      object_end = sym is_stored.ends ∙ ap (λ (h : Header). h.end_seq) (sym one.headers) ∙ stored.end_is

      is_data : object.content ≡ content.Data → IsDataOf part stored.rows_read rows payload
      is_data is =
          data_of objects uuid_at (owners stream at) part payload is_stored.payload one.payloads stored.rows_read
          is_stored.rows_of rows
          stored.adoptable one.same_rows
          (subst (λ c. HasContent objects uuid_at (owners stream at) c part is_stored.rows_of is_stored.payload) is
          is_stored.content)

      is_copy : (pairs : List CopiedSector) → object.content ≡ content.Copy pairs
          → IsCopyOf objects uuid_at (owners stream at) pairs stored.rows_read rows payload
      is_copy pairs is =
          copy_of objects uuid_at (owners stream at) part payload is_stored.payload one.payloads pairs stored.rows_read
          is_stored.rows_of rows
          stored.adoptable one.same_rows
          (subst (λ c. HasContent objects uuid_at (owners stream at) c part is_stored.rows_of is_stored.payload) is
          is_stored.content)

      holds_entries : (own : IsDataOf part stored.rows_read rows payload)
          → HoldsEntries expected part end stored.bytes own.list.items
      holds_entries own = record {
        header = stored.header;
        rows_of = rows_of.Data own.list;
        payload = payload;
        parts = subst (λ r. HasParts expected stored.bytes stored.header r payload) own.read_is parts;
        rows_are = refl;
        ends = stored.end_is;
        changes = own.changes;
      }

      holds_copy : (pairs : List CopiedSector) (copy : IsCopyOf objects uuid_at (owners stream at) pairs stored.rows_read rows
          payload)
          → HoldsCopy expected pairs end stored.bytes copy.list.items
      holds_copy pairs copy = record {
        header = stored.header;
        rows_of = rows_of.Copy copy.list;
        payload = payload;
        parts = subst (λ r. HasParts expected stored.bytes stored.header r payload) copy.read_is parts;
        rows_are = refl;
        ends = stored.end_is;
        sources = copy.sources;
      }

      -- a copy's payload begins after its rows
      copy_front : (list : Vec CopyRow) → stored.rows_read ≡ rows_of.Copy list
          → front_sectors stored.header ≡ copy_front_of list.items
      copy_front list is =
          let are = subst (AreObjectRows volume.sectors stored.header) is stored.is_object.rows_are in
          ap (λ kind. front_with kind stored.header.rows) (sym are.kind) ∙ ap (front_with kinds.Copy) (sym are.count)

    -- ---- the list with it

    module _ (old new : ObjLogState) (rows : SealedRows) (end : ℕ) (receipt : ReceiptState)
        (same_volume : expected_of_volume old ≡ volume)
        (last : old.uploads.window.last ≡ at) (sealed_none : old.uploads.queue.sealed ≡ []) (batch_none : old.batch.entries ≡ [])
        (uploads : IsUploads old.uploads) (adopted : HasAdoptedObject rows end receipt old new)
        (list : HasStreamTo opening stream at old) (there : IsStoredAs objects (next_of old) rows end receipt) where
      abbrev image : Image
      image = after opening (up_to_object at stream).entries

      first : old.batch.first ≡ end_before
      first = (list.of_stream (λ n. 0)).first ∙ ap (end_after stream.end) (all_objects (up_to_object at stream))

      next_is : next_of old ≡ expected_at volume (at + 1) end_before
      next_is =
          ap (λ (v : Expected). expected_at v (old.uploads.window.last + 1) old.batch.first) same_volume
          ∙ ap (λ n. expected_at volume (n + 1) old.batch.first) last ∙ ap (expected_at volume (at + 1)) first

      stored : IsStoredAs objects (expected_at volume (at + 1) end_before) rows end receipt
      stored = subst (λ e. IsStoredAs objects e rows end receipt) next_is there

      ends : object.end ≡ end
      ends = object_end rows end receipt stored

      length_image : length image ≡ volume.sectors
      length_image =
          length-after opening (up_to_object at stream).entries
          (subst (λ n. All (EndsBy n) (up_to_object at stream).entries) (sym has.sectors)
          (All-take (EndsBy volume.sectors) (end_before - stream.end) stream.entries has.inside))
          ∙ has.sectors

      part_inside : All (EndsBy (length image)) part
      part_inside =
          subst (λ n. All (EndsBy n) part) (sym length_image)
          (All-take (EndsBy volume.sectors) (object.end - end_before) (drop (end_before - stream.end) stream.entries)
          (All-drop (EndsBy volume.sectors) (end_before - stream.end) stream.entries has.inside))

      -- ---- with a data object

      module _ (kind : object.content ≡ content.Data) where
        own : IsDataOf part stored.rows_read rows (payload rows end receipt stored)
        own = is_data rows end receipt stored kind

        data_adopted : HasAdoptedObject (sealed_rows.Data own.list) end receipt old new
        data_adopted = subst (λ r. HasAdoptedObject r end receipt old new) own.rows_are adopted

        holds : HoldsEntries (next_of old) part end stored.bytes own.list.items
        holds =
            subst (λ e. HoldsEntries e part end stored.bytes own.list.items) (sym next_is)
            (holds_entries rows end receipt stored own)

        data_image : HasImage (after opening (up_to_object (at + 1) stream).entries) new.uploads.queue
            × HasOwnReceipts new.uploads.queue
        data_image =
            let now = adopting_makes_image (λ n. 0) (up_to_object at stream) old new part stored.bytes own.list end receipt image
            uploads (list.of_stream (λ n. 0)) sealed_none holds data_adopted stored.receipt_is part_inside list.image in
            let joined : after image part ≡ after opening (up_to_object (at + 1) stream).entries =
            sym (applies_in_parts opening (up_to_object at stream).entries part)
            ∙ ap (after opening) entries_more in
            (subst (λ x. HasImage x new.uploads.queue) joined now.0, now.1)

        data_of_stream : (data_at : ℕ → ℕ) → IsOfStream data_at (up_to_object (at + 1) stream) new
        data_of_stream data_at =
            let grows : end_before < object.end = subst (λ c. GoesTo c end_before object.end) kind goes in
            let size : end ≡ old.batch.first + length part = omega (arith, first, part_size, ends, grows) in
            let some : 0 < length part = omega (arith, part_size, grows) in
            subst (λ s. IsOfStream data_at s new) (grown end kind ends)
            (adopting_keeps_stream data_at (up_to_object at stream) old new part stored.bytes own.list end receipt uploads
            (list.of_stream data_at) sealed_none batch_none size some holds data_adopted)

        data_more : HasStreamTo opening stream (at + 1) new
        data_more = record { of_stream = data_of_stream; image = data_image.0; receipts = data_image.1 }

      -- ---- with a copy

      module _ (pairs : List CopiedSector) (kind : object.content ≡ content.Copy pairs) where
        copy : IsCopyOf objects uuid_at (owners stream at) pairs stored.rows_read rows (payload rows end receipt stored)
        copy = is_copy rows end receipt stored pairs kind

        still : object.end ≡ end_before
        still = subst (λ c. GoesTo c end_before object.end) kind goes

        -- it ends where it begins
        end_is : end ≡ old.batch.first
        end_is = sym ends ∙ (still ∙ sym first)

        copy_adopted : HasAdoptedObject (sealed_rows.Copy copy.list) end receipt old new
        copy_adopted = subst (λ r. HasAdoptedObject r end receipt old new) copy.rows_are adopted

        copies : HoldsCopy (next_of old) pairs end stored.bytes copy.list.items
        copies =
            subst (λ e. HoldsCopy e pairs end stored.bytes copy.list.items) (sym next_is)
            (holds_copy rows end receipt stored pairs copy)

        frontier : old.uploads.queue.frontier ≡ at
        frontier = let size = ap length sealed_none in omega (arith, size, uploads.last, last)

        -- it has the image's sectors of its sources
        live_sectors : HasLiveSectors image old.uploads.queue.maps stored.bytes copy.list.items
        live_sectors k source sector source_is live held =
            let within : end_before ≤ stream.end + length stream.entries = omega (arith, no_earlier, last_end) in
            let to : at ≤ number = omega (arith, below) in
            let of_stream = list.of_stream (λ n. 0) in
            let has_it = has_source volume uuid_at objects stream opening number wide has at to within old of_stream frontier k
            source sector live held in
            let owns = owns_still volume uuid_at objects stream opening number wide has at to within old of_stream frontier k
            source live in
            let front = copy_front rows end receipt stored copy.list copy.read_is in
            ap (λ n. copied_in copy.list.items (drop (512 * n) stored.bytes) k) (sym front)
            ∙ copy.copied k source sector (sym (copy.sources k) ∙ source_is) owns has_it

        copy_image : HasImage (after opening (up_to_object (at + 1) stream).entries) new.uploads.queue
            × HasOwnReceipts new.uploads.queue
        copy_image =
            let now = adopting_copy_keeps_image (λ n. 0) (up_to_object at stream) old new pairs stored.bytes copy.list end receipt
            image uploads (list.of_stream (λ n. 0)) sealed_none copies copy_adopted stored.receipt_is (λ told. live_sectors)
            list.image in
            (subst (λ es. HasImage (after opening es) new.uploads.queue) (same_entries still) now.0, now.1)

        copy_of_stream : (data_at : ℕ → ℕ) → IsOfStream data_at (up_to_object (at + 1) stream) new
        copy_of_stream data_at =
            subst (λ s. IsOfStream data_at s new) (grown_copy pairs kind still)
            (adopting_copy_keeps_stream data_at (up_to_object at stream) old new pairs stored.bytes copy.list receipt uploads
            (list.of_stream data_at) sealed_none batch_none
            (subst (λ e. HoldsCopy (next_of old) pairs e stored.bytes copy.list.items) end_is copies)
            (subst (λ e. HasAdoptedObject (sealed_rows.Copy copy.list) e receipt old new) end_is copy_adopted))

        copy_more : HasStreamTo opening stream (at + 1) new
        copy_more = record { of_stream = copy_of_stream; image = copy_image.0; receipts = copy_image.1 }

      more_by : (kind : Content) → object.content ≡ kind → HasStreamTo opening stream (at + 1) new
      more_by content.Data is = data_more is
      more_by (content.Copy pairs) is = copy_more pairs is
      more_by content.Checkpoint is = absurd (no_checkpoint_here is)

      pub one_more : HasStreamTo opening stream (at + 1) new
      one_more = more_by object.content refl
