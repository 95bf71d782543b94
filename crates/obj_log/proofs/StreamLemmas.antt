-- The list stays that of a stream.
use Rattle.std.proofs.Common.{◌≡◌, ℕ, ◌+◌, ◌-◌, ◌<◌, ◌≤◌, Option, Some, None, List, [], ◌∷◌, ◌++◌, length, take, drop, refl, sym}
use Rattle.std.proofs.Common.{◌∙◌, ap, subst, arith, length-drop}
use Rattle.std.specs.Prelude.{IfSome}
use Rattle.std.proofs.lemmas.Bool.Decides.{nat_tests}
use Rattle.std.proofs.lemmas.List.{drop-drop, drop-append-le}
use Rattle.lsvd_base.specs.declared.geometry.Geometry.{Geometry}
use Rattle.extent_map.specs.declared.extent.Extent.{Extent}
use Rattle.extent_map.specs.Extents.{place_at}
use Rattle.object_format.specs.declared.expected.Expected.{Expected}
use Rattle.object_format.specs.declared.rows.Rows.TheVariants.{Data}
use Rattle.object_format.specs.Writing.{object_header_of}
use Rattle.object_stream.specs.declared.object.Content.TheVariants as content
use Rattle.object_stream.specs.declared.object.StreamObject.{StreamObject}
use Rattle.object_stream.specs.Changes.{change_at}
use Rattle.object_stream.specs.Replay.{HasParts, expected_at}
use Rattle.object_stream.specs.Stream.{Stream, end_after, end_at, last_number, unsealed, IsStream}
use Rattle.object_stream.proofs.StreamLemmas.{end_no_earlier}
use Rattle.volume_maps.specs.declared.place.ObjectPlace.{ObjectPlace}
use Rattle.volume_maps.specs.declared.place.LogPlace.{LogPlace}
use Rattle.volume_maps.specs.Places.{object_on, log_on}
use Rattle.volume_maps.specs.Maps.{settled_at, logged_at}
use Rattle.volume_maps.specs.Laws.{place_owner}
use Rattle.batcher.specs.State.{BatchState}
use Rattle.object_uploads.specs.State.{UploadsState}
use Rattle.object_uploads.specs.Queue.{IsEntered}
use Rattle.object_uploads.specs.declared.rows.SealedRows.TheVariants as sealed_rows
use Rattle.object_uploads.specs.Changes.{IsSealedNext, IsNotSealed}
use Rattle.object_uploads.specs.Order.{IsUploads}
use Rattle.object_uploads.specs.Checkpoint.{expected_next}
use Rattle.object_uploads.specs.Stream.{HoldsEntries, HoldsCopy, IsPlacedIn, AreOfStream}
use Rattle.object_uploads.specs.Laws.{with_entry, with_data_object}
use Rattle.object_uploads.proofs.PlacedLemmas as keep_objects
use Rattle.object_uploads.proofs.GrowLemmas as grow
use Rattle.object_uploads.proofs.CheckpointStream as checkpoint
use Rattle.object_uploads.proofs.KeepLemmas as keep
use Rattle.obj_log.specs.State.{ObjLogState}
use Rattle.obj_log.specs.Changes.{expected_of_volume, next_of, HasSealedObject}
use Rattle.obj_log.specs.Stream.{IsOfStream}
use Rattle.obj_log.specs.Laws.{NewListBeginsStream, RoomKeepsStreamOfList, AddingKeepsStreamOfList, SealingKeepsStreamOfList}
use Rattle.obj_log.specs.Laws.{SealingCheckpointKeepsStreamOfList, RemovalsKeepStreamOfList, JobsKeepStreamOfList}
use Rattle.obj_log.specs.Laws.{SealingCopyKeepsStreamOfList, DoneKeepsStreamOfList}

pub new_list_begins_stream : NewListBeginsStream
new_list_begins_stream data_at log number end opening inherited first entries sectors window frontier end_is sealed logged ordered
    owned others =
    let stream : Stream = record {
      number = number;
      end = end;
      opening = opening;
      inherited = inherited;
      entries = [];
      objects = [];
    } in
    let last : end_at stream (last_number stream) ≡ end = ap (end_after end) (grow.all_objects stream) in
    let none : 0 ≡ end_at stream (last_number stream) - end = omega (arith, last) in
    record {
      objects = grow.stream_begins
          (expected_of_volume log) data_at log.uploads number end opening inherited window frontier end_is
          sealed logged ordered owned others;
      sectors = sectors;
      first = first ∙ sym last;
      entries = entries ∙ ap (λ n. drop n stream.entries) none;
    }

-- ---- the volume

-- what is expected of objects of a volume
abbrev expected_by : (uuid : List ℕ) (sectors ancestors : ℕ) → Expected
expected_by uuid sectors ancestors = record {
  uuid = uuid;
  number = 0;
  sectors = sectors;
  ancestors = ancestors;
  end_before = None;
}

-- it is the same while the uuid, the sizes and the count of ancestors are
pub same_volume : (old new : ObjLogState) → new.uploads.uuid ≡ old.uploads.uuid → new.uploads.ancestors ≡ old.uploads.ancestors
    → new.batch.geometry ≡ old.batch.geometry → expected_of_volume old ≡ expected_of_volume new
same_volume old new uuid ancestors geometry =
    ap (λ (u : List ℕ). expected_by u old.batch.geometry.sectors old.uploads.ancestors) (sym uuid)
    ∙ (ap (expected_by new.uploads.uuid old.batch.geometry.sectors) (sym ancestors)
    ∙ ap (λ (g : Geometry). expected_by new.uploads.uuid g.sectors new.uploads.ancestors) (sym geometry))

-- and so are the sectors of both
pub same_sectors : (old new : ObjLogState) → new.uploads.sectors ≡ old.uploads.sectors → new.batch.geometry ≡ old.batch.geometry
    → old.uploads.sectors ≡ old.batch.geometry.sectors → new.uploads.sectors ≡ new.batch.geometry.sectors
same_sectors old new sectors geometry are = sectors ∙ are ∙ ap (λ (g : Geometry). g.sectors) (sym geometry)

-- ---- what changes no object

-- objects of a stream stay that while nothing changes but room
same_of_stream : (volume : Expected) (data_at : ℕ → ℕ) (stream : Stream) (old new : UploadsState) → IsNotSealed old new
    → AreOfStream volume data_at stream old → AreOfStream volume data_at stream new
same_of_stream volume data_at stream old new kept are =
    let settled : (k : ℕ) → settled_at new.queue.maps k ≡ settled_at old.queue.maps k =
    λ k. ap (λ (rows : List (Extent ObjectPlace)). place_at object_on rows k) kept.settled.places.settled in
    let logged : (k : ℕ) → logged_at new.queue.maps k ≡ logged_at old.queue.maps k =
    λ k. ap (λ (rows : List (Extent LogPlace)). place_at log_on rows k) kept.settled.places.log in
    rw (kept.settled.frontier, kept.settled.end, kept.window, kept.sealed) (record {
      valid = are.valid;
      from = are.from;
      last = are.last;
      end = are.end;
      settled = λ k. ap place_owner (settled k) ∙ are.settled k;
      placed = λ k. subst (λ p. IfSome p (IsPlacedIn stream k)) (sym (settled k)) (are.placed k);
      sealed = are.sealed;
      logged = λ k. logged k ∙ are.logged k;
    })

pub room_keeps_stream : RoomKeepsStreamOfList
room_keeps_stream data_at stream old new is same = record {
  objects =
      subst (λ v. AreOfStream v data_at stream new.uploads) (same_volume old new same.uploads.uuid same.uploads.ancestors
      same.geometry)
      (same_of_stream (expected_of_volume old) data_at stream old.uploads new.uploads same.uploads is.objects);
  sectors = same_sectors old new same.uploads.sectors same.geometry is.sectors;
  first = same.first ∙ is.first;
  entries = same.entries ∙ is.entries;
}

-- ---- what changes the objects alone

-- a list is that of a stream where its objects are, and its batch is as before
with_objects : (data_at : ℕ → ℕ) (stream : Stream) (old new : ObjLogState) → IsOfStream data_at stream old
    → new.uploads.uuid ≡ old.uploads.uuid → new.uploads.sectors ≡ old.uploads.sectors
    → new.uploads.ancestors ≡ old.uploads.ancestors → new.batch ≡ old.batch
    → AreOfStream (expected_of_volume old) data_at stream new.uploads → IsOfStream data_at stream new
with_objects data_at stream old new is uuid sectors ancestors same are =
    let geometry = ap (λ (b : BatchState). b.geometry) same in
    record {
      objects = subst (λ v. AreOfStream v data_at stream new.uploads) (same_volume old new uuid ancestors geometry) are;
      sectors = same_sectors old new sectors geometry is.sectors;
      first = ap (λ (b : BatchState). b.first) same ∙ is.first;
      entries = ap (λ (b : BatchState). b.entries) same ∙ is.entries;
    }

pub jobs_keep_stream : JobsKeepStreamOfList
jobs_keep_stream data_at stream log number started is = record {
  objects = keep.jobs_keep_stream (expected_of_volume log) data_at stream log.uploads number started is.objects;
  sectors = is.sectors;
  first = is.first;
  entries = is.entries;
}

pub done_keeps_stream : DoneKeepsStreamOfList
done_keeps_stream data_at stream old new number receipt uploads is done same =
    with_objects data_at stream old new is done.uuid done.sectors done.ancestors same
    (keep.done_keeps_stream (expected_of_volume old) data_at stream old.uploads new.uploads number receipt uploads is.objects
    done)

pub removals_keep_stream : RemovalsKeepStreamOfList
removals_keep_stream data_at stream old new is kept same =
    with_objects data_at stream old new is kept.uuid kept.sectors kept.ancestors same
    (keep.removals_keep_stream (expected_of_volume old) data_at stream old.uploads new.uploads kept is.objects)

-- ---- an entry more

-- the last end of a stream is none before its first, and within its history
last_order : (stream : Stream) → IsStream stream → stream.end ≤ end_at stream (last_number stream)
last_order stream valid = rw (grow.all_objects stream) (end_no_earlier stream.end stream.objects valid.ends)

-- the seq of the next entry
module _ (data_at : ℕ → ℕ) (stream : Stream) (log : ObjLogState) (is : IsOfStream data_at stream log) where
  abbrev last_end : ℕ
  last_end = end_at stream (last_number stream)

  order : stream.end ≤ last_end
  order = last_order stream is.objects.valid

  unsealed_size : length log.batch.entries ≡ length stream.entries - (last_end - stream.end)
  unsealed_size = ap length is.entries ∙ length-drop (last_end - stream.end) stream.entries

  pub next_seq : log.batch.first + length log.batch.entries ≡ stream.end + length stream.entries
  next_seq = omega (arith, order, unsealed_size, is.first, is.objects.valid.within)

  -- what is expected of the next object of a list is what the stream expects
  pub next_expected : next_of log ≡ expected_at (expected_of_volume log) (last_number stream + 1) last_end
  next_expected =
      ap (λ n. expected_at (expected_of_volume log) (n + 1) log.batch.first) (sym is.objects.last)
      ∙ ap (expected_at (expected_of_volume log) (last_number stream + 1)) is.first

pub adding_keeps_stream : AddingKeepsStreamOfList
adding_keeps_stream data_at stream old new entry uploads is added =
    let volume = same_volume old new added.uuid added.ancestors added.geometry in
    let seq = next_seq data_at stream old is in
    let place = data_at (stream.end + length stream.entries) in
    let entered = subst (λ s. IsEntered entry s place old.uploads.queue new.uploads.queue) seq added.entered in
    let last = end_at stream (last_number stream) in
    let less : last - stream.end ≤ length stream.entries = omega (arith, is.objects.valid.within) in
    record {
      objects =
          subst (λ v. AreOfStream v data_at (with_entry entry stream) new.uploads) volume
          (grow.entering_keeps_stream (expected_of_volume old) data_at stream old.uploads new.uploads entry uploads is.objects
          entered added.window);
      sectors = same_sectors old new added.sectors added.geometry is.sectors;
      first = added.first ∙ is.first;
      entries =
          added.entries
          ∙ (ap (λ es. es ++ entry ∷ []) is.entries ∙ sym (drop-append-le (last - stream.end) stream.entries (entry ∷ []) less));
    }

-- ---- a data object more

module _ (data_at : ℕ → ℕ) (stream : Stream) (old new : ObjLogState) (is : IsOfStream data_at stream old)
    (sealed : HasSealedObject old new) where
  abbrev last : ℕ
  last = end_at stream (last_number stream)

  abbrev end : ℕ
  end = old.batch.first + sealed.count

  goes_on : old.batch.first < end
  goes_on = grind (arith, nat_tests, sealed.parts.is_object.head.seqs)

  past : last < end
  past = omega (arith, goes_on, is.first)

  within : end ≤ stream.end + length stream.entries
  within = omega (arith, sealed.is_count.within, next_seq data_at stream old is)

  taken : take (end - last) (unsealed stream) ≡ take sealed.count old.batch.entries
  taken =
      let size : end - last ≡ sealed.count = omega (arith, is.first) in
      ap (λ n. take n (unsealed stream)) size ∙ ap (take sealed.count) (sym is.entries)

  holds : HoldsEntries (expected_at (expected_of_volume old) (last_number stream + 1) last) (take (end - last) (unsealed stream))
      end sealed.bytes sealed.rows.items
  holds = record {
    header = object_header_of (next_of old) old.batch.first end (Data sealed.rows);
    rows_of = Data sealed.rows;
    payload = sealed.payload;
    parts =
        subst (λ e. HasParts e sealed.bytes (object_header_of (next_of old) old.batch.first end (Data sealed.rows))
        (Data sealed.rows)
        sealed.payload)
        (next_expected data_at stream old is) sealed.parts;
    rows_are = refl;
    ends = refl;
    changes = λ k. sealed.changes k ∙ ap (λ es. change_at es k) (sym taken);
  }

  rest : drop sealed.count old.batch.entries ≡ unsealed (with_data_object end stream)
  rest =
      let order = last_order stream is.objects.valid in
      let sum : last - stream.end + sealed.count ≡ end - stream.end = omega (arith, order, is.first) in
      ap (drop sealed.count) is.entries
      ∙ (drop-drop sealed.count (last - stream.end) stream.entries
      ∙ (ap (λ n. drop n stream.entries) sum
      ∙ ap (λ e. drop (e - stream.end) stream.entries) (sym (grow.end_of_more stream end))))

  grown : IsUploads old.uploads → IsOfStream data_at (with_data_object end stream) new
  grown uploads = record {
    objects =
        subst (λ v. AreOfStream v data_at (with_data_object end stream) new.uploads)
        (same_volume old new sealed.uploads.uuid sealed.uploads.ancestors sealed.geometry)
        (grow.sealing_keeps_stream (expected_of_volume old) data_at stream old.uploads new.uploads sealed.bytes sealed.rows end
        uploads is.objects past within holds sealed.uploads);
    sectors = same_sectors old new sealed.uploads.sectors sealed.geometry is.sectors;
    first = sealed.first ∙ sym (grow.end_of_more stream end);
    entries = sealed.entries ∙ rest;
  }

pub sealing_keeps_stream : SealingKeepsStreamOfList
sealing_keeps_stream data_at stream old new uploads is sealed =
    subst (λ e. IsOfStream data_at (with_data_object e stream) new) (sym sealed.first)
    (grown data_at stream old new is sealed uploads)

-- ---- a checkpoint more

-- what is expected of an object
abbrev expected_with : (uuid : List ℕ) (ancestors number sectors : ℕ) (end_before : Option ℕ) → Expected
expected_with uuid ancestors number sectors end_before = record {
  uuid = uuid;
  number = number;
  sectors = sectors;
  ancestors = ancestors;
  end_before = end_before;
}

-- what the objects expect of the next one is what the stream expects
objects_expect : (log : ObjLogState) (number before : ℕ) → log.uploads.sectors ≡ log.batch.geometry.sectors
    → (expected_next log.uploads).number ≡ number → (expected_next log.uploads).end_before ≡ Some before
    → expected_next log.uploads ≡ expected_at (expected_of_volume log) number before
objects_expect log number before sectors number_is end_is =
    let uuid = log.uploads.uuid in
    let own : Option ℕ = (expected_next log.uploads).end_before in
    let ancestors = log.uploads.ancestors in
    ap (λ n. expected_with uuid ancestors n log.uploads.sectors own) number_is
    ∙ (ap (λ s. expected_with uuid ancestors number s own) sectors
    ∙ ap (expected_with uuid ancestors number log.batch.geometry.sectors) end_is)

-- what is sealed with the end before it leaves the batch as it is
more_of_same_end : (data_at : ℕ → ℕ) (stream : Stream) (old new : ObjLogState) (object : StreamObject)
    → IsOfStream data_at stream old → object.end ≡ end_at stream (last_number stream)
    → new.uploads.uuid ≡ old.uploads.uuid → new.uploads.sectors ≡ old.uploads.sectors
    → new.uploads.ancestors ≡ old.uploads.ancestors → new.batch ≡ old.batch
    → AreOfStream (expected_of_volume old) data_at (keep_objects.with_objects (object ∷ []) stream) new.uploads
    → IsOfStream data_at (keep_objects.with_objects (object ∷ []) stream) new
more_of_same_end data_at stream old new object is end uuid sectors ancestors same are =
    let geometry = ap (λ (b : BatchState). b.geometry) same in
    let last = grow.end_of_object stream object ∙ end in
    record {
      objects =
          subst (λ v. AreOfStream v data_at (keep_objects.with_objects (object ∷ []) stream) new.uploads)
          (same_volume old new uuid ancestors geometry) are;
      sectors = same_sectors old new sectors geometry is.sectors;
      first = ap (λ (b : BatchState). b.first) same ∙ (is.first ∙ sym last);
      entries =
          ap (λ (b : BatchState). b.entries) same
          ∙ (is.entries ∙ ap (λ e. drop (e - stream.end) stream.entries) (sym last));
    }

pub sealing_copy_keeps_stream : SealingCopyKeepsStreamOfList
sealing_copy_keeps_stream data_at stream old new pairs bytes rows uploads is holds sealed same =
    let volume = expected_of_volume old in
    let end = end_at stream (last_number stream) in
    let end_is = checkpoint.last_ends volume data_at stream old.uploads uploads is.objects in
    let expected = expected_at volume (last_number stream + 1) end in
    let held : HoldsCopy expected pairs end bytes rows.items =
    subst (λ e. HoldsCopy expected pairs e bytes rows.items) is.first
    (subst (λ e. HoldsCopy e pairs old.batch.first bytes rows.items) (next_expected data_at stream old is) holds) in
    let now : IsSealedNext bytes (sealed_rows.Copy rows) end old.uploads new.uploads =
    subst (λ e. IsSealedNext bytes (sealed_rows.Copy rows) e old.uploads new.uploads) end_is sealed in
    more_of_same_end data_at stream old new (record { content = content.Copy pairs; end = end }) is refl sealed.uuid
    sealed.sectors sealed.ancestors same
    (grow.sealing_copy_keeps_stream volume data_at stream old.uploads new.uploads pairs bytes rows uploads is.objects held now)

pub sealing_checkpoint_keeps_stream : SealingCheckpointKeepsStreamOfList
sealing_checkpoint_keeps_stream data_at stream old new uploads is has same =
    let end = end_at stream (last_number stream) in
    let end_is = checkpoint.last_ends (expected_of_volume old) data_at stream old.uploads uploads is.objects in
    let expected = objects_expect old (last_number stream + 1) end is.sectors (ap (λ n. n + 1) (sym is.objects.last))
    (ap (λ e. Some e) end_is) in
    more_of_same_end data_at stream old new (record { content = content.Checkpoint; end = end }) is refl has.sealed.uuid
    has.sealed.sectors has.sealed.ancestors same
    (checkpoint.sealing_checkpoint_keeps_stream (expected_of_volume old) data_at stream old.uploads new.uploads uploads is.objects
    expected has)
