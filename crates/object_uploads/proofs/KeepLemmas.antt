-- The objects of a volume stay those of a stream.
use Rattle.std.proofs.Common.{◌≡◌, ℕ, zero, suc, ◌+◌, ◌-◌, ◌≤◌, not, Option, None, List, [], ◌∷◌, ◌++◌, length, take, drop, refl}
use Rattle.std.proofs.Common.{sym, ◌∙◌, ap, subst, arith, length-drop}
use Rattle.std.specs.Prelude.{IsTrue, IfSome}
use Rattle.std.proofs.lemmas.List.{length-take-le, drop-drop, take-append-drop}
use Rattle.std.proofs.Math.Seq.{take-length}
use Rattle.lsvd_base.specs.declared.entry.Entry.{Entry}
use Rattle.lsvd_objstore.specs.Store.{ReceiptState}
use Rattle.object_format.specs.declared.expected.Expected.{Expected}
use Rattle.object_format.specs.declared.copy_row.CopyRow.{CopyRow}
use Rattle.object_format.specs.declared.data_row.DataRow.{DataRow}
use Rattle.object_format.specs.declared.rows.Rows.{Rows}
use Rattle.object_format.specs.declared.rows.Rows.TheVariants as rows
use Rattle.object_format.specs.Rows.{may_stand, data_rows_may_stand, copy_rows_may_stand}
use Rattle.object_format.specs.declared.header.Header.{Header}
use Rattle.object_stream.specs.declared.object.CopiedSector.{CopiedSector}
use Rattle.object_stream.specs.declared.object.Content.{Content}
use Rattle.object_stream.specs.declared.object.Content.TheVariants.{Data, Copy, Checkpoint}
use Rattle.object_stream.specs.declared.object.StreamObject.{StreamObject}
use Rattle.object_stream.specs.Changes.{change_at}
use Rattle.object_stream.specs.Stream.{Owners, Stream, owner_by_change, owner_by_copy, source_in, after_object, after_objects}
use Rattle.object_stream.specs.Stream.{owners, end_after, end_at}
use Rattle.object_stream.specs.Stream.{last_number, objects_to, GoesTo, EndsFollow, IsStream}
use Rattle.object_stream.specs.Replay.{expected_at}
use Rattle.object_stream.specs.Laws.{from_object}
use Rattle.object_stream.proofs.StreamLemmas.{keeps_owners, goes_on, end_no_earlier, end_in_parts, follow_first}
use Rattle.volume_maps.specs.declared.place.ObjectPlace.{ObjectPlace}
use Rattle.volume_maps.specs.declared.place.LogPlace.{LogPlace}
use Rattle.volume_maps.specs.Places.{object_on, log_on, left_at}
use Rattle.volume_maps.specs.Maps.{MapsState, settled_by, settled_by_copy, logged_by, settled_at, logged_at}
use Rattle.volume_maps.specs.Laws.{place_owner, IsPlacedBy}
use Rattle.volume_maps.proofs.SettleLemmas.{settles_as_replay, settles_places, log_keeps_later}
use Rattle.volume_maps.proofs.CopyLemmas.{settles_copy_as_replay}
use Rattle.volume_maps.proofs.RankLemmas.{places_are_ranks}
use Rattle.extent_map.specs.Extents.{place_at}
use Rattle.extent_map.specs.State.{MapState}
use Rattle.object_uploads.specs.declared.rows.SealedRows.{SealedRows}
use Rattle.object_uploads.specs.declared.rows.SealedRows.TheVariants as sealed_rows
use Rattle.object_uploads.specs.State.{SealedState, UploadsState}
use Rattle.object_uploads.specs.Queue.{with_at, with_spare, with_receipt, end_of_last, settled_by_rows, settled_by_all}
use Rattle.object_uploads.specs.Queue.{SettlesSealed, SettlesObjects}
use Rattle.upload_window.specs.Window.{WindowState}
use Rattle.object_uploads.specs.Order.{IsUploads}
use Rattle.object_uploads.specs.Changes.{index_of, IsPutDone}
use Rattle.object_uploads.specs.Stream.{AreRows, HoldsEntries, AreCopyRows, HoldsCopy, HoldsContent, IsPlacedIn, IsSealedOf}
use Rattle.object_uploads.specs.Stream.{AreSealedOf, AreOfStream}
use Rattle.object_uploads.specs.Laws.{JobsKeepStream, DoneKeepsStream, RemovalsKeepStream}
use Rattle.object_uploads.proofs.CopyRanks.{IsPlacedByCopy, placed_by_copy}
use Rattle.object_uploads.proofs.PlacedLemmas.{IsPosition, next_position, own_entries, own_object, IsUnder, placed_by_change}
use Rattle.object_uploads.proofs.PlacedLemmas.{placed_by_source, sealed_after_same}

-- as many objects as there are sealed ones
pub same_count : (stream : Stream) (volume : Expected) (number end : ℕ) (entries : List Entry) (owned : Owners)
    (list : List StreamObject) (sealed : List SealedState)
    → AreSealedOf stream volume number end entries owned list sealed → length list ≡ length sealed
same_count stream volume number end entries owned [] [] are = refl
same_count stream volume number end entries owned [] (first ∷ sealed) are = absurd are
same_count stream volume number end entries owned (object ∷ list) [] are = absurd are
same_count stream volume number end entries owned (object ∷ list) (first ∷ sealed) are =
    ap suc (same_count stream volume (number + 1) object.end (drop (object.end - end) entries)
    (after_object (number + 1) object.content (take (object.end - end) entries) owned) list sealed are.1)

-- ---- an object that is changed in what the stream does not speak of

-- an object with the bytes, the rows and the end of another
record IsSameObject (a b : SealedState) : Type 0 where
  pub bytes : b.bytes ≡ a.bytes
  pub rows_are : b.rows ≡ a.rows
  pub end : b.end ≡ a.end

same_sealed : (stream : Stream) (expected : Expected) (entries : List Entry) (owned : Owners) (object : StreamObject)
    (a b : SealedState) → IsSameObject a b
    → IsSealedOf stream expected entries owned object a → IsSealedOf stream expected entries owned object b
same_sealed stream expected entries owned object a b same is = record {
  end = same.end ∙ is.end;
  holds = subst (λ bytes. HoldsContent stream expected object.content entries owned object.end bytes b.rows) (sym same.bytes)
      (subst (HoldsContent stream expected object.content entries owned object.end a.bytes) (sym same.rows_are) is.holds);
}

changed_at : (stream : Stream) (volume : Expected) (index : ℕ) (change : SealedState → SealedState)
    → ((s : SealedState) → IsSameObject s (change s))
    → (number end : ℕ) (entries : List Entry) (owned : Owners) (list : List StreamObject) (sealed : List SealedState)
    → AreSealedOf stream volume number end entries owned list sealed
    → AreSealedOf stream volume number end entries owned list (with_at index change sealed)
changed_at stream volume index change same number end entries owned [] [] are = are
changed_at stream volume index change same number end entries owned [] (first ∷ sealed) are = absurd are
changed_at stream volume index change same number end entries owned (object ∷ list) [] are = absurd are
changed_at stream volume zero change same number end entries owned (object ∷ list) (first ∷ sealed) are = (
  same_sealed stream (expected_at volume (number + 1) end) (take (object.end - end) entries) owned object first (change first)
      (same first) are.0,
  are.1,
)
changed_at stream volume (suc index) change same number end entries owned (object ∷ list) (first ∷ sealed) are = (
  are.0,
  changed_at stream volume index change same (number + 1) object.end (drop (object.end - end) entries)
      (after_object (number + 1) object.content (take (object.end - end) entries) owned) list sealed are.1,
)

pub jobs_keep_stream : JobsKeepStream
jobs_keep_stream volume data_at stream uploads number started are = record {
  valid = are.valid;
  from = are.from;
  last = are.last;
  end = are.end;
  settled = are.settled;
  placed = are.placed;
  sealed =
      changed_at stream volume (index_of uploads number) (with_spare (not started))
      (λ s. record { bytes = refl; rows_are = refl; end = refl })
      uploads.queue.frontier uploads.queue.end (from_object uploads.queue.frontier stream).entries
      (owners stream uploads.queue.frontier) (from_object uploads.queue.frontier stream).objects
      uploads.queue.sealed are.sealed;
  logged = are.logged;
}

-- ---- the maps where others have the same rows

pub same_settled : (old new : MapsState) → new.settled ≡ old.settled → (k : ℕ) → settled_at new k ≡ settled_at old k
same_settled old new same k = ap (λ (m : MapState ObjectPlace). place_at object_on m.rows k) same

same_logged : (old new : MapsState) → new.log ≡ old.log → (k : ℕ) → logged_at new k ≡ logged_at old k
same_logged old new same k = ap (λ (m : MapState LogPlace). place_at log_on m.rows k) same

pub removals_keep_stream : RemovalsKeepStream
removals_keep_stream volume data_at stream old new same are = rw (same.frontier, same.end, same.window) (record {
  valid = are.valid;
  from = are.from;
  last = are.last;
  end = are.end;
  settled = λ k. ap place_owner (same_settled old.queue.maps new.queue.maps same.settled k) ∙ are.settled k;
  placed = λ k. subst (λ p. IfSome p (IsPlacedIn stream k)) (sym (same_settled old.queue.maps new.queue.maps same.settled k))
      (are.placed k);
  sealed = rw same.sealed are.sealed;
  logged = λ k. same_logged old.queue.maps new.queue.maps same.log k ∙ are.logged k;
})

-- ---- objects that are settled

-- the rows of a sealed object may stand, as its grammar says
pub rows_stand : (sectors : ℕ) (header : Header) (rows_of : Rows) (items : List DataRow) → AreRows rows_of items
    → IsTrue (may_stand sectors header rows_of)
    → IsTrue (data_rows_may_stand sectors header.payload None 0 items)
rows_stand sectors header (rows.Data list) items are stand =
    subst (λ rs. IsTrue (data_rows_may_stand sectors header.payload None 0 rs)) are stand
rows_stand sectors header (rows.Copy list) items are stand = absurd are
rows_stand sectors header rows.Checkpoint items are stand = absurd are

module _ (volume : Expected) (number end_before : ℕ) (entries : List Entry) (end : ℕ) (bytes : List ℕ) (items : List DataRow)
    (holds : HoldsEntries (expected_at volume number end_before) entries end bytes items) where
  stand : IsTrue (data_rows_may_stand volume.sectors holds.header.payload None 0 items)
  stand = rows_stand volume.sectors holds.header holds.rows_of items holds.rows_are holds.parts.is_object.rows_are.spelling

  -- a data object that is settled gives a sector the owner that its entries give it
  pub owner_of_entries : (k : ℕ) (before : Option ObjectPlace)
      → place_owner (settled_by number items before k) ≡ owner_by_change number (change_at entries k) (place_owner before)
  owner_of_entries k before =
      settles_as_replay volume.sectors holds.header.payload number k items holds.payload before stand
      ∙ ap (λ change. owner_by_change number change (place_owner before)) (holds.changes k)

  -- and leaves it where an object of the stream has it
  pub placed_of_entries : (stream : Stream) (k : ℕ) (before : Option ObjectPlace)
      → IsUnder stream number Data entries → IfSome before (IsPlacedIn stream k)
      → IfSome (settled_by number items before k) (IsPlacedIn stream k)
  placed_of_entries stream k before under was =
      placed_by_change stream number k entries holds.payload (change_at entries k) before (settled_by number items before k)
      (subst (λ change. IsPlacedBy number holds.payload change before (settled_by number items before k)) (holds.changes k)
      (settles_places volume.sectors holds.header.payload number k items holds.payload before stand))
      (places_are_ranks volume.sectors holds.header.payload number k entries items holds.payload before stand holds.changes)
      under was

-- the rows of a sealed copy may stand
pub copies_stand : (sectors : ℕ) (header : Header) (rows_of : Rows) (items : List CopyRow) → AreCopyRows rows_of items
    → IsTrue (may_stand sectors header rows_of)
    → IsTrue (copy_rows_may_stand sectors header.payload header.number None 0 items)
copies_stand sectors header (rows.Data list) items are may = absurd are
copies_stand sectors header (rows.Copy list) items are may =
    subst (λ rs. IsTrue (copy_rows_may_stand sectors header.payload header.number None 0 rs)) are may
copies_stand sectors header rows.Checkpoint items are may = absurd are

module _ (volume : Expected) (number end_before : ℕ) (pairs : List CopiedSector) (end : ℕ) (bytes : List ℕ)
    (items : List CopyRow) (holds : HoldsCopy (expected_at volume number end_before) pairs end bytes items) where
  pub copy_stands : IsTrue (copy_rows_may_stand volume.sectors holds.header.payload number None 0 items)
  copy_stands =
      let object = holds.parts.is_object in
      subst (λ n. IsTrue (copy_rows_may_stand volume.sectors holds.header.payload n None 0 items)) object.head.number
      (copies_stand volume.sectors holds.header holds.rows_of items holds.rows_are object.rows_are.spelling)

  -- a copy that is settled gives a sector itself as its owner, where that still is the source
  pub owner_of_copy : (k : ℕ) (before : Option ObjectPlace)
      → place_owner (settled_by_copy number items before k) ≡ owner_by_copy number (source_in pairs k) (place_owner before)
  owner_of_copy k before =
      settles_copy_as_replay volume.sectors holds.header.payload number k items before copy_stands
      ∙ ap (λ source. owner_by_copy number source (place_owner before)) (holds.sources k)

  -- and leaves it where an object of the stream has it
  pub place_of_copy : (k : ℕ) (before : Option ObjectPlace) → IsPlacedByCopy holds.header.payload number pairs items before k
  place_of_copy k before =
      placed_by_copy volume.sectors holds.header.payload number pairs items before k copy_stands holds.sources

  pub placed_of_copy : (stream : Stream) (k : ℕ) (entries : List Entry) (before : Option ObjectPlace)
      → IsUnder stream number (Copy pairs) entries → IfSome before (IsPlacedIn stream k)
      → IfSome (settled_by_copy number items before k) (IsPlacedIn stream k)
  placed_of_copy stream k entries before under was =
      placed_by_source stream holds.header.payload number k pairs items entries before (place_of_copy k before) under was

-- so does any sealed object
pub settle_one : (stream : Stream) (volume : Expected) (k number end_before : ℕ) (content : Content) (entries : List Entry)
    (owned : Owners) (end : ℕ) (bytes : List ℕ) (rows_of : SealedRows) (before : Option ObjectPlace)
    → HoldsContent stream (expected_at volume number end_before) content entries owned end bytes rows_of
    → place_owner before ≡ owned k
    → place_owner (settled_by_rows number rows_of before k) ≡ after_object number content entries owned k
settle_one stream volume k number end_before Data entries owned end bytes (sealed_rows.Data list) before holds same =
    owner_of_entries volume number end_before entries end bytes list.items holds k before
    ∙ ap (owner_by_change number (change_at entries k)) same
settle_one stream volume k number end_before (Copy pairs) entries owned end bytes (sealed_rows.Copy list) before holds same =
    owner_of_copy volume number end_before pairs end bytes list.items holds k before
    ∙ ap (owner_by_copy number (source_in pairs k)) same
settle_one stream volume k number end_before Checkpoint entries owned end bytes sealed_rows.Checkpoint before holds same = same
settle_one stream volume k number end_before content entries owned end bytes rows_of before holds same = absurd holds

place_one : (stream : Stream) (volume : Expected) (k number end_before : ℕ) (content : Content) (entries : List Entry)
    (owned : Owners) (end : ℕ) (bytes : List ℕ) (rows_of : SealedRows) (before : Option ObjectPlace)
    → HoldsContent stream (expected_at volume number end_before) content entries owned end bytes rows_of
    → IsUnder stream number content entries → IfSome before (IsPlacedIn stream k)
    → IfSome (settled_by_rows number rows_of before k) (IsPlacedIn stream k)
place_one stream volume k number end_before Data entries owned end bytes (sealed_rows.Data list) before holds under was =
    placed_of_entries volume number end_before entries end bytes list.items holds stream k before under was
place_one stream volume k number end_before (Copy pairs) entries owned end bytes (sealed_rows.Copy list) before holds under was =
    placed_of_copy volume number end_before pairs end bytes list.items holds stream k entries before under was
place_one stream volume k number end_before Checkpoint entries owned end bytes sealed_rows.Checkpoint before holds under was = was
place_one stream volume k number end_before content entries owned end bytes rows_of before holds under was = absurd holds

module _ (stream : Stream) (volume : Expected) (k : ℕ) where
  -- the first of sealed objects, once they are settled
  pub settle_all : (count number end : ℕ) (entries : List Entry) (owned : Owners) (list : List StreamObject)
      (sealed : List SealedState) (before : Option ObjectPlace)
      → AreSealedOf stream volume number end entries owned list sealed → place_owner before ≡ owned k
      → place_owner (settled_by_all number (take count sealed) before k)
      ≡ after_objects number end entries owned (take count list) k
  settle_all zero number end entries owned list sealed before are same = same
  settle_all (suc count) number end entries owned [] [] before are same = same
  settle_all (suc count) number end entries owned [] (first ∷ sealed) before are same = absurd are
  settle_all (suc count) number end entries owned (object ∷ list) [] before are same = absurd are
  settle_all (suc count) number end entries owned (object ∷ list) (first ∷ sealed) before are same =
      let part = take (object.end - end) entries in
      settle_all count (number + 1) object.end (drop (object.end - end) entries)
      (after_object (number + 1) object.content part owned) list sealed (settled_by_rows (number + 1) first.rows before k) are.1
      (settle_one stream volume k (number + 1) end object.content part owned object.end first.bytes first.rows before are.0.holds
      same)

  pub place_all : (count number end : ℕ) (entries : List Entry) (owned : Owners) (list : List StreamObject)
      (sealed : List SealedState) (before : Option ObjectPlace)
      → AreSealedOf stream volume number end entries owned list sealed → IsPosition stream number end entries list
      → IfSome before (IsPlacedIn stream k)
      → IfSome (settled_by_all number (take count sealed) before k) (IsPlacedIn stream k)
  place_all zero number end entries owned list sealed before are at was = was
  place_all (suc count) number end entries owned [] [] before are at was = was
  place_all (suc count) number end entries owned [] (first ∷ sealed) before are at was = absurd are
  place_all (suc count) number end entries owned (object ∷ list) [] before are at was = absurd are
  place_all (suc count) number end entries owned (object ∷ list) (first ∷ sealed) before are at was =
      let part = take (object.end - end) entries in
      place_all count (number + 1) object.end (drop (object.end - end) entries)
      (after_object (number + 1) object.content part owned) list sealed (settled_by_rows (number + 1) first.rows before k) are.1
      (next_position stream number end entries object list at)
      (place_one stream volume k (number + 1) end object.content part owned object.end first.bytes first.rows before are.0.holds
      (record {
        object = object;
        there = own_object stream number end entries object list at;
        content_is = refl;
        entries_are = own_entries stream number end entries object list at;
      }) was)

-- what the settling of objects does to the objects' map
maps_one : (number size : ℕ) (rows_of : SealedRows) (end : ℕ) (old new : MapsState) → SettlesSealed number size rows_of end old
    new
    → (k : ℕ) → settled_at new k ≡ settled_by_rows number rows_of (settled_at old k) k
maps_one number size (sealed_rows.Data list) end old new settles k = settles.settled k
maps_one number size (sealed_rows.Copy list) end old new settles k = settles.settled k
maps_one number size sealed_rows.Checkpoint end old new settles k = same_settled old new settles.settled k

pub maps_all : (number : ℕ) (sealed : List SealedState) (old new : MapsState) → SettlesObjects number sealed old new
    → (k : ℕ) → settled_at new k ≡ settled_by_all number sealed (settled_at old k) k
maps_all number [] old new settles k = ap (λ (m : MapsState). settled_at m k) settles
maps_all number (first ∷ sealed) old new settles k =
    maps_all (number + 1) sealed settles.0 new settles.2 k
    ∙ ap (λ p. settled_by_all (number + 1) sealed p k)
    (maps_one (number + 1) (length first.bytes) first.rows first.end old settles.0 settles.1 k)

-- the log's map after an object that is settled
module _ (stream : Stream) (volume : Expected) (data_at : ℕ → ℕ) where
  entries_logged : (number end_before : ℕ) (entries : List Entry) (end : ℕ) (bytes : List ℕ) (items : List DataRow) (k : ℕ)
      → HoldsEntries (expected_at volume number end_before) (take (end - end_before) entries) end bytes items
      → end_before ≤ end → end ≤ end_before + length entries
      → logged_by end items (left_at data_at end_before entries k) k
      ≡ left_at data_at end (drop (end - end_before) entries) k
  entries_logged number end_before entries end bytes items k holds order within =
      let part = take (end - end_before) entries in
      let rest = drop (end - end_before) entries in
      let size : end_before + length part ≡ end =
      omega (arith, length-take-le (end - end_before) entries (omega (arith, order, within)), order) in
      let whole : part ++ rest ≡ entries = take-append-drop (end - end_before) entries in
      let kept = log_keeps_later data_at end_before k part rest items holds.payload (holds.changes k) in
      ap (λ e. logged_by e items (left_at data_at end_before entries k) k) (sym size)
      ∙ (ap (λ es. logged_by (end_before + length part) items (left_at data_at end_before es k) k) (sym whole)
      ∙ (kept ∙ ap (λ e. left_at data_at e rest k) size))

  -- an object without entries leaves them all
  none_logged : (end_before end : ℕ) (entries : List Entry) (k : ℕ) → end ≡ end_before
      → left_at data_at end_before entries k ≡ left_at data_at end (drop (end - end_before) entries) k
  none_logged end_before end entries k goes =
      let none : 0 ≡ end - end_before = omega (arith, goes) in
      ap (λ e. left_at data_at e entries k) (sym goes) ∙ ap (λ n. left_at data_at end (drop n entries) k) none

  log_one : (number size end_before : ℕ) (content : Content) (entries : List Entry) (owned : Owners) (end : ℕ) (bytes : List ℕ)
      (rows_of : SealedRows) (old new : MapsState)
      → HoldsContent stream (expected_at volume number end_before) content (take (end - end_before) entries) owned end bytes
      rows_of
      → GoesTo content end_before end → end ≤ end_before + length entries → SettlesSealed number size rows_of end old new
      → ((k : ℕ) → logged_at old k ≡ left_at data_at end_before entries k)
      → (k : ℕ) → logged_at new k ≡ left_at data_at end (drop (end - end_before) entries) k
  log_one number size end_before Data entries owned end bytes (sealed_rows.Data list) old new holds goes within settles same k =
      settles.logged k
      ∙ (ap (λ p. logged_by end list.items p k) (same k)
      ∙ entries_logged number end_before entries end bytes list.items k holds (goes_on Data end_before end goes) within)
  log_one number size end_before (Copy pairs) entries owned end bytes (sealed_rows.Copy list) old new holds goes within settles
      same k =
      settles.logged k ∙ (same k ∙ none_logged end_before end entries k goes)
  log_one number size end_before Checkpoint entries owned end bytes sealed_rows.Checkpoint old new holds goes within settles same
      k =
      same_logged old new settles.log k ∙ (same k ∙ none_logged end_before end entries k goes)
  log_one number size end_before content entries owned end bytes rows_of old new holds goes within settles same k = absurd holds

-- what is left past the objects that are settled
pub record IsLeftOf (stream : Stream) (volume : Expected) (data_at : ℕ → ℕ) (count number end : ℕ) (entries : List Entry)
    (owned : Owners) (list : List StreamObject) (sealed : List SealedState) : Type 0 where
  pub end_is : end_of_last end (take count sealed) ≡ end_after end (take count list)
  pub order : end ≤ end_after end (take count list)
  pub rest : AreSealedOf stream volume (number + count) (end_after end (take count list))
      (drop (end_after end (take count list) - end) entries) (after_objects number end entries owned (take count list))
      (drop count list) (drop count sealed)
  pub logged : (old new : MapsState) → SettlesObjects number (take count sealed) old new
      → ((k : ℕ) → logged_at old k ≡ left_at data_at end entries k) → (k : ℕ) → logged_at new k
      ≡ left_at data_at (end_after end (take count list)) (drop (end_after end (take count list) - end) entries) k

left_of : (stream : Stream) (volume : Expected) (data_at : ℕ → ℕ) (count number end : ℕ) (entries : List Entry) (owned : Owners)
    (list : List StreamObject) (sealed : List SealedState)
    → AreSealedOf stream volume number end entries owned list sealed → EndsFollow end list
    → end_after end list ≤ end + length entries → count ≤ length list
    → IsLeftOf stream volume data_at count number end entries owned list sealed
left_of stream volume data_at zero number end entries owned list sealed are follow within most =
    let same : number + 0 ≡ number = omega arith in
    let none : end - end ≡ 0 = omega arith in
    record {
      end_is = refl;
      order = omega arith;
      rest = rw (same, none) are;
      logged = λ old new settles same k. rw none (ap (λ (m : MapsState). logged_at m k) settles ∙ same k);
    }
left_of stream volume data_at (suc count) number end entries owned [] sealed are follow within most = absurd (omega arith)
left_of stream volume data_at (suc count) number end entries owned (object ∷ list) [] are follow within most = absurd are
left_of stream volume data_at (suc count) number end entries owned (object ∷ list) (first ∷ sealed) are follow within most =
    let part = take (object.end - end) entries in
    let later = drop (object.end - end) entries in
    let after = after_object (number + 1) object.content part owned in
    let order : end ≤ object.end = goes_on object.content end object.end follow.0 in
    let later_order : object.end ≤ end_after object.end list = end_no_earlier object.end list follow.1 in
    let size : length later ≡ length entries - (object.end - end) = length-drop (object.end - end) entries in
    let rest = left_of stream volume data_at count (number + 1) object.end later after list sealed are.1 follow.1
    (omega (arith, size)) (omega arith) in
    let e = end_after object.end (take count list) in
    let counted : number + suc count ≡ number + 1 + count = omega arith in
    let sum : object.end - end + (e - object.end) ≡ e - end = omega (arith, rest.order) in
    let dropped : drop (e - object.end) later ≡ drop (e - end) entries =
    drop-drop (e - object.end) (object.end - end) entries ∙ ap (λ n. drop n entries) sum in
    let is_end : first.end ≡ object.end = are.0.end in
    record {
      end_is = ap (λ x. end_of_last x (take count sealed)) is_end ∙ rest.end_is;
      order = omega (arith, rest.order);
      rest = rw counted (subst (λ es. AreSealedOf stream volume (number + 1 + count) e es
          (after_objects (number + 1) object.end later after (take count list)) (drop count list) (drop count sealed)) dropped
          rest.rest);
      logged = λ old new settles same k.
          rest.logged settles.0 new settles.2
          (log_one stream volume data_at (number + 1) (length first.bytes) end object.content entries owned object.end first.bytes
          first.rows old settles.0 are.0.holds follow.0 (omega arith)
          (subst (λ x. SettlesSealed (number + 1) (length first.bytes) first.rows x old settles.0) is_end settles.1) same) k
          ∙ ap (λ es. left_at data_at e es k) dropped;
    }

-- ---- a stream from an object on

follow_rest : (end n : ℕ) (list : List StreamObject) → EndsFollow end list
    → EndsFollow (end_after end (take n list)) (drop n list)
follow_rest end zero list follow = follow
follow_rest end (suc n) [] follow = tt
follow_rest end (suc n) (object ∷ list) follow = follow_rest object.end n list follow.1

module _ (stream : Stream) (from : ℕ) (valid : IsStream stream) (least : stream.number ≤ from)
    (most : from ≤ last_number stream) where
  abbrev tail : Stream
  tail = from_object from stream

  pub tail_follow : EndsFollow tail.end tail.objects
  tail_follow = follow_rest stream.end (from - stream.number) stream.objects valid.ends

  pub tail_order : stream.end ≤ tail.end
  tail_order = end_no_earlier stream.end (objects_to stream from) (follow_first stream.end (from - stream.number) stream.objects
      valid.ends)

  -- the last end is that of the stream
  pub tail_last : end_at stream (last_number stream) ≡ end_after tail.end tail.objects
  tail_last =
      let all : stream.number + length stream.objects - stream.number ≡ length stream.objects = omega arith in
      let whole : take (last_number stream - stream.number) stream.objects ≡ stream.objects = ap (λ n. take n stream.objects) all
      ∙ take-length stream.objects in
      let parts : objects_to stream from ++ tail.objects ≡ stream.objects =
      take-append-drop (from - stream.number) stream.objects in
      ap (end_after stream.end) (whole ∙ sym parts) ∙ end_in_parts stream.end (objects_to stream from) tail.objects

  -- and so are the last owners
  pub tail_owners : (k : ℕ) → after_objects from tail.end tail.entries (owners stream from) tail.objects k
      ≡ owners stream (last_number stream) k
  tail_owners k =
      let kept = keeps_owners stream from (last_number stream) valid least most most in
      let size : last_number stream - from ≡ length tail.objects =
      omega (arith, length-drop (from - stream.number) stream.objects, least, most) in
      let all : take (last_number stream - from) tail.objects ≡ tail.objects =
      ap (λ n. take n tail.objects) size ∙ take-length tail.objects in
      ap (λ os. after_objects from tail.end tail.entries (owners stream from) os k) (sym all) ∙ kept.0 k

  pub tail_entries : length tail.entries ≡ length stream.entries - (tail.end - stream.end)
  tail_entries = length-drop (tail.end - stream.end) stream.entries

  -- and no object of the tail has an entry that it does not have
  pub tail_end : tail.end ≤ end_after tail.end tail.objects
  tail_end = end_no_earlier tail.end tail.objects tail_follow

  pub tail_within : end_after tail.end tail.objects ≤ tail.end + length tail.entries
  tail_within = omega (arith, valid.within, tail_last, tail_entries, tail_order)

  -- there it is at the position of the object
  pub tail_position : IsPosition stream from tail.end tail.entries tail.objects
  tail_position = record {
    from = least;
    order = tail_order;
    end_is = refl;
    entries_are = refl;
    objects_are = refl;
    follow = tail_follow;
  }

  -- and from a later one on
  module _ (count : ℕ) (within : from + count ≤ last_number stream) where
    to_count : from + count - from ≡ count
    to_count = omega arith

    later_end : end_after tail.end (take count tail.objects) ≡ end_at stream (from + count)
    later_end =
        let kept = keeps_owners stream from (from + count) valid least most (omega arith) in
        ap (λ n. end_after tail.end (take n tail.objects)) (sym to_count) ∙ kept.1

    later_owners : (k : ℕ) → after_objects from tail.end tail.entries (owners stream from) (take count tail.objects) k
        ≡ owners stream (from + count) k
    later_owners k =
        let kept = keeps_owners stream from (from + count) valid least most (omega arith) in
        ap (λ n. after_objects from tail.end tail.entries (owners stream from) (take n tail.objects) k) (sym to_count) ∙ kept.0 k

    later_objects : drop count tail.objects ≡ (from_object (from + count) stream).objects
    later_objects =
        let sum : from - stream.number + count ≡ from + count - stream.number = omega arith in
        drop-drop count (from - stream.number) stream.objects ∙ ap (λ n. drop n stream.objects) sum

    later_entries : tail.end ≤ end_at stream (from + count) → drop (end_at stream (from + count) - tail.end) tail.entries
        ≡ (from_object (from + count) stream).entries
    later_entries order =
        let e = end_at stream (from + count) in
        let sum : tail.end - stream.end + (e - tail.end) ≡ e - stream.end = omega (arith, tail_order) in
        drop-drop (e - tail.end) (tail.end - stream.end) stream.entries ∙ ap (λ n. drop n stream.entries) sum

    -- so are the sealed objects from there on
    pub later_sealed : (volume : Expected) (data_at : ℕ → ℕ) (sealed : List SealedState)
        → AreSealedOf stream volume from tail.end tail.entries (owners stream from) tail.objects sealed
        → AreSealedOf stream volume (from + count) (end_at stream (from + count)) (from_object (from + count) stream).entries
        (owners stream (from + count)) (from_object (from + count) stream).objects (drop count sealed)
    later_sealed volume data_at sealed are =
        let after = from + count in
        let e = end_after tail.end (take count tail.objects) in
        let es = drop (e - tail.end) tail.entries in
        let size : length tail.objects ≡ length stream.objects - (from - stream.number) =
        length-drop (from - stream.number) stream.objects in
        let left = left_of stream volume data_at count from tail.end tail.entries (owners stream from) tail.objects sealed are
        tail_follow tail_within (omega (arith, size, least, within)) in
        let entries : es ≡ (from_object after stream).entries =
        ap (λ x. drop (x - tail.end) tail.entries) later_end ∙ later_entries (omega (arith, left.order, later_end)) in
        let rest = sealed_after_same stream volume after e es
        (after_objects from tail.end tail.entries (owners stream from) (take count tail.objects)) (owners stream after)
        (drop count tail.objects) (drop count sealed) later_owners left.rest in
        let a = subst (λ os. AreSealedOf stream volume after e es (owners stream after) os (drop count sealed)) later_objects
        rest in
        let b = subst (λ x. AreSealedOf stream volume after e x (owners stream after) (from_object after stream).objects
        (drop count sealed)) entries a in
        subst (λ x. AreSealedOf stream volume after x (from_object after stream).entries (owners stream after)
        (from_object after stream).objects (drop count sealed)) later_end b

-- ---- a put that is done

module _ (volume : Expected) (data_at : ℕ → ℕ) (stream : Stream) (old new : UploadsState) (number : ℕ) (receipt : ReceiptState)
    (uploads : IsUploads old) (are : AreOfStream volume data_at stream old) (done : IsPutDone number receipt old new) where
  abbrev from : ℕ
  from = old.queue.frontier

  abbrev list : List SealedState
  list = with_at (index_of old number) (with_receipt receipt) old.queue.sealed

  abbrev part : Stream
  part = from_object from stream

  most : from ≤ last_number stream
  most = omega (arith, uploads.last, are.last)

  pub acknowledged_list : AreSealedOf stream volume from part.end part.entries (owners stream from) part.objects list
  acknowledged_list =
      changed_at stream volume (index_of old number) (with_receipt receipt)
      (λ s. record { bytes = refl; rows_are = refl; end = refl })
      from part.end part.entries (owners stream from) part.objects old.queue.sealed
      (subst (λ e. AreSealedOf stream volume from e part.entries (owners stream from) part.objects old.queue.sealed) are.end
      are.sealed)

  pub counted : done.count ≤ length part.objects
  counted =
      let size = same_count stream volume from part.end part.entries (owners stream from) part.objects list acknowledged_list in
      omega (arith, size, done.settled.within)

  within : from + done.count ≤ last_number stream
  within =
      let size : length part.objects ≡ length stream.objects - (from - stream.number) =
      length-drop (from - stream.number) stream.objects in
      omega (arith, counted, size, most, are.from)

  pub left : IsLeftOf stream volume data_at done.count from part.end part.entries (owners stream from) part.objects list
  left =
      left_of stream volume data_at done.count from part.end part.entries (owners stream from) part.objects list acknowledged_list
      (tail_follow stream from are.valid are.from most) (tail_within stream from are.valid are.from most) counted

  abbrev after : ℕ
  after = from + done.count

  ends : end_after part.end (take done.count part.objects) ≡ end_at stream after
  ends = later_end stream from are.valid are.from most done.count within

  order : part.end ≤ end_at stream after
  order = omega (arith, left.order, ends)

  entries : drop (end_after part.end (take done.count part.objects) - part.end) part.entries ≡ (from_object after stream).entries
  entries = ap (λ e. drop (e - part.end) part.entries) ends ∙ later_entries stream from are.valid are.from most done.count
      within order

  end_is : new.queue.end ≡ end_at stream after
  end_is = done.settled.end ∙ (ap (λ e. end_of_last e (take done.count list)) are.end ∙ (left.end_is ∙ ends))

  map_is : (k : ℕ) → settled_at new.queue.maps k ≡ settled_by_all from (take done.count list) (settled_at old.queue.maps k) k
  map_is k = maps_all from (take done.count list) old.queue.maps new.queue.maps done.settled.maps k

  settled_is : (k : ℕ) → place_owner (settled_at new.queue.maps k) ≡ owners stream after k
  settled_is k =
      ap place_owner (map_is k)
      ∙ (settle_all stream volume k done.count from part.end part.entries (owners stream from) part.objects list
      (settled_at old.queue.maps k) acknowledged_list (are.settled k)
      ∙ later_owners stream from are.valid are.from most done.count within k)

  placed_is : (k : ℕ) → IfSome (settled_at new.queue.maps k) (IsPlacedIn stream k)
  placed_is k =
      subst (λ p. IfSome p (IsPlacedIn stream k)) (sym (map_is k))
      (place_all stream volume k done.count from part.end part.entries (owners stream from) part.objects list
      (settled_at old.queue.maps k) acknowledged_list (tail_position stream from are.valid are.from most) (are.placed k))

  sealed_is : AreSealedOf stream volume after (end_at stream after) (from_object after stream).entries (owners stream after)
      (from_object after stream).objects new.queue.sealed
  sealed_is =
      subst (λ ss. AreSealedOf stream volume after (end_at stream after) (from_object after stream).entries (owners stream after)
      (from_object after stream).objects ss) (sym done.settled.sealed)
      (later_sealed stream from are.valid are.from most done.count within volume data_at list acknowledged_list)

  logged_is : (k : ℕ) → logged_at new.queue.maps k ≡ left_at data_at (end_at stream after) (from_object after stream).entries k
  logged_is k =
      left.logged old.queue.maps new.queue.maps done.settled.maps
      (λ j. are.logged j ∙ ap (λ e. left_at data_at e part.entries j) are.end) k
      ∙ (ap (λ es. left_at data_at (end_after part.end (take done.count part.objects)) es k) entries
      ∙ ap (λ e. left_at data_at e (from_object after stream).entries k) ends)

pub done_keeps_stream : DoneKeepsStream
done_keeps_stream volume data_at stream old new number receipt uploads are done =
    let reached = done.settled.frontier in
    rw reached (record {
      valid = are.valid;
      from = omega (arith, are.from);
      last = are.last ∙ sym (ap (λ (w : WindowState). w.last) done.window);
      end = end_is volume data_at stream old new number receipt uploads are done;
      settled = settled_is volume data_at stream old new number receipt uploads are done;
      placed = placed_is volume data_at stream old new number receipt uploads are done;
      sealed = rw (end_is volume data_at stream old new number receipt uploads are done)
          (sealed_is volume data_at stream old new number receipt uploads are done);
      logged = rw (end_is volume data_at stream old new number receipt uploads are done)
          (logged_is volume data_at stream old new number receipt uploads are done);
    })
