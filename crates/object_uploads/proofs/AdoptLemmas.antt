-- An object that is adopted: the stream with it.
use Rattle.std.proofs.Common.{◌≡◌, ℕ, ◌+◌, ◌-◌, ◌<◌, ◌≤◌, cond, Bool, true, false, None, List, [], ◌∷◌, ◌++◌, length, take, drop}
use Rattle.std.proofs.Common.{refl, sym, ◌∙◌, ap, subst, arith, length-append, length-drop}
use Rattle.std.specs.Prelude.{IfSome}
use Rattle.std.specs.Global.{Vec}
use Rattle.std.proofs.Math.Seq.{take-length, drop-length, drop-append_seam}
use Rattle.lsvd_base.specs.declared.entry.Entry.{Entry}
use Rattle.lsvd_objstore.specs.Store.{ReceiptState}
use Rattle.object_format.specs.declared.data_row.DataRow.{DataRow}
use Rattle.object_format.specs.declared.expected.Expected.{Expected}
use Rattle.extent_map.specs.Extents.{is_within}
use Rattle.object_stream.specs.declared.object.Content.TheVariants.{Data}
use Rattle.object_stream.specs.declared.object.StreamObject.{StreamObject}
use Rattle.object_stream.specs.Stream.{Owners, Stream, after_object, after_objects, owners, objects_to, end_after, end_at}
use Rattle.object_stream.specs.Stream.{entries_in_object}
use Rattle.object_stream.specs.Stream.{last_number, unsealed, owner_by_change, IsStream}
use Rattle.object_stream.specs.Changes.{change_at}
use Rattle.object_stream.specs.Replay.{expected_at}
use Rattle.object_stream.proofs.StreamLemmas.{after_in_parts, end_in_parts, end_no_earlier}
use Rattle.volume_maps.specs.Places.{left_at}
use Rattle.volume_maps.specs.Maps.{settled_by, logged_by, settled_at, logged_at}
use Rattle.volume_maps.specs.Laws.{place_owner}
use Rattle.object_uploads.specs.declared.rows.SealedRows.TheVariants as sealed_rows
use Rattle.object_uploads.specs.State.{UploadsState}
use Rattle.object_uploads.specs.Order.{IsUploads}
use Rattle.object_uploads.specs.Changes.{IsAdopted}
use Rattle.object_uploads.specs.Stream.{HoldsEntries, IsPlacedIn, AreOfStream}
use Rattle.object_uploads.specs.Laws.{with_adopted, AdoptingKeepsStream}
use Rattle.object_uploads.proofs.PlacedLemmas.{HasSameEntries, both_same, longer, longer_same, objects_same, end_with_objects}
use Rattle.object_uploads.proofs.PlacedLemmas.{IsUnder, last_object}
use Rattle.object_uploads.proofs.KeepLemmas.{owner_of_entries, placed_of_entries}
use Rattle.object_uploads.proofs.GrowLemmas.{owners_more, follow_more, all_objects, last_end_is, grown_placed}

-- rows leave a sector that is not in the log out of it
none_by_test : (test : Bool) (end : ℕ) (rows : List DataRow) (k : ℕ) → logged_by end rows None k ≡ None
    → logged_by end rows (cond test None None) k ≡ None
none_by_test true end rows k rest = rest
none_by_test false end rows k rest = rest

none_logged : (end : ℕ) (rows : List DataRow) (k : ℕ) → logged_by end rows None k ≡ None
none_logged end [] k = refl
none_logged end (row ∷ rows) k = none_by_test (is_within row.lba row.sectors k) end rows k (none_logged end rows k)

nothing_left : {X : Type 0} (n : ℕ) (list : List X) → drop n list ≡ [] → length list ≤ n
nothing_left n list none = let size = length-drop n list in let zero_ = ap length none in omega (arith, size, zero_)

module _ (volume : Expected) (data_at : ℕ → ℕ) (stream : Stream) (old new : UploadsState) (entries : List Entry) (bytes : List ℕ)
    (rows : Vec DataRow) (end : ℕ) (receipt : ReceiptState)
    (uploads : IsUploads old) (are : AreOfStream volume data_at stream old) (none : old.queue.sealed ≡ [])
    (all_in : unsealed stream ≡ [])
    (ends : end ≡ stream.end + length stream.entries + length entries) (some : 0 < length entries)
    (holds : HoldsEntries (expected_at volume (last_number stream + 1) (end_at stream
    (last_number stream))) entries end bytes rows.items)
    (adopted : IsAdopted (sealed_rows.Data rows) end receipt old new) where
  abbrev object : StreamObject
  object = record { content = Data; end = end }

  abbrev grown : Stream
  grown = with_adopted entries end stream

  abbrev last : ℕ
  last = last_number stream

  at_last : old.queue.frontier ≡ last
  at_last = let size = ap length none in omega (arith, size, uploads.last, are.last)

  -- the stream's objects have all of its entries
  last_end : end_after stream.end stream.objects ≡ stream.end + length stream.entries
  last_end =
      let same : end_at stream last ≡ end_after stream.end stream.objects = ap (end_after stream.end) (all_objects stream) in
      let first : stream.end ≤ end_after stream.end stream.objects = end_no_earlier stream.end stream.objects are.valid.ends in
      let left = nothing_left (end_at stream last - stream.end) stream.entries all_in in
      omega (arith, same, first, left, are.valid.within)

  number_is : last_number grown ≡ last + 1
  number_is = let size = length-append stream.objects (object ∷ []) in omega (arith, size)

  grown_objects : objects_to grown (last + 1) ≡ stream.objects ++ object ∷ []
  grown_objects = ap (objects_to grown) (sym number_is) ∙ all_objects grown

  grown_end : end_at grown (last + 1) ≡ end
  grown_end = ap (end_after stream.end) grown_objects ∙ end_in_parts stream.end stream.objects (object ∷ [])

  grown_valid : IsStream grown
  grown_valid =
      let size = length-append stream.entries entries in
      record {
        ends = follow_more stream.end stream.objects object are.valid.ends (omega (arith, last_end, ends, some));
        within = omega (arith, ap (end_at grown) number_is, grown_end, ends, size);
      }

  -- the last object has the entries that came with it
  abbrev more : List Entry
  more = stream.entries ++ entries

  part : take (end - end_after stream.end stream.objects) (drop (end_after stream.end stream.objects - stream.end) more) ≡ entries
  part =
      let e = end_after stream.end stream.objects in
      let skip : e - stream.end ≡ length stream.entries = omega (arith, last_end) in
      let rest : drop (e - stream.end) more ≡ entries = ap (λ n. drop n more) skip ∙ drop-append_seam stream.entries entries in
      let count : end - e ≡ length entries = omega (arith, last_end, ends) in
      ap (take (end - e)) rest ∙ (ap (λ n. take n entries) count ∙ take-length entries)

  own : entries ≡ entries_in_object grown (last + 1)
  own =
      let e = end_after stream.end stream.objects in
      let before : last ≡ last + 1 - 1 = omega arith in
      let same_end : e ≡ end_at grown (last + 1 - 1) =
      last_end_is stream
      ∙ (sym (end_with_objects (longer entries stream) (object ∷ []) last (omega arith)) ∙ ap (end_at grown) before) in
      sym part
      ∙ (ap (λ x. take (x - e) (drop (e - stream.end) more)) (sym grown_end)
      ∙ ap (λ x. take (end_at grown (last + 1) - x) (drop (x - stream.end) more)) same_end)

  under : IsUnder grown (last + 1) Data entries
  under = record {
    object = object;
    there = last_object (longer entries stream) object (last + 1) refl;
    content_is = refl;
    entries_are = own;
  }

  grown_owners : (k : ℕ) → owners grown (last + 1) k ≡ after_object (last + 1) Data entries (owners stream last) k
  grown_owners k =
      ap (λ os. after_objects stream.number stream.end more stream.opening os k) grown_objects
      ∙ (ap (λ (f : Owners). f k) (after_in_parts stream.number stream.end more stream.opening stream.objects (object ∷ [])
      are.valid.ends)
      ∙ (ap (λ es. after_object (last + 1) Data es (after_objects stream.number stream.end more stream.opening stream.objects) k)
      part
      ∙ (ap (λ (f : Owners). after_object (last + 1) Data entries f k)
      (owners_more entries stream.number stream.end stream.entries stream.opening stream.objects are.valid.ends
      (omega (arith, last_end)))
      ∙ ap (λ os. after_object (last + 1) Data entries (after_objects stream.number stream.end stream.entries stream.opening os)
      k) (sym (all_objects stream)))))

  now_settled : (k : ℕ) → place_owner (settled_at new.queue.maps k) ≡ owners grown (last + 1) k
  now_settled k =
      let before = are.settled k ∙ ap (λ n. owners stream n k) at_last in
      ap place_owner (adopted.settled.maps.settled k)
      ∙ (ap (λ n. place_owner (settled_by (n + 1) rows.items (settled_at old.queue.maps k) k)) at_last
      ∙ (owner_of_entries volume (last + 1) (end_at stream last) entries end bytes rows.items holds k
      (settled_at old.queue.maps k)
      ∙ (ap (owner_by_change (last + 1) (change_at entries k)) before ∙ sym (grown_owners k))))

  same_entries : HasSameEntries stream grown
  same_entries =
      both_same stream (longer entries stream) grown (longer_same stream entries are.valid (last_end_is stream))
      (objects_same (longer entries stream) (object ∷ [])) (omega arith)

  now_placed : (k : ℕ) → IfSome (settled_at new.queue.maps k) (IsPlacedIn grown k)
  now_placed k =
      let now : settled_at new.queue.maps k ≡ settled_by (last + 1) rows.items (settled_at old.queue.maps k) k =
      adopted.settled.maps.settled k ∙ ap (λ n. settled_by (n + 1) rows.items (settled_at old.queue.maps k) k) at_last in
      subst (λ p. IfSome p (IsPlacedIn grown k)) (sym now)
      (placed_of_entries volume (last + 1) (end_at stream last) entries end bytes rows.items holds grown k
      (settled_at old.queue.maps k) under (grown_placed volume data_at stream grown old uploads are same_entries k))

  -- nothing is past it
  no_entries : drop (end - stream.end) (stream.entries ++ entries) ≡ []
  no_entries =
      let size : end - stream.end ≡ length (stream.entries ++ entries) =
      omega (arith, ends, length-append stream.entries entries) in
      ap (λ n. drop n (stream.entries ++ entries)) size ∙ drop-length (stream.entries ++ entries)

  no_objects : drop (last + 1 - stream.number) (stream.objects ++ object ∷ []) ≡ []
  no_objects =
      let size : last + 1 - stream.number ≡ length (stream.objects ++ object ∷ []) =
      omega (arith, length-append stream.objects (object ∷ [])) in
      ap (λ n. drop n (stream.objects ++ object ∷ [])) size ∙ drop-length (stream.objects ++ object ∷ [])

  pub now_end : end_at grown (last_number grown) ≡ end
  now_end = ap (end_at grown) number_is ∙ grown_end

  pub now_all_in : unsealed grown ≡ []
  now_all_in = ap (λ e. drop (e - stream.end) (stream.entries ++ entries)) now_end ∙ no_entries

  old_log : (k : ℕ) → logged_at old.queue.maps k ≡ None
  old_log k =
      let same : drop (end_at stream old.queue.frontier - stream.end) stream.entries ≡ [] =
      ap (λ n. drop (end_at stream n - stream.end) stream.entries) at_last ∙ all_in in
      are.logged k ∙ ap (λ es. left_at data_at old.queue.end es k) same

  now_logged : (k : ℕ) → logged_at new.queue.maps k ≡ None
  now_logged k = adopted.settled.maps.logged k ∙ (ap (λ p. logged_by end rows.items p k) (old_log k)
      ∙ none_logged end rows.items k)

  pub now_of_stream : AreOfStream volume data_at grown new
  now_of_stream =
      let reached : new.queue.frontier ≡ last + 1 = adopted.settled.frontier ∙ ap (λ n. n + 1) at_last in
      let window_last : new.window.last ≡ last + 1 = ap (λ (w : _). w.last) adopted.window ∙ ap (λ n. n + 1) (sym are.last) in
      rw reached (record {
        valid = grown_valid;
        from = omega (arith, are.from, at_last);
        last = number_is ∙ sym window_last;
        end = adopted.settled.ends ∙ sym grown_end;
        settled = now_settled;
        placed = now_placed;
        sealed = rw (adopted.settled.sealed, no_objects) tt;
        logged = λ k. now_logged k
            ∙ sym (ap (λ e. left_at data_at new.queue.end (drop (e - stream.end) (stream.entries ++ entries)) k) grown_end
            ∙ ap (λ es. left_at data_at new.queue.end es k) no_entries);
      })

pub adopting_keeps_stream : AdoptingKeepsStream
adopting_keeps_stream volume data_at stream old new entries bytes rows end receipt uploads are none all_in ends some holds
    adopted =
    now_of_stream volume data_at stream old new entries bytes rows end receipt uploads are none all_in ends some holds adopted
