-- A copy that is adopted: the stream with it.
use Rattle.std.proofs.Common.{◌≡◌, ℕ, ◌+◌, ◌-◌, List, [], ◌∷◌, ◌++◌, length, drop, refl, sym, ◌∙◌, ap, subst, arith}
use Rattle.std.proofs.Common.{length-append}
use Rattle.std.specs.Prelude.{IfSome}
use Rattle.std.specs.Global.{Vec}
use Rattle.std.proofs.Math.Seq.{drop-length}
use Rattle.lsvd_objstore.specs.Store.{ReceiptState}
use Rattle.object_format.specs.declared.copy_row.CopyRow.{CopyRow}
use Rattle.object_format.specs.declared.expected.Expected.{Expected}
use Rattle.object_stream.specs.declared.object.CopiedSector.{CopiedSector}
use Rattle.object_stream.specs.declared.object.Content.TheVariants.{Copy}
use Rattle.object_stream.specs.declared.object.StreamObject.{StreamObject}
use Rattle.object_stream.specs.Stream.{Owners, Stream, owner_by_copy, source_in, after_objects, owners}
use Rattle.object_stream.specs.Stream.{end_at, last_number, entries_in_object, IsStream}
use Rattle.object_stream.specs.Replay.{expected_at}
use Rattle.object_stream.proofs.StreamLemmas.{after_in_parts}
use Rattle.volume_maps.specs.Places.{left_at}
use Rattle.volume_maps.specs.Maps.{settled_by_copy, settled_at, logged_at}
use Rattle.volume_maps.specs.Laws.{place_owner}
use Rattle.object_uploads.specs.declared.rows.SealedRows.TheVariants as sealed_rows
use Rattle.object_uploads.specs.State.{UploadsState}
use Rattle.object_uploads.specs.Order.{IsUploads}
use Rattle.object_uploads.specs.Changes.{IsAdopted}
use Rattle.object_uploads.specs.Stream.{HoldsCopy, IsPlacedIn, AreOfStream}
use Rattle.object_uploads.specs.Laws.{with_copy, AdoptingCopyKeepsStream}
use Rattle.object_uploads.proofs.PlacedLemmas.{objects_same, IsUnder, last_object}
use Rattle.object_uploads.proofs.KeepLemmas.{owner_of_copy, placed_of_copy}
use Rattle.object_uploads.proofs.GrowLemmas.{follow_more, all_objects, last_end_is, grown_placed, end_of_object}

module _ (volume : Expected) (data_at : ℕ → ℕ) (stream : Stream) (old new : UploadsState) (pairs : List CopiedSector)
    (bytes : List ℕ) (rows : Vec CopyRow) (receipt : ReceiptState)
    (uploads : IsUploads old) (are : AreOfStream volume data_at stream old) (none : old.queue.sealed ≡ [])
    (holds : HoldsCopy (expected_at volume (last_number stream + 1) (end_at stream (last_number stream))) pairs
    (end_at stream (last_number stream)) bytes rows.items)
    (adopted : IsAdopted (sealed_rows.Copy rows) (end_at stream (last_number stream)) receipt old new) where
  abbrev last : ℕ
  last = last_number stream

  abbrev end : ℕ
  end = end_at stream last

  abbrev object : StreamObject
  object = record { content = Copy pairs; end = end }

  abbrev grown : Stream
  grown = with_copy pairs stream

  at_last : old.queue.frontier ≡ last
  at_last = let size = ap length none in omega (arith, size, uploads.last, are.last)

  number_is : last_number grown ≡ last + 1
  number_is = let size = length-append stream.objects (object ∷ []) in omega (arith, size)

  grown_end : end_at grown (last + 1) ≡ end
  grown_end = ap (end_at grown) (sym number_is) ∙ end_of_object stream object

  grown_valid : IsStream grown
  grown_valid = record {
    ends = follow_more stream.end stream.objects object are.valid.ends (sym (last_end_is stream));
    within = rw (end_of_object stream object) are.valid.within;
  }

  -- the owners after it are those that it leaves of the last ones
  grown_owners : (k : ℕ) → owners grown (last + 1) k ≡ owner_by_copy (last + 1) (source_in pairs k) (owners stream last k)
  grown_owners k =
      let all = ap (λ n. owners grown n k) (sym number_is)
      ∙ ap (λ os. after_objects stream.number stream.end stream.entries stream.opening os k) (all_objects grown) in
      all
      ∙ (ap (λ (f : Owners). f k) (after_in_parts stream.number stream.end stream.entries stream.opening stream.objects
      (object ∷ []) are.valid.ends)
      ∙ ap (λ os. owner_by_copy (last + 1) (source_in pairs k)
      (after_objects stream.number stream.end stream.entries stream.opening os k)) (sym (all_objects stream)))

  now_map : (k : ℕ) → settled_at new.queue.maps k ≡ settled_by_copy (last + 1) rows.items (settled_at old.queue.maps k) k
  now_map k =
      adopted.settled.maps.settled k ∙ ap (λ n. settled_by_copy (n + 1) rows.items (settled_at old.queue.maps k) k) at_last

  now_settled : (k : ℕ) → place_owner (settled_at new.queue.maps k) ≡ owners grown (last + 1) k
  now_settled k =
      let before = are.settled k ∙ ap (λ n. owners stream n k) at_last in
      ap place_owner (now_map k)
      ∙ (owner_of_copy volume (last + 1) end pairs end bytes rows.items holds k (settled_at old.queue.maps k)
      ∙ (ap (owner_by_copy (last + 1) (source_in pairs k)) before ∙ sym (grown_owners k)))

  under : IsUnder grown (last + 1) (Copy pairs) (entries_in_object grown (last + 1))
  under = record {
    object = object;
    there = last_object stream object (last + 1) refl;
    content_is = refl;
    entries_are = refl;
  }

  now_placed : (k : ℕ) → IfSome (settled_at new.queue.maps k) (IsPlacedIn grown k)
  now_placed k =
      subst (λ p. IfSome p (IsPlacedIn grown k)) (sym (now_map k))
      (placed_of_copy volume (last + 1) end pairs end bytes rows.items holds grown k (entries_in_object grown (last + 1))
      (settled_at old.queue.maps k) under
      (grown_placed volume data_at stream grown old uploads are (objects_same stream (object ∷ [])) k))

  -- nothing is past it
  no_objects : drop (last + 1 - stream.number) (stream.objects ++ object ∷ []) ≡ []
  no_objects =
      let size : last + 1 - stream.number ≡ length (stream.objects ++ object ∷ []) =
      omega (arith, length-append stream.objects (object ∷ [])) in
      ap (λ n. drop n (stream.objects ++ object ∷ [])) size ∙ drop-length (stream.objects ++ object ∷ [])

  -- the entries that are in no object stay that
  now_logged : (k : ℕ) → logged_at new.queue.maps k ≡ left_at data_at end (drop (end - stream.end) stream.entries) k
  now_logged k =
      let end_was : old.queue.end ≡ end = are.end ∙ ap (end_at stream) at_last in
      adopted.settled.maps.logged k
      ∙ (are.logged k
      ∙ (ap (λ e. left_at data_at e (drop (end_at stream old.queue.frontier - stream.end) stream.entries) k) end_was
      ∙ ap (λ n. left_at data_at end (drop (end_at stream n - stream.end) stream.entries) k) at_last))

  pub copy_adopted : AreOfStream volume data_at grown new
  copy_adopted =
      let reached : new.queue.frontier ≡ last + 1 = adopted.settled.frontier ∙ ap (λ n. n + 1) at_last in
      let window_last : new.window.last ≡ last + 1 = ap (λ (w : _). w.last) adopted.window ∙ ap (λ n. n + 1) (sym are.last) in
      rw reached (record {
        valid = grown_valid;
        from = omega (arith, are.from, at_last);
        last = number_is ∙ sym window_last;
        end = adopted.settled.ends ∙ sym grown_end;
        settled = now_settled;
        placed = now_placed;
        sealed = rw (adopted.settled.sealed, no_objects) tt;
        logged = λ k. now_logged k
            ∙ sym (ap (λ e. left_at data_at e (drop (end_at grown (last + 1) - stream.end) stream.entries) k)
            adopted.settled.ends
            ∙ ap (λ e. left_at data_at end (drop (e - stream.end) stream.entries) k) grown_end);
      })

pub adopting_copy_keeps_stream : AdoptingCopyKeepsStream
adopting_copy_keeps_stream volume data_at stream old new pairs bytes rows receipt uploads are none holds adopted =
    copy_adopted volume data_at stream old new pairs bytes rows receipt uploads are none holds adopted
