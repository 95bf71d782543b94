-- A checkpoint that is sealed is the next object of the stream.
use Rattle.std.proofs.Common.{◌≡◌, ℕ, ◌+◌, ◌-◌, ◌≤◌, List, [], ◌∷◌, length, take, drop, refl, sym, ◌∙◌, ap, subst, arith}
use Rattle.std.proofs.Common.{length-drop}
use Rattle.std.specs.Prelude.{IfSome}
use Rattle.std.proofs.Math.Seq.{take-length}
use Rattle.lsvd_base.specs.declared.entry.Entry.{Entry}
use Rattle.object_format.specs.declared.expected.Expected.{Expected}
use Rattle.object_stream.specs.declared.object.Content.TheVariants.{Checkpoint}
use Rattle.object_stream.specs.declared.object.StreamObject.{StreamObject}
use Rattle.object_stream.specs.Stream.{Owners, Stream, after_object, after_objects, owners, end_after, end_at, last_number}
use Rattle.object_stream.specs.Replay.{expected_at}
use Rattle.object_stream.specs.Laws.{from_object}
use Rattle.volume_maps.specs.Maps.{settled_at}
use Rattle.volume_maps.specs.Laws.{place_owner}
use Rattle.object_uploads.specs.declared.rows.SealedRows.TheVariants as sealed_rows
use Rattle.object_uploads.specs.State.{SealedState, UploadsState}
use Rattle.object_uploads.specs.Queue.{end_of_last, settled_by_all, sealed_at}
use Rattle.object_uploads.specs.Order.{IsUploads}
use Rattle.object_uploads.specs.Changes.{IsSealedNext}
use Rattle.object_uploads.specs.Checkpoint.{HoldsPlaces, expected_next, HasSealedCheckpoint}
use Rattle.object_uploads.specs.Stream.{IsPlacedIn, HoldsOwners, AreSealedOf, AreOfStream}
use Rattle.object_uploads.specs.Laws.{with_checkpoint, SealingCheckpointKeepsStream}
use Rattle.object_uploads.proofs.PlacedLemmas.{OwnerUpTo, AreUpTo, up_to_all, HasSameEntries, has_its_own, owners_still}
use Rattle.object_uploads.proofs.PlacedLemmas.{objects_same}
use Rattle.object_uploads.proofs.KeepLemmas.{same_count, settle_all, place_all, tail_position, tail_last, tail_owners}
use Rattle.object_uploads.proofs.GrowLemmas.{owners_up_to, object_sealed}

-- the ends of sealed objects are those of the stream
ends_same : (stream : Stream) (volume : Expected) (number end : ℕ) (entries : List Entry) (owned : Owners)
    (list : List StreamObject) (sealed : List SealedState)
    → AreSealedOf stream volume number end entries owned list sealed → end_of_last end sealed ≡ end_after end list
ends_same stream volume number end entries owned [] [] are = refl
ends_same stream volume number end entries owned [] (first ∷ sealed) are = absurd are
ends_same stream volume number end entries owned (object ∷ list) [] are = absurd are
ends_same stream volume number end entries owned (object ∷ list) (first ∷ sealed) are =
    ap (λ e. end_of_last e sealed) are.0.end
    ∙ ends_same stream volume (number + 1) object.end (drop (object.end - end) entries)
    (after_object (number + 1) object.content (take (object.end - end) entries) owned) list sealed are.1

-- and so is the end of the last of them
pub last_ends : (volume : Expected) (data_at : ℕ → ℕ) (stream : Stream) (uploads : UploadsState) → IsUploads uploads
    → AreOfStream volume data_at stream uploads
    → end_of_last uploads.queue.end uploads.queue.sealed ≡ end_at stream (last_number stream)
last_ends volume data_at stream uploads is are =
    let from = uploads.queue.frontier in
    let rest = from_object from stream in
    let list = uploads.queue.sealed in
    let most : from ≤ last_number stream = omega (arith, is.last, are.last) in
    let sealed_are = subst (λ e. AreSealedOf stream volume from e rest.entries (owners stream from) rest.objects list) are.end
    are.sealed in
    ap (λ e. end_of_last e list) are.end
    ∙ (ends_same stream volume from rest.end rest.entries (owners stream from) rest.objects list sealed_are
    ∙ sym (tail_last stream from are.valid are.from most))

module _ (volume : Expected) (data_at : ℕ → ℕ) (stream : Stream) (old new : UploadsState) (uploads : IsUploads old)
    (are : AreOfStream volume data_at stream old)
    (expected : expected_next old ≡ expected_at volume (last_number stream + 1) (end_at stream (last_number stream)))
    (has : HasSealedCheckpoint old new) where
  abbrev from : ℕ
  from = old.queue.frontier

  abbrev rest : Stream
  rest = from_object from stream

  abbrev list : List SealedState
  list = old.queue.sealed

  abbrev last_end : ℕ
  last_end = end_at stream (last_number stream)

  abbrev object : StreamObject
  object = record { content = Checkpoint; end = last_end }

  most : from ≤ last_number stream
  most = omega (arith, uploads.last, are.last)

  sealed_are : AreSealedOf stream volume from rest.end rest.entries (owners stream from) rest.objects list
  sealed_are =
      subst (λ e. AreSealedOf stream volume from e rest.entries (owners stream from) rest.objects list) are.end are.sealed

  all_sealed : take (length list) list ≡ list
  all_sealed = take-length list

  all_objects_of_rest : take (length list) rest.objects ≡ rest.objects
  all_objects_of_rest =
      ap (λ n. take n rest.objects)
      (sym (same_count stream volume from rest.end rest.entries (owners stream from) rest.objects list sealed_are))
      ∙ take-length rest.objects

  end_is : end_of_last old.queue.end list ≡ last_end
  end_is = last_ends volume data_at stream old uploads are

  -- its places are those of the stream's last owners
  owners_are : (k : ℕ) → place_owner (sealed_at old.queue k) ≡ owners stream (last_number stream) k
  owners_are k =
      let settled = settle_all stream volume k (length list) from rest.end rest.entries (owners stream from) rest.objects list
      (settled_at old.queue.maps k) sealed_are (are.settled k) in
      ap (λ ss. place_owner (settled_by_all from ss (settled_at old.queue.maps k) k)) (sym all_sealed)
      ∙ (settled
      ∙ (ap (λ os. after_objects from rest.end rest.entries (owners stream from) os k) all_objects_of_rest
      ∙ tail_owners stream from are.valid are.from most k))

  placed_are : (k : ℕ) → IfSome (sealed_at old.queue k) (IsPlacedIn stream k)
  placed_are k =
      subst (λ ss. IfSome (settled_by_all from ss (settled_at old.queue.maps k) k) (IsPlacedIn stream k)) all_sealed
      (place_all stream volume k (length list) from rest.end rest.entries (owners stream from) rest.objects list
      (settled_at old.queue.maps k) sealed_are (tail_position stream from are.valid are.from most) (are.placed k))

  places_hold : HoldsPlaces has.bytes (expected_at volume (last_number stream + 1) last_end) last_end (sealed_at old.queue)
  places_hold =
      subst (λ e. HoldsPlaces has.bytes (expected_at volume (last_number stream + 1) last_end) e (sealed_at old.queue)) end_is
      (subst (λ x. HoldsPlaces has.bytes x (end_of_last old.queue.end list) (sealed_at old.queue)) expected has.holds)

  holds_owners : HoldsOwners stream (expected_at volume (last_number stream + 1) last_end) (owners stream (last_number stream))
      last_end has.bytes
  holds_owners = record {
    places = sealed_at old.queue;
    holds = places_hold;
    owners_are = owners_are;
    placed = placed_are;
  }

  same_entries : HasSameEntries stream (with_checkpoint stream)
  same_entries = objects_same stream (object ∷ [])

  -- the stream's last owners are of its objects, as those at the frontier are
  last_up_to : AreUpTo (last_number stream) (owners stream (last_number stream))
  last_up_to =
      let size : from + length rest.objects ≡ last_number stream =
      omega (arith, length-drop (from - stream.number) stream.objects, are.from, most) in
      let low = owners_up_to volume data_at stream stream old uploads are (has_its_own stream) in
      let all = up_to_all stream volume from rest.end rest.entries (owners stream from) rest.objects list sealed_are low in
      λ k. subst (λ n. IfSome (owners stream (last_number stream) k) (OwnerUpTo n)) size
      (subst (λ o. IfSome o (OwnerUpTo (from + length rest.objects)))
      (tail_owners stream from are.valid are.from most k) (all k))

  now_sealed : IsSealedNext has.bytes sealed_rows.Checkpoint last_end old new
  now_sealed = subst (λ e. IsSealedNext has.bytes sealed_rows.Checkpoint e old new) end_is has.sealed

  pub checkpoint_sealed : AreOfStream volume data_at (with_checkpoint stream) new
  checkpoint_sealed =
      object_sealed volume data_at stream old uploads are new has.bytes sealed_rows.Checkpoint object refl are.valid.within
      (record {
        end = refl;
        holds = owners_still stream (with_checkpoint stream) (expected_at volume (last_number stream + 1) last_end)
            (owners stream (last_number stream)) (last_number stream) last_end has.bytes same_entries (omega arith) last_up_to
            holds_owners;
      })
      now_sealed

pub sealing_checkpoint_keeps_stream : SealingCheckpointKeepsStream
sealing_checkpoint_keeps_stream volume data_at stream old new uploads are expected has =
    checkpoint_sealed volume data_at stream old new uploads are expected has
