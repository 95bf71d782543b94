-- What the sources of a copy have: of each sector that the list still has in one, the image's.
use Rattle.std.proofs.Common.{◌≡◌, ℕ, zero, suc, ◌+◌, ◌-◌, ◌^◌, ◌<◌, ◌≤◌, true, Option, Some, None, List, [], ◌∷◌}
use Rattle.std.proofs.Common.{length, take, drop, sym, ◌∙◌, ap, subst, arith}
use Rattle.std.specs.Prelude.{IsTrue}
use Rattle.std.specs.List.{All, slice_get}
use Rattle.std.proofs.lemmas.Bool.Decides.{nat_tests}
use Rattle.std.proofs.lemmas.List.{take_all, take-append-drop, length-take}
use Rattle.lsvd_base.specs.declared.entry.Entry.{Entry}
use Rattle.lsvd_base.specs.Image.{Image, after}
use Rattle.lsvd_base.specs.Laws.{EndsBy}
use Rattle.lsvd_objstore.specs.Objects.{Objects}
use Rattle.object_format.specs.declared.expected.Expected.{Expected}
use Rattle.object_stream.specs.declared.object.StreamObject.{StreamObject}
use Rattle.object_stream.specs.declared.owner.Owner.{Owner}
use Rattle.object_stream.specs.Stored.{AreStored}
use Rattle.object_stream.specs.Stream.{Owners, Stream, is_own, after_object, after_objects, owners, objects_to, end_at}
use Rattle.object_stream.specs.Stream.{EndsFollow}
use Rattle.object_stream.specs.Value.{HasSector, StandsForSector, IsValue}
use Rattle.object_stream.proofs.StreamLemmas.{end_no_earlier, follow_first}
use Rattle.object_stream.proofs.ValueLemmas.{value_is_image_after}
use Rattle.volume_maps.specs.declared.place.ObjectPlace.{ObjectPlace}
use Rattle.volume_maps.specs.Laws.{place_owner}
use Rattle.volume_maps.specs.Live.{is_live}
use Rattle.volume_maps.specs.Maps.{settled_at}
use Rattle.object_uploads.proofs.GrowLemmas.{owners_more}
use Rattle.obj_log.specs.State.{ObjLogState}
use Rattle.obj_log.specs.Stream.{IsOfStream}
use Rattle.object_recovery.specs.Recovery.{up_to_object, HasDataUpTo}

-- the first of some objects that are stored
stored_first : (objects : Objects) (uuid_at : ℕ → Option (List ℕ)) (volume : Expected) (number end : ℕ) (entries : List Entry)
    (before : Owners) (list : List StreamObject) (n m : ℕ)
    → n ≤ m → AreStored objects uuid_at volume number end entries before (take m list)
    → AreStored objects uuid_at volume number end entries before (take n list)
stored_first objects uuid_at volume number end entries before list zero m to stored = tt
stored_first objects uuid_at volume number end entries before [] (suc n) m to stored = tt
stored_first objects uuid_at volume number end entries before (object ∷ more) (suc n) zero to stored =
    absurd (omega (arith, to))
stored_first objects uuid_at volume number end entries before (object ∷ more) (suc n) (suc m) to stored = (
  stored.0,
  stored_first objects uuid_at volume (number + 1) object.end (drop (object.end - end) entries)
      (after_object (number + 1) object.content (take (object.end - end) entries) before) more n m (omega (arith, to)) stored.1,
)

-- an owner that is the object of a place
live_sector : (objects : Objects) (uuid_at : ℕ → Option (List ℕ)) (source : ℕ) (place : Option ObjectPlace) (k : ℕ)
    (sector : List ℕ) → IsTrue (is_live source place) → StandsForSector objects uuid_at (place_owner place) k sector
    → HasSector objects uuid_at (record { level = 0; number = source }) k sector
live_sector objects uuid_at source None k sector live stands = absurd cc
live_sector objects uuid_at source (Some place) k sector live stands =
    let own : place.level ≡ 0 = grind (arith, nat_tests) in
    let named : place.number ≡ source = grind (arith, nat_tests) in
    let of_number = ap (λ (n : ℕ). let owner : Owner = record { level = 0; number = n } in owner) named in
    let of_level = ap (λ (n : ℕ). let owner : Owner = record { level = n; number = place.number } in owner) own in
    subst (λ owner. HasSector objects uuid_at owner k sector) (of_level ∙ of_number) stands

live_own : (source : ℕ) (place : Option ObjectPlace) → IsTrue (is_live source place) → is_own source (place_owner place) ≡ true
live_own source None live = absurd cc
live_own source (Some place) live = live

module _ (volume : Expected) (uuid_at : ℕ → Option (List ℕ)) (objects : Objects) (stream : Stream)
    (opening : Image) (number : ℕ) (wide : volume.sectors < 2 ^ 64)
    (has : HasDataUpTo volume uuid_at objects stream opening number) (at : ℕ) (to : at ≤ number) where
  abbrev first : List StreamObject
  first = objects_to stream at

  abbrev entries : List Entry
  entries = (up_to_object at stream).entries

  follow : EndsFollow stream.end first
  follow = follow_first stream.end (at - stream.number) stream.objects has.valid.ends

  -- the owners up to an object stand for the image of the entries up to there
  value_at : IsValue objects uuid_at (owners stream at) (after opening entries)
  value_at =
      value_is_image_after objects uuid_at volume stream.number stream.end stream.entries stream.opening opening first has.own
      wide (subst (λ n. All (EndsBy n) stream.entries) (sym has.sectors) has.inside) follow
      (stored_first objects uuid_at volume stream.number stream.end stream.entries stream.opening stream.objects
      (at - stream.number) (number - stream.number) (omega (arith, to)) has.stored.stored)
      has.stored.opens.value

  module _ (within : end_at stream at ≤ stream.end + length stream.entries) where
    -- and they are those of the stream up to there
    owners_kept : (k : ℕ) → owners (up_to_object at stream) at k ≡ owners stream at k
    owners_kept k =
        let count = at - stream.number in
        let few = length-take count stream.objects in
        let all : take count first ≡ first = take_all count first (omega (arith, few)) in
        let from : stream.end ≤ end_at stream at = end_no_earlier stream.end first follow in
        let size = length-take (end_at stream at - stream.end) stream.entries in
        let rest = drop (end_at stream at - stream.end) stream.entries in
        ap (λ list. after_objects stream.number stream.end entries stream.opening list k) all
        ∙ (sym (ap (λ (f : Owners). f k)
        (owners_more rest stream.number stream.end entries stream.opening first follow (omega (arith, within, from, size))))
        ∙ ap (λ es. after_objects stream.number stream.end es stream.opening first k)
        (take-append-drop (end_at stream at - stream.end) stream.entries))

    owner_is : (log : ObjLogState) → IsOfStream (λ n. 0) (up_to_object at stream) log → log.uploads.queue.frontier ≡ at
        → (k : ℕ) → owners stream at k ≡ place_owner (settled_at log.uploads.queue.maps k)
    owner_is log is frontier k =
        sym (is.objects.settled k ∙ (ap (λ n. owners (up_to_object at stream) n k) frontier ∙ owners_kept k))

    -- so an object has each sector of the image that the list has in it
    pub has_source : (log : ObjLogState) → IsOfStream (λ n. 0) (up_to_object at stream) log → log.uploads.queue.frontier ≡ at
        → (k source : ℕ) (sector : List ℕ) → IsTrue (is_live source (settled_at log.uploads.queue.maps k))
        → slice_get (after opening entries) k ≡ Some sector
        → HasSector objects uuid_at (record { level = 0; number = source }) k sector
    has_source log is frontier k source sector live held =
        live_sector objects uuid_at source (settled_at log.uploads.queue.maps k) k sector live
        (subst (λ o. StandsForSector objects uuid_at o k sector) (owner_is log is frontier k) (value_at k sector held))

    -- which owns it still
    pub owns_still : (log : ObjLogState) → IsOfStream (λ n. 0) (up_to_object at stream) log → log.uploads.queue.frontier ≡ at
        → (k source : ℕ) → IsTrue (is_live source (settled_at log.uploads.queue.maps k))
        → is_own source (owners stream at k) ≡ true
    owns_still log is frontier k source live =
        ap (is_own source) (owner_is log is frontier k) ∙ live_own source (settled_at log.uploads.queue.maps k) live
