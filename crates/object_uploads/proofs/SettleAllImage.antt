-- The image after objects are settled, one after the other.
use Rattle.std.proofs.Common.{◌≡◌, ℕ, zero, suc, ◌+◌, ◌-◌, ◌≤◌, Bool, Option, Some, None, List, [], ◌∷◌, ◌++◌, length, take, drop}
use Rattle.std.proofs.Common.{refl, sym, ◌∙◌, ap, subst, arith}
use Rattle.std.specs.Prelude.{IfSome, IsSome, map, option_to_list}
use Rattle.std.specs.List.{AllByRecursion, All}
use Rattle.std.proofs.lemmas.List.{append-nil, append_assoc}
use Rattle.std.proofs.lemmas.List.Elements.{All-head, All-take, All-drop}
use Rattle.std.proofs.Math.Seq.{take-add, take-append_seam, drop-append_seam}
use Rattle.lsvd_base.specs.declared.entry.Entry.{Entry}
use Rattle.lsvd_base.specs.Image.{Image, after}
use Rattle.lsvd_base.specs.Laws.{EndsBy}
use Rattle.lsvd_base.proofs.SectorLemmas.{applies_in_parts}
use Rattle.lsvd_objstore.specs.Store.{ReceiptState}
use Rattle.object_format.specs.declared.expected.Expected.{Expected}
use Rattle.object_stream.specs.declared.object.StreamObject.{StreamObject}
use Rattle.object_stream.specs.Stream.{Owners, Stream, after_object, EndsFollow}
use Rattle.object_stream.proofs.StreamLemmas.{goes_on}
use Rattle.object_stream.proofs.ValueLemmas.{length-after}
use Rattle.volume_maps.specs.Maps.{MapsState}
use Rattle.object_uploads.specs.State.{SealedState, NumberedReceipt, InheritedObject}
use Rattle.object_uploads.specs.Queue.{receipts_of, end_of_last, SettlesObjects}
use Rattle.object_uploads.specs.Stream.{AreSealedOf}
use Rattle.object_uploads.specs.Image.{HasImage, IsReceiptFor}
use Rattle.object_uploads.proofs.StoredLemmas.{AreUpTo, up_to_next}
use Rattle.object_uploads.proofs.TellLemmas.{Tells}
use Rattle.object_uploads.proofs.CopyImage.{CopiedOf, copies_stay}
use Rattle.object_uploads.proofs.SettleImage.{IsTold, holding, with_next, sealed_front, added_one, has_one, was_there}

-- the two parts of a list
all_front : {X : Type 0} (P : X → Type 0) (a b : List X) → All P (a ++ b) → All P a
all_front P a b all = subst (All P) (take-append_seam a b) (All-take P (length a) (a ++ b) all)

all_back : {X : Type 0} (P : X → Type 0) (a b : List X) → All P (a ++ b) → All P b
all_back P a b all = subst (All P) (drop-append_seam a b) (All-drop P (length a) (a ++ b) all)

given : (receipt : Option ReceiptState) → IsSome receipt → (r : ReceiptState) × (receipt ≡ Some r)
given None some = absurd cc
given (Some r) some = (r, refl)

-- the receipts with that of an object, and then with those of others
receipts_with : (number : ℕ) (receipts : List NumberedReceipt) (sealed : SealedState) (more : List SealedState)
    (receipt : ReceiptState) → sealed.receipt ≡ Some receipt
    → receipts ++ receipts_of number (sealed ∷ more)
    ≡ with_next (number + 1) receipt receipts ++ receipts_of (number + 1) more
receipts_with number receipts sealed more receipt is =
    let own : NumberedReceipt = record { number = number + 1; receipt = receipt } in
    ap (λ o. receipts ++ (map (λ (r : ReceiptState). record { number = number + 1; receipt = r }) (option_to_list o)
    ++ receipts_of (number + 1) more)) is
    ∙ sym (append_assoc receipts (own ∷ []) (receipts_of (number + 1) more))

module _ (inherited : List InheritedObject) (volume : Expected) (stream : Stream) where
  -- no sealed object ends before the one that it comes after
  ends_later : (count number end : ℕ) (entries : List Entry) (owned : Owners) (list : List StreamObject)
      (sealed : List SealedState) → AreSealedOf stream volume number end entries owned list sealed → EndsFollow end list
      → end ≤ end_of_last end (take count sealed)
  ends_later zero number end entries owned list sealed are follow = omega arith
  ends_later (suc count) number end entries owned [] [] are follow = omega arith
  ends_later (suc count) number end entries owned [] (first ∷ sealed) are follow = absurd are
  ends_later (suc count) number end entries owned (object ∷ list) [] are follow = absurd are
  ends_later (suc count) number end entries owned (object ∷ list) (first ∷ sealed) are follow =
      let rest = ends_later count (number + 1) object.end (drop (object.end - end) entries)
      (after_object (number + 1) object.content (take (object.end - end) entries) owned) list sealed are.1 follow.1 in
      omega (arith, goes_on object.content end object.end follow.0, rest, ap (λ e. end_of_last e (take count sealed)) are.0.end)

  -- they make the image after their entries, and the copies past them have its sectors
  pub has_all : (count number end : ℕ) (entries : List Entry) (owned : Owners) (list : List StreamObject)
      (sealed : List SealedState) (receipts : List NumberedReceipt) (old new : MapsState) (tells : Bool) (image : Image)
      → AreUpTo number receipts old.objects.rows → AreSealedOf stream volume number end entries owned list sealed
      → EndsFollow end list → AllByRecursion (λ (s : SealedState). IsSome s.receipt) (take count sealed)
      → AllByRecursion IsTold sealed → All (Tells tells) (receipts ++ receipts_of number (take count sealed))
      → AllByRecursion (CopiedOf tells image number old) sealed → count ≤ length sealed
      → All (EndsBy (length image)) (take (end_of_last end (take count sealed) - end) entries)
      → SettlesObjects number (take count sealed) old new → HasImage image (holding inherited receipts old)
      → HasImage (after image (take (end_of_last end (take count sealed) - end) entries))
      (holding inherited (receipts ++ receipts_of number (take count sealed)) new)
      × AllByRecursion
      (CopiedOf tells (after image (take (end_of_last end (take count sealed) - end) entries)) (number + count) new)
      (drop count sealed)
  has_all zero number end entries owned list sealed receipts old new tells image known are follow all told alike copied most ends
      settles has =
      let none : end - end ≡ 0 = omega arith in
      let same : number + 0 ≡ number = omega arith in
      rw (none, append-nil receipts, settles, same) (has, copied)
  has_all (suc count) number end entries owned list [] receipts old new tells image known are follow all told alike copied most
      ends settles has =
      absurd (omega (arith, most))
  has_all (suc count) number end entries owned [] (first ∷ sealed) receipts old new tells image known are follow all told alike
      copied most ends settles has =
      absurd are
  has_all (suc count) number end entries owned (object ∷ list) (first ∷ sealed) receipts old new tells image known are follow all
      told alike copied most ends settles has =
      let part = take (object.end - end) entries in
      let later = drop (object.end - end) entries in
      let last = end_of_last object.end (take count sealed) in
      let last_is : end_of_last first.end (take count sealed) ≡ last =
      ap (λ e. end_of_last e (take count sealed)) are.0.end in
      let next_owned = after_object (number + 1) object.content part owned in
      let order : end ≤ object.end = goes_on object.content end object.end follow.0 in
      let rest_order : object.end ≤ last = ends_later count (number + 1) object.end later next_owned list sealed are.1 follow.1 in
      let sum : end_of_last first.end (take count sealed) - end ≡ object.end - end + (last - object.end) =
      omega (arith, last_is, order, rest_order) in
      let split : take (end_of_last first.end (take count sealed) - end) entries ≡ part ++ take (last - object.end) later =
      ap (λ n. take n entries) sum ∙ take-add (object.end - end) (last - object.end) entries in
      let ends_split = subst (All (EndsBy (length image))) split ends in
      let part_ends : All (EndsBy (length image)) part = all_front (EndsBy (length image)) part (take (last - object.end) later)
      ends_split in
      let later_ends : All (EndsBy (length (after image part))) (take (last - object.end) later) =
      rw (length-after image part part_ends) (all_back (EndsBy (length image)) part (take (last - object.end) later)
      ends_split) in
      let r = given first.receipt all.0 in
      let own : NumberedReceipt = record { number = number + 1; receipt = r.0 } in
      let with_own = with_next (number + 1) r.0 receipts in
      let for_it = subst (λ o. IfSome o (IsReceiptFor first.bytes)) r.1 told.0 in
      let all_alike : All (Tells tells) (with_own ++ receipts_of (number + 1) (take count sealed)) =
      subst (All (Tells tells)) (receipts_with number receipts first (take count sealed) r.0 r.1) alike in
      let tells_own : Tells tells own =
      All-head (Tells tells) own [] (all_back (Tells tells) receipts (own ∷ [])
      (all_front (Tells tells) with_own (receipts_of (number + 1) (take count sealed)) all_alike)) in
      let one = has_one inherited volume stream object.content first.rows number end (length first.bytes) object.end first.end
      entries owned
      first.bytes receipts r.0 old settles.0 tells image known are.0.holds follow.0 for_it tells_own copied.0 part_ends
      settles.1 has in
      let was = was_there inherited volume stream object.content first.rows number end (length first.bytes) object.end first.end
      entries
      owned first.bytes old settles.0 image are.0.holds follow.0 part_ends settles.1 in
      let still = copies_stay tells number (number + 1) old settles.0 image (after image part) (omega arith) was sealed
      copied.1 in
      let added = added_one (number + 1) (length first.bytes) first.rows first.end r.0 receipts old settles.0 settles.1 in
      let known_now = up_to_next number (sealed_front first.rows) r.0 receipts with_own old.objects.rows settles.0.objects.rows
      added known in
      let rest = has_all count (number + 1) object.end later next_owned list sealed with_own settles.0 new tells
      (after image part) known_now are.1 follow.1 all.1 told.1 all_alike still (omega (arith, most)) later_ends settles.2
      one in
      let image_is : after image (take (end_of_last first.end (take count sealed) - end) entries)
      ≡ after (after image part) (take (last - object.end) later) =
      ap (after image) split ∙ applies_in_parts image part (take (last - object.end) later) in
      let counted : number + suc count ≡ number + 1 + count = omega arith in
      rw (receipts_with number receipts first (take count sealed) r.0 r.1, image_is, counted) rest
