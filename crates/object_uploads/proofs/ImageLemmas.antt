-- The calls keep the image that the objects have, or make the image after what they settle.
use Rattle.std.proofs.Common.{◌≡◌, ℕ, zero, suc, ◌+◌, ◌-◌, ◌≤◌, not, Bool, false, Some, List, [], ◌∷◌, ◌++◌, take, drop}
use Rattle.std.proofs.Common.{length, sym, ◌∙◌, ap, subst}
use Rattle.std.specs.Prelude.{map}
use Rattle.std.specs.List.{AllByRecursion, All, slice_get}
use Rattle.std.proofs.lemmas.List.Elements.{All-nil, All-cons, All-head, All-tail, All-map, All-filter}
use Rattle.lsvd_base.specs.Image.{Image, zero_sector, blank, after}
use Rattle.lsvd_base.specs.Laws.{EndsBy}
use Rattle.lsvd_base.specs.declared.entry.Entry.{Entry}
use Rattle.lsvd_objstore.specs.Store.{ReceiptState}
use Rattle.object_format.specs.declared.expected.Expected.{Expected}
use Rattle.object_stream.specs.declared.object.StreamObject.{StreamObject}
use Rattle.object_stream.specs.Stream.{Owners, Stream, after_object, owners, end_after, EndsFollow}
use Rattle.object_stream.specs.Laws.{from_object}
use Rattle.object_table.specs.declared.row.ObjectRow.{ObjectRow}
use Rattle.object_table.specs.Table.{TableState, numbers}
use Rattle.volume_maps.specs.Maps.{MapsState}
use Rattle.object_uploads.specs.declared.rows.SealedRows.{SealedRows}
use Rattle.object_uploads.specs.declared.rows.SealedRows.TheVariants as sealed_rows
use Rattle.object_uploads.specs.State.{SealedState, NumberedReceipt, QueueState, UploadsState}
use Rattle.object_uploads.specs.Queue.{with_at, with_spare, with_receipt, just_sealed, HasBytesAt, is_copy, end_of_last}
use Rattle.object_uploads.specs.Order.{is_out, AreKnown}
use Rattle.object_uploads.specs.Changes.{index_of, IsSealedNext, IsOut}
use Rattle.object_uploads.specs.Stream.{AreSealedOf}
use Rattle.object_uploads.specs.Image.{HasImage, IsReceiptFor, HasOwnReceipts, IsCopiedIfCopy, AreCopied}
use Rattle.object_uploads.specs.ImageLaws.{ImageBegins, EnteringKeepsImage, SealingKeepsImage, RoomKeepsImage, JobsKeepImage}
use Rattle.object_uploads.specs.ImageLaws.{SealingCopyKeepsImage, DoneKeepsReceipts, settled_entries, DoneMakesImage}
use Rattle.object_uploads.specs.ImageLaws.{AdoptingMakesImage, AdoptingCopyKeepsImage}
use Rattle.object_uploads.proofs.StoredLemmas.{fixed, AreUpTo}
use Rattle.object_uploads.proofs.CopyImage.{CopiedOf, all_with, all_more, all_left, copies_same, are_copied_same}
use Rattle.object_uploads.proofs.SettleImage.{sector_or, IsTold, has_data, has_copy}
use Rattle.object_uploads.proofs.SettleAllImage.{has_all}
use Rattle.object_uploads.proofs.TellLemmas.{Tells}

-- a new image has zeros alone
blank_sector : (sectors k : ℕ) (sector : List ℕ) → slice_get (blank sectors) k ≡ Some sector → sector ≡ zero_sector
blank_sector zero k sector at = absurd cc
blank_sector (suc sectors) zero sector at = sym (ap (sector_or zero_sector) at)
blank_sector (suc sectors) (suc k) sector at = blank_sector sectors k sector at

-- ---- receipts

told_at : (index : ℕ) (receipt : ReceiptState) (bytes : List ℕ) (list : List SealedState) → HasBytesAt index list bytes
    → IsReceiptFor bytes receipt
    → AllByRecursion IsTold list → AllByRecursion IsTold (with_at index (with_receipt receipt) list)
told_at index receipt bytes [] has tells told = tt
told_at zero receipt bytes (first ∷ more) has tells told = (subst (λ b. IsReceiptFor b receipt) has tells, told.1)
told_at (suc index) receipt bytes (first ∷ more) has tells told = (told.0, told_at index receipt bytes more has tells told.1)

-- ---- the calls

pub image_begins : ImageBegins
image_begins queue sectors sealed settled =
    (λ k sector at. rw settled (blank_sector sectors k sector at), rw sealed tt, λ tells image. rw sealed tt)

-- while the places, the objects and their receipts stay, the image does
same_image : (old new : QueueState) → new.maps.settled.rows ≡ old.maps.settled.rows
    → new.maps.objects.rows ≡ old.maps.objects.rows → new.receipts ≡ old.receipts
    → new.inherited ≡ old.inherited → (image : Image) → HasImage image old → HasImage image new
same_image old new settled objects receipts inherited image has k sector at =
    rw (settled, objects, receipts, inherited) (has k sector at)

pub entering_keeps_image : EnteringKeepsImage
entering_keeps_image entry seq data_at old new entered = record {
  image = same_image old new (ap (λ (m : _). m.rows) entered.settled) (ap (λ (t : TableState). t.rows) entered.objects)
      entered.receipts entered.inherited;
  receipts = λ told. rw entered.sealed told;
  copies = λ tells image copied.
      are_copied_same tells image old new entered.frontier (ap (λ (m : _). m.rows) entered.settled) entered.sealed copied;
}

-- the copies past the frontier with one object more
copies_more : (bytes : List ℕ) (rows : SealedRows) (end : ℕ) (old new : UploadsState) (tells : Bool) (image : Image)
    → IsSealedNext bytes rows end old new
    → IsCopiedIfCopy tells image old.queue.frontier old.queue.maps bytes rows → AreCopied tells image old.queue
    → AreCopied tells image new.queue
copies_more bytes rows end old new tells image sealed own copied =
    let last = just_sealed bytes rows end in
    subst (AllByRecursion (CopiedOf tells image new.queue.frontier new.queue.maps)) (sym sealed.sealed)
    (copies_same tells image old.queue new.queue sealed.settled.frontier sealed.settled.places.settled
    (old.queue.sealed ++ last ∷ [])
    (all_more (CopiedOf tells image old.queue.frontier old.queue.maps) old.queue.sealed last own copied))

receipts_more : (bytes : List ℕ) (rows : SealedRows) (end : ℕ) (old new : UploadsState) → IsSealedNext bytes rows end old new
    → HasOwnReceipts old.queue → HasOwnReceipts new.queue
receipts_more bytes rows end old new sealed told =
    rw sealed.sealed (all_more IsTold old.queue.sealed (just_sealed bytes rows end) tt told)

no_copy : (rows : SealedRows) (tells : Bool) (image : Image) (frontier : ℕ) (maps : MapsState) (bytes : List ℕ)
    → is_copy rows ≡ false → IsCopiedIfCopy tells image frontier maps bytes rows
no_copy (sealed_rows.Data list) tells image frontier maps bytes other = tt
no_copy (sealed_rows.Copy list) tells image frontier maps bytes other = absurd cc
no_copy sealed_rows.Checkpoint tells image frontier maps bytes other = tt

pub sealing_keeps_image : SealingKeepsImage
sealing_keeps_image bytes rows end old new other sealed = record {
  image = same_image old.queue new.queue sealed.settled.places.settled sealed.settled.places.objects
      sealed.settled.receipts sealed.settled.inherited;
  receipts = receipts_more bytes rows end old new sealed;
  copies = λ tells image copied.
      copies_more bytes rows end old new tells image sealed
      (no_copy rows tells image old.queue.frontier old.queue.maps bytes other) copied;
}

pub sealing_copy_keeps_image : SealingCopyKeepsImage
sealing_copy_keeps_image bytes rows end old new tells image sealed own has told copied = (
  same_image old.queue new.queue sealed.settled.places.settled sealed.settled.places.objects sealed.settled.receipts
      sealed.settled.inherited image has,
  receipts_more bytes (sealed_rows.Copy rows) end old new sealed told,
  copies_more bytes (sealed_rows.Copy rows) end old new tells image sealed own copied,
)

pub room_keeps_image : RoomKeepsImage
room_keeps_image old new same = record {
  image = same_image old.queue new.queue same.settled.places.settled same.settled.places.objects
      same.settled.receipts same.settled.inherited;
  receipts = λ told. rw same.sealed told;
  copies = λ tells image copied.
      are_copied_same tells image old.queue new.queue same.settled.frontier same.settled.places.settled same.sealed copied;
}

pub jobs_keep_image : JobsKeepImage
jobs_keep_image number started uploads = record {
  image = λ image has. has;
  receipts = λ told.
      all_with IsTold (index_of uploads number) (with_spare (not started)) uploads.queue.sealed (λ s is. is) told;
  copies = λ tells image copied.
      all_with (CopiedOf tells image uploads.queue.frontier uploads.queue.maps) (index_of uploads number)
      (with_spare (not started)) uploads.queue.sealed (λ s is. is) copied;
}

-- the objects of which one was acknowledged have their own receipts
acknowledged_tell : (old : UploadsState) (number : ℕ) (bytes : List ℕ) (receipt : ReceiptState) → IsOut old number bytes
    → IsReceiptFor bytes receipt
    → HasOwnReceipts old.queue → AllByRecursion IsTold (with_at (index_of old number) (with_receipt receipt) old.queue.sealed)
acknowledged_tell old number bytes receipt out tells told =
    told_at (index_of old number) receipt bytes old.queue.sealed out.sealed tells told

pub done_keeps_receipts : DoneKeepsReceipts
done_keeps_receipts old new number bytes receipt done out tells told =
    rw done.settled.sealed (
    all_left IsTold done.count (with_at (index_of old number) (with_receipt receipt) old.queue.sealed)
    (acknowledged_tell old number bytes receipt out tells told)
    )

-- ---- a put that is done

-- what is known up to the frontier has numbers up to it
receipts_up_to : (number : ℕ) (list : List NumberedReceipt)
    → All (λ (n : ℕ). n ≤ number) (map (λ (r : NumberedReceipt). r.number) list)
    → All (λ (r : NumberedReceipt). r.number ≤ number) list
receipts_up_to number [] within = All-nil (λ (r : NumberedReceipt). r.number ≤ number)
receipts_up_to number (first ∷ list) within =
    let rest = map (λ (r : NumberedReceipt). r.number) list in
    All-cons (λ (r : NumberedReceipt). r.number ≤ number) first list
    (All-head (λ (n : ℕ). n ≤ number) first.number rest within)
    (receipts_up_to number list (All-tail (λ (n : ℕ). n ≤ number) first.number rest within))

pub known_up_to : (uuid : List ℕ) (queue : QueueState) → AreKnown uuid queue
    → AreUpTo queue.frontier queue.receipts queue.maps.objects.rows
known_up_to uuid queue known =
    let table = queue.maps.objects.rows in
    let low = λ (n : ℕ). n ≤ queue.frontier in
    let in_table : All low (numbers table) = All-map low (λ (row : ObjectRow). row.number) table known.within in
    let kept = All-filter (λ number. not (is_out queue.removal number)) low (numbers table) in_table in
    record {
      receipts_are = receipts_up_to queue.frontier queue.receipts (subst (All low) (sym known.receipts) kept);
      rows_are = All-map (λ (row : ObjectRow). row.number ≤ queue.frontier) fixed table known.within;
    }

-- an object with its receipt is the same object of the stream
acknowledged_at : (volume : Expected) (stream : Stream) (receipt : ReceiptState) (index number end : ℕ) (entries : List Entry)
    (owned : Owners) (list : List StreamObject) (sealed : List SealedState)
    → AreSealedOf stream volume number end entries owned list sealed
    → AreSealedOf stream volume number end entries owned list (with_at index (with_receipt receipt) sealed)
acknowledged_at volume stream receipt index number end entries owned [] [] are = are
acknowledged_at volume stream receipt index number end entries owned [] (first ∷ sealed) are = absurd are
acknowledged_at volume stream receipt index number end entries owned (object ∷ list) [] are = absurd are
acknowledged_at volume stream receipt zero number end entries owned (object ∷ list) (first ∷ sealed) are =
    (record { end = are.0.end; holds = are.0.holds }, are.1)
acknowledged_at volume stream receipt (suc index) number end entries owned (object ∷ list) (first ∷ sealed) are = (
  are.0,
  acknowledged_at volume stream receipt index (number + 1) object.end (drop (object.end - end) entries)
      (after_object (number + 1) object.content (take (object.end - end) entries) owned) list sealed are.1,
)

follow_rest : (end n : ℕ) (list : List StreamObject) → EndsFollow end list
    → EndsFollow (end_after end (take n list)) (drop n list)
follow_rest end zero list follow = follow
follow_rest end (suc n) [] follow = tt
follow_rest end (suc n) (object ∷ list) follow = follow_rest object.end n list follow.1

pub done_makes_image : DoneMakesImage
done_makes_image volume data_at stream old new number bytes receipt tells image uploads are done out for_it told alike ends has
    copied =
    let from = old.queue.frontier in
    let part = from_object from stream in
    let list = with_at (index_of old number) (with_receipt receipt) old.queue.sealed in
    let sealed = acknowledged_at volume stream receipt (index_of old number) from old.queue.end part.entries
    (owners stream from) part.objects old.queue.sealed are.sealed in
    let follow : EndsFollow old.queue.end part.objects =
    subst (λ e. EndsFollow e part.objects) (sym are.end)
    (follow_rest stream.end (from - stream.number) stream.objects are.valid.ends) in
    let entries : settled_entries stream old.queue new.queue
    ≡ take (end_of_last old.queue.end (take done.count list) - old.queue.end) part.entries =
    ap (λ e. take (e - old.queue.end) part.entries) done.settled.end in
    let copies = all_with (CopiedOf tells image from old.queue.maps) (index_of old number) (with_receipt receipt)
    old.queue.sealed (λ s is. is) copied in
    let all = has_all old.queue.inherited volume stream done.count from old.queue.end part.entries (owners stream from)
    part.objects list
    old.queue.receipts old.queue.maps new.queue.maps tells image (known_up_to old.uuid old.queue uploads.known) sealed follow
    done.settled.acknowledged (acknowledged_tell old number bytes receipt out for_it told)
    (subst (All (Tells tells)) done.settled.receipts alike.known) copies done.settled.within
    (subst (All (EndsBy (length image))) entries ends) done.settled.maps has in (
      λ k sector at.
          (let held = all.0 k sector (ap (λ es. slice_get (after image es) k) (sym entries) ∙ at) in
          rw (done.settled.receipts, done.settled.inherited) held),
      rw (entries, done.settled.frontier, done.settled.sealed) all.1,
    )

-- ---- an object that is adopted

pub adopting_makes_image : AdoptingMakesImage
adopting_makes_image volume end_before entries bytes rows end receipt old new image uploads is adopted tells ends has k sector
    at =
    let held = has_data old.queue.inherited volume old.queue.frontier end_before receipt.size end entries bytes rows.items end
    old.queue.receipts
    receipt old.queue.maps new.queue.maps image (known_up_to old.uuid old.queue uploads.known) is tells ends adopted.settled.maps
    has k
    sector at in
    rw (adopted.settled.receipts, adopted.settled.inherited) held

pub adopting_copy_keeps_image : AdoptingCopyKeepsImage
adopting_copy_keeps_image volume end_before pairs bytes rows end receipt old new image uploads is adopted for_it copied has k
    sector at =
    let held = has_copy old.queue.inherited volume old.queue.frontier end_before receipt.size end pairs bytes rows.items
    old.queue.receipts receipt
    old.queue.maps new.queue.maps image (known_up_to old.uuid old.queue uploads.known) is for_it copied adopted.settled.maps has
    k sector at in
    rw (adopted.settled.receipts, adopted.settled.inherited) held
