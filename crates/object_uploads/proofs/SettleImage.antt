-- The image after an object is settled.
use Rattle.std.proofs.Common.{◌≡◌, ℕ, ◌+◌, ◌-◌, ◌*◌, ◌<◌, ◌≤◌, cond, Bool, true, false, Option, Some, None, List, [], ◌∷◌, ◌++◌}
use Rattle.std.proofs.Common.{length, take, drop, refl, sym, ◌∙◌, ap, subst, arith}
use Rattle.std.specs.Prelude.{IfSome, IsTrue, map}
use Rattle.std.specs.List.{All, slice_get}
use Rattle.std.specs.Option.{is_some}
use Rattle.std.proofs.lemmas.List.{drop-drop, map-append}
use Rattle.std.proofs.lemmas.Option.{slice_get_within}
use Rattle.lsvd_base.specs.declared.entry.Entry.{Entry}
use Rattle.lsvd_base.specs.Image.{Image, zero_sector, after}
use Rattle.lsvd_base.specs.Laws.{EndsBy}
use Rattle.lsvd_objstore.specs.Store.{ReceiptState}
use Rattle.object_format.specs.declared.kind.Kind.TheVariants as kinds
use Rattle.object_format.specs.declared.header.Header.{Header}
use Rattle.object_format.specs.declared.expected.Expected.{Expected}
use Rattle.object_format.specs.declared.copy_row.CopyRow.{CopyRow}
use Rattle.object_format.specs.declared.data_row.DataRow.{DataRow}
use Rattle.object_format.specs.declared.rows.Rows.{Rows}
use Rattle.object_format.specs.declared.rows.Rows.TheVariants as rows
use Rattle.object_format.specs.Layout.{front_with, front_sectors}
use Rattle.object_format.specs.Rows.{AreObjectRows, may_stand, data_rows_may_stand}
use Rattle.object_stream.specs.declared.change.Change.{Change}
use Rattle.object_stream.specs.declared.change.Change.TheVariants.{Put, Clear}
use Rattle.object_stream.specs.declared.object.CopiedSector.{CopiedSector}
use Rattle.object_stream.specs.declared.object.Content.{Content}
use Rattle.object_stream.specs.declared.object.Content.TheVariants as contents
use Rattle.object_stream.specs.Changes.{sector_of, change_at}
use Rattle.object_stream.specs.Stream.{Owners, Stream, source_in, GoesTo}
use Rattle.object_stream.specs.Replay.{expected_at}
use Rattle.object_stream.specs.Laws.{changed_by}
use Rattle.object_stream.proofs.ChangeLemmas.{changes_make_image}
use Rattle.object_stream.proofs.ValueLemmas.{length-after}
use Rattle.object_table.specs.Table.{TableState, new_row, added, passed, acknowledged}
use Rattle.extent_map.specs.State.{MapState}
use Rattle.volume_maps.specs.declared.place.ObjectPlace.{ObjectPlace}
use Rattle.volume_maps.specs.Maps.{MapsState, settled_by, settled_at}
use Rattle.volume_maps.specs.Live.{is_live, HasSameObjects}
use Rattle.volume_maps.specs.Laws.{IsPlacedBy, is_in_source}
use Rattle.volume_maps.proofs.SettleLemmas.{settles_places}
use Rattle.object_uploads.specs.declared.rows.SealedRows.{SealedRows}
use Rattle.object_uploads.specs.declared.rows.SealedRows.TheVariants as sealed_rows
use Rattle.object_uploads.specs.State.{SealedState, NumberedReceipt, InheritedObject, QueueState}
use Rattle.object_uploads.specs.Queue.{front_of, payload_of, copy_front_of, copy_payload_of, SettlesObject, SettlesCopy}
use Rattle.object_uploads.specs.Queue.{SettlesCheckpoint, SettlesSealed}
use Rattle.object_stream.specs.Stream.{place_in_copy}
use Rattle.object_uploads.specs.Stream.{AreRows, HoldsEntries, AreCopyRows, HoldsCopy, HoldsContent}
use Rattle.object_uploads.specs.Image.{GivesSector, HoldsSector, HasImage, IsReceiptFor, HasLiveSectors, IsCopiedIfCopy}
use Rattle.object_uploads.proofs.CopyRanks.{IsPlacedByCopy}
use Rattle.object_uploads.proofs.KeepLemmas.{place_of_copy}
use Rattle.object_uploads.proofs.CopyImage.{WasThere, same_places, was_there_by_change, was_there_by_copy}
use Rattle.object_uploads.proofs.StoredLemmas.{fixed, fixed_passed, fixed_same, IsAddedTo, AreUpTo, still_stored, next_stored}
use Rattle.object_uploads.proofs.HoldLemmas.{still_holds, image_stays}
use Rattle.object_uploads.proofs.WholeLemmas.{PutsWhole, puts_whole, lies_inside}

-- a sector, where there is one
abbrev pub sector_or : List ℕ → Option (List ℕ) → List ℕ
sector_or other None = other
sector_or other (Some sector) = sector

-- an object whose receipt, if it has one, is for its own bytes
abbrev pub IsTold : SealedState → Type 0
IsTold sealed = IfSome sealed.receipt (IsReceiptFor sealed.bytes)

-- what the image depends on of a queue
abbrev pub holding : List InheritedObject → List NumberedReceipt → MapsState → QueueState
holding inherited receipts maps = record {
  frontier = 0;
  end = 0;
  sealed = [];
  receipts = receipts;
  removal = None;
  inherited = inherited;
  maps = maps;
  places = 0;
}

-- receipts with that of one object more
abbrev pub with_next : (number : ℕ) → ReceiptState → List NumberedReceipt → List NumberedReceipt
with_next number receipt receipts = receipts ++ record { number = number; receipt = receipt } ∷ []

-- ---- what is added to the table

pub added_data : (number payload front : ℕ) (receipt : ReceiptState) (receipts : List NumberedReceipt) (old new : TableState)
    → HasSameObjects (added (new_row number payload front) old) new
    → IsAddedTo number front receipt receipts old.rows (with_next number receipt receipts) new.rows
added_data number payload front receipt receipts old new same = record {
  receipts_are = refl;
  rows_are = fixed_same new.rows (old.rows ++ new_row number payload front ∷ []) same.rows
      ∙ map-append fixed old.rows (new_row number payload front ∷ []);
}

added_checkpoint : (number : ℕ) (receipt : ReceiptState) (receipts : List NumberedReceipt) (old new : TableState)
    → new ≡ acknowledged number old
    → IsAddedTo number 0 receipt receipts old.rows (with_next number receipt receipts) new.rows
added_checkpoint number receipt receipts old new is = record {
  receipts_are = refl;
  rows_are = ap (λ (t : TableState). map fixed t.rows) is
      ∙ (map-append fixed (map passed old.rows) (new_row number 0 0 ∷ [])
      ∙ ap (λ list. list ++ new_row number 0 0 ∷ []) (fixed_passed old.rows));
}

-- the sectors before the payload of a sealed object
abbrev pub sealed_front : SealedRows → ℕ
sealed_front (sealed_rows.Data list) = front_of list.items
sealed_front (sealed_rows.Copy list) = copy_front_of list.items
sealed_front sealed_rows.Checkpoint = 0

pub added_one : (number size : ℕ) (rows : SealedRows) (end : ℕ) (receipt : ReceiptState) (receipts : List NumberedReceipt)
    (old new : MapsState) → SettlesSealed number size rows end old new
    → IsAddedTo number (sealed_front rows) receipt receipts old.objects.rows (with_next number receipt receipts) new.objects.rows
added_one number size (sealed_rows.Data list) end receipt receipts old new settles =
    added_data number (payload_of size list.items) (front_of list.items) receipt receipts old.objects new.objects settles.objects
added_one number size (sealed_rows.Copy list) end receipt receipts old new settles =
    added_data number (copy_payload_of size list.items) (copy_front_of list.items) receipt receipts old.objects new.objects
    settles.objects
added_one number size sealed_rows.Checkpoint end receipt receipts old new settles =
    added_checkpoint number receipt receipts old.objects new.objects settles.objects

-- ---- one more object is in the store

-- a sector of the payload is one of the whole object
payload_sector : (front at : ℕ) (bytes : List ℕ) → sector_of at (drop (512 * front) bytes) ≡ sector_of (front + at) bytes
payload_sector front at bytes =
    let sum : 512 * front + 512 * at ≡ 512 * (front + at) = omega arith in
    ap (take 512) (drop-drop (512 * at) (512 * front) bytes ∙ ap (λ n. drop n bytes) sum)

-- the receipt tells what its object's bytes have
tells_sector : (told : Option (List ℕ)) (bytes sector : List ℕ) (at : ℕ) → IfSome told (λ t. t ≡ bytes)
    → sector_of at bytes ≡ sector
    → IfSome told (λ t. sector_of at t ≡ sector)
tells_sector None bytes sector at tells has = tt
tells_sector (Some told) bytes sector at tells has = rw tells has

some_sector : (a b : List ℕ) → Some a ≡ Some b → a ≡ b
some_sector a b same = ap (sector_or a) same

module _ (inherited : List InheritedObject) (number front : ℕ) (receipts : List NumberedReceipt) (receipt : ReceiptState)
    (old new : MapsState)
    (known : AreUpTo number receipts old.objects.rows)
    (added : IsAddedTo (number + 1) front receipt receipts old.objects.rows (with_next (number + 1) receipt receipts)
    new.objects.rows) where
  abbrev before : QueueState
  before = holding inherited receipts old

  abbrev now : QueueState
  now = holding inherited (with_next (number + 1) receipt receipts) new

  stays_held : (place : Option ObjectPlace) (sector : List ℕ) → HoldsSector before place sector → HoldsSector now place sector
  stays_held place sector holds =
      still_holds before now place sector (λ p at own.
      still_stored (number + 1) front receipt receipts (with_next (number + 1) receipt receipts) old.objects.rows
      new.objects.rows added p.number) refl holds

  -- it has a sector that its receipt gives
  own_holds : (at : ℕ) (sector : List ℕ) → 512 * (front + at + 1) ≤ receipt.size
      → IfSome receipt.told (λ bytes. sector_of (front + at) bytes ≡ sector)
      → HoldsSector now (Some (record { level = 0; number = number + 1; sector = at })) sector
  own_holds at sector inside told =
      let stored = next_stored (number + 1) front receipt receipts (with_next (number + 1) receipt receipts) old.objects.rows
      new.objects.rows added number (omega arith) known in
      subst (λ o. GivesSector o at sector) (sym stored) (inside, told)

  module _ (bytes payload : List ℕ) (tells : IsReceiptFor bytes receipt) (payload_is : payload ≡ drop (512 * front) bytes) where
    put_holds : (at : ℕ) (sector : List ℕ) → length sector ≡ 512 → sector_of at payload ≡ sector
        → HoldsSector now (Some (record { level = 0; number = number + 1; sector = at })) sector
    put_holds at sector whole has =
        let there : sector_of (front + at) bytes ≡ sector =
        sym (payload_sector front at bytes) ∙ (ap (sector_of at) (sym payload_is) ∙ has) in
        let inside : 512 * (front + at + 1) ≤ receipt.size =
        omega (arith, tells.size, lies_inside (front + at) bytes sector whole there) in
        own_holds at sector inside (tells_sector receipt.told bytes sector (front + at) tells.told there)

    -- a sector after what its object did to it
    changed_holds : (change : Option Change) (was is : Option ObjectPlace) (held : Option (List ℕ)) (sector : List ℕ)
        → PutsWhole change → IsPlacedBy (number + 1) payload change was is
        → ((s : List ℕ) → held ≡ Some s → HoldsSector before was s)
        → changed_by change held ≡ Some sector → HoldsSector now is sector
    changed_holds None was is held sector whole placed holds made = rw placed (stays_held was sector (holds sector made))
    changed_holds (Some (Put put)) was is held sector whole placed holds made =
        let sames = some_sector put sector made in
        subst (λ p. HoldsSector now p sector) (sym placed.1) (put_holds placed.0 sector (sym (ap length sames) ∙ whole)
        (placed.2 ∙ sames))
    changed_holds (Some Clear) was is held sector whole placed holds made =
        rw placed (sym (some_sector zero_sector sector made))

-- ---- an object that is settled

-- the payload of a sealed object stands after its front
front_is : (header : Header) (rows_of : Rows) (items : List DataRow) (sectors : ℕ) → AreRows rows_of items
    → AreObjectRows sectors header rows_of → front_sectors header ≡ front_of items
front_is header (rows.Data list) items sectors same are =
    ap (λ kind. front_with kind header.rows) (sym are.kind) ∙ (ap (front_with kinds.Data) (sym are.count) ∙ ap front_of same)
front_is header (rows.Copy list) items sectors same are = absurd same
front_is header rows.Checkpoint items sectors same are = absurd same

-- its rows may stand, as its grammar says
rows_stand : (sectors : ℕ) (header : Header) (rows_of : Rows) (items : List DataRow) → AreRows rows_of items
    → IsTrue (may_stand sectors header rows_of)
    → IsTrue (data_rows_may_stand sectors header.payload None 0 items)
rows_stand sectors header (rows.Data list) items are stand =
    subst (λ rs. IsTrue (data_rows_may_stand sectors header.payload None 0 rs)) are stand
rows_stand sectors header (rows.Copy list) items are stand = absurd are
rows_stand sectors header rows.Checkpoint items are stand = absurd are

-- so it is with a copy
pub copy_front_is : (header : Header) (rows_of : Rows) (items : List CopyRow) (sectors : ℕ) → AreCopyRows rows_of items
    → AreObjectRows sectors header rows_of → front_sectors header ≡ copy_front_of items
copy_front_is header (rows.Data list) items sectors same are = absurd same
copy_front_is header (rows.Copy list) items sectors same are =
    ap (λ kind. front_with kind header.rows) (sym are.kind)
    ∙ (ap (front_with kinds.Copy) (sym are.count) ∙ ap copy_front_of same)
copy_front_is header rows.Checkpoint items sectors same are = absurd same

-- a sector that is still in its source has one
source_of : (source : Option ℕ) (place : Option ObjectPlace) → is_in_source source place ≡ true
    → (number : ℕ) × (source ≡ Some number) × IsTrue (is_live number place)
source_of None place live = absurd cc
source_of (Some number) place live = (number, refl, live)

-- where a receipt tells bytes, they have a sector that its object's have
told_sector : (told : Option (List ℕ)) (bytes sector : List ℕ) (at : ℕ) → IfSome told (λ t. t ≡ bytes)
    → (IsTrue (is_some told) → sector_of at bytes ≡ sector) → IfSome told (λ t. sector_of at t ≡ sector)
told_sector None bytes sector at tells has = tt
told_sector (Some told) bytes sector at tells has = rw tells (has refl)

module _ (inherited : List InheritedObject) (volume : Expected) where
  -- what entries make of a sector
  sector_made : (part : List Entry) (image : Image) (k : ℕ) (sector : List ℕ) → All (EndsBy (length image)) part
      → slice_get (after image part) k ≡ Some sector
      → changed_by (change_at part k) (slice_get image k) ≡ Some sector
  sector_made part image k sector ends at =
      let inside : k < length image = rw (sym (length-after image part ends)) (slice_get_within (after image part) k sector at) in
      sym (changes_make_image image part k ends inside) ∙ at

  -- where the data object of these entries leaves one
  sector_placed : (number end last : ℕ) (part : List Entry) (bytes : List ℕ) (items : List DataRow)
      (is : HoldsEntries (expected_at volume (number + 1) end) part last bytes items) (k : ℕ) (before : Option ObjectPlace)
      → IsPlacedBy (number + 1) is.payload (change_at part k) before (settled_by (number + 1) items before k)
  sector_placed number end last part bytes items is k before =
      let stand = rows_stand volume.sectors is.header is.rows_of items is.rows_are is.parts.is_object.rows_are.spelling in
      subst (λ c. IsPlacedBy (number + 1) is.payload c before (settled_by (number + 1) items before k)) (is.changes k)
      (settles_places volume.sectors is.header.payload (number + 1) k items is.payload before stand)

  -- a data object of these entries is
  pub has_data : (number end size last : ℕ) (part : List Entry) (bytes : List ℕ) (items : List DataRow) (settled_end : ℕ)
      (receipts : List NumberedReceipt) (receipt : ReceiptState) (old new : MapsState) (image : Image)
      → AreUpTo number receipts old.objects.rows
      → HoldsEntries (expected_at volume (number + 1) end) part last bytes items
      → IsReceiptFor bytes receipt → All (EndsBy (length image)) part
      → SettlesObject (number + 1) size items settled_end old new → HasImage image (holding inherited receipts old)
      → HasImage (after image part) (holding inherited (with_next (number + 1) receipt receipts) new)
  has_data number end size last part bytes items settled_end receipts receipt old new image known is tells ends settles has k
      sector at =
      let made = sector_made part image k sector ends at in
      let front = front_is is.header is.rows_of items volume.sectors is.rows_are is.parts.is_object.rows_are in
      let payload : is.payload ≡ drop (512 * front_of items) bytes =
      is.parts.payload_is ∙ ap (λ n. drop (512 * n) bytes) front in
      let by = sector_placed number end last part bytes items is k (settled_at old k) in
      let added = added_data (number + 1) (payload_of size items) (front_of items) receipt receipts old.objects new.objects
      settles.objects in
      rw (settles.settled k) (
      changed_holds inherited number (front_of items) receipts receipt old new known added
      bytes is.payload tells payload (change_at part k) (settled_at old k)
      (settled_by (number + 1) items (settled_at old k) k) (slice_get image k) sector
      (puts_whole part k) by (λ s held. has k s held) made
      )

  -- a copy changes no sector
  module _ (number end size last : ℕ) (pairs : List CopiedSector) (bytes : List ℕ) (items : List CopyRow)
      (receipts : List NumberedReceipt) (receipt : ReceiptState) (old new : MapsState) (image : Image)
      (known : AreUpTo number receipts old.objects.rows)
      (is : HoldsCopy (expected_at volume (number + 1) end) pairs last bytes items) (tells : IsReceiptFor bytes receipt)
      (copied : IsTrue (is_some receipt.told) → HasLiveSectors image old bytes items)
      (settles : SettlesCopy (number + 1) size items old new) (has : HasImage image (holding inherited receipts old)) (k : ℕ)
      (sector : List ℕ) (at : slice_get image k ≡ Some sector) where
    abbrev copy_front : ℕ
    copy_front = copy_front_of items

    abbrev place : ℕ
    place = place_in_copy pairs k

    copy_added : IsAddedTo (number + 1) copy_front receipt receipts old.objects.rows
        (with_next (number + 1) receipt receipts) new.objects.rows
    copy_added =
        added_data (number + 1) (copy_payload_of size items) copy_front receipt receipts old.objects new.objects settles.objects

    placed : IsPlacedByCopy is.header.payload (number + 1) pairs items (settled_at old k) k
    placed = place_of_copy volume (number + 1) end pairs last bytes items is k (settled_at old k)

    copied_by : (test : Bool) → is_in_source (source_in pairs k) (settled_at old k) ≡ test
        → HoldsSector (holding inherited (with_next (number + 1) receipt receipts) new)
        (cond test (Some (record { level = 0; number = number + 1; sector = place })) (settled_at old k)) sector
    copied_by true live =
        let source = source_of (source_in pairs k) (settled_at old k) live in
        let some : is_some (source_in pairs k) ≡ true = ap is_some source.1 in
        let front = copy_front_is is.header is.rows_of items volume.sectors is.rows_are is.parts.is_object.rows_are in
        let inside : 512 * (copy_front + place + 1) ≤ receipt.size =
        omega (arith, tells.size, is.parts.is_object.head.has_size, front, placed.inside some) in
        own_holds inherited number copy_front receipts receipt old new known copy_added place sector inside
        (told_sector receipt.told bytes sector (copy_front + place) tells.told (λ told.
        sym (payload_sector copy_front place bytes)
        ∙ some_sector (sector_of place (drop (512 * copy_front) bytes)) sector
        (sym (placed.copied (drop (512 * copy_front) bytes) some)
        ∙ copied told k source.0 sector (is.sources k ∙ source.1) source.2 at)))
    copied_by false live =
        stays_held inherited number copy_front receipts receipt old new known copy_added (settled_at old k) sector
        (has k sector at)

    pub has_copy : HoldsSector (holding inherited (with_next (number + 1) receipt receipts) new) (settled_at new k) sector
    has_copy =
        rw (settles.settled k, placed.settled) (copied_by (is_in_source (source_in pairs k) (settled_at old k)) refl)

  -- a checkpoint changes no sector
  has_checkpoint : (number : ℕ) (receipts : List NumberedReceipt) (receipt : ReceiptState) (old new : MapsState)
      (image : Image) → SettlesCheckpoint (number + 1) old new → HasImage image (holding inherited receipts old)
      → HasImage image (holding inherited (with_next (number + 1) receipt receipts) new)
  has_checkpoint number receipts receipt old new image settles has =
      let added = added_checkpoint (number + 1) receipt receipts old.objects new.objects settles.objects in
      image_stays (holding inherited receipts old) (holding inherited (with_next (number + 1) receipt receipts) new)
      (ap (λ (m : MapState ObjectPlace). m.rows) settles.settled) refl (λ k p at own.
      still_stored (number + 1) 0 receipt receipts (with_next (number + 1) receipt receipts) old.objects.rows new.objects.rows
      added p.number) image has

  -- any object that is settled makes the image after its entries
  pub has_one : (stream : Stream) (content : Content) (rows : SealedRows) (number end size last settled_end : ℕ)
      (entries : List Entry) (owned : Owners) (bytes : List ℕ) (receipts : List NumberedReceipt) (receipt : ReceiptState)
      (old new : MapsState) (tells : Bool) (image : Image) → AreUpTo number receipts old.objects.rows
      → HoldsContent stream (expected_at volume (number + 1) end) content (take (last - end) entries) owned last bytes rows
      → GoesTo content end last → IsReceiptFor bytes receipt → is_some receipt.told ≡ tells
      → IsCopiedIfCopy tells image number old bytes rows
      → All (EndsBy (length image)) (take (last - end) entries)
      → SettlesSealed (number + 1) size rows settled_end old new → HasImage image (holding inherited receipts old)
      → HasImage (after image (take (last - end) entries)) (holding inherited (with_next (number + 1) receipt receipts) new)
  has_one stream contents.Data (sealed_rows.Data list) number end size last settled_end entries owned bytes receipts receipt old
      new tells image known is goes for_it alike copied ends settles has =
      has_data number end size last (take (last - end) entries) bytes list.items settled_end receipts receipt old new image known
      is for_it ends settles has
  has_one stream (contents.Copy pairs) (sealed_rows.Copy list) number end size last settled_end entries owned bytes receipts
      receipt old new tells image known is goes for_it alike copied ends settles has =
      let none : last - end ≡ 0 = omega (arith, goes) in
      rw none (has_copy number end size last pairs bytes list.items receipts receipt old new image known is for_it
      (λ told. copied.sectors (sym alike ∙ told)) settles has)
  has_one stream contents.Checkpoint sealed_rows.Checkpoint number end size last settled_end entries owned bytes receipts
      receipt old new tells image known is goes for_it alike copied ends settles has =
      let none : last - end ≡ 0 = omega (arith, goes) in
      rw none (has_checkpoint number receipts receipt old new image settles has)
  has_one stream content rows number end size last settled_end entries owned bytes receipts receipt old new tells image known is
      goes for_it alike copied ends settles has =
      absurd is

  -- and what is in another object after it was there before
  pub was_there : (stream : Stream) (content : Content) (rows : SealedRows) (number end size last settled_end : ℕ)
      (entries : List Entry) (owned : Owners) (bytes : List ℕ) (old new : MapsState) (image : Image)
      → HoldsContent stream (expected_at volume (number + 1) end) content (take (last - end) entries) owned last bytes rows
      → GoesTo content end last → All (EndsBy (length image)) (take (last - end) entries)
      → SettlesSealed (number + 1) size rows settled_end old new
      → WasThere number old new image (after image (take (last - end) entries))
  was_there stream contents.Data (sealed_rows.Data list) number end size last settled_end entries owned bytes old new image is
      goes ends settles k source sector low live held =
      let part = take (last - end) entries in
      was_there_by_change number source is.payload (change_at part k) (settled_at old k)
      (settled_by (number + 1) list.items (settled_at old k) k) (slice_get image k) sector low
      (sector_placed number end last part bytes list.items is k (settled_at old k))
      (subst (λ p. IsTrue (is_live source p)) (settles.settled k) live) (sector_made part image k sector ends held)
  was_there stream (contents.Copy pairs) (sealed_rows.Copy list) number end size last settled_end entries owned bytes old new
      image is goes ends settles k source sector low live held =
      let none : last - end ≡ 0 = omega (arith, goes) in
      let place = place_of_copy volume (number + 1) end pairs last bytes list.items is k (settled_at old k) in (
        was_there_by_copy (is_in_source (source_in pairs k) (settled_at old k)) number source (place_in_copy pairs k)
            (settled_at old k) low (subst (λ p. IsTrue (is_live source p)) (settles.settled k ∙ place.settled) live),
        ap (λ n. slice_get (after image (take n entries)) k) (sym none) ∙ held,
      )
  was_there stream contents.Checkpoint sealed_rows.Checkpoint number end size last settled_end entries owned bytes old new image
      is goes ends settles k source sector low live held =
      let none : last - end ≡ 0 = omega (arith, goes) in
      same_places number old new image (ap (λ (m : MapState ObjectPlace). m.rows) settles.settled) k source sector low live
      (ap (λ n. slice_get (after image (take n entries)) k) (sym none) ∙ held)
  was_there stream content rows number end size last settled_end entries owned bytes old new image is goes ends settles k source
      sector low live held =
      absurd is
