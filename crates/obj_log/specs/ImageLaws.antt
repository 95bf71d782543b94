-- Contract: what the calls keep of the image that the objects of the list have.
use Rattle.std.specs.Prelude.{◌≡◌, ℕ, Bool, IsTrue, List, [], length}
use Rattle.std.specs.Global.{Vec}
use Rattle.std.specs.List.{All}
use Rattle.std.specs.Option.{is_some}
use Rattle.lsvd_base.specs.declared.entry.Entry.{Entry}
use Rattle.lsvd_base.specs.Image.{Image, blank, after}
use Rattle.lsvd_base.specs.Laws.{EndsBy}
use Rattle.lsvd_objstore.specs.Store.{ReceiptState}
use Rattle.object_format.specs.declared.copy_row.CopyRow.{CopyRow}
use Rattle.object_format.specs.declared.data_row.DataRow.{DataRow}
use Rattle.object_stream.specs.declared.object.CopiedSector.{CopiedSector}
use Rattle.object_stream.specs.Stream.{Stream}
use Rattle.object_uploads.specs.Order.{IsUploads}
use Rattle.object_uploads.specs.declared.rows.SealedRows.TheVariants as sealed_rows
use Rattle.object_uploads.specs.Changes.{IsSealedNext, with_job, IsOut, IsPutDone}
use Rattle.object_uploads.specs.Stream.{HoldsEntries, HoldsCopy}
use Rattle.object_uploads.specs.Image.{HasImage, IsReceiptFor, HasOwnReceipts, TellAlike, HasLiveSectors, IsCopied, AreCopied}
use Rattle.object_uploads.specs.ImageLaws.{KeepsImage, settled_entries}
use Rattle.obj_log.specs.State.{ObjLogState}
use Rattle.obj_log.specs.Changes.{next_of, IsSame, IsAdded, HasSealedObject, HasAdoptedObject}
use Rattle.obj_log.specs.Stream.{IsOfStream}

-- the objects of a list that was just made have the image of a new volume
abbrev pub NewListHasBlank : Type 0
NewListHasBlank =
    (log : ObjLogState) (sectors : ℕ) → log.uploads.queue.sealed ≡ [] → log.uploads.queue.maps.settled.rows ≡ []
    → HasImage (blank sectors) log.uploads.queue × HasOwnReceipts log.uploads.queue
    × ((tells : Bool) (image : Image) → AreCopied tells image log.uploads.queue)

-- it is kept while nothing changes but room, while entries are added and sealed, and while puts begin and fail
abbrev pub RoomKeepsImageOfList : Type 0
RoomKeepsImageOfList = (old new : ObjLogState) → IsSame old new → KeepsImage old.uploads.queue new.uploads.queue

abbrev pub AddingKeepsImageOfList : Type 0
AddingKeepsImageOfList =
    (entry : Entry) (data_at : ℕ) (old new : ObjLogState) → IsAdded entry data_at old new
    → KeepsImage old.uploads.queue new.uploads.queue

abbrev pub SealingKeepsImageOfList : Type 0
SealingKeepsImageOfList = (old new : ObjLogState) → HasSealedObject old new → KeepsImage old.uploads.queue new.uploads.queue

-- and while a copy is sealed that has the image's sectors of its sources
abbrev pub SealingCopyKeepsImageOfList : Type 0
SealingCopyKeepsImageOfList =
    (bytes : List ℕ) (rows : Vec CopyRow) (end : ℕ) (old new : ObjLogState) (tells : Bool) (image : Image)
    → IsSealedNext bytes (sealed_rows.Copy rows) end old.uploads new.uploads
    → IsCopied tells image old.uploads.queue.frontier old.uploads.queue.maps bytes rows.items
    → HasImage image old.uploads.queue → HasOwnReceipts old.uploads.queue → AreCopied tells image old.uploads.queue
    → HasImage image new.uploads.queue × HasOwnReceipts new.uploads.queue × AreCopied tells image new.uploads.queue

abbrev pub JobsKeepImageOfList : Type 0
JobsKeepImageOfList = (number : ℕ) (started : Bool) (log : ObjLogState)
    → KeepsImage log.uploads.queue (with_job number started log.uploads).queue

-- By a put that is done it becomes the image after the entries of the objects that are settled then, receipts stay those of the
-- objects' own bytes, and copies have that image's sectors.
abbrev pub DoneMakesImageOfList : Type 0
DoneMakesImageOfList =
    (data_at : ℕ → ℕ) (stream : Stream) (old new : ObjLogState) (number : ℕ) (bytes : List ℕ) (receipt : ReceiptState)
    (tells : Bool) (image : Image)
    → IsUploads old.uploads → IsOfStream data_at stream old
    → IsPutDone number receipt old.uploads new.uploads → IsOut old.uploads number bytes → IsReceiptFor bytes receipt
    → HasOwnReceipts old.uploads.queue → TellAlike tells new.uploads.queue
    → All (EndsBy (length image)) (settled_entries stream old.uploads.queue new.uploads.queue)
    → HasImage image old.uploads.queue → AreCopied tells image old.uploads.queue
    → HasImage (after image (settled_entries stream old.uploads.queue new.uploads.queue)) new.uploads.queue
    × HasOwnReceipts new.uploads.queue
    × AreCopied tells (after image (settled_entries stream old.uploads.queue new.uploads.queue)) new.uploads.queue

-- and by an object that is adopted that after its entries
abbrev pub AdoptingMakesImageOfList : Type 0
AdoptingMakesImageOfList =
    (data_at : ℕ → ℕ) (stream : Stream) (old new : ObjLogState) (entries : List Entry) (bytes : List ℕ)
    (rows : Vec DataRow) (end : ℕ) (receipt : ReceiptState) (image : Image)
    → IsUploads old.uploads → IsOfStream data_at stream old → old.uploads.queue.sealed ≡ []
    → HoldsEntries (next_of old) entries end bytes rows.items
    → HasAdoptedObject (sealed_rows.Data rows) end receipt old new → IsReceiptFor bytes receipt
    → All (EndsBy (length image)) entries
    → HasImage image old.uploads.queue → HasImage (after image entries) new.uploads.queue × HasOwnReceipts new.uploads.queue
    × ((tells : Bool) → AreCopied tells (after image entries) new.uploads.queue)

-- a copy that is adopted leaves it as it is, where its receipt tells no bytes, or they have the image's sectors
abbrev pub AdoptingCopyKeepsImageOfList : Type 0
AdoptingCopyKeepsImageOfList =
    (data_at : ℕ → ℕ) (stream : Stream) (old new : ObjLogState) (pairs : List CopiedSector) (bytes : List ℕ)
    (rows : Vec CopyRow) (end : ℕ) (receipt : ReceiptState) (image : Image)
    → IsUploads old.uploads → IsOfStream data_at stream old → old.uploads.queue.sealed ≡ []
    → HoldsCopy (next_of old) pairs end bytes rows.items
    → HasAdoptedObject (sealed_rows.Copy rows) end receipt old new → IsReceiptFor bytes receipt
    → (IsTrue (is_some receipt.told) → HasLiveSectors image old.uploads.queue.maps bytes rows.items)
    → HasImage image old.uploads.queue → HasImage image new.uploads.queue × HasOwnReceipts new.uploads.queue
    × ((tells : Bool) → AreCopied tells image new.uploads.queue)
