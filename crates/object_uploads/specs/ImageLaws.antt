-- Contract: what the calls keep of the image that the objects have.
use Rattle.std.specs.Prelude.{◌≡◌, ℕ, ◌+◌, ◌-◌, ◌⊎◌, Bool, false, IsTrue, List, [], length, take}
use Rattle.std.specs.List.{All}
use Rattle.std.specs.Option.{is_some}
use Rattle.std.specs.Global.{Vec}
use Rattle.lsvd_base.specs.declared.entry.Entry.{Entry}
use Rattle.lsvd_base.specs.Image.{Image, blank, after}
use Rattle.lsvd_base.specs.Laws.{EndsBy}
use Rattle.lsvd_objstore.specs.Store.{ReceiptState}
use Rattle.object_format.specs.declared.expected.Expected.{Expected}
use Rattle.object_format.specs.declared.copy_row.CopyRow.{CopyRow}
use Rattle.object_format.specs.declared.data_row.DataRow.{DataRow}
use Rattle.object_stream.specs.declared.object.CopiedSector.{CopiedSector}
use Rattle.object_stream.specs.Stream.{Stream}
use Rattle.object_stream.specs.Replay.{expected_at}
use Rattle.object_stream.specs.Laws.{from_object}
use Rattle.object_table.specs.declared.row.ObjectRow.{ObjectRow}
use Rattle.object_uploads.specs.declared.rows.SealedRows.{SealedRows}
use Rattle.object_uploads.specs.declared.rows.SealedRows.TheVariants as sealed_rows
use Rattle.object_uploads.specs.State.{QueueState, UploadsState}
use Rattle.object_uploads.specs.Queue.{IsEntered, is_copy}
use Rattle.object_uploads.specs.Order.{IsUploads}
use Rattle.object_uploads.specs.Changes.{IsSealedNext, IsNotSealed, with_job, IsOut, IsPutDone, IsAdopted}
use Rattle.object_uploads.specs.Removal.{HasChangedRow, TakesRemoval, FinishesRemoval, TakesBackRemoval}
use Rattle.object_uploads.specs.Collection.{with_copied_all}
use Rattle.object_uploads.specs.Stream.{HoldsEntries, HoldsCopy, AreOfStream}
use Rattle.object_uploads.specs.Image.{HasImage, IsReceiptFor, HasOwnReceipts, TellAlike, HasLiveSectors, IsCopied, AreCopied}

-- a call keeps the image that the objects have, the receipts of their own bytes, and the sectors of the copies past the frontier
pub record KeepsImage (old new : QueueState) : Type 0 where
  pub image : (image : Image) → HasImage image old → HasImage image new
  pub receipts : HasOwnReceipts old → HasOwnReceipts new
  pub copies : (tells : Bool) (image : Image) → AreCopied tells image old → AreCopied tells image new

-- where no sector has a place, and no object is past the frontier, the image is that of a new volume
abbrev pub ImageBegins : Type 0
ImageBegins =
    (queue : QueueState) (sectors : ℕ) → queue.sealed ≡ [] → queue.maps.settled.rows ≡ []
    → HasImage (blank sectors) queue × HasOwnReceipts queue
    × ((tells : Bool) (image : Image) → AreCopied tells image queue)

-- it is kept while entries are entered
abbrev pub EnteringKeepsImage : Type 0
EnteringKeepsImage = (entry : Entry) (seq data_at : ℕ) (old new : QueueState) → IsEntered entry seq data_at old new
    → KeepsImage old new

-- while data objects and checkpoints are sealed
abbrev pub SealingKeepsImage : Type 0
SealingKeepsImage =
    (bytes : List ℕ) (rows : SealedRows) (end : ℕ) (old new : UploadsState) → is_copy rows ≡ false
    → IsSealedNext bytes rows end old new → KeepsImage old.queue new.queue

-- while a copy is sealed that has its sectors from objects up to the frontier, and there the image's
abbrev pub SealingCopyKeepsImage : Type 0
SealingCopyKeepsImage =
    (bytes : List ℕ) (rows : Vec CopyRow) (end : ℕ) (old new : UploadsState) (tells : Bool) (image : Image)
    → IsSealedNext bytes (sealed_rows.Copy rows) end old new
    → IsCopied tells image old.queue.frontier old.queue.maps bytes rows.items
    → HasImage image old.queue → HasOwnReceipts old.queue → AreCopied tells image old.queue
    → HasImage image new.queue × HasOwnReceipts new.queue × AreCopied tells image new.queue

-- while nothing changes but room
abbrev pub RoomKeepsImage : Type 0
RoomKeepsImage = (old new : UploadsState) → IsNotSealed old new → KeepsImage old.queue new.queue

-- and while puts begin and fail
abbrev pub JobsKeepImage : Type 0
JobsKeepImage = (number : ℕ) (started : Bool) (uploads : UploadsState)
    → KeepsImage uploads.queue (with_job number started uploads).queue

-- while objects are pinned
abbrev pub PinsKeepImage : Type 0
PinsKeepImage =
    (change : ObjectRow → ObjectRow) (number : ℕ) (old new : UploadsState)
    → ((row : ObjectRow) → ((change row).front ≡ row.front) × ((change row).number ≡ row.number))
    → HasChangedRow change number old new → KeepsImage old.queue new.queue

-- while objects are marked as those that a plan of a copy takes sectors from
abbrev pub MarksKeepImage : Type 0
MarksKeepImage = (is_copied : Bool) (numbers : List ℕ) (uploads : UploadsState)
    → KeepsImage uploads.queue (with_copied_all is_copied numbers uploads).queue

-- while removals begin, fail and are done: no sector is in an object that is removed
abbrev pub RemovalsKeepImage : Type 0
RemovalsKeepImage =
    (number : ℕ) (receipt : ReceiptState) (old new : UploadsState) → IsUploads old → IsUploads new
    → TakesRemoval number receipt old new ⊎ FinishesRemoval number old new ⊎ TakesBackRemoval number receipt old new
    → KeepsImage old.queue new.queue

-- receipts stay those of their objects' own bytes while puts are done whose receipts are for the sealed bytes
abbrev pub DoneKeepsReceipts : Type 0
DoneKeepsReceipts =
    (old new : UploadsState) (number : ℕ) (bytes : List ℕ) (receipt : ReceiptState)
    → IsPutDone number receipt old new → IsOut old number bytes → IsReceiptFor bytes receipt
    → HasOwnReceipts old.queue → HasOwnReceipts new.queue

-- the entries of a stream that are in the objects that were settled: those past the old frontier, up to the new one
abbrev pub settled_entries : Stream → (old new : QueueState) → List Entry
settled_entries stream old new = take (new.end - old.end) (from_object old.frontier stream).entries

-- By such a put the objects of a stream come to have the image after the entries of the objects that were settled, and the copies
-- past the new frontier its sectors.
abbrev pub DoneMakesImage : Type 0
DoneMakesImage =
    (volume : Expected) (data_at : ℕ → ℕ) (stream : Stream) (old new : UploadsState) (number : ℕ) (bytes : List ℕ)
    (receipt : ReceiptState) (tells : Bool) (image : Image)
    → IsUploads old → AreOfStream volume data_at stream old
    → IsPutDone number receipt old new → IsOut old number bytes → IsReceiptFor bytes receipt → HasOwnReceipts old.queue
    → TellAlike tells new.queue
    → All (EndsBy (length image)) (settled_entries stream old.queue new.queue)
    → HasImage image old.queue → AreCopied tells image old.queue
    → HasImage (after image (settled_entries stream old.queue new.queue)) new.queue
    × AreCopied tells (after image (settled_entries stream old.queue new.queue)) new.queue

-- An object that is adopted, the data object of these entries, makes it the image after them.
abbrev pub AdoptingMakesImage : Type 0
AdoptingMakesImage =
    (volume : Expected) (end_before : ℕ) (entries : List Entry) (bytes : List ℕ) (rows : Vec DataRow) (end : ℕ)
    (receipt : ReceiptState) (old new : UploadsState) (image : Image)
    → IsUploads old → HoldsEntries (expected_at volume (old.queue.frontier + 1) end_before) entries end bytes rows.items
    → IsAdopted (sealed_rows.Data rows) end receipt old new → IsReceiptFor bytes receipt → All (EndsBy (length image)) entries
    → HasImage image old.queue → HasImage (after image entries) new.queue

-- One that is a copy leaves it as it is, where its receipt tells no bytes, or they have the image's sectors.
abbrev pub AdoptingCopyKeepsImage : Type 0
AdoptingCopyKeepsImage =
    (volume : Expected) (end_before : ℕ) (pairs : List CopiedSector) (bytes : List ℕ) (rows : Vec CopyRow) (end : ℕ)
    (receipt : ReceiptState) (old new : UploadsState) (image : Image)
    → IsUploads old → HoldsCopy (expected_at volume (old.queue.frontier + 1) end_before) pairs end bytes rows.items
    → IsAdopted (sealed_rows.Copy rows) end receipt old new → IsReceiptFor bytes receipt
    → (IsTrue (is_some receipt.told) → HasLiveSectors image old.queue.maps bytes rows.items)
    → HasImage image old.queue → HasImage image new.queue
