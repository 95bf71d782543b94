-- Contract: what the calls keep of a stream.
use Rattle.std.specs.Prelude.{◌≡◌, ℕ, ◌+◌, ◌<◌, Bool, IfSome, List, [], length}
use Rattle.std.specs.Global.{Vec}
use Rattle.lsvd_base.specs.declared.entry.Entry.{Entry}
use Rattle.lsvd_objstore.specs.Store.{ReceiptState}
use Rattle.object_format.specs.declared.copy_row.CopyRow.{CopyRow}
use Rattle.object_format.specs.declared.data_row.DataRow.{DataRow}
use Rattle.object_stream.specs.declared.object.CopiedSector.{CopiedSector}
use Rattle.object_stream.specs.Stream.{Stream, Owners}
use Rattle.volume_maps.specs.Maps.{settled_at}
use Rattle.volume_maps.specs.Laws.{place_owner}
use Rattle.object_uploads.specs.Order.{IsUploads}
use Rattle.object_uploads.specs.declared.rows.SealedRows.TheVariants as sealed_rows
use Rattle.object_uploads.specs.Queue.{end_of_last}
use Rattle.object_uploads.specs.Changes.{IsSealedNext, with_job, IsPutDone}
use Rattle.object_uploads.specs.Checkpoint.{HasSealedCheckpoint}
use Rattle.object_uploads.specs.Removal.{IsSameButObjects}
use Rattle.object_uploads.specs.Stream.{IsPlacedInherited, HoldsEntries, HoldsCopy}
use Rattle.object_uploads.specs.Laws.{with_entry, with_data_object, with_copy, with_checkpoint, with_adopted}
use Rattle.obj_log.specs.State.{ObjLogState}
use Rattle.obj_log.specs.Changes.{next_of, IsSame, IsAdded, HasSealedObject, HasAdoptedObject}
use Rattle.obj_log.specs.Stream.{IsOfStream}

-- a list without entries, whose objects up to this number have the entries up to this end, is that of a stream that begins there,
-- with the owners of the objects' map, where those of ancestors have their places
abbrev pub NewListBeginsStream : Type 0
NewListBeginsStream =
    (data_at : ℕ → ℕ) (log : ObjLogState) (number end : ℕ) (opening : Owners) (inherited : ℕ → ℕ)
    → log.batch.first ≡ end → log.batch.entries ≡ [] → log.uploads.sectors ≡ log.batch.geometry.sectors
    → log.uploads.window ≡ record { last = number; objects = [] } → log.uploads.queue.frontier ≡ number
    → log.uploads.queue.end ≡ end
    → log.uploads.queue.sealed ≡ [] → log.uploads.queue.maps.log.rows ≡ []
    → IsUploads log.uploads → ((k : ℕ) → place_owner (settled_at log.uploads.queue.maps k) ≡ opening k)
    → ((k : ℕ) → IfSome (settled_at log.uploads.queue.maps k) (IsPlacedInherited inherited k))
    → IsOfStream data_at (record {
      number = number;
      end = end;
      opening = opening;
      inherited = inherited;
      entries = [];
      objects = [];
    }) log

-- a list of a stream stays that while nothing changes but room
abbrev pub RoomKeepsStreamOfList : Type 0
RoomKeepsStreamOfList =
    (data_at : ℕ → ℕ) (stream : Stream) (old new : ObjLogState) → IsOfStream data_at stream old → IsSame old new
    → IsOfStream data_at stream new

-- it is that of the stream with one entry more, once that was added
abbrev pub AddingKeepsStreamOfList : Type 0
AddingKeepsStreamOfList =
    (data_at : ℕ → ℕ) (stream : Stream) (old new : ObjLogState) (entry : Entry)
    → IsUploads old.uploads → IsOfStream data_at stream old
    → IsAdded entry (data_at (stream.end + length stream.entries)) old new → IsOfStream data_at (with_entry entry stream) new

-- and, once some were sealed, that of the stream with a data object more, which ends where the batch begins then
abbrev pub SealingKeepsStreamOfList : Type 0
SealingKeepsStreamOfList =
    (data_at : ℕ → ℕ) (stream : Stream) (old new : ObjLogState)
    → IsUploads old.uploads → IsOfStream data_at stream old
    → HasSealedObject old new → IsOfStream data_at (with_data_object new.batch.first stream) new

-- of the stream with a copy of these sectors more, once it was sealed
abbrev pub SealingCopyKeepsStreamOfList : Type 0
SealingCopyKeepsStreamOfList =
    (data_at : ℕ → ℕ) (stream : Stream) (old new : ObjLogState) (pairs : List CopiedSector) (bytes : List ℕ) (rows : Vec CopyRow)
    → IsUploads old.uploads → IsOfStream data_at stream old
    → HoldsCopy (next_of old) pairs old.batch.first bytes rows.items
    → IsSealedNext bytes (sealed_rows.Copy rows) (end_of_last old.uploads.queue.end old.uploads.queue.sealed) old.uploads
    new.uploads
    → new.batch ≡ old.batch → IsOfStream data_at (with_copy pairs stream) new

-- of the stream with a checkpoint more, once one was sealed
abbrev pub SealingCheckpointKeepsStreamOfList : Type 0
SealingCheckpointKeepsStreamOfList =
    (data_at : ℕ → ℕ) (stream : Stream) (old new : ObjLogState)
    → IsUploads old.uploads → IsOfStream data_at stream old
    → HasSealedCheckpoint old.uploads new.uploads → new.batch ≡ old.batch → IsOfStream data_at (with_checkpoint stream) new

-- while objects are pinned, and while removals begin, fail and are done, it stays that of the stream
abbrev pub RemovalsKeepStreamOfList : Type 0
RemovalsKeepStreamOfList =
    (data_at : ℕ → ℕ) (stream : Stream) (old new : ObjLogState)
    → IsOfStream data_at stream old → IsSameButObjects old.uploads new.uploads → new.batch ≡ old.batch
    → IsOfStream data_at stream new

-- and while puts begin, fail and are done
abbrev pub JobsKeepStreamOfList : Type 0
JobsKeepStreamOfList =
    (data_at : ℕ → ℕ) (stream : Stream) (log : ObjLogState) (number : ℕ) (started : Bool)
    → IsOfStream data_at stream log → IsOfStream data_at stream (record log { uploads = with_job number started log.uploads })

abbrev pub DoneKeepsStreamOfList : Type 0
DoneKeepsStreamOfList =
    (data_at : ℕ → ℕ) (stream : Stream) (old new : ObjLogState) (number : ℕ) (receipt : ReceiptState)
    → IsUploads old.uploads → IsOfStream data_at stream old
    → IsPutDone number receipt old.uploads new.uploads → new.batch ≡ old.batch → IsOfStream data_at stream new

-- Where all objects are acknowledged, and no entry is in the batch, it is that of the stream with the next entries in a data
-- object more, once that was adopted.
abbrev pub AdoptingKeepsStreamOfList : Type 0
AdoptingKeepsStreamOfList =
    (data_at : ℕ → ℕ) (stream : Stream) (old new : ObjLogState) (entries : List Entry) (bytes : List ℕ) (rows : Vec DataRow)
    (end : ℕ) (receipt : ReceiptState)
    → IsUploads old.uploads → IsOfStream data_at stream old → old.uploads.queue.sealed ≡ []
    → old.batch.entries ≡ []
    → end ≡ old.batch.first + length entries → 0 < length entries
    → HoldsEntries (next_of old) entries end bytes rows.items
    → HasAdoptedObject (sealed_rows.Data rows) end receipt old new
    → IsOfStream data_at (with_adopted entries end stream) new

-- with a copy more, once that was
abbrev pub AdoptingCopyKeepsStreamOfList : Type 0
AdoptingCopyKeepsStreamOfList =
    (data_at : ℕ → ℕ) (stream : Stream) (old new : ObjLogState) (pairs : List CopiedSector) (bytes : List ℕ) (rows : Vec CopyRow)
    (receipt : ReceiptState)
    → IsUploads old.uploads → IsOfStream data_at stream old → old.uploads.queue.sealed ≡ []
    → old.batch.entries ≡ []
    → HoldsCopy (next_of old) pairs old.batch.first bytes rows.items
    → HasAdoptedObject (sealed_rows.Copy rows) old.batch.first receipt old new
    → IsOfStream data_at (with_copy pairs stream) new
