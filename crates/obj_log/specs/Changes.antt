-- Contract: what the calls do to the list.
use Rattle.std.specs.Prelude.{◌≡◌, ℕ, ◌+◌, ◌≤◌, None, List, [], ◌∷◌, ◌++◌, length, take, drop}
use Rattle.std.specs.Global.{Vec}
use Rattle.lsvd_base.specs.declared.entry.Entry.{Entry}
use Rattle.lsvd_objstore.specs.Store.{ReceiptState}
use Rattle.gc_copier.specs.Copying.{CopiedState}
use Rattle.object_format.specs.declared.copy_row.CopyRow.{CopyRow}
use Rattle.object_format.specs.declared.data_row.DataRow.{DataRow}
use Rattle.object_format.specs.declared.expected.Expected.{Expected}
use Rattle.object_format.specs.declared.rows.Rows.TheVariants.{Data, Copy}
use Rattle.object_format.specs.Writing.{object_header_of}
use Rattle.object_stream.specs.Changes.{change_at, change_in}
use Rattle.object_stream.specs.declared.object.CopiedSector.{CopiedSector}
use Rattle.object_stream.specs.Replay.{HasParts, expected_at, source_at}
use Rattle.object_stream.specs.Stream.{source_in}
use Rattle.batcher.specs.Batch.{IsSealedCount}
use Rattle.object_uploads.specs.declared.rows.SealedRows.{SealedRows}
use Rattle.object_uploads.specs.declared.rows.SealedRows.TheVariants as sealed_rows
use Rattle.object_uploads.specs.Queue.{IsEntered, HasRoomForEntry, end_of_last}
use Rattle.object_uploads.specs.Changes as uploads
use Rattle.object_uploads.specs.Stream.{HoldsCopy}
use Rattle.obj_log.specs.State.{ObjLogState}

-- there is memory for an entry more
pub record HasRoomToAdd (log : ObjLogState) : Type 0 where
  pub batch : 1 ≤ log.batch.reserved
  pub uploads : HasRoomForEntry log.uploads.queue

-- nothing changed but for room
pub record IsSame (old new : ObjLogState) : Type 0 where
  pub geometry : new.batch.geometry ≡ old.batch.geometry
  pub first : new.batch.first ≡ old.batch.first
  pub entries : new.batch.entries ≡ old.batch.entries
  pub uploads : uploads.IsNotSealed old.uploads new.uploads

-- an entry was added at the end, and its data begin at this sector of the log
pub record IsAdded (entry : Entry) (data_at : ℕ) (old new : ObjLogState) : Type 0 where
  pub geometry : new.batch.geometry ≡ old.batch.geometry
  pub first : new.batch.first ≡ old.batch.first
  pub entries : new.batch.entries ≡ old.batch.entries ++ entry ∷ []
  pub entered : IsEntered entry (old.batch.first + length old.batch.entries) data_at old.uploads.queue new.uploads.queue
  pub window : new.uploads.window ≡ old.uploads.window
  pub uuid : new.uploads.uuid ≡ old.uploads.uuid
  pub sectors : new.uploads.sectors ≡ old.uploads.sectors
  pub ancestors : new.uploads.ancestors ≡ old.uploads.ancestors

-- ---- sealing

-- what is expected of the objects of a volume, but for their numbers and ends
abbrev pub expected_of_volume : ObjLogState → Expected
expected_of_volume log = record {
  uuid = log.uploads.uuid;
  number = 0;
  sectors = log.batch.geometry.sectors;
  ancestors = log.uploads.ancestors;
  end_before = None;
}

-- and of the next one
abbrev pub next_of : ObjLogState → Expected
next_of log = expected_at (expected_of_volume log) (log.uploads.window.last + 1) log.batch.first

-- The fewest first entries of the batch that are full, or all where they are never full, were sealed into the next object, which
-- does to each sector just what they do. The batch goes on with the others.
pub record HasSealedObject (old new : ObjLogState) : Type 0 where
  pub count : ℕ
  pub is_count : IsSealedCount old.batch.geometry.batch old.batch.entries count
  pub bytes : List ℕ
  pub rows : Vec DataRow
  pub payload : List ℕ
  pub parts : HasParts (next_of old) bytes (object_header_of (next_of old) old.batch.first (old.batch.first + count) (Data rows))
      (Data rows) payload
  pub changes : (k : ℕ) → change_in rows.items payload k ≡ change_at (take count old.batch.entries) k
  pub uploads : uploads.IsSealedNext bytes (sealed_rows.Data rows) (old.batch.first + count) old.uploads new.uploads
  pub geometry : new.batch.geometry ≡ old.batch.geometry
  pub first : new.batch.first ≡ old.batch.first + count
  pub entries : new.batch.entries ≡ drop count old.batch.entries

-- What was copied was sealed into the next object, with the end before it: it has each sector from just the source that its rows
-- name.
pub record HasSealedCopy (copied : CopiedState) (old new : ObjLogState) : Type 0 where
  pub bytes : List ℕ
  pub rows : Vec CopyRow
  pub rows_are : rows.items ≡ copied.rows
  pub parts : HasParts (next_of old) bytes (object_header_of (next_of old) old.batch.first old.batch.first (Copy rows))
      (Copy rows) copied.payload
  pub holds : (pairs : List CopiedSector) → ((k : ℕ) → source_at copied.rows k ≡ source_in pairs k)
      → HoldsCopy (next_of old) pairs old.batch.first bytes rows.items
  pub uploads : uploads.IsSealedNext bytes (sealed_rows.Copy rows) (end_of_last old.uploads.queue.end old.uploads.queue.sealed)
      old.uploads new.uploads
  pub batch : new.batch ≡ old.batch

-- ---- adopting

-- the object of the next number, with these rows and this end, was counted as acknowledged, and the batch, without entries, goes
-- on there
pub record HasAdoptedObject (rows : SealedRows) (end : ℕ) (receipt : ReceiptState) (old new : ObjLogState) : Type 0 where
  pub geometry : new.batch.geometry ≡ old.batch.geometry
  pub first : new.batch.first ≡ end
  pub entries : new.batch.entries ≡ []
  pub uploads : uploads.IsAdopted rows end receipt old.uploads new.uploads
