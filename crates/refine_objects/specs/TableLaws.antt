-- Contract: seals of checkpoints, removals and pins do to the list what they do to the plain volume, and each other call keeps
-- what the table shows.
use Rattle.std.specs.Prelude.{◌≡◌, ◌↔◌, ℕ, ◌+◌, ◌<◌, true, false, Some, None, List, [], ◌∷◌, ◌++◌, length}
use Rattle.std.specs.List.{All}
use Rattle.std.specs.List.Sorted.{IsStrictlyIncreasing}
use Rattle.lsvd_base.specs.declared.entry.Entry.{Entry}
use Rattle.lsvd_base.specs.declared.geometry.Geometry.{Geometry}
use Rattle.lsvd_objstore.specs.Store.{ReceiptState}
use Rattle.object_table.specs.Table.{row_of, new_row, pinned, unpinned}
use Rattle.object_uploads.specs.State.{QueueState, UploadsState}
use Rattle.object_uploads.specs.Queue.{pins_of, newest_checkpoint}
use Rattle.object_uploads.specs.Order.{IsUploads}
use Rattle.object_uploads.specs.Changes.{with_job, IsOut, IsPutDone}
use Rattle.object_uploads.specs.Checkpoint.{HasSealedCheckpoint}
use Rattle.object_uploads.specs.Removal.{IsRemovedNext, HasChangedRow, PinsEach, UnpinsEach, TakesRemoval, FinishesRemoval}
use Rattle.object_uploads.specs.Removal.{TakesBackRemoval}
use Rattle.obj_log.specs.State.{ObjLogState}
use Rattle.obj_log.specs.Changes.{IsSame, IsAdded, HasSealedObject}
use Rattle.plain_disk.specs.declared.event.PlainReply.TheVariants.{Sealed, Busy, Nothing, Removing, Removed, GivenBack}
use Rattle.plain_disk.specs.Cache.{PlainCache}
use Rattle.plain_disk.specs.State.{PlainState, created_volume}
use Rattle.plain_disk.specs.Checkpoints.{sealed_checkpoint}
use Rattle.plain_disk.specs.Reads.{unpinned as without_pin, is_read_from, are_pinned, without_pins}
use Rattle.plain_disk.specs.Objects.{after_seal, after_take, after_done, after_failed}
use Rattle.plain_disk.specs.Objects.{seal_checkpoint_reply, after_seal_checkpoint}
use Rattle.plain_disk.specs.Removals.{take_remove_reply, after_take_remove, remove_done_reply, after_remove_done}
use Rattle.plain_disk.specs.Removals.{remove_failed_reply, after_remove_failed}
use Rattle.plain_disk.specs.Valid.{IsPlainVolume}
use Rattle.refine_objects.specs.Shows.{TellsAsOne, ShowsObjects}
use Rattle.refine_objects.specs.Table.{ShowsTable}

-- a list and its table show a plain volume
pub record ShowsBoth (data_at : ℕ → ℕ) (list : ObjLogState) (plain : PlainState) : Type 0 where
  pub objects : ShowsObjects data_at list plain
  pub table : ShowsTable list.uploads.queue plain

-- ---- what keeps it

-- the table of a new volume, which began with its checkpoint, shows it
abbrev pub NewTableShowsCreated : Type 0
NewTableShowsCreated =
    (queue : QueueState) (geometry : Geometry)
    → queue.frontier ≡ 1 → queue.maps.objects.rows ≡ new_row 1 0 0 ∷ [] → queue.maps.objects.checkpoint ≡ 1
    → queue.removal ≡ None → ShowsTable queue (created_volume geometry)

-- the cache does not matter
abbrev pub TableShownWithOtherCache : Type 0
TableShownWithOtherCache =
    (queue : QueueState) (plain : PlainState) (cache : PlainCache) → ShowsTable queue plain
    → ShowsTable queue (record plain { cache = cache })

-- nothing changes but room, an entry is added, an object is sealed, and a put begins or fails
abbrev pub RoomShowsSameTable : Type 0
RoomShowsSameTable =
    (old new : ObjLogState) (plain : PlainState) → IsSame old new → ShowsTable old.uploads.queue plain
    → ShowsTable new.uploads.queue plain

abbrev pub AddedShowsTable : Type 0
AddedShowsTable =
    (old new : ObjLogState) (plain : PlainState) (entry : Entry) (data_at : ℕ) → IsAdded entry data_at old new
    → IsPlainVolume plain → ShowsTable old.uploads.queue plain
    → ShowsTable new.uploads.queue (record plain { entries = plain.entries ++ entry ∷ [] })

abbrev pub SealedShowsTable : Type 0
SealedShowsTable =
    (data_at : ℕ → ℕ) (old new : ObjLogState) (plain : PlainState)
    → IsUploads old.uploads → IsPlainVolume plain → ShowsBoth data_at old plain → HasSealedObject old new
    → ShowsTable new.uploads.queue (after_seal plain)

abbrev pub TakenShowsTable : Type 0
TakenShowsTable =
    (uploads : UploadsState) (plain : PlainState) (number : ℕ) → ShowsTable uploads.queue plain
    → ShowsTable (with_job number true uploads).queue (after_take plain)

abbrev pub FailedShowsTable : Type 0
FailedShowsTable =
    (uploads : UploadsState) (plain : PlainState) (number : ℕ) → ShowsTable uploads.queue plain
    → ShowsTable (with_job number false uploads).queue (after_failed (Some number) plain)

-- A put is done: what is settled comes into the table, and a checkpoint is the newest acknowledged one from then on. The objects'
-- map is its shortest list of rows, which do not overlap: so an object has a live sector just where a place is in it.
abbrev pub DoneShowsTable : Type 0
DoneShowsTable =
    (data_at : ℕ → ℕ) (old new : ObjLogState) (plain : PlainState) (number : ℕ) (bytes : List ℕ) (receipt : ReceiptState)
    → IsUploads old.uploads → IsUploads new.uploads → IsPlainVolume plain → ShowsBoth data_at old plain
    → IsOut old.uploads number bytes → IsPutDone number receipt old.uploads new.uploads
    → ShowsTable new.uploads.queue (after_done (Some number) plain)

-- ---- checkpoints

-- a checkpoint is sealed, and the plain volume seals the one of the same number
abbrev pub SealedShowsSealCheckpoint : Type 0
SealedShowsSealCheckpoint =
    (data_at : ℕ → ℕ) (old new : ObjLogState) (plain : PlainState)
    → IsUploads old.uploads → IsPlainVolume plain → ShowsBoth data_at old plain
    → HasSealedCheckpoint old.uploads new.uploads → new.batch ≡ old.batch → (length old.uploads.window.objects ≡ 16 → ⊥)
    → ShowsBoth data_at new (after_seal_checkpoint plain) × (seal_checkpoint_reply plain ≡ Sealed (old.uploads.window.last + 1))

-- where 16 objects are on their way to the store, the plain volume seals none either
abbrev pub RefusedSealCheckpointShowsNone : Type 0
RefusedSealCheckpointShowsNone =
    (data_at : ℕ → ℕ) (objects : ObjLogState) (plain : PlainState) → ShowsObjects data_at objects plain
    → length objects.uploads.window.objects ≡ 16
    → (seal_checkpoint_reply plain ≡ Busy) × (after_seal_checkpoint plain ≡ plain)

-- the newest checkpoint that was sealed is the plain volume's
abbrev pub NewestIsShown : Type 0
NewestIsShown =
    (data_at : ℕ → ℕ) (list : ObjLogState) (plain : PlainState)
    → IsUploads list.uploads → IsPlainVolume plain → ShowsBoth data_at list plain
    → newest_checkpoint list.uploads.queue ≡ (sealed_checkpoint plain).number

-- ---- removals

-- the plain volume's reply for the object that is removed next, and what both become
abbrev pub TakenShowsRemoval : Type 0
TakenShowsRemoval =
    (data_at : ℕ → ℕ) (old new : ObjLogState) (plain : PlainState) (number : ℕ) (receipt : ReceiptState)
    → IsUploads old.uploads → IsUploads new.uploads → IsPlainVolume plain → ShowsBoth data_at old plain
    → IsRemovedNext old.uploads.queue.removal old.uploads.queue.maps.objects (Some number)
    → TakesRemoval number receipt old.uploads new.uploads → TellsAsOne old.uploads.queue → new.batch ≡ old.batch
    → ShowsBoth data_at new (after_take_remove plain) × (take_remove_reply plain ≡ Removing number)

abbrev pub NoneTakenShowsNone : Type 0
NoneTakenShowsNone =
    (data_at : ℕ → ℕ) (objects : ObjLogState) (plain : PlainState)
    → IsUploads objects.uploads → IsPlainVolume plain → ShowsBoth data_at objects plain
    → IsRemovedNext objects.uploads.queue.removal objects.uploads.queue.maps.objects None
    → (take_remove_reply plain ≡ Nothing) × (after_take_remove plain ≡ plain)

-- a removal is done, or failed
abbrev pub FinishedShowsRemoved : Type 0
FinishedShowsRemoved =
    (data_at : ℕ → ℕ) (old new : ObjLogState) (plain : PlainState) (number : ℕ)
    → IsUploads old.uploads → IsUploads new.uploads → ShowsBoth data_at old plain
    → old.uploads.queue.removal ≡ Some number → FinishesRemoval number old.uploads new.uploads → new.batch ≡ old.batch
    → ShowsBoth data_at new (after_remove_done number plain) × (remove_done_reply plain number ≡ Removed)

abbrev pub TakenBackShowsGivenBack : Type 0
TakenBackShowsGivenBack =
    (data_at : ℕ → ℕ) (old new : ObjLogState) (plain : PlainState) (number : ℕ) (receipt : ReceiptState)
    → IsUploads old.uploads → IsUploads new.uploads → ShowsBoth data_at old plain
    → old.uploads.queue.removal ≡ Some number → TakesBackRemoval number receipt old.uploads new.uploads → new.batch ≡ old.batch
    → ShowsBoth data_at new (after_remove_failed number plain) × (remove_failed_reply plain number ≡ GivenBack)

-- one that is not out, the plain volume has not out either
abbrev pub NotOutShowsNothing : Type 0
NotOutShowsNothing =
    (queue : QueueState) (plain : PlainState) (number : ℕ) → ShowsTable queue plain → (queue.removal ≡ Some number → ⊥)
    → (remove_done_reply plain number ≡ Nothing) × (after_remove_done number plain ≡ plain)
    × (remove_failed_reply plain number ≡ Nothing) × (after_remove_failed number plain ≡ plain)

-- ---- pins

-- an object is pinned that a sector is read from
abbrev pub PinnedShowsPin : Type 0
PinnedShowsPin =
    (data_at : ℕ → ℕ) (old new : ObjLogState) (plain : PlainState) (number k : ℕ)
    → IsUploads old.uploads → IsUploads new.uploads → IsPlainVolume plain → ShowsBoth data_at old plain
    → is_read_from plain number k ≡ true → HasChangedRow pinned number old.uploads new.uploads → new.batch ≡ old.batch
    → ShowsBoth data_at new (record plain { pins = plain.pins ++ number ∷ [] })

-- and one pin of it is given back
abbrev pub UnpinnedShowsUnpin : Type 0
UnpinnedShowsUnpin =
    (data_at : ℕ → ℕ) (old new : ObjLogState) (plain : PlainState) (number : ℕ)
    → IsUploads old.uploads → ShowsBoth data_at old plain
    → HasChangedRow unpinned number old.uploads new.uploads → new.batch ≡ old.batch
    → ShowsBoth data_at new (record plain { pins = without_pin number plain.pins })

-- the objects of a plan are pinned, one after the other, each of which a sector is read from
abbrev pub PinnedEachShowPins : Type 0
PinnedEachShowPins =
    (data_at : ℕ → ℕ) (old new : ObjLogState) (plain : PlainState) (numbers : List ℕ)
    → IsUploads old.uploads → IsPlainVolume plain → ShowsBoth data_at old plain
    → All (λ number. (k : ℕ) × (is_read_from plain number k ≡ true)) numbers
    → PinsEach numbers old.uploads new.uploads → new.batch ≡ old.batch
    → ShowsBoth data_at new (record plain { pins = plain.pins ++ numbers })

-- and one pin of each is given back
abbrev pub UnpinnedEachShowUnpins : Type 0
UnpinnedEachShowUnpins =
    (data_at : ℕ → ℕ) (old new : ObjLogState) (plain : PlainState) (numbers : List ℕ)
    → IsUploads old.uploads → ShowsBoth data_at old plain
    → UnpinsEach numbers old.uploads new.uploads → new.batch ≡ old.batch
    → ShowsBoth data_at new (record plain { pins = without_pins numbers plain.pins })

-- the objects of a plan are pinned in the table just where the plain volume has them pinned
abbrev pub PinnedAreShown : Type 0
PinnedAreShown =
    (queue : QueueState) (plain : PlainState) (numbers : List ℕ) → ShowsTable queue plain → IsStrictlyIncreasing numbers
    → All (λ number. 0 < pins_of (row_of number queue.maps.objects.rows)) numbers ↔ (are_pinned numbers plain.pins ≡ true)
