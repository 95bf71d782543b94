-- For this crate's own clauses: the calls of the log and of the list that an event makes.
use Rattle.std.specs.Prelude.{◌≡◌, ℕ, ◌+◌, ◌-◌, ◌^◌, ◌<◌, ◌≤◌, ◌⊎◌, IsTrue, []}
use Rattle.std.specs.Prelude.{IfOk, IfErr, IfSome, IsSome, List, Option, Some, None, Bool, true}
use Rattle.std.specs.Prelude.{false, Result, Ok, Err, length}
use Rattle.lsvd_base.specs.declared.entry.Entry.{Entry}
use Rattle.lsvd_base.specs.Range.{is_in_range}
use Rattle.batcher.specs.Batch.{data_sectors, fullness}
use Rattle.std.specs.List.{sum_by}
use Rattle.batcher.specs.declared.full.Full.{Full}
use Rattle.commit_slot.specs.Commits.{IsLastOr}
use Rattle.commit_slot.specs.Committing.{FailsToCommit}
use Rattle.cache_log.specs.declared.error.AppendError.{AppendError}
use Rattle.cache_log.specs.declared.error.AppendError.TheVariants.{NoRoom, DeviceFault}
use Rattle.cache_log.specs.Log.{LogState, next_seq, IsTrimmed, IsAppended, FailsToAppend}
use Rattle.cache_log.specs.Committed.{body_of, KeepsCommits, HasSameList, IsReleased, IsCommittedLog, LeavesEntriesSince}
use Rattle.cache_log.specs.Committed.{IsOnDisk}
use Rattle.object_stream.specs.Replay.{object_name}
use Rattle.obj_log.specs.State.{ObjLogState}
use Rattle.obj_log.specs.Changes.{HasRoomToAdd, IsSame, IsAdded, HasSealedObject, HasSealedCopy, expected_of_volume}
use Rattle.lsvd_objstore.specs.Store.{ReceiptState}
use Rattle.upload_window.specs.Window.{lowest_ready}
use Rattle.object_uploads.specs.State.{JobState}
use Rattle.object_uploads.specs.Changes.{with_job, IsJobOf, IsOut, IsPutDone}
use Rattle.object_uploads.specs.Checkpoint.{HasSealedCheckpoint}
use Rattle.object_uploads.specs.Collection.{HasPlan, HasPlanned, with_copied_all}
use Rattle.object_uploads.specs.Order.{IsUploads}
use Rattle.object_table.specs.Table.{candidates}
use Rattle.gc_copier.specs.Plan.{PlanState, numbers_of, sectors_of}
use Rattle.object_format.specs.declared.copy_row.CopyRow.{CopyRow}
use Rattle.object_format.specs.Rows.{copy_rows_may_stand}
use Rattle.gc_copier.specs.Copying.{CopiedState, IsCopyOf}
use Rattle.object_uploads.specs.Removal.{IsRemovedNext, TakesRemoval, FinishesRemoval, TakesBackRemoval}
use Rattle.lsvd_base.specs.Limits.{is_within_limits}
use Rattle.log_room.specs.Room.{max_log, record_sectors}
use Rattle.lsvd_base.specs.declared.entry.Entry.TheVariants as entries
use Rattle.vol_core.specs.Volume.{SteppedVolume}
use Rattle.vol_core.specs.Shows.{IsSmall, IsSound}
use Rattle.vol_core.specs.declared.event.Event.{Event}
use Rattle.vol_core.specs.declared.event.Event.TheVariants as events
use Rattle.vol_core.specs.declared.reply.EntryRefusal.{EntryRefusal}
use Rattle.vol_core.specs.declared.reply.EntryRefusal.TheVariants as refusals
use Rattle.vol_core.specs.declared.reply.Reply.{Reply}
use Rattle.vol_core.specs.declared.reply.Reply.TheVariants as replies
use Rattle.vol_core.specs.declared.reply.SealRefusal.{SealRefusal}
use Rattle.vol_core.specs.declared.reply.SealRefusal.TheVariants as seal_refusals
use Rattle.vol_core.specs.Events.{IsPlanned}
use Rattle.refine_log.specs.Laws.{CostsCommit}

-- the event of an entry
abbrev pub event_of : {R : Type 0} → Entry → Event R
event_of (entries.Write lba body) = events.Write lba body
event_of (entries.Zero lba sectors) = events.Zero lba sectors

-- a volume is ready for a step that was counted already: its numbers have room for it, and its log and its uploads are in order
pub record IsReadyForStep (stepped : SteppedVolume) : Type 0 where
  pub steps : ℕ
  pub counted : stepped.steps ≡ steps + 1
  pub small : IsSmall stepped.volume steps
  pub order : IsSound stepped.volume

-- ---- the log

-- the list was dropped up to a seq, and a commit was made, or failed
pub record CommitsFrom (seq : ℕ) (is_made : Bool) (old new : LogState) : Type 0 where
  pub middle : LogState
  pub trimmed : IsTrimmed seq old middle
  pub was_on_disk : IsOnDisk middle
  pub list : HasSameList middle new
  pub released : IsReleased middle new
  pub made : is_made ≡ true → IsCommittedLog middle new
  pub failed : is_made ≡ false → FailsToCommit (body_of middle) middle.commits new.commits
  pub stands : LeavesEntriesSince middle (IsLastOr middle.commits (body_of middle)) new.commits.disk
  pub calls : CostsCommit is_made middle new
  pub reserved : old.reserved ≤ new.reserved
  pub on_disk : IsOnDisk new

-- an append answered
pub record Appends (entry : Entry) (result : Result ℕ AppendError) (old new : LogState) : Type 0 where
  pub ok : IfOk result (λ at. IsAppended entry at old new)
  pub err : IfErr result (λ error. FailsToAppend entry error old new)
  pub keeps : KeepsCommits old new

-- an append is refused for want of room
abbrev pub lacks_room : Result ℕ AppendError → Bool
lacks_room (Ok at) = false
lacks_room (Err (NoRoom need free)) = true
lacks_room (Err DeviceFault) = false

-- it answered at once: it had room, or a commit releases nothing
pub record EntersAtOnce (entry : Entry) (end : ℕ) (result : Result ℕ AppendError) (old new : LogState) : Type 0 where
  pub appends : Appends entry result old new
  pub last : IsTrue (lacks_room result) → end ≤ old.commits.body.tail.seq

-- it had no room at first, and a commit failed, or was made, after which it answered
pub record EntersAfterCommit (entry : Entry) (end : ℕ) (result : Result ℕ AppendError) (old new : LogState) : Type 0 where
  pub need : ℕ
  pub free : ℕ
  pub first : Appends entry (Err (NoRoom need free)) old old
  pub releases : old.commits.body.tail.seq < end
  pub then :
      (CommitsFrom end false old new × (result ≡ Err DeviceFault))
      ⊎ ((middle : LogState) × CommitsFrom end true old middle × Appends entry result middle new)

abbrev pub EntersLog : Entry → (end : ℕ) → Result ℕ AppendError → (old new : LogState) → Type 0
EntersLog entry end result old new = EntersAtOnce entry end result old new ⊎ EntersAfterCommit entry end result old new

-- ---- an entry

-- what an entry needs of the list and the log: their numbers agree, and go on
pub record MayEnter (objects : ObjLogState) (log : LogState) : Type 0 where
  pub limits : IsTrue (is_within_limits objects.batch.geometry)
  pub next : next_seq log ≡ objects.batch.first + length objects.batch.entries
  pub small : next_seq log < 2 ^ 64 - 1
  pub end : objects.uploads.queue.end ≤ next_seq log
  pub number : log.commits.number < 2 ^ 64 - 2
  pub head : log.room.head ≤ max_log

-- why the batch refuses an entry, where it does
abbrev pub fullness_in : ObjLogState → Option Full
fullness_in objects = fullness objects.batch.geometry.batch (sum_by data_sectors objects.batch.entries)
    (length objects.batch.entries)

-- the batch takes the entry, memory for it was taken, and the log answered
pub record ComesToLog (entry : Entry) (result : Result ℕ AppendError) (objects ready : ObjLogState) (old new : LogState) :
    Type 0 where
  pub in_range : is_in_range objects.batch.geometry entry ≡ true
  pub not_full : fullness_in objects ≡ None
  pub same : IsSame objects ready
  pub reserved : ℕ
  pub log : EntersLog entry objects.uploads.queue.end result (record old { reserved = reserved }) new

-- why an entry was not entered
abbrev pub IsRefusedEntry : Entry → EntryRefusal → (objects after : ObjLogState) → (old new : LogState) → Type 0
IsRefusedEntry entry refusals.Range objects after old new = (is_in_range objects.batch.geometry entry ≡ false) × (after ≡ objects)
    × (new ≡ old)
IsRefusedEntry entry (refusals.Full full) objects after old new =
    (is_in_range objects.batch.geometry entry ≡ true) × (fullness_in objects ≡ Some full) × (after ≡ objects) × (new ≡ old)
IsRefusedEntry entry (refusals.NoRoom need free) objects after old new =
    ComesToLog entry (Err (NoRoom need free)) objects after old new
IsRefusedEntry entry refusals.Fault objects after old new = ComesToLog entry (Err DeviceFault) objects after old new
IsRefusedEntry entry refusals.OutOfMemory objects after old new = IsSame objects after
    × (new ≡ record old { reserved = new.reserved }) × (is_in_range objects.batch.geometry entry ≡ true)
    × (fullness_in objects ≡ None) × (HasRoomToAdd objects → record_sectors entry ≤ old.reserved → ⊥)

-- an entry was entered
pub record EntersBoth (entry : Entry) (count : ℕ) (objects after : ObjLogState) (old new : LogState) : Type 0 where
  pub at : ℕ
  pub ready : ObjLogState
  pub comes : ComesToLog entry (Ok at) objects ready old new
  pub added : IsAdded entry (at + 1) ready after
  pub count_is : count ≡ after.batch.first + length after.batch.entries

-- an entry was asked for
abbrev pub Enters : {R : Type 0} → Entry → Reply R → (objects after : ObjLogState) → (old new : LogState) → Type 0
Enters entry (replies.Entered count) objects after old new = EntersBoth entry count objects after old new
Enters entry (replies.NotEntered back why) objects after old new = (back ≡ entry) × IsRefusedEntry entry why objects after old new
Enters entry reply objects after old new = ⊥

-- ---- the list

-- a seal answered
abbrev pub Seals : {R : Type 0} → Reply R → (old new : ObjLogState) → Type 0
Seals (replies.Sealed number) old new =
    HasSealedObject old new × (number ≡ old.uploads.window.last + 1) × (0 < length old.batch.entries)
    × (length old.uploads.window.objects ≡ 16 → ⊥)
Seals replies.Nothing old new = IsSame old new × (old.batch.entries ≡ [])
Seals replies.Busy old new = IsSame old new × (0 < length old.batch.entries) × (length old.uploads.window.objects ≡ 16)
Seals replies.OutOfMemory old new = IsSame old new × (0 < length old.batch.entries)
    × (length old.uploads.window.objects ≡ 16 → ⊥)
Seals reply old new = ⊥

-- the lowest ready object was asked for
abbrev pub TakesLowestReady : {R : Type 0} → Reply R → (old new : ObjLogState) → Type 0
TakesLowestReady (replies.Taken job) old new =
    (lowest_ready old.uploads.window.objects ≡ Some job.name.number) × IsJobOf old.uploads job.name.number job
    × (new ≡ record old { uploads = with_job job.name.number true old.uploads })
TakesLowestReady replies.Nothing old new = (lowest_ready old.uploads.window.objects ≡ None) × (new ≡ old)
TakesLowestReady reply old new = ⊥

-- a put is out, and the receipt names its object
abbrev pub IsDone : JobState → ReceiptState → ObjLogState → Type 0
IsDone job receipt objects = IsOut objects.uploads job.name.number job.bytes
    × (receipt.name ≡ object_name (expected_of_volume objects) job.name.number)

-- a put that is done was told
abbrev pub Finishes : {R : Type 0} → (R → ReceiptState) → JobState → R → Reply R → (old new : ObjLogState) → Type 0
Finishes state job receipt (replies.Done frontier) old new =
    IsDone job (state receipt) old × IsPutDone job.name.number (state receipt) old.uploads new.uploads × (new.batch ≡ old.batch)
    × (frontier ≡ new.uploads.queue.frontier)
Finishes state job receipt (replies.NotDone back given) old new = (IsDone job (state receipt) old → ⊥) × (back ≡ job)
    × (given ≡ receipt) × (new ≡ old)
Finishes state job receipt reply old new = ⊥

-- and one that failed
abbrev pub Returns : {R : Type 0} → JobState → Reply R → (old new : ObjLogState) → Type 0
Returns job replies.Returned old new =
    IsOut old.uploads job.name.number job.bytes × (new ≡ record old { uploads = with_job job.name.number false old.uploads })
Returns job (replies.NotReturned back) old new = (IsOut old.uploads job.name.number job.bytes → ⊥) × (back ≡ job) × (new ≡ old)
Returns job reply old new = ⊥

-- ---- copies, checkpoints and removals

-- a copy was to be planned
abbrev pub Plans : {R : Type 0} → Reply R → (was out : Option PlanState) → (old new : ObjLogState) → Type 0
Plans (replies.Copying plan) was out old new =
    (was ≡ None) × (out ≡ Some plan) × HasPlan old.batch.geometry.batch plan old.uploads
    × (new.uploads ≡ with_copied_all true (numbers_of plan.sources) old.uploads) × (new.batch ≡ old.batch)
Plans replies.Nothing was out old new =
    (was ≡ None) × (out ≡ None) × HasPlanned old.batch.geometry.batch old.uploads None × (new ≡ old)
Plans replies.Busy was out old new = IsSome was × (out ≡ was) × (new ≡ old)
Plans replies.OutOfMemory was out old new =
    (was ≡ None) × (out ≡ None) × (candidates old.uploads.queue.maps.objects.rows ≡ [] → ⊥) × (new ≡ old)
Plans reply was out old new = ⊥

-- the rows of the plan that is out may stand in the next object of a list, which has 65,536 at most
pub record RowsMayStand (objects : ObjLogState) (rows : List CopyRow) : Type 0 where
  pub count : length rows ≤ 65536
  pub stand : IsTrue
      (copy_rows_may_stand objects.batch.geometry.sectors (sectors_of rows) (objects.uploads.window.last + 1) None 0 rows)

abbrev pub MayStandNext : (out : Option PlanState) → ObjLogState → Type 0
MayStandNext out objects = IfSome out (λ (plan : PlanState). RowsMayStand objects plan.rows)

-- why what was copied was not sealed: nothing changed but room
abbrev pub RefusesCopy : SealRefusal → CopiedState → (was out : Option PlanState) → (old new : ObjLogState) → Type 0
RefusesCopy seal_refusals.NotPlanned copied was out old new = (IsPlanned was copied → ⊥) × (out ≡ was) × (new ≡ old)
RefusesCopy seal_refusals.Busy copied was out old new =
    IsPlanned was copied × (length old.uploads.window.objects ≡ 16) × (out ≡ was) × (new ≡ old)
RefusesCopy seal_refusals.OutOfMemory copied was out old new =
    IsPlanned was copied × (length old.uploads.window.objects ≡ 16 → ⊥) × (out ≡ was) × IsSame old new

-- what was copied was sealed, and the plan ended
pub record SealsPlanned (copied : CopiedState) (number : ℕ) (was out : Option PlanState) (old new : ObjLogState) : Type 0 where
  pub plan : PlanState
  pub was_out : was ≡ Some plan
  pub of : IsCopyOf plan copied
  pub free : length old.uploads.window.objects ≡ 16 → ⊥
  pub sealed : ObjLogState
  pub seals : HasSealedCopy copied old sealed
  pub order : IsUploads sealed.uploads
  pub ended : new.uploads ≡ with_copied_all false (numbers_of plan.sources) sealed.uploads
  pub batch : new.batch ≡ sealed.batch
  pub none_out : out ≡ None
  pub number_is : number ≡ old.uploads.window.last + 1

abbrev pub SealsCopy : {R : Type 0} → CopiedState → Reply R → (was out : Option PlanState) → (old new : ObjLogState) → Type 0
SealsCopy copied (replies.Sealed number) was out old new = SealsPlanned copied number was out old new
SealsCopy copied (replies.NotSealed back why) was out old new = (back ≡ copied) × RefusesCopy why copied was out old new
SealsCopy copied reply was out old new = ⊥

-- the plan that is out was to be given up
abbrev pub Drops : {R : Type 0} → Reply R → (was out : Option PlanState) → (old new : ObjLogState) → Type 0
Drops replies.Dropped was out old new =
    (plan : PlanState) × (was ≡ Some plan) × (out ≡ None)
    × (new.uploads ≡ with_copied_all false (numbers_of plan.sources) old.uploads) × (new.batch ≡ old.batch)
Drops replies.Nothing was out old new = (was ≡ None) × (out ≡ None) × (new ≡ old)
Drops reply was out old new = ⊥

-- a checkpoint was to be sealed
abbrev pub SealsCheckpoint : {R : Type 0} → Reply R → (old new : ObjLogState) → Type 0
SealsCheckpoint (replies.Sealed number) old new =
    HasSealedCheckpoint old.uploads new.uploads × (new.batch ≡ old.batch) × (number ≡ old.uploads.window.last + 1)
    × (length old.uploads.window.objects ≡ 16 → ⊥)
SealsCheckpoint replies.Busy old new = (new ≡ old) × (length old.uploads.window.objects ≡ 16)
SealsCheckpoint replies.OutOfMemory old new = IsSame old new × (length old.uploads.window.objects ≡ 16 → ⊥)
SealsCheckpoint reply old new = ⊥

-- the removal of an object began, whose receipt this is
pub record BeginsRemoval (receipt : ReceiptState) (old new : ObjLogState) : Type 0 where
  pub next : IsRemovedNext old.uploads.queue.removal old.uploads.queue.maps.objects (Some receipt.name.number)
  pub named : receipt.name ≡ object_name (expected_of_volume old) receipt.name.number
  pub taken : TakesRemoval receipt.name.number receipt old.uploads new.uploads
  pub batch : new.batch ≡ old.batch

-- the lowest removable object was asked for
abbrev pub TakesLowestRemovable : {R : Type 0} → (R → ReceiptState) → Reply R → (old new : ObjLogState) → Type 0
TakesLowestRemovable state (replies.Removing receipt) old new = BeginsRemoval (state receipt) old new
TakesLowestRemovable state replies.Nothing old new =
    IsRemovedNext old.uploads.queue.removal old.uploads.queue.maps.objects None × (new ≡ old)
TakesLowestRemovable state reply old new = ⊥

-- a removal that is done was told
abbrev pub FinishesRemoving : {R : Type 0} → (number : ℕ) → Reply R → (old new : ObjLogState) → Type 0
FinishesRemoving number replies.Removed old new =
    (old.uploads.queue.removal ≡ Some number) × FinishesRemoval number old.uploads new.uploads × (new.batch ≡ old.batch)
FinishesRemoving number replies.Nothing old new = (old.uploads.queue.removal ≡ Some number → ⊥) × (new ≡ old)
FinishesRemoving number reply old new = ⊥

-- a receipt is that of the object whose removal is out
abbrev pub IsOutBy : ReceiptState → ObjLogState → Type 0
IsOutBy receipt objects =
    (objects.uploads.queue.removal ≡ Some receipt.name.number)
    × (receipt.name ≡ object_name (expected_of_volume objects) receipt.name.number)

-- and one that failed, which this receipt was given out for
abbrev pub GivesBackRemoval : {R : Type 0} → (R → ReceiptState) → R → Reply R → (old new : ObjLogState) → Type 0
GivesBackRemoval state receipt replies.GivenBack old new =
    IsOutBy (state receipt) old
    × TakesBackRemoval (state receipt).name.number (state receipt) old.uploads new.uploads × (new.batch ≡ old.batch)
GivesBackRemoval state receipt (replies.NotGivenBack back) old new =
    (IsOutBy (state receipt) old → ⊥) × (back ≡ receipt) × (new ≡ old)
GivesBackRemoval state receipt reply old new = ⊥
