-- Contract: what a step of a volume is: one step of the plain volume that it shows.
use Rattle.std.specs.Prelude.{◌≡◌, ℕ, ◌+◌, ◌*◌, ◌⊎◌, Bool, true, false, Option, Some, None, List, length}
use Rattle.std.specs.List.{list_any}
use Rattle.lsvd_base.specs.declared.entry.Entry.TheVariants as entries
use Rattle.lsvd_fault.specs.Faults.{Counts}
use Rattle.lsvd_device.specs.Calls.{Fuse, Cost, write_cost, together}
use Rattle.lsvd_device.specs.Memory.{HasRoom}
use Rattle.lsvd_objstore.specs.Store.{ReceiptState}
use Rattle.commit_slot.specs.Commits.{first_half_cost, second_half_cost, no_cost}
use Rattle.upload_window.specs.Window.{has_number}
use Rattle.object_uploads.specs.Queue.{HasBytesAt}
use Rattle.object_uploads.specs.Changes.{index_of}
use Rattle.object_uploads.specs.Image.{IsReceiptFor, TellAlike}
use Rattle.stopped_volume.specs.Store.{TellsBytes}
use Rattle.gc_copier.specs.Plan.{PlanState}
use Rattle.refine_log.specs.Pending.{ShowsPending}
use Rattle.plain_disk.specs.declared.event.PlainEvent.{PlainEvent}
use Rattle.plain_disk.specs.State.{PlainState}
use Rattle.plain_disk.specs.Step.{plain_reply, plain_after, is_refusal}
use Rattle.refine_log.specs.Fuses.{fuse_in}
use Rattle.vol_core.specs.declared.event.Event.{Event}
use Rattle.vol_core.specs.declared.event.Event.TheVariants.{Write, Zero, Flush, Look, Release, Seal, JobDone, JobFailed}
use Rattle.vol_core.specs.declared.event.Event.TheVariants.{SealCheckpoint, RemoveFailed, PlanCopy, SealCopy}
use Rattle.vol_core.specs.declared.event.Event.TheVariants.{DropPlan}
use Rattle.vol_core.specs.declared.reply.EntryRefusal.TheVariants as refusals
use Rattle.vol_core.specs.declared.reply.SealRefusal.TheVariants as seal_refusals
use Rattle.vol_core.specs.declared.reply.Reply.{Reply}
use Rattle.vol_core.specs.declared.reply.Reply.TheVariants as told
use Rattle.vol_core.specs.Volume.{VolumeState, SteppedVolume}
use Rattle.vol_core.specs.Shows.{Shows, NumbersGrow, IsVolume, IsSound}
use Rattle.vol_core.specs.Events.{Asks, Tells}
use Rattle.vol_core.specs.Stops.{StepKeeps}

-- ---- conditions

-- a receipt that comes with a put that is done stands for just the bytes of the job
abbrev pub HasItsReceipt : {R : Type 0} → (R → ReceiptState) → Event R → Type 0
HasItsReceipt state (JobDone job receipt) = IsReceiptFor job.bytes (state receipt)
HasItsReceipt state event = Unit {0}

-- ---- what the device is asked for

-- a commit at most: the second half that was left, and both halves
abbrev pub most_of_commit : Cost
most_of_commit = together second_half_cost (together first_half_cost second_half_cost)

-- the record of an entry with this many bytes of data, and a pad's header before it
abbrev pub most_of_record : (bytes : ℕ) → Cost
most_of_record bytes = together (write_cost 512) (write_cost (512 + bytes))

-- the writes and syncs that an event may ask for at most
abbrev pub most_of_step : {R : Type 0} → Event R → Cost
most_of_step (Write lba body) = together most_of_commit (most_of_record (length body))
most_of_step (Zero lba sectors) = together most_of_commit (most_of_record 0)
most_of_step Flush = most_of_commit
most_of_step event = no_cost

-- ---- want of memory

-- the events that may take memory
abbrev pub may_lack_memory : {R : Type 0} → Event R → Bool
may_lack_memory (Write lba body) = true
may_lack_memory (Zero lba sectors) = true
may_lack_memory (Look lba sectors) = true
may_lack_memory Seal = true
may_lack_memory SealCheckpoint = true
may_lack_memory PlanCopy = true
may_lack_memory (SealCopy copied) = true
may_lack_memory event = false

abbrev pub lacks_memory : {R : Type 0} → Reply R → Bool
lacks_memory (told.NotEntered entry refusals.OutOfMemory) = true
lacks_memory (told.NotSealed copied seal_refusals.OutOfMemory) = true
lacks_memory told.OutOfMemory = true
lacks_memory reply = false

-- ---- faults

-- a reply tells that a call of the device failed
abbrev pub tells_fault : {R : Type 0} → Reply R → Bool
tells_fault (told.NotEntered entry refusals.Fault) = true
tells_fault told.Fault = true
tells_fault reply = false

-- so it does exactly where one failed, which the device counted
abbrev pub CountsFault : {R : Type 0} → Reply R → (old new : VolumeState) → Type 0
CountsFault reply old new = Counts (tells_fault reply) old.log.commits.disk.faults new.log.commits.disk.faults

-- ---- what is handed back

-- What an event owned was used, or the reply hands it back: the entry, the plan, the job, the receipt or the copy. There is no
-- other reply to such an event.
abbrev pub HandsBack : {R : Type 0} → Event R → Reply R → Type 0
HandsBack (Write lba body) (told.Entered count) = Unit {0}
HandsBack (Write lba body) (told.NotEntered entry why) = entry ≡ entries.Write lba body
HandsBack (Write lba body) reply = ⊥
HandsBack (Zero lba sectors) (told.Entered count) = Unit {0}
HandsBack (Zero lba sectors) (told.NotEntered entry why) = entry ≡ entries.Zero lba sectors
HandsBack (Zero lba sectors) reply = ⊥
HandsBack (Release plan) told.Released = Unit {0}
HandsBack (Release plan) (told.NotReleased back) = back ≡ plan
HandsBack (Release plan) reply = ⊥
HandsBack (JobDone job receipt) (told.Done frontier) = Unit {0}
HandsBack (JobDone job receipt) (told.NotDone back given) = (back ≡ job) × (given ≡ receipt)
HandsBack (JobDone job receipt) reply = ⊥
HandsBack (JobFailed job) told.Returned = Unit {0}
HandsBack (JobFailed job) (told.NotReturned back) = back ≡ job
HandsBack (JobFailed job) reply = ⊥
HandsBack (RemoveFailed receipt) told.GivenBack = Unit {0}
HandsBack (RemoveFailed receipt) (told.NotGivenBack back) = back ≡ receipt
HandsBack (RemoveFailed receipt) reply = ⊥
HandsBack (SealCopy copied) (told.Sealed number) = Unit {0}
HandsBack (SealCopy copied) (told.NotSealed back why) = back ≡ copied
HandsBack (SealCopy copied) reply = ⊥
HandsBack event reply = Unit {0}

-- ---- a plan

-- the plan of a look has as many bytes as its sectors
abbrev pub HasItsBytes : {R : Type 0} → Event R → Reply R → Type 0
HasItsBytes (Look lba sectors) (told.Planned plan) = length plan.bytes ≡ 512 * sectors
HasItsBytes event reply = Unit {0}

-- ---- the plan of a copy

-- A plan that a reply tells is out then. It ends where what was copied is sealed, and where it is given up; and else it stays.
abbrev pub ChangesPlan : {R : Type 0} → Event R → Reply R → (was out : Option PlanState) → Type 0
ChangesPlan PlanCopy (told.Copying plan) was out = out ≡ Some plan
ChangesPlan (SealCopy copied) (told.Sealed number) was out = out ≡ None
ChangesPlan DropPlan told.Dropped was out = out ≡ None
ChangesPlan event reply was out = out ≡ was

-- ---- a step

-- the plain volume whose device passes these calls before it fails
abbrev pub passing : Fuse → PlainState → PlainState
passing left plain = record plain { cache = record plain.cache { left = left } }

-- A step is one of the plain volume that the volume shows, whose device passes some calls: those that the volume's device tells
-- that it passes, where it has room for the step's; and else as many as it did, as if a fuse had failed the others. The reply
-- tells the plain volume's, and the volume shows what that becomes. Where the device has room for the step's calls, and the
-- writes that were pending on it were those on the plain volume's cache, so they are then.
pub record IsStep {R : Type 0} (state : R → ReceiptState) (event : Event R) (reply : Reply R) (plain : PlainState)
    (old new : VolumeState) : Type 0 where
  pub left : Fuse
  pub asked : PlainEvent
  pub asks : Asks state old event asked
  pub tells : Tells state old reply (plain_reply (passing left plain) asked)
  pub shows : Shows new (passing (fuse_in new.log.commits.disk.budget) (plain_after asked (passing left plain)))
  pub told : HasRoom (most_of_step event).changes (most_of_step event).bytes old.log.commits.disk.budget
      → (left ≡ fuse_in old.log.commits.disk.budget)
      × ((plain_after asked (passing left plain)).cache.left ≡ fuse_in new.log.commits.disk.budget)
  pub pending : HasRoom (most_of_step event).changes (most_of_step event).bytes old.log.commits.disk.budget
      → ShowsPending old.log plain.cache → ShowsPending new.log (plain_after asked (passing left plain)).cache

-- Nothing was done, since memory ran out. It is taken after each test that refuses an event, and before the device is called: so
-- the plain volume does not refuse the event.
pub record IsNoStep {R : Type 0} (state : R → ReceiptState) (event : Event R) (reply : Reply R) (plain : PlainState)
    (old new : VolumeState) : Type 0 where
  pub may : may_lack_memory event ≡ true
  pub lacks : lacks_memory reply ≡ true
  pub asked : PlainEvent
  pub asks : Asks state old event asked
  pub taken : is_refusal (plain_reply plain asked) ≡ false
  pub shows : Shows new plain
  pub pending : ShowsPending old.log plain.cache → ShowsPending new.log plain.cache

-- no step changes the geometry, nor the uuid, nor how many ancestors there are
pub record HasSameSizes (old new : VolumeState) : Type 0 where
  pub geometry : new.objects.batch.geometry ≡ old.objects.batch.geometry
  pub uuid : new.objects.uploads.uuid ≡ old.objects.uploads.uuid
  pub ancestors : new.objects.uploads.ancestors ≡ old.objects.uploads.ancestors

-- what the reply to an event and the volume after it are, by each plain volume that the volume showed
abbrev pub StepsAsPlain : {R : Type 0} → (R → ReceiptState) → Event R → Reply R → (old new : VolumeState) → Type 0
StepsAsPlain state event reply old new =
    (plain : PlainState) → Shows old plain → IsStep state event reply plain old new ⊎ IsNoStep state event reply plain old new

-- ---- objects on their way

-- an object is on its way to the store: it is sealed, and not acknowledged
abbrev pub IsOnItsWay : VolumeState → (number : ℕ) → Type 0
IsOnItsWay volume number = list_any (has_number number) volume.objects.uploads.window.objects ≡ true

-- bytes are those of the object of a number that is on its way
abbrev pub HasBytesOf : VolumeState → (number : ℕ) → (bytes : List ℕ) → Type 0
HasBytesOf volume number bytes = HasBytesAt (index_of volume.objects.uploads number) volume.objects.uploads.queue.sealed bytes

-- an object that is on its way keeps its bytes
abbrev pub KeepsBytes : (old new : VolumeState) → Type 0
KeepsBytes old new =
    (number : ℕ) (bytes : List ℕ) → IsOnItsWay old number → HasBytesOf old number bytes → IsOnItsWay new number
    → HasBytesOf new number bytes

-- ---- what a step promises

-- What a step is of an event: its reply, and the volume after it. It is one of the plain volume, hands back what it did not use,
-- gives a plan all its bytes, and changes the plan of a copy that is out as its reply tells. It changes no size, and lets the
-- numbers grow by one entry, one object, two commits and a pin on each object at most.
-- A stop at each of its moments leaves a commit of the plain volume before it, a failed call is counted once and told, and bytes
-- on their way stay.
pub record StepOf {R : Type 0} (state : R → ReceiptState) (event : Event R) (reply : Reply R) (old new : VolumeState) :
    Type 0 where
  pub step : StepsAsPlain state event reply old new
  pub back : HandsBack event reply
  pub plan : HasItsBytes event reply
  pub copying : ChangesPlan event reply old.plan new.plan
  pub sizes : HasSameSizes old new
  pub numbers : NumbersGrow old new
  pub stops : StepKeeps event old new
  pub faults : CountsFault reply old new
  pub bytes : KeepsBytes old new

-- The same of a volume that counts its steps: it is one before and after, and its log and its uploads are in order before. Where
-- all receipts tell bytes, those that it knew did.
pub record CountedStep {R : Type 0} (state : R → ReceiptState) (event : Event R) (reply : Reply R) (old new : SteppedVolume) :
    Type 0 where
  pub step : StepOf state event reply old.volume new.volume
  pub count : new.steps ≡ old.steps + 1
  pub told : TellsBytes state → TellAlike true old.volume.objects.uploads.queue
  pub was : IsVolume old
  pub order : IsSound old.volume
  pub is : IsVolume new
