-- Contract: what an event asks of the plain volume, and which of its replies a reply tells.
use Rattle.std.specs.Prelude.{◌≡◌, ℕ, ◌⊎◌, Bool, true, false, Option, Some, None, IfSome, List, length}
use Rattle.lsvd_objstore.specs.Store.{ReceiptState}
use Rattle.object_stream.specs.Replay.{object_name}
use Rattle.object_uploads.specs.State.{JobState}
use Rattle.object_uploads.specs.Changes.{IsOut, IsJobOf}
use Rattle.obj_log.specs.Changes.{expected_of_volume}
use Rattle.batcher.specs.declared.full.Full.TheVariants as full
use Rattle.gc_copier.specs.Plan.{PlanState, sectors_of}
use Rattle.gc_copier.specs.Copying.{CopiedState}
use Rattle.object_stream.specs.declared.object.CopiedSector.{CopiedSector}
use Rattle.object_stream.specs.Replay.{source_at}
use Rattle.object_stream.specs.Stream.{source_in}
use Rattle.read_plan.specs.Plan.{Gives}
use Rattle.read_plan.specs.Plan as reads
use Rattle.plain_disk.specs.declared.event.PlainEvent.{PlainEvent}
use Rattle.plain_disk.specs.declared.event.PlainEvent.TheVariants as events
use Rattle.plain_disk.specs.declared.event.PlainReply.{PlainReply}
use Rattle.plain_disk.specs.declared.event.PlainReply.TheVariants as replies
use Rattle.plain_disk.specs.declared.event.PlannedRead.{PlannedRead}
use Rattle.vol_core.specs.declared.event.Event.{Event}
use Rattle.vol_core.specs.declared.event.Event.TheVariants.{Write, Zero, Flush, Look, Release, Seal, TakeJob, JobDone, JobFailed}
use Rattle.vol_core.specs.declared.event.Event.TheVariants.{SealCheckpoint, TakeRemove, RemoveDone}
use Rattle.vol_core.specs.declared.event.Event.TheVariants.{RemoveFailed, PlanCopy, SealCopy}
use Rattle.vol_core.specs.declared.event.Event.TheVariants.{DropPlan, Status}
use Rattle.vol_core.specs.declared.reply.EntryRefusal.{EntryRefusal}
use Rattle.vol_core.specs.declared.reply.EntryRefusal.TheVariants as refusals
use Rattle.vol_core.specs.declared.reply.Reply.{Reply}
use Rattle.vol_core.specs.declared.reply.SealRefusal.{SealRefusal}
use Rattle.vol_core.specs.declared.reply.SealRefusal.TheVariants as seal_refusals
use Rattle.vol_core.specs.declared.reply.Reply.TheVariants as told
use Rattle.vol_core.specs.Volume.{VolumeState}

-- ---- events

-- a job that comes back is that of the put of this number that is out, or of none
abbrev pub IsOfPut : VolumeState → JobState → Option ℕ → Type 0
IsOfPut volume job None = IsOut volume.objects.uploads job.name.number job.bytes → ⊥
IsOfPut volume job (Some number) = (number ≡ job.name.number) × IsOut volume.objects.uploads number job.bytes

-- the same of a put that is done, for whose object the store gave a receipt
abbrev pub IsOfDonePut : VolumeState → JobState → ReceiptState → Option ℕ → Type 0
IsOfDonePut volume job receipt None =
    IsOut volume.objects.uploads job.name.number job.bytes
    × (receipt.name ≡ object_name (expected_of_volume volume.objects) job.name.number) → ⊥
IsOfDonePut volume job receipt (Some number) =
    (number ≡ job.name.number) × IsOut volume.objects.uploads number job.bytes
    × (receipt.name ≡ object_name (expected_of_volume volume.objects) number)

-- A receipt that comes back is of the removal of this number, whose object it names; or it names no object of the volume, and no
-- removal of this number is out.
abbrev pub IsOfRemoval : VolumeState → ReceiptState → (number : ℕ) → Type 0
IsOfRemoval volume receipt number =
    (receipt.name ≡ object_name (expected_of_volume volume.objects) number)
    ⊎ (((other : ℕ) → receipt.name ≡ object_name (expected_of_volume volume.objects) other → ⊥)
    × (volume.objects.uploads.queue.removal ≡ Some number → ⊥))

-- what was copied has the rows and the sources of the plan that is out
abbrev pub IsPlanned : Option PlanState → CopiedState → Type 0
IsPlanned None copied = ⊥
IsPlanned (Some plan) copied = (copied.rows ≡ plan.rows) × (copied.sources ≡ plan.sources)

-- so it was copied by that plan, or it was not
abbrev pub IsOfPlan : VolumeState → CopiedState → (is_planned : Bool) → Type 0
IsOfPlan volume copied true = IsPlanned volume.plan copied
IsOfPlan volume copied false = IsPlanned volume.plan copied → ⊥

-- an event of a volume asks for that of the plain volume
abbrev pub Asks : {R : Type 0} → (R → ReceiptState) → VolumeState → Event R → PlainEvent → Type 0
Asks state volume (Write lba body) event = event ≡ events.Write lba body
Asks state volume (Zero lba sectors) event = event ≡ events.Zero lba sectors
Asks state volume Flush event = event ≡ events.Flush
Asks state volume (Look lba sectors) event = event ≡ events.Look lba sectors
Asks state volume (Release plan) event = event ≡ events.Release plan.objects
Asks state volume Seal event = event ≡ events.Seal
Asks state volume TakeJob event = event ≡ events.TakeJob
Asks state volume (JobDone job receipt) event = (put : Option ℕ) × (event ≡ events.JobDone put)
    × IsOfDonePut volume job (state receipt) put
Asks state volume (JobFailed job) event = (put : Option ℕ) × (event ≡ events.JobFailed put) × IsOfPut volume job put
Asks state volume SealCheckpoint event = event ≡ events.SealCheckpoint
Asks state volume TakeRemove event = event ≡ events.TakeRemove
Asks state volume (RemoveDone number) event = event ≡ events.RemoveDone number
Asks state volume (RemoveFailed receipt) event = (number : ℕ) × (event ≡ events.RemoveFailed number)
    × IsOfRemoval volume (state receipt) number
Asks state volume PlanCopy event = event ≡ events.PlanCopy
Asks state volume (SealCopy copied) event =
    (is_planned : Bool) × (event ≡ events.SealCopy is_planned) × IsOfPlan volume copied is_planned
Asks state volume DropPlan event = event ≡ events.DropPlan
Asks state volume Status event = event ≡ events.Status

-- ---- replies

-- why an entry was not entered is told as the plain volume tells it
abbrev pub TellsRefusal : EntryRefusal → PlainReply → Type 0
TellsRefusal refusals.Range reply = reply ≡ replies.Range
TellsRefusal (refusals.Full (full.Sectors sectors)) reply = reply ≡ replies.BatchFull sectors
TellsRefusal (refusals.Full (full.Entries count)) reply = reply ≡ replies.EntriesFull count
TellsRefusal (refusals.NoRoom need free) reply = reply ≡ replies.NoRoom need free
TellsRefusal refusals.Fault reply = reply ≡ replies.Fault
TellsRefusal refusals.OutOfMemory reply = ⊥

-- why what was copied was not sealed is told so too
abbrev pub TellsSealRefusal : SealRefusal → PlainReply → Type 0
TellsSealRefusal seal_refusals.NotPlanned reply = reply ≡ replies.Nothing
TellsSealRefusal seal_refusals.Busy reply = reply ≡ replies.Busy
TellsSealRefusal seal_refusals.OutOfMemory reply = ⊥

-- the plan of a copy takes these sectors from their sources, and no others
pub record TellsCopy (plan : PlanState) (sectors : List CopiedSector) : Type 0 where
  pub takes : (k : ℕ) → source_at plan.rows k ≡ source_in sectors k
  pub count : sectors_of plan.rows ≡ length sectors

-- a plan tells what the plain volume says of a read: it gives the data, where the disk tells the entries of the log's list
pub record TellsRead (volume : VolumeState) (plan : reads.PlanState) (read : PlannedRead) : Type 0 where
  pub history_length : plan.history_length ≡ read.history_length
  pub objects : plan.objects ≡ read.objects
  pub gives : IfSome volume.log.entries (λ list. Gives plan read.data)

-- a reply tells one of the plain volume; a job is that of the number, and a receipt that of its object
abbrev pub Tells : {R : Type 0} → (R → ReceiptState) → VolumeState → Reply R → PlainReply → Type 0
Tells state volume (told.Entered count) reply = reply ≡ replies.Entered count
Tells state volume (told.NotEntered entry why) reply = TellsRefusal why reply
Tells state volume (told.Flushed count) reply = reply ≡ replies.Flushed count
Tells state volume (told.Planned plan) reply =
    (read : PlannedRead) × (reply ≡ replies.Planned read) × TellsRead volume plan read
Tells state volume told.Released reply = reply ≡ replies.Released
Tells state volume (told.NotReleased plan) reply = reply ≡ replies.Nothing
Tells state volume (told.Sealed number) reply = reply ≡ replies.Sealed number
Tells state volume (told.Taken job) reply = (reply ≡ replies.Taken job.name.number)
    × IsJobOf volume.objects.uploads job.name.number job
Tells state volume (told.Done frontier) reply = reply ≡ replies.Done frontier
Tells state volume (told.NotDone job receipt) reply = reply ≡ replies.Nothing
Tells state volume told.Returned reply = reply ≡ replies.Returned
Tells state volume (told.NotReturned job) reply = reply ≡ replies.Nothing
Tells state volume (told.Removing receipt) reply =
    (reply ≡ replies.Removing (state receipt).name.number)
    × ((state receipt).name ≡ object_name (expected_of_volume volume.objects) (state receipt).name.number)
Tells state volume told.Removed reply = reply ≡ replies.Removed
Tells state volume told.GivenBack reply = reply ≡ replies.GivenBack
Tells state volume (told.NotGivenBack receipt) reply = reply ≡ replies.Nothing
Tells state volume (told.Copying plan) reply =
    (sectors : List CopiedSector) × (reply ≡ replies.Copying sectors) × TellsCopy plan sectors
Tells state volume (told.NotSealed copied why) reply = TellsSealRefusal why reply
Tells state volume told.Dropped reply = reply ≡ replies.Dropped
Tells state volume (told.Told writes sealed frontier checkpoint) reply = reply ≡ replies.Told writes sealed frontier checkpoint
Tells state volume told.Range reply = reply ≡ replies.Range
Tells state volume told.Nothing reply = reply ≡ replies.Nothing
Tells state volume told.Busy reply = reply ≡ replies.Busy
Tells state volume told.Fault reply = reply ≡ replies.Fault
Tells state volume told.OutOfMemory reply = ⊥
