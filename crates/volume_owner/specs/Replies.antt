-- For this crate's own clauses: what a reply of the volume tells of what it was asked for.
use Rattle.std.specs.Prelude.{ℕ, ◌==◌, Bool, true, false, Option, Some, None, Result, Ok, Err}
use Rattle.gc_copier.specs.Plan as copies
use Rattle.object_uploads.specs.State.{JobState}
use Rattle.read_plan.specs.Plan.{PlanState}
use Rattle.vol_core.specs.declared.reply.EntryRefusal.TheVariants as refusals
use Rattle.vol_core.specs.declared.reply.Reply.{Reply}
use Rattle.vol_core.specs.declared.reply.SealRefusal.TheVariants as seal_refusals
use Rattle.vol_core.specs.declared.reply.Reply.TheVariants as told
use Rattle.volume_owner.specs.declared.collecting.Turn.{Turn}
use Rattle.volume_owner.specs.declared.collecting.Turn.TheVariants.{Did, Idle}
use Rattle.volume_owner.specs.declared.error.OwnerError.{OwnerError}
use Rattle.volume_owner.specs.declared.error.OwnerError.TheVariants as errors
use Rattle.volume_owner.specs.declared.replies.Attempt.{Attempt}
use Rattle.volume_owner.specs.declared.replies.Attempt.TheVariants.{Entered, Again, Failed, OutOfMemory}

-- of an entry in range
abbrev pub attempt_in : {R : Type 0} → Reply R → Attempt
attempt_in (told.Entered count) = Entered count
attempt_in (told.NotEntered entry (refusals.Full why)) = Again entry
attempt_in (told.NotEntered entry (refusals.NoRoom needed left)) = Again entry
attempt_in (told.NotEntered entry refusals.Fault) = Failed
attempt_in told.Fault = Failed
attempt_in reply = OutOfMemory

-- of a put
abbrev pub job_in : {R : Type 0} → Reply R → Option JobState
job_in (told.Taken job) = Some job
job_in reply = None

-- of a read in range
abbrev pub plan_in : {R : Type 0} → Reply R → Result PlanState OwnerError
plan_in (told.Planned plan) = Ok plan
plan_in (told.NotEntered entry refusals.Fault) = Err errors.Eio
plan_in told.Fault = Err errors.Eio
plan_in reply = Err errors.OutOfMemory

-- of a flush
abbrev pub count_in : {R : Type 0} → Reply R → Option ℕ
count_in (told.Flushed count) = Some count
count_in reply = None

-- of a seal, where no object is on its way
abbrev pub seal_in : {R : Type 0} → Reply R → Result Bool OwnerError
seal_in (told.Sealed number) = Ok true
seal_in told.Nothing = Ok false
seal_in reply = Err errors.OutOfMemory

-- of a status: the newest object that was sealed is a checkpoint
abbrev pub tells_checkpoint : {R : Type 0} → Reply R → Bool
tells_checkpoint (told.Told writes sealed frontier checkpoint) = sealed == checkpoint
tells_checkpoint reply = false

-- of a removal
abbrev pub receipt_in : {R : Type 0} → Reply R → Option R
receipt_in (told.Removing receipt) = Some receipt
receipt_in reply = None

-- of a plan of a copy: none where there is nothing to copy, or one is out
abbrev pub copying_in : {R : Type 0} → Reply R → Result (Option copies.PlanState) OwnerError
copying_in (told.Copying plan) = Ok (Some plan)
copying_in told.Nothing = Ok None
copying_in told.Busy = Ok None
copying_in reply = Err errors.OutOfMemory

-- of a seal of so many sectors that were copied
abbrev pub turn_in : {R : Type 0} → (sectors : ℕ) → Reply R → Result Turn OwnerError
turn_in sectors (told.Sealed number) = Ok (Did sectors)
turn_in sectors (told.NotSealed copied seal_refusals.NotPlanned) = Ok Idle
turn_in sectors (told.NotSealed copied seal_refusals.Busy) = Ok Idle
turn_in sectors reply = Err errors.OutOfMemory
