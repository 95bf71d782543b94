-- Contract: the plain volume as a machine: what each event answers, and what it leaves.
use Rattle.std.specs.Prelude.{Bool, true, false}
use Rattle.lsvd_base.specs.declared.entry.Entry.TheVariants as entries
use Rattle.plain_disk.specs.declared.event.PlainEvent.{PlainEvent}
use Rattle.plain_disk.specs.declared.event.PlainEvent.TheVariants.{Write, Zero, Flush, Look, Release, Seal, TakeJob, JobDone}
use Rattle.plain_disk.specs.declared.event.PlainEvent.TheVariants.{JobFailed, SealCheckpoint, TakeRemove}
use Rattle.plain_disk.specs.declared.event.PlainEvent.TheVariants.{RemoveDone, RemoveFailed, PlanCopy, SealCopy, DropPlan}
use Rattle.plain_disk.specs.declared.event.PlainEvent.TheVariants.{Status}
use Rattle.plain_disk.specs.declared.event.PlainReply.{PlainReply}
use Rattle.plain_disk.specs.declared.event.PlainReply.TheVariants as replies
use Rattle.plain_disk.specs.State.{PlainState}
use Rattle.plain_disk.specs.Entries.{enter_reply, after_entering, flush_reply, after_flush}
use Rattle.plain_disk.specs.Reads.{look_reply, after_look, release_reply, after_plan_release}
use Rattle.plain_disk.specs.Objects.{seal_reply, after_seal, take_reply, after_take, done_reply, after_done, failed_reply}
use Rattle.plain_disk.specs.Objects.{after_failed, seal_checkpoint_reply, after_seal_checkpoint, status_reply}
use Rattle.plain_disk.specs.Removals.{take_remove_reply, after_take_remove, remove_done_reply, after_remove_done}
use Rattle.plain_disk.specs.Removals.{remove_failed_reply, after_remove_failed}
use Rattle.plain_disk.specs.Collection.{plan_copy_reply, after_plan_copy, seal_copy_reply, after_seal_copy, drop_plan_reply}
use Rattle.plain_disk.specs.Collection.{after_drop_plan}

-- what the volume answers to each event
abbrev pub plain_reply : PlainState → PlainEvent → PlainReply
plain_reply state (Write lba body) = enter_reply state (entries.Write lba body)
plain_reply state (Zero lba sectors) = enter_reply state (entries.Zero lba sectors)
plain_reply state Flush = flush_reply state
plain_reply state (Look lba sectors) = look_reply state lba sectors
plain_reply state (Release numbers) = release_reply state numbers
plain_reply state Seal = seal_reply state
plain_reply state TakeJob = take_reply state
plain_reply state (JobDone job) = done_reply state job
plain_reply state (JobFailed job) = failed_reply state job
plain_reply state SealCheckpoint = seal_checkpoint_reply state
plain_reply state TakeRemove = take_remove_reply state
plain_reply state (RemoveDone number) = remove_done_reply state number
plain_reply state (RemoveFailed number) = remove_failed_reply state number
plain_reply state PlanCopy = plan_copy_reply state
plain_reply state (SealCopy is_planned) = seal_copy_reply state is_planned
plain_reply state DropPlan = drop_plan_reply state
plain_reply state Status = status_reply state

-- A reply refuses its event by what the volume is, whatever its device does and whatever room its log has: the sectors are not
-- its own, the batch is full, there is nothing to seal, to put, to copy or to give back, or 16 objects are on their way, or a
-- plan of a copy is out.
abbrev pub is_refusal : PlainReply → Bool
is_refusal replies.Range = true
is_refusal (replies.BatchFull sectors) = true
is_refusal (replies.EntriesFull count) = true
is_refusal replies.Nothing = true
is_refusal replies.Busy = true
is_refusal reply = false

-- what each event leaves of the volume
abbrev pub plain_after : PlainEvent → PlainState → PlainState
plain_after (Write lba body) state = after_entering (entries.Write lba body) state
plain_after (Zero lba sectors) state = after_entering (entries.Zero lba sectors) state
plain_after Flush state = after_flush state
plain_after (Look lba sectors) state = after_look lba sectors state
plain_after (Release numbers) state = after_plan_release numbers state
plain_after Seal state = after_seal state
plain_after TakeJob state = after_take state
plain_after (JobDone job) state = after_done job state
plain_after (JobFailed job) state = after_failed job state
plain_after SealCheckpoint state = after_seal_checkpoint state
plain_after TakeRemove state = after_take_remove state
plain_after (RemoveDone number) state = after_remove_done number state
plain_after (RemoveFailed number) state = after_remove_failed number state
plain_after PlanCopy state = after_plan_copy state
plain_after (SealCopy is_planned) state = after_seal_copy is_planned state
plain_after DropPlan state = after_drop_plan state
plain_after Status state = state
