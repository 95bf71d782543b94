-- Contract: what a line makes of a rig, by each plain volume that it showed.
use Rattle.std.specs.Prelude.{◌≡◌, ℕ, Some, is_some, IsTrue, Bool, true, false, List, map}
use Rattle.object_stream.specs.Landed.{Numbers}
use Rattle.lsvd_device.specs.declared.fate.Fate.{Fate}
use Rattle.lsvd_objstore.specs.Memory.{Kept, told_receipt}
use Rattle.plain_disk.specs.declared.event.PlainEvent.{PlainEvent}
use Rattle.plain_disk.specs.declared.event.PlainEvent.TheVariants as events
use Rattle.plain_disk.specs.State.{PlainState, history_length}
use Rattle.plain_disk.specs.Step.{plain_reply, plain_after}
use Rattle.plain_disk.specs.Stops.{stopping_after_calls, recovered_number, mounted_kept, mounted_lost}
use Rattle.vol_core.specs.declared.event.Event.{Event}
use Rattle.vol_core.specs.declared.event.Event.TheVariants.{Write, Zero, Flush, Seal, SealCheckpoint, Status}
use Rattle.vol_core.specs.Events.{Asks}
use Rattle.vol_core.specs.Volume.{SteppedVolume, with_budget_of}
use Rattle.vol_core.specs.Shows.{Shows}
use Rattle.vol_core.specs.View.{volume_disk}
use Rattle.refine_log.specs.Fuses.{fuse_in}
use Rattle.plain_disk.specs.Cache.{is_kept}
use Rattle.transcript.specs.Letters.{landed_by}
use Rattle.transcript.specs.Answers.{released_by, removed_by}
use Rattle.replay_rig.specs.declared.answer.Answer.{Answer}
use Rattle.replay_rig.specs.declared.answer.Answer.TheVariants.{Failed, Mounted}
use Rattle.replay_rig.specs.Answers.{SaysReply}
use Rattle.replay_rig.specs.Rig.{RigState, ShowsPlain}

-- ---- events

-- the answer says the plain volume's reply to an event, and the rig shows what that leaves
pub record AnswersEvent (event : PlainEvent) (answer : Answer) (old new : RigState) : Type 0 where
  pub by : (plain : PlainState) → ShowsPlain old plain → SaysReply (plain_reply plain event) answer
      × ShowsPlain new (plain_after event plain)

-- an event of a volume that hands nothing out but counts, and leaves the puts alone
abbrev pub is_counted : Event Kept → Bool
is_counted (Write lba body) = true
is_counted (Zero lba sectors) = true
is_counted Flush = true
is_counted Seal = true
is_counted SealCheckpoint = true
is_counted Status = true
is_counted event = false

-- the answer says the plain volume's reply to what an event of the volume asks for
pub record AnswersAsked (event : Event Kept) (answer : Answer) (old new : RigState) : Type 0 where
  pub by : (plain : PlainState) → ShowsPlain old plain
      → (asked : PlainEvent) × Asks told_receipt old.volume.volume event asked × SaysReply (plain_reply plain asked) answer
      × ShowsPlain new (plain_after asked plain)

-- the same of a read, which gives the plan back that it was answered
pub record AnswersRead (lba sectors : ℕ) (answer : Answer) (old new : RigState) : Type 0 where
  pub by : (plain : PlainState) → ShowsPlain old plain
      → SaysReply (plain_reply plain (events.Look lba sectors)) answer
      × ShowsPlain new (released_by (plain_reply plain (events.Look lba sectors)) (plain_after (events.Look lba sectors) plain))

-- the same of a removal, which is made where it began: the answer tells the number of the object that is gone
pub record AnswersRemoval (answer : Answer) (old new : RigState) : Type 0 where
  pub by : (plain : PlainState) → ShowsPlain old plain
      → SaysReply (plain_reply plain events.TakeRemove) answer
      × ShowsPlain new (removed_by (plain_reply plain events.TakeRemove) (plain_after events.TakeRemove plain))

-- the put of an object failed, which the answer tells
pub record FailsPut (number : ℕ) (answer : Answer) (old new : RigState) : Type 0 where
  pub by : (plain : PlainState) → ShowsPlain old plain → (answer ≡ Failed number)
      × ShowsPlain new (plain_after (events.JobFailed (Some number)) plain)

-- nothing of a volume has changed but the room on its device
pub record IsUntouched (old new : SteppedVolume) : Type 0 where
  pub steps : new.steps ≡ old.steps
  pub volume : new.volume ≡ with_budget_of (volume_disk new.volume) old.volume
  pub told : IsTrue (is_some (volume_disk old.volume).budget) → IsTrue (is_some (volume_disk new.volume).budget)
  pub fuse : fuse_in (volume_disk new.volume).budget ≡ fuse_in (volume_disk old.volume).budget
  pub shows : (plain : PlainState) → Shows old.volume plain → Shows new.volume plain

-- ---- stops and mounts

-- the rig shows a volume whose device passes so many calls more
pub record StopsAfter (calls : ℕ) (old new : RigState) : Type 0 where
  pub by : (plain : PlainState) → ShowsPlain old plain → ShowsPlain new (stopping_after_calls calls plain)

-- the answer tells of a mount of which this is made, with these objects landed
abbrev pub IsMountTold : Numbers → (old mounted : PlainState) → Answer → Type 0
IsMountTold landed old mounted answer = answer ≡ Mounted (history_length mounted) (recovered_number landed old)

-- the machine was stopped, where the writes met these fates and these letters say what has landed, and the volume was mounted
-- with its cache, or without it
pub record MountsKeptRig (fates : List Fate) (letters : List ℕ) (answer : Answer) (old new : RigState) : Type 0 where
  pub by : (plain : PlainState) → ShowsPlain old plain
      → IsMountTold (landed_by plain letters) plain (mounted_kept (landed_by plain letters) (map is_kept fates) plain) answer
      × ShowsPlain new (mounted_kept (landed_by plain letters) (map is_kept fates) plain)

pub record MountsLostRig (letters : List ℕ) (answer : Answer) (old new : RigState) : Type 0 where
  pub by : (plain : PlainState) → ShowsPlain old plain
      → IsMountTold (landed_by plain letters) plain (mounted_lost (landed_by plain letters) plain) answer
      × ShowsPlain new (mounted_lost (landed_by plain letters) plain)
