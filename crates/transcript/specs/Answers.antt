-- Contract: which text answers a command, and what it leaves of the plain volume.
use Rattle.std.specs.Prelude.{◌≡◌, ℕ, ◌*◌, Option, Some, None, is_some, true, IsTrue, List, ◌++◌, length, replicate, codes}
use Rattle.std.specs.Prelude.{decimal}
use Rattle.object_stream.specs.Landed.{Numbers}
use Rattle.upload_window.specs.Window.{is_started}
use Rattle.plain_disk.specs.declared.event.PlainEvent.{PlainEvent}
use Rattle.plain_disk.specs.declared.event.PlainEvent.TheVariants as events
use Rattle.plain_disk.specs.declared.event.PlainReply.{PlainReply}
use Rattle.plain_disk.specs.declared.event.PlainReply.TheVariants.{Entered, Flushed, Planned, Released, Sealed, Taken, Done}
use Rattle.plain_disk.specs.declared.event.PlainReply.TheVariants.{Returned, Removing, Removed, GivenBack, Told, BatchFull}
use Rattle.plain_disk.specs.declared.event.PlainReply.TheVariants.{EntriesFull, NoRoom, Range, Nothing, Busy, Fault, Copying}
use Rattle.plain_disk.specs.declared.event.PlainReply.TheVariants.{Dropped}
use Rattle.plain_disk.specs.State.{PlainState, created_volume, history_length}
use Rattle.plain_disk.specs.Step.{plain_reply, plain_after}
use Rattle.plain_disk.specs.Stops.{stopping_after_calls, recovered_number, mounted_kept, mounted_lost}
use Rattle.replay_script.specs.declared.command.Command.{Command}
use Rattle.replay_script.specs.declared.command.Command.TheVariants as commands
use Rattle.replay_script.specs.RunText.{IsRunText}
use Rattle.transcript.specs.Letters.{is_dash, fits_writes, kept_by, under_way, fits_objects, landed_by}

-- where a replay stands: there is no volume before the line `new`
abbrev pub State : Type 0
State = Option PlainState

-- ---- events

-- The text that tells a reply of the plain volume; those that answer no line have none. A removal that began is told as made,
-- since its line makes it.
abbrev pub TellsReply : PlainReply → List ℕ → Type 0
TellsReply (Entered count) text = text ≡ codes "ok " ++ decimal count
TellsReply (Flushed count) text = text ≡ codes "ok " ++ decimal count
TellsReply (Planned read) text = IsRunText read.data text
TellsReply Released text = ⊥
TellsReply (Sealed number) text = text ≡ codes "sealed " ++ decimal number
TellsReply (Taken number) text = text ≡ codes "put " ++ decimal number
TellsReply (Done frontier) text = text ≡ codes "done " ++ decimal frontier
TellsReply Returned text = ⊥
TellsReply (Removing number) text = text ≡ codes "gone " ++ decimal number
TellsReply Removed text = ⊥
TellsReply GivenBack text = ⊥
TellsReply (Copying sectors) text = text ≡ codes "copied " ++ decimal (length sectors)
TellsReply Dropped text = text ≡ codes "dropped"
TellsReply (Told writes sealed frontier checkpoint) text =
    text ≡ codes "info " ++ decimal writes ++ codes " " ++ decimal sealed ++ codes " " ++ decimal frontier
TellsReply (BatchFull sectors) text = text ≡ codes "again batch " ++ decimal sectors
TellsReply (EntriesFull entries) text = text ≡ codes "again entries " ++ decimal entries
TellsReply (NoRoom lacking left) text = text ≡ codes "again room " ++ decimal lacking ++ codes " " ++ decimal left
TellsReply Range text = text ≡ codes "range"
TellsReply Nothing text = text ≡ codes "none"
TellsReply Busy text = text ≡ codes "busy"
TellsReply Fault text = text ≡ codes "fault"

-- the volume takes the event, tells its reply by this text, and is the next one then
abbrev pub AnswersStep : PlainState → PlainEvent → List ℕ → State → Type 0
AnswersStep plain event text next = TellsReply (plain_reply plain event) text × (next ≡ Some (plain_after event plain))

-- a read gives the plan back that it was answered
abbrev pub released_by : PlainReply → PlainState → PlainState
released_by (Planned read) plain = plain_after (events.Release read.objects) plain
released_by reply plain = plain

abbrev pub AnswersLook : PlainState → (lba sectors : ℕ) → List ℕ → State → Type 0
AnswersLook plain lba sectors text next =
    TellsReply (plain_reply plain (events.Look lba sectors)) text
    × (next ≡ Some (released_by (plain_reply plain (events.Look lba sectors)) (plain_after (events.Look lba sectors) plain)))

-- a removal that began is made
abbrev pub removed_by : PlainReply → PlainState → PlainState
removed_by (Removing number) plain = plain_after (events.RemoveDone number) plain
removed_by reply plain = plain

abbrev pub AnswersRemoval : PlainState → List ℕ → State → Type 0
AnswersRemoval plain text next =
    TellsReply (plain_reply plain events.TakeRemove) text
    × (next ≡ Some (removed_by (plain_reply plain events.TakeRemove) (plain_after events.TakeRemove plain)))

-- ---- stops

-- the letters fit the volume: the first word the writes that were not synced, and the second one the objects under way
abbrev pub FitKept : PlainState → (device objects : List ℕ) → Type 0
FitKept plain device objects =
    IsTrue (fits_writes (length plain.cache.pending) device) × IsTrue (fits_objects (length (under_way plain.window)) objects)

-- without the cache nothing is said of its writes
abbrev pub FitLost : PlainState → (device objects : List ℕ) → Type 0
FitLost plain device objects = IsTrue (is_dash device) × IsTrue (fits_objects (length (under_way plain.window)) objects)

-- the text that tells how many entries a mount has, and the last object before the first missing one
abbrev pub text_of_mount : (count number : ℕ) → List ℕ
text_of_mount count number = codes "mounted " ++ decimal count ++ codes " " ++ decimal number

-- what a mount makes of the volume, with these objects landed
abbrev pub Mounts : Numbers → (old mounted : PlainState) → List ℕ → State → Type 0
Mounts landed old mounted text next =
    (text ≡ text_of_mount (history_length mounted) (recovered_number landed old)) × (next ≡ Some mounted)

abbrev pub AnswersKeptMount : PlainState → (device objects : List ℕ) → List ℕ → State → Type 0
AnswersKeptMount plain device objects =
    Mounts (landed_by plain objects) plain
    (mounted_kept (landed_by plain objects) (kept_by (length plain.cache.pending) device) plain)

abbrev pub AnswersLostMount : PlainState → (objects : List ℕ) → List ℕ → State → Type 0
AnswersLostMount plain objects = Mounts (landed_by plain objects) plain (mounted_lost (landed_by plain objects) plain)

-- ---- commands

-- The volume allows the command: `new` comes only first, a put is done or fails only where it was begun, a copy is sealed or
-- given up only where its plan is out, and the device is told to stop only where it was not.
abbrev pub AllowsCommand : PlainState → Command → Type 0
AllowsCommand plain (commands.New g) = ⊥
AllowsCommand plain (commands.Write lba sectors byte) = Unit {0}
AllowsCommand plain (commands.Zero lba sectors) = Unit {0}
AllowsCommand plain (commands.Read lba sectors) = Unit {0}
AllowsCommand plain commands.Flush = Unit {0}
AllowsCommand plain commands.Seal = Unit {0}
AllowsCommand plain commands.TakeJob = Unit {0}
AllowsCommand plain (commands.JobDone number) = IsTrue (is_started number plain.window.objects)
AllowsCommand plain (commands.JobFailed number) = IsTrue (is_started number plain.window.objects)
AllowsCommand plain commands.SealCheckpoint = Unit {0}
AllowsCommand plain commands.Remove = Unit {0}
AllowsCommand plain commands.PlanCopy = Unit {0}
AllowsCommand plain commands.SealCopy = IsTrue (is_some plain.plan)
AllowsCommand plain commands.DropPlan = IsTrue (is_some plain.plan)
AllowsCommand plain commands.Status = Unit {0}
AllowsCommand plain (commands.Stop calls) = plain.cache.left ≡ None
AllowsCommand plain (commands.CrashKeep device objects) = Unit {0}
AllowsCommand plain (commands.CrashLost device objects) = Unit {0}

-- before there is a volume `new` alone is allowed
abbrev pub IsNew : Command → Type 0
IsNew (commands.New g) = Unit {0}
IsNew (commands.Write lba sectors byte) = ⊥
IsNew (commands.Zero lba sectors) = ⊥
IsNew (commands.Read lba sectors) = ⊥
IsNew commands.Flush = ⊥
IsNew commands.Seal = ⊥
IsNew commands.TakeJob = ⊥
IsNew (commands.JobDone number) = ⊥
IsNew (commands.JobFailed number) = ⊥
IsNew commands.SealCheckpoint = ⊥
IsNew commands.Remove = ⊥
IsNew commands.PlanCopy = ⊥
IsNew commands.SealCopy = ⊥
IsNew commands.DropPlan = ⊥
IsNew commands.Status = ⊥
IsNew (commands.Stop calls) = ⊥
IsNew (commands.CrashKeep device objects) = ⊥
IsNew (commands.CrashLost device objects) = ⊥

abbrev pub IsAllowed : State → Command → Type 0
IsAllowed None command = IsNew command
IsAllowed (Some plain) command = AllowsCommand plain command

-- the letters of a command fit the state; most commands have none
abbrev pub FitsVolume : PlainState → Command → Type 0
FitsVolume plain (commands.New g) = Unit {0}
FitsVolume plain (commands.Write lba sectors byte) = Unit {0}
FitsVolume plain (commands.Zero lba sectors) = Unit {0}
FitsVolume plain (commands.Read lba sectors) = Unit {0}
FitsVolume plain commands.Flush = Unit {0}
FitsVolume plain commands.Seal = Unit {0}
FitsVolume plain commands.TakeJob = Unit {0}
FitsVolume plain (commands.JobDone number) = Unit {0}
FitsVolume plain (commands.JobFailed number) = Unit {0}
FitsVolume plain commands.SealCheckpoint = Unit {0}
FitsVolume plain commands.Remove = Unit {0}
FitsVolume plain commands.PlanCopy = Unit {0}
FitsVolume plain commands.SealCopy = Unit {0}
FitsVolume plain commands.DropPlan = Unit {0}
FitsVolume plain commands.Status = Unit {0}
FitsVolume plain (commands.Stop calls) = Unit {0}
FitsVolume plain (commands.CrashKeep device objects) = FitKept plain device objects
FitsVolume plain (commands.CrashLost device objects) = FitLost plain device objects

abbrev pub FitsLetters : State → Command → Type 0
FitsLetters None command = Unit {0}
FitsLetters (Some plain) command = FitsVolume plain command

-- ---- answers

-- a command makes the volume, and is answered by this text
abbrev pub AnswersCreation : Command → List ℕ → State → Type 0
AnswersCreation (commands.New g) text next = (text ≡ codes "new " ++ decimal g.sectors) × (next ≡ Some (created_volume g))
AnswersCreation (commands.Write lba sectors byte) text next = ⊥
AnswersCreation (commands.Zero lba sectors) text next = ⊥
AnswersCreation (commands.Read lba sectors) text next = ⊥
AnswersCreation commands.Flush text next = ⊥
AnswersCreation commands.Seal text next = ⊥
AnswersCreation commands.TakeJob text next = ⊥
AnswersCreation (commands.JobDone number) text next = ⊥
AnswersCreation (commands.JobFailed number) text next = ⊥
AnswersCreation commands.SealCheckpoint text next = ⊥
AnswersCreation commands.Remove text next = ⊥
AnswersCreation commands.PlanCopy text next = ⊥
AnswersCreation commands.SealCopy text next = ⊥
AnswersCreation commands.DropPlan text next = ⊥
AnswersCreation commands.Status text next = ⊥
AnswersCreation (commands.Stop calls) text next = ⊥
AnswersCreation (commands.CrashKeep device objects) text next = ⊥
AnswersCreation (commands.CrashLost device objects) text next = ⊥

-- the volume answers the command by this text, and this is what it leaves
abbrev pub AnswersOn : PlainState → Command → List ℕ → State → Type 0
AnswersOn plain (commands.New g) text next = ⊥
AnswersOn plain (commands.Write lba sectors byte) text next =
    AnswersStep plain (events.Write lba (replicate (512 * sectors) byte)) text next
AnswersOn plain (commands.Zero lba sectors) text next = AnswersStep plain (events.Zero lba sectors) text next
AnswersOn plain (commands.Read lba sectors) text next = AnswersLook plain lba sectors text next
AnswersOn plain commands.Flush text next = AnswersStep plain events.Flush text next
AnswersOn plain commands.Seal text next = AnswersStep plain events.Seal text next
AnswersOn plain commands.TakeJob text next = AnswersStep plain events.TakeJob text next
AnswersOn plain (commands.JobDone number) text next =
    IsTrue (is_started number plain.window.objects) × AnswersStep plain (events.JobDone (Some number)) text next
AnswersOn plain (commands.JobFailed number) text next =
    IsTrue (is_started number plain.window.objects)
    × (text ≡ codes "failed " ++ decimal number) × (next ≡ Some (plain_after (events.JobFailed (Some number)) plain))
AnswersOn plain commands.SealCheckpoint text next = AnswersStep plain events.SealCheckpoint text next
AnswersOn plain commands.Remove text next = AnswersRemoval plain text next
AnswersOn plain commands.PlanCopy text next = AnswersStep plain events.PlanCopy text next
AnswersOn plain commands.SealCopy text next = IsTrue (is_some plain.plan) × AnswersStep plain (events.SealCopy true) text next
AnswersOn plain commands.DropPlan text next = IsTrue (is_some plain.plan) × AnswersStep plain events.DropPlan text next
AnswersOn plain commands.Status text next = AnswersStep plain events.Status text next
AnswersOn plain (commands.Stop calls) text next =
    (plain.cache.left ≡ None) × (text ≡ codes "stop " ++ decimal calls) × (next ≡ Some (stopping_after_calls calls plain))
AnswersOn plain (commands.CrashKeep device objects) text next = FitKept plain device objects
    × AnswersKeptMount plain device objects text next
AnswersOn plain (commands.CrashLost device objects) text next = FitLost plain device objects
    × AnswersLostMount plain objects text next

-- in this state the command is answered by this text, and leaves the next state
abbrev pub Answers : State → Command → List ℕ → State → Type 0
Answers None command text next = AnswersCreation command text next
Answers (Some plain) command text next = AnswersOn plain command text next
