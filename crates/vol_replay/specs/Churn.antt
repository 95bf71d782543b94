-- Contract: the run of a generated script on the plain volume, and its summary.
use Rattle.std.specs.Prelude.{◌≡◌, ℕ, zero, suc, ◌+◌, ◌*◌, Bool, true, false, Option, Some, is_some}
use Rattle.std.specs.Prelude.{List, [], ◌∷◌, ◌++◌, codes, decimal}
use Rattle.std.specs.Io.KnownBytes.{Appends}
use Rattle.lsvd_base.specs.declared.geometry.Geometry.{Geometry}
use Rattle.plain_disk.specs.Sectors.{sectors_at}
use Rattle.plain_disk.specs.State.{PlainState, created_volume, history_length, frontier_of, image_now}
use Rattle.replay_script.specs.declared.command.Command.{Command}
use Rattle.replay_script.specs.declared.command.Command.TheVariants as commands
use Rattle.replay_script.specs.RunText.{IsRunText}
use Rattle.transcript.specs.Answers.{Answers}
use Rattle.churn_script.specs.Draws.{command_drawn, after_step}
use Rattle.replay_rig.specs.Puts.{lowest_started}
use Rattle.replay_rig.specs.Rig.{ShowsPlain}
use Rattle.vol_replay.specs.declared.outcome.ChurnOutcome.{ChurnOutcome}
use Rattle.vol_replay.specs.declared.outcome.ChurnOutcome.TheVariants.{Done, WriteFault, OutOfMemory}
use Rattle.vol_replay.specs.Written.{TakesFront}

-- ---- the run

-- the volume of a churn: 1024 sectors, a log of 512, writes of at most 8, and batches of 64
abbrev pub churn_geometry : Geometry
churn_geometry = record { sectors = 1024; max_write = 8; batch = 64; log = 512 }

-- where a run stands: the plain volume, the state of the draws, and how often the machine was stopped and the volume mounted
pub record ChurnState : Type 0 where
  pub plain : PlainState
  pub draws : ℕ
  pub mounts : ℕ

-- before its first step
abbrev pub churn_from : (seed : ℕ) → ChurnState
churn_from seed = record { plain = created_volume churn_geometry; draws = seed; mounts = 0 }

-- how often a command mounts the volume: once where it stops the machine
abbrev pub mounts_of : Command → ℕ
mounts_of (commands.CrashKeep device objects) = 1
mounts_of (commands.CrashLost device objects) = 1
mounts_of command = 0

-- the next command, by the lowest put that is out in a plain volume and by whether the plan of a copy is
abbrev pub next_command : PlainState → (draws : ℕ) → Command
next_command plain draws = command_drawn (lowest_started plain.window.objects) (is_some plain.plan) draws

-- the volume answers the command as a line of a script, and is the next one then
abbrev pub Takes : PlainState → Command → (next : PlainState) → Type 0
Takes plain command next = (answer : List ℕ) × Answers (Some plain) command answer (Some next)

-- a step takes the next command
pub record IsStep (before after : ChurnState) : Type 0 where
  pub takes : Takes before.plain (next_command before.plain before.draws) after.plain
  pub draws : after.draws ≡ after_step before.draws
  pub mounts : after.mounts ≡ before.mounts + mounts_of (next_command before.plain before.draws)

-- the run of a seed stands here after so many steps
abbrev pub RunsTo : (seed steps : ℕ) → ChurnState → Type 0
RunsTo seed zero state = state ≡ churn_from seed
RunsTo seed (suc steps) state = (before : ChurnState) × RunsTo seed steps before × IsStep before state

-- ---- the reads after it

-- a read is answered by its sectors, as the list of writes makes them, and leaves this volume
abbrev pub ReadsSectors : (lba sectors : ℕ) → (plain next : PlainState) → Type 0
ReadsSectors lba sectors plain next = (answer : List ℕ) × IsRunText (sectors_at lba sectors (image_now plain)) answer
    × Answers (Some plain) (commands.Read lba sectors) answer (Some next)

-- so are so many reads of 8 sectors each, one after the other from the first sector on
abbrev pub ReadsTo : (reads : ℕ) → (plain last : PlainState) → Type 0
ReadsTo zero plain last = last ≡ plain
ReadsTo (suc reads) plain last = (before : PlainState) × ReadsTo reads plain before × ReadsSectors (8 * reads) 8 before last

-- ---- the summary

-- a line of words and a count
unfoldable pub count_line : (words : List ℕ) → (count : ℕ) → List ℕ
count_line words count = words ++ decimal count ++ 10 ∷ []

-- the lines of a summary
unfoldable pub summary_text : (steps writes sealed frontier mounts : ℕ) → List ℕ
summary_text steps writes sealed frontier mounts =
    count_line (codes "steps ") steps
    ++ count_line (codes "writes ") writes
    ++ count_line (codes "sealed ") sealed
    ++ count_line (codes "frontier ") frontier
    ++ count_line (codes "mounts ") mounts
    ++ codes "agree\n"

-- the summary of so many steps and mounts, which end with this volume
abbrev pub summary_of : (steps mounts : ℕ) → PlainState → List ℕ
summary_of steps mounts plain = summary_text steps (history_length plain) plain.window.last (frontier_of plain) mounts

-- The text is the summary of a churn that ends with this volume: the run of the seed's script on a new volume, and then the reads
-- of all its sectors, which are 128 times 8. The text tells that they agree, since each of them is answered so.
pub record IsChurn (seed steps : ℕ) (text : List ℕ) (last : PlainState) : Type 0 where
  pub state : ChurnState
  pub runs : RunsTo seed steps state
  pub reads : ReadsTo 128 state.plain last
  pub sums : text ≡ summary_of steps state.mounts last

-- The whole summary was written, and the rig shows what the churn leaves; a front of the summary, where the sink failed; and
-- nothing, where memory ran out.
abbrev pub IsOutcomeOfChurn : (seed steps : ℕ) → (old new : Option (List ℕ)) → ChurnOutcome → Type 0
IsOutcomeOfChurn seed steps old new (Done rig) =
    (text : List ℕ) × (last : PlainState) × IsChurn seed steps text last × ShowsPlain rig last × Appends old new text
IsOutcomeOfChurn seed steps old new WriteFault =
    (text : List ℕ) × (last : PlainState) × IsChurn seed steps text last × TakesFront old new text
IsOutcomeOfChurn seed steps old new OutOfMemory = new ≡ old

-- whether a churn ended by a fault of the sink
abbrev pub churn_ends_by_fault : ChurnOutcome → Bool
churn_ends_by_fault (Done rig) = false
churn_ends_by_fault WriteFault = true
churn_ends_by_fault OutOfMemory = false
