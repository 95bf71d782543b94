-- Contract: what a replay wrote when it ended.
use Rattle.std.specs.Prelude.{ℕ, ◌≤◌, Option, Some, None, Bool, true, false, List, length, take}
use Rattle.std.specs.Io.KnownBytes.{Appends}
use Rattle.transcript.specs.Answers.{State}
use Rattle.transcript.specs.Transcript.{AllAnswered, Stopped, IsTranscript, IsFrontOfTranscript}
use Rattle.vol_replay.specs.declared.outcome.Outcome.{Outcome}
use Rattle.vol_replay.specs.declared.outcome.Outcome.TheVariants.{Done, BadLine, ReadFault, WriteFault, OutOfMemory}
use Rattle.replay_rig.specs.Rig.{RigState, ShowsPlain}

-- a rig shows a state of the transcript: there is none before the line `new`
abbrev pub ShowsState : Option RigState → State → Type 0
ShowsState None None = Unit {0}
ShowsState None (Some plain) = ⊥
ShowsState (Some rig) None = ⊥
ShowsState (Some rig) (Some plain) = ShowsPlain rig plain

-- the sink took a front of these bytes
abbrev pub TakesFront : Option (List ℕ) → Option (List ℕ) → List ℕ → Type 0
TakesFront old new bytes = (n : ℕ) × (n ≤ length bytes) × Appends old new (take n bytes)

-- The whole transcript where each line was answered, and the rig shows what it leaves; the answers before a bad line; and a front
-- of the transcript after a fault or where memory ran out.
abbrev pub IsOutcomeOf : List ℕ → List ℕ → Outcome → Type 0
IsOutcomeOf script text (Done rig) = (state : State) × IsTranscript script text (AllAnswered state) × ShowsState rig state
IsOutcomeOf script text (BadLine number reason) = IsTranscript script text (Stopped number reason)
IsOutcomeOf script text ReadFault = IsFrontOfTranscript script text
IsOutcomeOf script text WriteFault = IsFrontOfTranscript script text
IsOutcomeOf script text OutOfMemory = IsFrontOfTranscript script text

-- each line was answered
abbrev pub AreAllAnswered : Outcome → Type 0
AreAllAnswered (Done rig) = Unit {0}
AreAllAnswered (BadLine number reason) = ⊥
AreAllAnswered ReadFault = ⊥
AreAllAnswered WriteFault = ⊥
AreAllAnswered OutOfMemory = ⊥

-- whether a replay ended by a fault of the source, and by one of the sink
abbrev pub ends_by_read_fault : Outcome → Bool
ends_by_read_fault (Done rig) = false
ends_by_read_fault (BadLine number reason) = false
ends_by_read_fault ReadFault = true
ends_by_read_fault WriteFault = false
ends_by_read_fault OutOfMemory = false

abbrev pub ends_by_write_fault : Outcome → Bool
ends_by_write_fault (Done rig) = false
ends_by_write_fault (BadLine number reason) = false
ends_by_write_fault ReadFault = false
ends_by_write_fault WriteFault = true
ends_by_write_fault OutOfMemory = false
