-- For this crate's own clauses: what the steps of a replay do to the answers that are still to be written.
use Rattle.std.specs.Prelude.{◌≡◌, ℕ, ◌⊎◌, Bool, true, false, Option, Some, None, List, [], ◌∷◌, ◌++◌}
use Rattle.std.specs.Io.KnownBytes.{Appends}
use Rattle.replay_script.specs.declared.command.Command.{Command}
use Rattle.replay_script.specs.declared.command.Command.TheVariants as commands
use Rattle.replay_script.specs.declared.error.LineError.{LineError}
use Rattle.replay_script.specs.declared.error.LineError.TheVariants as line_errors
use Rattle.transcript.specs.declared.reason.LineReason.{LineReason}
use Rattle.transcript.specs.declared.reason.LineReason.TheVariants.{UnknownCommand, WordCount, Form, NotAllowed, Letters, TooLong}
use Rattle.transcript.specs.Answers.{State, Answers, IsAllowed, FitsLetters}
use Rattle.transcript.specs.Transcript.{IsBad, IsAnswered}
use Rattle.replay_rig.specs.declared.answer.Answer.{Answer}
use Rattle.vol_replay.specs.declared.line.LineRefusal.{LineRefusal}
use Rattle.vol_replay.specs.declared.line.LineRefusal.TheVariants.{Bad, OutOfMemory}
use Rattle.vol_replay.specs.declared.outcome.Outcome.{Outcome}
use Rattle.vol_replay.specs.declared.outcome.Outcome.TheVariants as outcomes
use Rattle.vol_replay.specs.Answers.{TellsAnswer}
use Rattle.replay_rig.specs.Rig.{RigState}
use Rattle.vol_replay.specs.Written.{ShowsState, TakesFront}

-- how many lines a rig has answered
abbrev pub lines_answered : Option RigState → ℕ
lines_answered None = 0
lines_answered (Some rig) = rig.lines

-- ---- commands

-- a command stops the machine
abbrev pub is_crash : Command → Bool
is_crash (commands.CrashKeep device objects) = true
is_crash (commands.CrashLost device objects) = true
is_crash command = false

-- in a state, where the rig showed it, the command is answered so, and the rig shows the next state
abbrev pub AnswersIn : Command → Answer → (old new : Option RigState) → State → Type 0
AnswersIn command answer old new state =
    ShowsState old state
    → (next : State) × ((text : List ℕ) → TellsAnswer answer text → Answers state command text next) × ShowsState new next

-- the same in each state
pub record AnswersCommand (command : Command) (answer : Answer) (old new : Option RigState) : Type 0 where
  pub by : (state : State) → AnswersIn command answer old new state

-- why a state does not answer a command
abbrev pub IsUnfit : State → Command → LineReason → Type 0
IsUnfit state command UnknownCommand = ⊥
IsUnfit state command WordCount = ⊥
IsUnfit state command Form = ⊥
IsUnfit state command NotAllowed = IsAllowed state command → ⊥
IsUnfit state command Letters = IsAllowed state command × (FitsLetters state command → ⊥)
IsUnfit state command TooLong = ⊥

-- a command was not answered, since no state that the rig showed answers it, or since memory ran out
abbrev pub IsUnanswered : Option RigState → Command → LineRefusal → Type 0
IsUnanswered old command (Bad reason) = (state : State) → ShowsState old state → IsUnfit state command reason
IsUnanswered old command OutOfMemory = Unit {0}

-- ---- lines

-- the line was answered in each state that the rig showed, and the answer stands at the end of the others
pub record AnswersLine (line : List ℕ) (old new : Option RigState) (before after : List ℕ) : Type 0 where
  pub by : (state : State) → ShowsState old state
      → (answer : List ℕ) × (next : State) × IsAnswered state line answer next × ShowsState new next
      × (after ≡ before ++ (answer ++ 10 ∷ []))

-- the line was not answered: a bad one left the answers as they were
abbrev pub EndsUnanswered : List ℕ → Option RigState → (before after : List ℕ) → LineRefusal → Type 0
EndsUnanswered line old before after (Bad reason) = (after ≡ before)
    × ((state : State) → ShowsState old state → IsBad state line reason)
EndsUnanswered line old before after OutOfMemory = Unit {0}

-- how the error that a line gives is told
abbrev pub refusal_of : LineError → LineRefusal
refusal_of line_errors.UnknownCommand = Bad UnknownCommand
refusal_of line_errors.WordCount = Bad WordCount
refusal_of line_errors.Form = Bad Form
refusal_of line_errors.OutOfMemory = OutOfMemory

-- ---- the sink

-- the sink took some of the answers, and the others are still to be written
abbrev pub MovesOn : Option (List ℕ) → Option (List ℕ) → List ℕ → List ℕ → Type 0
MovesOn old new answers left = (done : List ℕ) × Appends old new done × (answers ≡ done ++ left)

-- the answers were written, and that is the outcome; or the sink failed
abbrev pub IsHandedOver : Option (List ℕ) → Option (List ℕ) → List ℕ → Outcome → Outcome → Type 0
IsHandedOver old new answers outcome result =
    ((result ≡ outcome) × Appends old new answers) ⊎ ((result ≡ outcomes.WriteFault) × TakesFront old new answers)
