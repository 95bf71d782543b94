-- A line is refused as its command is, and answered by the text that tells the answer.
use Rattle.std.proofs.Common.{◌≡◌, ℕ, ◌≤◌, List, [], ◌∷◌, ◌++◌, length}
use Rattle.std.specs.Prelude.{Option, Result, Ok, Err, IfErr}
use Rattle.replay_script.specs.declared.command.Command.{Command}
use Rattle.replay_script.specs.Grammar.{SpellsCommand}
use Rattle.transcript.specs.Answers.{State}
use Rattle.transcript.specs.Transcript.{IsBad}
use Rattle.transcript.specs.declared.reason.LineReason.{LineReason}
use Rattle.transcript.specs.declared.reason.LineReason.TheVariants.{UnknownCommand, WordCount, Form, NotAllowed, Letters, TooLong}
use Rattle.replay_rig.specs.declared.answer.Answer.{Answer}
use Rattle.replay_rig.specs.Rig.{RigState}
use Rattle.vol_replay.specs.declared.line.LineRefusal.{LineRefusal}
use Rattle.vol_replay.specs.declared.line.LineRefusal.TheVariants.{Bad, OutOfMemory}
use Rattle.vol_replay.specs.Answers.{TellsAnswer}
use Rattle.vol_replay.specs.Lines.{IsUnfit, IsUnanswered, EndsUnanswered, AnswersCommand, AnswersLine}

bad_line : (state : State) (line : List ℕ) (command : Command) (reason : LineReason) → length line ≤ 65536
    → SpellsCommand line command
    → IsUnfit state command reason → IsBad state line reason
bad_line state line command UnknownCommand short spelled unfit = absurd unfit
bad_line state line command WordCount short spelled unfit = absurd unfit
bad_line state line command Form short spelled unfit = absurd unfit
bad_line state line command NotAllowed short spelled unfit = (short, (command, spelled, unfit))
bad_line state line command Letters short spelled unfit = (short, (command, spelled, unfit.0, unfit.1))
bad_line state line command TooLong short spelled unfit = absurd unfit

refused_line : (line : List ℕ) (command : Command) (rig : Option RigState) (before after : List ℕ) (refusal : LineRefusal)
    → length line ≤ 65536
    → SpellsCommand line command → after ≡ before → IsUnanswered rig command refusal
    → EndsUnanswered line rig before after refusal
refused_line line command rig before after (Bad reason) short spelled same h =
    (same, λ state shown. bad_line state line command reason short spelled (h state shown))
refused_line line command rig before after OutOfMemory short spelled same h = tt

pub refused_as : {T : Type 0} (line : List ℕ) (command : Command) (rig : Option RigState) (before after : List ℕ)
    (result : Result T LineRefusal)
    → length line ≤ 65536 → SpellsCommand line command → after ≡ before → IfErr result (IsUnanswered rig command)
    → IfErr result (EndsUnanswered line rig before after)
refused_as line command rig before after (Ok done) short spelled same h = tt
refused_as line command rig before after (Err refusal) short spelled same h =
    refused_line line command rig before after refusal short spelled same h

-- the line of a command that was answered is answered by the text that tells it
pub answered_line : (line : List ℕ) (command : Command) (answer : Answer) (text : List ℕ) (old new : Option RigState)
    (before after : List ℕ)
    → length line ≤ 65536 → SpellsCommand line command → AnswersCommand command answer old new → TellsAnswer answer text
    → after ≡ before ++ (text ++ 10 ∷ []) → AnswersLine line old new before after
answered_line line command answer text old new before after short spelled h tells is = record {
  by = λ state shown.
      let (next, told, now) = h.by state shown in
      (text, next, record { short = short; command = command; spelled = spelled; answered = told text tells }, now, is);
}
