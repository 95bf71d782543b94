use Rattle.std.proofs.Common.{◌≡◌, ◌∙◌, inl, inr, map, string_bytes}
use Rattle.clap.specs.Kinds.{HasKind}
use Rattle.clap.specs.Values.{kind_of}
use Rattle.clap.specs.declared.error.Error.{Error}
use Rattle.clap.specs.declared.error.kind.ErrorKind.{ErrorKind}
use Rattle.clap.specs.declared.error.kind.ErrorKind.TheVariants.{DisplayHelp, DisplayVersion, OutOfMemory}
use Rattle.clap.specs.Walk.{Text}
use Rattle.std.proofs.Common.{List}
use Rattle.command_line.specs.CommandLine.{AsksForHelp, faults_of}
use Rattle.command_line.proofs.Lines.{help_is_answered}
use Rattle.command_line.proofs.help.help_of.Goals as goal

-- an error of another kind than help, the version or out of memory
other_kind : (words : List Text) (error : Error) (kind : ErrorKind) → kind ≡ kind_of error → HasKind (faults_of words) error
    → (kind ≡ DisplayHelp → ⊥) → (kind ≡ DisplayVersion → ⊥) → (kind ≡ OutOfMemory → ⊥) → AsksForHelp words → ⊥
other_kind words error kind is (inl memory) help version oom asks = oom (is ∙ memory)
other_kind words error kind is (inr among) help version oom asks =
    elim (help_is_answered words (kind_of error) asks among) [ inl h ↦ help (is ∙ h) | inr v ↦ version (is ∙ v) ]

pub returns : goal.returns
returns c = record {
  some = tt;
  none = other_kind (map string_bytes c.args.words.now) c.in-Err.error c.kind.result c.kind.ensures c.in-Err.ensures.kinds
      c.in_default-kind.not-DisplayHelp c.in_default-kind.not-DisplayVersion c.in_default-kind.not-OutOfMemory;
}
