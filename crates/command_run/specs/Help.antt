-- Contract: how words that ask for help or for the version are answered.
use Rattle.std.specs.Prelude.{◌≡◌, ℕ, Option, List}
use Rattle.std.specs.Io.KnownBytes.{Appends}
use Rattle.command_line.specs.CommandLine.{AsksForHelp}
use Rattle.lsvd_fault.specs.Faults.{CountsOne}
use Rattle.volume_commands.specs.declared.report.Report.{Report}
use Rattle.volume_commands.specs.declared.report.Report.TheVariants.{Done, Fault, Usage, BadLine, Refused, Missing, Memory}

-- what the output took, and its count of faults, where the answer ended so
abbrev pub IsHelpAnswered : List (List ℕ) → Report → Option (List ℕ) → Option (List ℕ) → ℕ → ℕ → Type 0
-- some text was added, and no write failed
IsHelpAnswered words Done old new before now = AsksForHelp words × (now ≡ before) × ((text : List ℕ) × Appends old new text)
-- a write failed, after some text
IsHelpAnswered words Fault old new before now = AsksForHelp words × CountsOne before now
    × ((text : List ℕ) × Appends old new text)
-- nothing was written
IsHelpAnswered words Memory old new before now = (new ≡ old) × (now ≡ before)
IsHelpAnswered words Usage old new before now = ⊥
IsHelpAnswered words (BadLine number reason) old new before now = ⊥
IsHelpAnswered words (Refused why) old new before now = ⊥
IsHelpAnswered words Missing old new before now = ⊥
