-- Contract: what the output of a command took, by the texts that the command may tell.
use Rattle.std.specs.Prelude.{◌≡◌, ◌≤◌, ◌⊎◌, ℕ, List, Option, Result, Ok, Err, length, take}
use Rattle.std.specs.Io.KnownBytes.{Appends}
use Rattle.volume_commands.specs.declared.error.CommandError.{CommandError}
use Rattle.volume_commands.specs.declared.error.CommandError.TheVariants as errors
use Rattle.volume_commands.specs.declared.report.Report.{Report}
use Rattle.volume_commands.specs.declared.report.Report.TheVariants.{Done, Fault, Usage, BadLine, Refused, Missing, Memory}

-- a front of a text was added
abbrev pub AppendsFront : List ℕ → Option (List ℕ) → Option (List ℕ) → Type 0
AppendsFront text old new = (n : ℕ) × (n ≤ length text) × Appends old new (take n text)

-- nothing was added, or a front of one of these texts
abbrev pub AppendsFrontOf : (IsText : List ℕ → Type 0) → (old new : Option (List ℕ)) → Type 0
AppendsFrontOf IsText old new = (new ≡ old) ⊎ ((text : List ℕ) × IsText text × AppendsFront text old new)

-- what the output took of a command that may tell one of these texts, where its run ended so
abbrev pub Tells : (IsText : List ℕ → Type 0) → Report → (old new : Option (List ℕ)) → Type 0
Tells IsText Done old new = (text : List ℕ) × IsText text × Appends old new text
Tells IsText (Refused why) old new = new ≡ old
Tells IsText Fault old new = AppendsFrontOf IsText old new
Tells IsText Memory old new = AppendsFrontOf IsText old new
Tells IsText Usage old new = ⊥
Tells IsText (BadLine number reason) old new = ⊥
Tells IsText Missing old new = ⊥

-- so it is of a command that has ended, or did not begin
abbrev pub TellsEnd : (IsText : List ℕ → Type 0) → Result (Unit {0}) CommandError → (old new : Option (List ℕ)) → Type 0
TellsEnd IsText (Ok done) old new = Tells IsText Done old new
TellsEnd IsText (Err (errors.Refused why)) old new = new ≡ old
TellsEnd IsText (Err errors.Fault) old new = AppendsFrontOf IsText old new
TellsEnd IsText (Err errors.OutOfMemory) old new = AppendsFrontOf IsText old new
