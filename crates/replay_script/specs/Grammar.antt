-- Contract: the grammar of scripts: which bytes are a line, and which lines spell a command.
use Rattle.std.specs.Prelude.{◌≡◌, ℕ, ◌/◌, ◌%◌, ◌^◌, ◌<◌, List, [], ◌∷◌, ◌==◌, IsTrue, if◌then◌else◌, length, take, codes}
use Rattle.std.specs.Prelude.{decimal}
use Rattle.std.specs.Char.{digit_char}
use Rattle.std.specs.List.{slice_split}
use Rattle.lsvd_base.specs.Limits.{is_within_limits}
use Rattle.lsvd_base.specs.declared.geometry.Geometry.{Geometry}
use Rattle.replay_script.specs.declared.command.Command.{Command}
use Rattle.replay_script.specs.declared.command.Command.TheVariants.{New, Write, Zero, Read, Flush, Seal, TakeJob, JobDone}
use Rattle.replay_script.specs.declared.command.Command.TheVariants.{JobFailed, SealCheckpoint, Remove, PlanCopy, SealCopy}
use Rattle.replay_script.specs.declared.command.Command.TheVariants.{DropPlan, Status, Stop}
use Rattle.replay_script.specs.declared.command.Command.TheVariants.{CrashKeep, CrashLost}
use Rattle.replay_script.specs.declared.error.LineError.{LineError}
use Rattle.replay_script.specs.declared.error.LineError.TheVariants.{UnknownCommand, WordCount, Form, OutOfMemory}

-- the parts between newlines; an empty last part is no line, so that the last newline may be absent
abbrev pub without_empty_last : List (List ℕ) → List (List ℕ)
without_empty_last [] = []
without_empty_last (part ∷ []) = if length part == 0 then [] else part ∷ []
without_empty_last (part ∷ next ∷ more) = part ∷ without_empty_last (next ∷ more)

abbrev pub lines_of : List ℕ → List (List ℕ)
lines_of script = without_empty_last (slice_split (λ b. b == 10) script)

-- the words of a line: the parts between single spaces
abbrev pub words_of : List ℕ → List (List ℕ)
words_of line = slice_split (λ b. b == 32) line

-- a byte as two lower-case hexadecimal digits
abbrev pub hexadecimal : ℕ → List ℕ
hexadecimal byte = digit_char (byte / 16) ∷ digit_char (byte % 16) ∷ []

-- the words that spell a command; a number is in decimal digits without sign or needless zeros
abbrev pub command_spelling : Command → List (List ℕ)
command_spelling (New g) = codes "new" ∷ decimal g.sectors ∷ decimal g.log ∷ decimal g.max_write ∷ decimal g.batch ∷ []
command_spelling (Write lba sectors byte) = codes "w" ∷ decimal lba ∷ decimal sectors ∷ hexadecimal byte ∷ []
command_spelling (Zero lba sectors) = codes "z" ∷ decimal lba ∷ decimal sectors ∷ []
command_spelling (Read lba sectors) = codes "r" ∷ decimal lba ∷ decimal sectors ∷ []
command_spelling Flush = codes "f" ∷ []
command_spelling Seal = codes "s" ∷ []
command_spelling TakeJob = codes "u" ∷ []
command_spelling (JobDone number) = codes "d" ∷ decimal number ∷ []
command_spelling (JobFailed number) = codes "x" ∷ decimal number ∷ []
command_spelling SealCheckpoint = codes "c" ∷ []
command_spelling Remove = codes "k" ∷ []
command_spelling PlanCopy = codes "g" ∷ []
command_spelling SealCopy = codes "G" ∷ []
command_spelling DropPlan = codes "q" ∷ []
command_spelling Status = codes "i" ∷ []
command_spelling (Stop calls) = codes "stop" ∷ decimal calls ∷ []
command_spelling (CrashKeep device objects) = codes "crash" ∷ codes "keep" ∷ device ∷ objects ∷ []
command_spelling (CrashLost device objects) = codes "crash" ∷ codes "lost" ∷ device ∷ objects ∷ []

-- each size of a geometry is below 2^64
abbrev pub SizesFit : Geometry → Type 0
SizesFit g = (g.sectors < 2 ^ 64) × (g.log < 2 ^ 64) × (g.max_write < 2 ^ 64) × (g.batch < 2 ^ 64)

-- The numbers of a command are below 2^64, a byte is one, and a geometry keeps the limits of a volume. Letters are any
-- word: a word has no space.
abbrev pub Fits : Command → Type 0
Fits (New g) = IsTrue (is_within_limits g)
Fits (Write lba sectors byte) = (lba < 2 ^ 64) × (sectors < 2 ^ 64) × (byte < 256)
Fits (Zero lba sectors) = (lba < 2 ^ 64) × (sectors < 2 ^ 64)
Fits (Read lba sectors) = (lba < 2 ^ 64) × (sectors < 2 ^ 64)
Fits Flush = Unit {0}
Fits Seal = Unit {0}
Fits TakeJob = Unit {0}
Fits (JobDone number) = number < 2 ^ 64
Fits (JobFailed number) = number < 2 ^ 64
Fits SealCheckpoint = Unit {0}
Fits Remove = Unit {0}
Fits PlanCopy = Unit {0}
Fits SealCopy = Unit {0}
Fits DropPlan = Unit {0}
Fits Status = Unit {0}
Fits (Stop calls) = calls < 2 ^ 64
Fits (CrashKeep device objects) = Unit {0}
Fits (CrashLost device objects) = Unit {0}

-- a line is a command
pub record SpellsCommand (line : List ℕ) (command : Command) : Type 0 where
  pub words : words_of line ≡ command_spelling command
  pub fits : Fits command

-- the words of a command's name: one or two
abbrev pub command_name : Command → List (List ℕ)
command_name (New g) = codes "new" ∷ []
command_name (Write lba sectors byte) = codes "w" ∷ []
command_name (Zero lba sectors) = codes "z" ∷ []
command_name (Read lba sectors) = codes "r" ∷ []
command_name Flush = codes "f" ∷ []
command_name Seal = codes "s" ∷ []
command_name TakeJob = codes "u" ∷ []
command_name (JobDone number) = codes "d" ∷ []
command_name (JobFailed number) = codes "x" ∷ []
command_name SealCheckpoint = codes "c" ∷ []
command_name Remove = codes "k" ∷ []
command_name PlanCopy = codes "g" ∷ []
command_name SealCopy = codes "G" ∷ []
command_name DropPlan = codes "q" ∷ []
command_name Status = codes "i" ∷ []
command_name (Stop calls) = codes "stop" ∷ []
command_name (CrashKeep device objects) = codes "crash" ∷ codes "keep" ∷ []
command_name (CrashLost device objects) = codes "crash" ∷ codes "lost" ∷ []

-- these words begin with the command's name, or are a front of that name
abbrev pub BeginAs : List (List ℕ) → Command → Type 0
BeginAs words command = take (length words) (command_name command) ≡ take (length (command_name command)) words

-- the line begins with the command's name, or is a front of that name
abbrev pub BeginsAs : List ℕ → Command → Type 0
BeginsAs line command = BeginAs (words_of line) command

-- the line has as many words as the command
abbrev pub CountsAs : List ℕ → Command → Type 0
CountsAs line command = length (words_of line) ≡ length (command_spelling command)

-- the line begins with no command's name, and is no front of one
abbrev pub IsUnknown : List ℕ → Type 0
IsUnknown line = (command : Command) → ¬ BeginsAs line command

-- the line begins with some command's name or is a front of that name, and no such command has as many words
pub record HasWrongWordCount (line : List ℕ) : Type 0 where
  pub command : Command
  pub known : BeginsAs line command
  pub miscounted : (other : Command) → BeginsAs line other → ¬ CountsAs line other

-- the line begins with some command's name and has as many words as the command, but it spells none
pub record IsMisspelt (line : List ℕ) : Type 0 where
  pub command : Command
  pub known : BeginsAs line command
  pub counted : CountsAs line command
  pub unspelled : (other : Command) → ¬ SpellsCommand line other

-- why the line spells no command; where it is out of memory, nothing is said
abbrev pub IsLineRefusedAs : List ℕ → LineError → Type 0
IsLineRefusedAs line UnknownCommand = IsUnknown line
IsLineRefusedAs line WordCount = HasWrongWordCount line
IsLineRefusedAs line Form = IsMisspelt line
IsLineRefusedAs line OutOfMemory = Unit {0}

-- ---- the same of words, for the private clauses

-- a line of these words spells the command
abbrev pub Spell : List (List ℕ) → Command → Type 0
Spell words command = (words ≡ command_spelling command) × Fits command

-- a line of these words spells no command
abbrev pub SpellNone : List (List ℕ) → Type 0
SpellNone words = (command : Command) → ¬ Spell words command

-- a line of these words is refused so
abbrev pub AreRefusedAs : List (List ℕ) → LineError → Type 0
AreRefusedAs words error = (line : List ℕ) → words_of line ≡ words → IsLineRefusedAs line error
