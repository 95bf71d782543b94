-- Contract: the transcript of a script: which text answers its lines, and how it ends.
use Rattle.std.specs.Prelude.{◌≡◌, ℕ, ◌+◌, ◌^◌, ◌<◌, ◌≤◌, ◌⊎◌, None, List, [], ◌∷◌, ◌++◌, ◌==◌, length, take, count_by}
use Rattle.replay_script.specs.declared.command.Command.{Command}
use Rattle.replay_script.specs.Grammar.{lines_of, SpellsCommand, IsUnknown, HasWrongWordCount, IsMisspelt}
use Rattle.transcript.specs.declared.reason.LineReason.{LineReason}
use Rattle.transcript.specs.declared.reason.LineReason.TheVariants.{UnknownCommand, WordCount, Form, NotAllowed, Letters, TooLong}
use Rattle.transcript.specs.Answers.{State, Answers, IsAllowed, FitsLetters}

-- how a script ends: each of its lines is answered, and that is the state after them; or the line of this number is bad
pub data Ending : Type 0 where
  AllAnswered : State → Ending
  Stopped : (number : ℕ) → LineReason → Ending

-- ---- bad lines

-- the line spells a command that this state does not allow
abbrev pub IsMisplaced : State → List ℕ → Type 0
IsMisplaced state line = (command : Command) × SpellsCommand line command × (IsAllowed state command → ⊥)

-- the line spells a command that this state allows, but whose letters do not fit it
abbrev pub HasUnfitLetters : State → List ℕ → Type 0
HasUnfitLetters state line = (command : Command) × SpellsCommand line command × IsAllowed state command
    × (FitsLetters state command → ⊥)

-- the line is bad for this reason
abbrev pub IsBad : State → List ℕ → LineReason → Type 0
IsBad state line UnknownCommand = (length line ≤ 65536) × IsUnknown line
IsBad state line WordCount = (length line ≤ 65536) × HasWrongWordCount line
IsBad state line Form = (length line ≤ 65536) × IsMisspelt line
IsBad state line NotAllowed = (length line ≤ 65536) × IsMisplaced state line
IsBad state line Letters = (length line ≤ 65536) × HasUnfitLetters state line
IsBad state line TooLong = 65536 < length line

-- ---- lines

-- a line that is answered: its command, the answer, and the state after it
pub record IsAnswered (state : State) (line answer : List ℕ) (next : State) : Type 0 where
  pub short : length line ≤ 65536
  pub command : Command
  pub spelled : SpellsCommand line command
  pub answered : Answers state command answer next

-- The answers to the lines from this state on, each ended by a newline, up to the end or the first bad line, whose number counts
-- on from this one.
abbrev pub Transcript : ℕ → State → List (List ℕ) → List ℕ → Ending → Type 0
Transcript number state [] text ending = (text ≡ []) × (ending ≡ AllAnswered state)
Transcript number state (line ∷ lines) text ending =
    ((answer : List ℕ) × (next : State) × (more : List ℕ) × IsAnswered state line answer next
    × (text ≡ answer ++ 10 ∷ more) × Transcript (number + 1) next lines more ending)
    ⊎ ((text ≡ []) × ((reason : LineReason) × IsBad state line reason × (ending ≡ Stopped number reason)))

-- ---- the whole

-- the number of the line in which the byte after N bytes stands, counted from 1
unfoldable pub line_after : ℕ → List ℕ → ℕ
line_after count script = 1 + count_by (λ b. b == 10) (take count script)

-- The transcript of a script, and its ending. Of a script past its limit nothing is run: bad is the line in which the limit is
-- passed.
abbrev pub IsTranscript : List ℕ → List ℕ → Ending → Type 0
IsTranscript script text ending =
    ((length script ≤ 2 ^ 24) × Transcript 1 None (lines_of script) text ending)
    ⊎ ((2 ^ 24 < length script) × (text ≡ []) × (ending ≡ Stopped (line_after (2 ^ 24) script) TooLong))

-- the front of a transcript
pub record IsFrontOfTranscript (script text : List ℕ) : Type 0 where
  pub rest : List ℕ
  pub ending : Ending
  pub transcript : IsTranscript script (text ++ rest) ending
