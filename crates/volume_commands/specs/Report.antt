-- Contract: how a run of the program is reported.
use Rattle.std.specs.Prelude.{◌≡◌, ℕ, ◌≤◌, ◌⊎◌, Option, List, [], ◌++◌, length, take, codes, decimal}
use Rattle.std.specs.Io.KnownBytes.{Appends}
use Rattle.lsvd_fault.specs.Faults.{CountsOne}
use Rattle.transcript.specs.Reason.{code_of}
use Rattle.volume_commands.specs.Refusal.{refusal_line}
use Rattle.volume_commands.specs.declared.report.Report.{Report}
use Rattle.volume_commands.specs.declared.report.Report.TheVariants.{Done, Fault, Usage, BadLine, Refused, Missing, Memory}

-- the exit status
abbrev pub status_of : Report → ℕ
status_of Done = 0
status_of Fault = 1
status_of Usage = 2
status_of (BadLine number reason) = 3
status_of (Refused why) = 3
status_of Missing = 3
status_of Memory = 4

-- the line on the error stream, with its newline; there is none for a run that is done, nor for one whose output tells the end
abbrev pub line_of : Report → List ℕ
line_of Done = []
line_of Fault = codes "fault\n"
line_of Usage = codes "usage\n"
line_of (BadLine number reason) = codes "line " ++ decimal number ++ codes " reason " ++ decimal (code_of reason) ++ codes "\n"
line_of (Refused why) = refusal_line why
line_of Missing = []
line_of Memory = codes "memory\n"

-- the sink took the line; or a write failed, which was counted, and it took a front of the line
abbrev pub IsTold : Option (List ℕ) → Option (List ℕ) → ℕ → ℕ → List ℕ → Type 0
IsTold old new before now line =
    ((now ≡ before) × Appends old new line)
    ⊎ (CountsOne before now × ((n : ℕ) × (n ≤ length line) × Appends old new (take n line)))
