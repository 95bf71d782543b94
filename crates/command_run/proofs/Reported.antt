-- What a replay wrote is what its outcome is reported with.
use Rattle.std.proofs.Common.{◌≡◌, ℕ, List, sym, subst}
use Rattle.std.specs.Prelude.{Option, Some, None, IfSome}
use Rattle.std.specs.Io.KnownBytes.{Appends}
use Rattle.vol_replay.specs.declared.outcome.Outcome.{Outcome}
use Rattle.vol_replay.specs.declared.outcome.Outcome.TheVariants.{Done, BadLine, ReadFault, WriteFault, OutOfMemory}
use Rattle.vol_replay.specs.Written.{IsOutcomeOf}
use Rattle.volume_commands.specs.declared.report.Report.{Report}
use Rattle.command_run.specs.Run.{report_of, IsReported}

is_reported : (script text : List ℕ) (outcome : Outcome) → IsOutcomeOf script text outcome
    → IsReported script text (report_of outcome)
is_reported script text (Done rig) written = (written.0, written.1)
is_reported script text (BadLine number reason) written = written
is_reported script text ReadFault written = written
is_reported script text WriteFault written = written
is_reported script text OutOfMemory written = written

pub reported : (script : Option (List ℕ)) (old new : Option (List ℕ)) (outcome : Outcome) (report : Report)
    → report ≡ report_of outcome
    → IfSome script (λ script. (text : List ℕ) × Appends old new text × IsOutcomeOf script text outcome)
    → IfSome script (λ script. (text : List ℕ) × Appends old new text × IsReported script text report)
reported None old new outcome report is written = tt
reported (Some script) old new outcome report is written =
    (written.0, written.1, subst (IsReported script written.0) (sym is) (is_reported script written.0 outcome written.2))
