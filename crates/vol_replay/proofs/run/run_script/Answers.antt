use Rattle.std.proofs.Common.{ℕ, [], inr, refl, ap}
use Rattle.lsvd_fault.proofs.Streams.{appends_nothing}
use Rattle.transcript.specs.declared.reason.LineReason.TheVariants.{TooLong}
use Rattle.transcript.specs.Transcript.{Stopped, line_after}
use Rattle.vol_replay.proofs.run.run_script.Goals as goal

pub returns-then-script-gt-SCRIPT_LIMIT-clause-transcript : goal.returns-then-script-gt-SCRIPT_LIMIT-clause-transcript
unfolding line_after
returns-then-script-gt-SCRIPT_LIMIT-clause-transcript g c =
    ([], appends_nothing _, inr (c.if-script-gt-SCRIPT_LIMIT.true, refl, ap (λ (n : ℕ). Stopped n TooLong) c.line_number.ensures))
