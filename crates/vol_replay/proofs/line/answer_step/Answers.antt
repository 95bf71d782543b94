use Rattle.std.proofs.Common.{sym, subst}
use Rattle.std.specs.Prelude.{Some}
use Rattle.transcript.specs.declared.reason.LineReason.TheVariants.{NotAllowed}
use Rattle.vol_replay.specs.declared.line.LineRefusal.TheVariants.{Bad}
use Rattle.vol_replay.specs.Lines.{IsUnanswered}
use Rattle.vol_replay.proofs.Commands.{new_not_allowed}
use Rattle.vol_replay.proofs.line.answer_step.Goals as goal

pub returns-in-New-clause-refused : goal.returns-in-New-clause-refused
returns-in-New-clause-refused c =
    subst (λ command. IsUnanswered (Some c.args.rig.now) command (Bad NotAllowed)) (sym c.in-New.is)
    (new_not_allowed c.in-New.field-0 c.args.rig.now)
