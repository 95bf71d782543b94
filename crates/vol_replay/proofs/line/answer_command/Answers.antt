use Rattle.std.proofs.Common.{sym, subst}
use Rattle.std.specs.Prelude.{Some, IfOk}
use Rattle.vol_replay.specs.Lines.{AnswersCommand}
use Rattle.vol_replay.proofs.line.answer_command.Goals as goal

pub returns-in-Some-clause-ok : goal.returns-in-Some-clause-ok
returns-in-Some-clause-ok c =
    subst (λ rig. IfOk c.answer_on.result (λ made. AnswersCommand c.args.command made.1 rig (Some made.0))) (sym c.in-Some.is)
    c.answer_on.ensures.ok

pub returns-in-None-clause-ok : goal.returns-in-None-clause-ok
returns-in-None-clause-ok c =
    subst (λ rig. IfOk c.answer_first.result (λ made. AnswersCommand c.args.command made.1 rig (Some made.0)))
    (sym c.in-None.is)
    c.answer_first.ensures.ok
