use Rattle.std.proofs.Common.{sym, ap, subst, arith}
use Rattle.std.specs.Prelude.{Some}
use Rattle.vol_replay.specs.Lines.{AnswersCommand, lines_answered}
use Rattle.vol_replay.proofs.line.answer_in_place.Goals as goal

pub returns-clause-ok : goal.returns-clause-ok
returns-clause-ok c =
    subst (λ rig. AnswersCommand c.args.command c.in_ok-made.answer c.args.rig.now rig) (sym c.replace.ensures.after)
    (subst (λ rig. AnswersCommand c.args.command c.in_ok-made.answer rig (Some c.in_ok-made.made)) c.take.ensures.value
    c.in_ok-made.ensures.ok)

pub returns-clause-lines : goal.returns-clause-lines
returns-clause-lines c =
    omega (arith, ap lines_answered c.replace.ensures.after, ap lines_answered c.take.ensures.value, c.in_ok-made.ensures.lines)
