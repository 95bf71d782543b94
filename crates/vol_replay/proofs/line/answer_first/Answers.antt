use Rattle.vol_replay.proofs.Commands.{first_made, first_refused}
use Rattle.vol_replay.proofs.line.answer_first.Goals as goal
use Rattle.vol_replay.proofs.line.answer_first.Goals.{in-New, in_default}

pub returns-clause-ok : goal.returns-clause-ok
returns-clause-ok c =
    elim c.match-command.branch [
      | in-New w ↦ first_made c.args.command _ c.match-command.result w.create.result w.result-is w.in-New.is w.create.ensures.ok
      | in_default w ↦ first_refused c.args.command c.match-command.result _ w.result-is
    ]
