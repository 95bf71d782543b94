use Rattle.vol_replay.proofs.Churned.{takes_next, never_refused}
use Rattle.vol_replay.proofs.churning.take_next.Goals as goal

pub unreachable-requires : goal.unreachable-requires
unreachable-requires c =
    let refused = rw c.in-Err-Bad.field-0-is at c.in-Err-Bad.ensures.refused in
    never_refused c.args.draws.now c.lowest_out.result c.has_copy.result c.in_ok-command.command c.in-Err-Bad.field-0-0 c.args.rig
    (record { lowest_is = c.lowest_out.ensures; plan_is = c.has_copy.ensures }) c.in_ok-command.ensures.command refused
    c.requires.shows

pub returns-in-Ok-clause-takes : goal.returns-in-Ok-clause-takes
returns-in-Ok-clause-takes c =
    takes_next c.args.draws.now c.lowest_out.result c.has_copy.result c.mounts_of-mounts.result c.in_ok-command.command
    c.in-Ok.answer c.args.rig c.in-Ok.rig
    (record { lowest_is = c.lowest_out.ensures; plan_is = c.has_copy.ensures }) c.in_ok-command.ensures.command
    c.mounts_of-mounts.ensures.mounts c.in-Ok.ensures.ok
