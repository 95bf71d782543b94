use Rattle.vol_replay.proofs.Churned.{never_another, text_sums}
use Rattle.vol_replay.proofs.churning.summary.Goals as goal

pub unreachable-requires : goal.unreachable-requires
unreachable-requires c =
    never_another c.args.rig.now c.status.new.self c.in_ok-entries.field-0 c.in_default.not-Counts c.in_ok-entries.ensures.ok
    c.requires.shows

pub returns : goal.returns
returns c =
    text_sums c.args.steps c.args.mounts c.in_ok-entries.field-0 c.in-Counts.entries c.in-Counts.sealed c.in-Counts.frontier
    c.args.rig.now c.status.new.self c.summary_text.result c.in_ok-entries.ensures.ok c.in-Counts.is c.summary_text.ensures
