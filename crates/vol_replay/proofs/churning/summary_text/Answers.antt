use Rattle.vol_replay.proofs.Churned.{lines_pushed}
use Rattle.vol_replay.proofs.churning.summary_text.Goals as goal

pub returns : goal.returns
returns c =
    lines_pushed c.args.steps c.args.writes c.args.sealed c.args.frontier c.args.mounts _ _ _ _ _ _ _ c.new-text.ensures.items
    c.in_ok-push_line.ensures c.in_ok-push_line-2.ensures c.in_ok-push_line-3.ensures c.in_ok-push_line-4.ensures
    c.in_ok-push_line-5.ensures c.in_ok-extend_from_slice.ensures.items
