use Rattle.vol_replay.proofs.Churned.{run_shows, reads_show, whole_summed}
use Rattle.vol_replay.proofs.churning.run_whole.Goals as goal

pub summary-requires-clause-shows : goal.summary-requires-clause-shows
summary-requires-clause-shows c =
    let run = c.in_ok-rig.ensures.run in
    reads_show 128 c.in_ok-rig.rig c.read_whole.new.rig c.in_ok-read_whole.ensures.read
    (run_shows c.args.seed c.args.steps run.0 c.in_ok-rig.mounts c.in_ok-rig.rig run.1)

pub returns : goal.returns
returns c =
    let run = c.in_ok-rig.ensures.run in
    whole_summed c.args.seed c.args.steps run.0 c.in_ok-rig.mounts c.in_ok-text.text.items c.in_ok-rig.rig c.read_whole.new.rig
    c.summary.new.rig run.1 c.in_ok-read_whole.ensures.read c.in_ok-text.ensures
