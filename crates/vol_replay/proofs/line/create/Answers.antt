use Rattle.vol_replay.proofs.Commands.{created_in}
use Rattle.vol_replay.proofs.line.create.Goals as goal

pub returns-clause-ok : goal.returns-clause-ok
returns-clause-ok c = record {
  by = created_in c.args.geometry c.in_ok-rig.rig c.in_ok-rig.ensures.shows;
}
