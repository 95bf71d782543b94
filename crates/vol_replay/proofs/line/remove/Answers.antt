use Rattle.vol_replay.proofs.Commands.{removal_in}
use Rattle.vol_replay.proofs.line.remove.Goals as goal

pub returns-clause-ok : goal.returns-clause-ok
returns-clause-ok c = record {
  by = removal_in c.in_ok-remove.field-0 c.args.rig.now c.remove.new.self c.in_ok-remove.ensures.ok;
}
