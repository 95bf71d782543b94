use Rattle.vol_replay.proofs.Commands.{read_in}
use Rattle.vol_replay.proofs.line.read.Goals as goal

pub returns-clause-ok : goal.returns-clause-ok
returns-clause-ok c = record {
  by = read_in c.args.lba c.args.sectors c.in_ok-read.field-0 c.args.rig.now c.read.new.self c.in_ok-read.ensures.ok;
}
