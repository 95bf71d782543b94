use Rattle.std.proofs.Common.{arith}
use Rattle.vol_replay.proofs.Churned.{read_next, read_none}
use Rattle.vol_replay.proofs.churning.read_whole.Goals as goal

pub loop-k-init : goal.loop-k-init
loop-k-init c = record { read = read_none c.args.rig.now; lines = omega arith }

pub loop-k-preserved : goal.loop-k-preserved
loop-k-preserved c = record {
  read = read_next c.loop-k.k c.in_ok-read.field-0 c.args.rig.now c.loop-k.rig c.read.new.self c.loop-k.invariant.read
      c.in_ok-read.ensures.ok c.loop-k-test.true;
  lines = omega (arith, c.read.ensures.lines, c.loop-k.invariant.lines);
}
