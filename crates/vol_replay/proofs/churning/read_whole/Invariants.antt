use Rattle.std.proofs.Common.{◌+◌, ◌≤◌}
use Rattle.vol_replay.specs.Steps.{HasRead}
use Rattle.vol_replay.proofs.churning.read_whole.Given as goal

abbrev pub invariant-loop-k : goal.invariant-loop-k
invariant-loop-k l = record {
  read : HasRead l.k l.fn.rig l.rig;
  lines : l.rig.lines ≤ l.fn.rig.lines + l.k;
}
