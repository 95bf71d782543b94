use Rattle.std.proofs.Common.{◌≤◌}
use Rattle.vol_replay.specs.Steps.{HasRun}
use Rattle.vol_replay.proofs.churning.run_steps.Given as goal

abbrev pub invariant-loop : goal.invariant-loop
invariant-loop l = record {
  run : HasRun l.seed l.counter l.draws l.mounts l.rig;
  young : l.rig.lines ≤ l.counter;
  counted : l.mounts ≤ l.counter;
}
