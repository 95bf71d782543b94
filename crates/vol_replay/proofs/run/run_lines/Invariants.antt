use Rattle.std.proofs.Common.{◌≡◌, ◌+◌, ◌^◌, ◌≤◌, length}
use Rattle.vol_replay.specs.Lines.{lines_answered}
use Rattle.vol_replay.proofs.Progress.{IsRunning}
use Rattle.vol_replay.proofs.run.run_lines.Given as goal

abbrev pub invariant-loop-rest : goal.invariant-loop-rest
invariant-loop-rest g l = record {
  run : IsRunning (g.O.Sink.contents l.fn.sink) (g.O.Sink.contents l.sink) l.script l.answers.items l.rest l.number l.rig;
  counted : l.number + length l.rest ≤ 2 ^ 24 + 1;
  young : lines_answered l.rig ≤ l.number;
  none : g.O.Sink.faults l.sink ≡ g.O.Sink.faults l.fn.sink;
}

abbrev pub decreases-loop-rest : goal.decreases-loop-rest
decreases-loop-rest g l = length l.rest
