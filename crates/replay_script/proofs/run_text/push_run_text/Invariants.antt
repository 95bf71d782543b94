use Rattle.std.proofs.Common.{◌≡◌, ◌++◌, length}
use Rattle.std.specs.Io.{StartsWith}
use Rattle.replay_script.specs.RunText.{text_of_runs, runs_of}
use Rattle.replay_script.proofs.run_text.push_run_text.Given as goal

abbrev pub invariant-loop-rest : goal.invariant-loop-rest
invariant-loop-rest l = record {
  text : l.out.items ++ text_of_runs (runs_of l.rest) ≡ l.initial.out.items ++ text_of_runs (runs_of l.fn.bytes);
  kept : StartsWith l.out.items l.initial.out.items;
}

abbrev pub decreases-loop-rest : goal.decreases-loop-rest
decreases-loop-rest l = length l.rest
