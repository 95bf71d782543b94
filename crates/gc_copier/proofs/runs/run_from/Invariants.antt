use Rattle.std.proofs.Common.{◌≡◌}
use Rattle.gc_copier.specs.Runs.{IsRun}
use Rattle.gc_copier.proofs.runs.run_from.Given as goal

abbrev pub invariant-loop-row : goal.invariant-loop-row
invariant-loop-row l = (l.run.rows ≡ l.row-index) × IsRun l.first l.rows l.run
