use Rattle.std.proofs.Common.{length}
use Rattle.format_tests.proofs.checkpoints.tell_rows.Given as goal

-- the rows that are not given yet
abbrev pub decreases-loop-row : goal.decreases-loop-row
decreases-loop-row l = length l.rows.rest
