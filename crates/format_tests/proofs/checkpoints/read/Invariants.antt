use Rattle.std.proofs.Common.{length}
use Rattle.format_tests.proofs.checkpoints.read.Given as goal

-- the rows that are not given yet
abbrev pub decreases-loop-given : goal.decreases-loop-given
decreases-loop-given l = length l.rows.rest
