use Rattle.std.proofs.Common.{◌≡◌, length}
use Rattle.object_recovery.proofs.checkpoint.end_of_rows.Given as goal

abbrev pub invariant-loop-rows : goal.invariant-loop-rows
invariant-loop-rows l = record {
  object : l.rows.object ≡ l.bytes;
  expected : l.rows.expected ≡ l.expected;
}

abbrev pub decreases-loop-rows : goal.decreases-loop-rows
decreases-loop-rows l = length l.rows.rest
