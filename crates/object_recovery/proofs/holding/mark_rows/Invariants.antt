use Rattle.std.proofs.Common.{◌≡◌, length}
use Rattle.object_recovery.specs.Holding.{MarksNamed}
use Rattle.object_recovery.proofs.holding.mark_rows.Given as goal

abbrev pub invariant-loop-row : goal.invariant-loop-row
invariant-loop-row g l = record {
  object : l.rows.object ≡ l.bytes;
  expected : l.rows.expected ≡ l.expected;
  named : MarksNamed l.rows.given l.initial.log l.log;
}

abbrev pub decreases-loop-row : goal.decreases-loop-row
decreases-loop-row g l = length l.rows.rest
