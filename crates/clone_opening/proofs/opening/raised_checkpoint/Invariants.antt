use Rattle.std.proofs.Common.{◌≡◌, ◌+◌, length}
use Rattle.std.specs.Prelude.{map}
use Rattle.clone_opening.specs.Raised.{raised}
use Rattle.clone_opening.proofs.opening.raised_checkpoint.Given as goal

-- the rows that were given are written, each raised
abbrev pub invariant-loop-row : goal.invariant-loop-row
invariant-loop-row l = record {
  object : l.rows.object ≡ l.bytes;
  base : l.rows.expected ≡ l.base;
  clone : l.writer.expected ≡ l.clone;
  end : l.writer.end_seq ≡ 0;
  written : l.writer.rows ≡ map raised l.rows.given;
  count : l.writer.count ≡ length l.rows.given + length l.rows.rest;
}

abbrev pub decreases-loop-row : goal.decreases-loop-row
decreases-loop-row l = length l.rows.rest
