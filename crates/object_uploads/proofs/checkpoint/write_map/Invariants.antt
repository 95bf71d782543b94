use Rattle.std.proofs.Common.{◌≡◌, ◌++◌, length}
use Rattle.std.specs.Prelude.{map}
use Rattle.std.specs.List.{All}
use Rattle.object_uploads.specs.Invariant.{stored_row, IsPlaceWide}
use Rattle.object_uploads.proofs.checkpoint.write_map.Given as goal

-- the rows that were written, and those that are left, are all
abbrev pub invariant-loop-row : goal.invariant-loop-row
invariant-loop-row l = record {
  all : l.writer.rows ++ map stored_row l.rows ≡ map stored_row l.map.rows;
  expected : l.writer.expected ≡ l.expected;
  end : l.writer.end_seq ≡ l.end;
  count : l.writer.count ≡ length l.map.rows;
  wide : All IsPlaceWide l.writer.rows;
}

abbrev pub decreases-loop-row : goal.decreases-loop-row
decreases-loop-row l = length l.rows
