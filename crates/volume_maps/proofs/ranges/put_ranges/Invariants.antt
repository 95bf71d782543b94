use Rattle.std.proofs.Common.{◌+◌, ◌≤◌, length, take}
use Rattle.std.specs.Prelude.{vec_capacity}
use Rattle.volume_maps.specs.Covered.{CoverRows}
use Rattle.volume_maps.proofs.ranges.put_ranges.Given as goal

-- the sectors that the rows so far put are in the ranges, and there is room for the rest
abbrev pub invariant-loop-row : goal.invariant-loop-row
invariant-loop-row l = record {
  covered : CoverRows l.ranges.items (take l.row-index l.rows);
  room : length l.ranges.items + length l.rows ≤ vec_capacity l.ranges + l.row-index;
}
