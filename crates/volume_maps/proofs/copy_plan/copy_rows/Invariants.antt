use Rattle.std.proofs.Common.{◌≡◌, ◌+◌, ◌≤◌, ◌++◌, length, vec_capacity}
use Rattle.extent_map.specs.Extents.{IsShortest, AllFit}
use Rattle.extent_map.specs.Laws.{StartsFrom}
use Rattle.volume_maps.specs.Places.{object_on, object_number}
use Rattle.volume_maps.specs.Parts.{rows_of_parts}
use Rattle.volume_maps.proofs.copy_plan.copy_rows.Given as goal

-- The rows so far and those of the parts that are left are all, and there is room for these. The sectors so far are no more than
-- lie before the next part.
abbrev pub invariant-loop-part : goal.invariant-loop-part
invariant-loop-part l = record {
  all : l.rows.items ++ rows_of_parts l.place l.parts ≡ rows_of_parts 0 l.planned.rows;
  room : length l.rows.items + length l.parts ≤ vec_capacity l.rows;
  before : StartsFrom l.place l.parts;
  shortest : IsShortest object_on l.parts;
  fits : AllFit object_number l.parts;
}

abbrev pub decreases-loop-part : goal.decreases-loop-part
decreases-loop-part l = length l.parts
