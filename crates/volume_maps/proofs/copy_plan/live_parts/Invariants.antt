use Rattle.std.proofs.Common.{◌≡◌, ℕ, cond, None, take}
use Rattle.extent_map.specs.Extents.{place_at}
use Rattle.reverse_map.specs.Ranges.{is_in_ranges}
use Rattle.volume_maps.specs.Places.{object_on}
use Rattle.volume_maps.specs.Parts.{place_in_object}
use Rattle.volume_maps.proofs.copy_plan.live_parts.Given as goal

-- the parts of the ranges so far are there
abbrev pub invariant-loop-range : goal.invariant-loop-range
invariant-loop-range l = record {
  places : (k : ℕ) → place_at object_on l.live.rows k
      ≡ cond (is_in_ranges (take l.range-index l.ranges) k) (place_in_object l.number (place_at object_on l.settled.rows k)) None;
}
