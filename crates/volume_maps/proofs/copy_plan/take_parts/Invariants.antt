use Rattle.std.proofs.Common.{◌≡◌, ℕ, ◌+◌, ◌-◌, ◌≤◌, length}
use Rattle.std.specs.Option.{option_or}
use Rattle.extent_map.specs.Extents.{place_at, IsShortest, AllFit}
use Rattle.volume_maps.specs.Places.{object_on, object_number}
use Rattle.volume_maps.specs.Parts.{sector_total, first_sectors}
use Rattle.volume_maps.proofs.copy_plan.take_parts.Given as goal

-- what is taken and what is still to be taken of the parts that are left is what is to be taken of all
abbrev pub invariant-loop-part : goal.invariant-loop-part
invariant-loop-part l = record {
  most : l.taken ≤ l.most;
  count : l.taken + sector_total (first_sectors (l.most - l.taken) l.parts) ≡ sector_total (first_sectors l.most l.live.rows);
  places : (k : ℕ)
      → option_or (place_at object_on (first_sectors (l.most - l.taken) l.parts) k) (place_at object_on l.planned.rows k)
      ≡ option_or (place_at object_on (first_sectors l.most l.live.rows) k) (place_at object_on l.fn.planned.rows k);
  shortest : IsShortest object_on l.parts;
  fits : AllFit object_number l.parts;
}

abbrev pub decreases-loop-part : goal.decreases-loop-part
decreases-loop-part l = length l.parts
