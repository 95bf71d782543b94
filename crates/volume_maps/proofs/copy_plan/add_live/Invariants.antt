use Rattle.std.proofs.Common.{◌≡◌, ◌+◌, ◌-◌, ◌≤◌}
use Rattle.extent_map.specs.Extents.{place_at}
use Rattle.volume_maps.specs.Places.{object_on}
use Rattle.volume_maps.proofs.PartLemmas.{IsAddedTo}
use Rattle.volume_maps.proofs.copy_plan.add_live.Given as goal

-- the parts of the range before the place are added
abbrev pub invariant-loop-part : goal.invariant-loop-part
invariant-loop-part l = record {
  range : l.end ≡ l.range.lba + l.range.sectors;
  low : l.range.lba ≤ l.from;
  high : l.from ≤ l.end;
  places : IsAddedTo l.number l.range.lba (place_at object_on l.settled.rows) (place_at object_on l.fn.live.rows) l.from
      (place_at object_on l.live.rows);
}

abbrev pub decreases-loop-part : goal.decreases-loop-part
decreases-loop-part l = l.end - l.from
