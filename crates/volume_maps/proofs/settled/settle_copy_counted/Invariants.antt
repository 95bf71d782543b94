use Rattle.std.proofs.Common.{◌≡◌, ◌+◌, ◌-◌, ◌≤◌}
use Rattle.extent_map.specs.Extents.{place_at}
use Rattle.volume_maps.specs.Places.{object_on}
use Rattle.volume_maps.specs.Live.{HasSameObjects}
use Rattle.volume_maps.specs.Kept.{IsKept}
use Rattle.volume_maps.proofs.CopyLemmas.{IsSettledTo}
use Rattle.volume_maps.proofs.settled.settle_copy_counted.Given as goal

-- the row's sectors before the place are settled
abbrev pub invariant-loop-part : goal.invariant-loop-part
invariant-loop-part l = record {
  range : l.end ≡ l.row.lba + l.row.sectors;
  low : l.row.lba ≤ l.from;
  high : l.from ≤ l.end;
  places : IsSettledTo l.number l.row (place_at object_on l.fn.settled.rows) l.from (place_at object_on l.settled.rows);
  spare : l.fn.settled.spare ≤ l.settled.spare + (l.from - l.row.lba);
  kept : IsKept l.settled.rows l.objects;
  same : HasSameObjects l.fn.objects l.objects;
  object_spare : l.objects.spare ≡ l.fn.objects.spare;
}

abbrev pub decreases-loop-part : goal.decreases-loop-part
decreases-loop-part l = l.end - l.from
