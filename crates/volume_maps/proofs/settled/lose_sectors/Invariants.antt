use Rattle.std.proofs.Common.{◌≡◌, ◌+◌, ◌-◌, ◌≤◌}
use Rattle.volume_maps.specs.Live.{HasSameObjects}
use Rattle.volume_maps.specs.Kept.{IsCountedBut}
use Rattle.volume_maps.proofs.settled.lose_sectors.Given as goal

-- the sectors of the range before the place are lost
abbrev pub invariant-loop-row : goal.invariant-loop-row
invariant-loop-row l = record {
  range : l.end ≡ l.lba + l.sectors;
  low : l.lba ≤ l.from;
  high : l.from ≤ l.end;
  lost : IsCountedBut l.settled.rows l.lba (l.from - l.lba) l.objects;
  same : HasSameObjects l.fn.objects l.objects;
  object_spare : l.objects.spare ≡ l.fn.objects.spare;
}

abbrev pub decreases-loop-row : goal.decreases-loop-row
decreases-loop-row l = l.end - l.from
