use Rattle.std.proofs.Common.{◌≡◌, ◌+◌, ◌≤◌, ℕ, take}
use Rattle.std.specs.List.{sum_by}
use Rattle.extent_map.specs.Extents.{place_at}
use Rattle.object_format.specs.declared.copy_row.CopyRow.{CopyRow}
use Rattle.volume_maps.specs.Places.{object_on}
use Rattle.volume_maps.specs.Live.{HasSameObjects}
use Rattle.volume_maps.specs.Kept.{IsKept}
use Rattle.volume_maps.specs.Maps.{settled_by_copy}
use Rattle.volume_maps.proofs.settled.settle_copies_counted.Given as goal

-- the rows so far are settled
abbrev pub invariant-loop-row : goal.invariant-loop-row
invariant-loop-row l = record {
  places : (k : ℕ) → place_at object_on l.settled.rows k ≡ settled_by_copy l.number (take l.row-index l.rows)
      (place_at object_on l.fn.settled.rows k) k;
  spare : l.fn.settled.spare ≤ l.settled.spare + sum_by (λ (row : CopyRow). row.sectors) (take l.row-index l.rows);
  kept : IsKept l.settled.rows l.objects;
  same : HasSameObjects l.fn.objects l.objects;
  object_spare : l.objects.spare ≡ l.fn.objects.spare;
}
