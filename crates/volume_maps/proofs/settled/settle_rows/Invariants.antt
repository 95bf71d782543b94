use Rattle.std.proofs.Common.{◌≡◌, ◌+◌, ◌≤◌, ℕ, take}
use Rattle.extent_map.specs.Extents.{place_at}
use Rattle.volume_maps.specs.Places.{object_on}
use Rattle.volume_maps.specs.Maps.{settled_by}
use Rattle.volume_maps.proofs.settled.settle_rows.Given as goal

-- the rows so far are settled
abbrev pub invariant-loop-row : goal.invariant-loop-row
invariant-loop-row l = record {
  places : (k : ℕ) → place_at object_on l.map.rows k ≡ settled_by l.number (take l.row-index l.rows)
      (place_at object_on l.fn.map.rows k) k;
  spare : l.fn.map.spare ≤ l.map.spare + l.row-index;
}
