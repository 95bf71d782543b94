use Rattle.std.proofs.Common.{◌≡◌, ◌+◌, ◌≤◌, ℕ, take}
use Rattle.extent_map.specs.Extents.{place_at}
use Rattle.volume_maps.specs.Places.{log_on}
use Rattle.volume_maps.specs.Maps.{logged_by}
use Rattle.volume_maps.proofs.maps.drop_older.Given as goal

-- those of the rows so far are dropped
abbrev pub invariant-loop-row : goal.invariant-loop-row
invariant-loop-row l = record {
  places : (k : ℕ) → place_at log_on l.log.rows k ≡ logged_by l.end (take l.row-index l.rows)
      (place_at log_on l.fn.log.rows k) k;
  spare : l.fn.log.spare ≤ l.log.spare + l.row-index;
}
