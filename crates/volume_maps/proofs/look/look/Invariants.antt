use Rattle.std.proofs.Common.{◌≡◌, ◌+◌, ◌-◌, ◌≤◌, ℕ}
use Rattle.extent_map.specs.Extents.{place_at, place_in_range, IsShortest, AllFit}
use Rattle.volume_maps.specs.Places.{volume_on, volume_number}
use Rattle.volume_maps.specs.Look.{combined, AreClosedAt}
use Rattle.volume_maps.proofs.look.look.Given as goal

abbrev pub invariant-loop-row : goal.invariant-loop-row
invariant-loop-row l =
    (l.end ≡ l.lba + l.sectors)
    × (l.lba ≤ l.from)
    × (l.from ≤ l.end)
    × IsShortest volume_on l.rows.items
    × AreClosedAt l.from l.end (combined l.settled l.log) l.rows.items
    × ((k : ℕ) → place_at volume_on l.rows.items k ≡ place_in_range l.lba (l.from - l.lba) (combined l.settled l.log) k)
    × AllFit volume_number l.rows.items

abbrev pub decreases-loop-row : goal.decreases-loop-row
decreases-loop-row l = l.end - l.from
