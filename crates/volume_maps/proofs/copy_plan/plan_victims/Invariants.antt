use Rattle.std.proofs.Common.{◌≡◌, ℕ, ◌+◌, length, take}
use Rattle.extent_map.specs.Extents.{place_at}
use Rattle.object_stream.specs.Planned.{planned}
use Rattle.volume_maps.specs.Places.{object_on}
use Rattle.volume_maps.specs.Parts.{AreBelow, live_below, ArePlanned}
use Rattle.volume_maps.proofs.copy_plan.plan_victims.Given as goal

-- the sectors of the victims so far are planned
abbrev pub invariant-loop-number : goal.invariant-loop-number
invariant-loop-number l = record {
  room : (volume : ℕ) → AreBelow volume (place_at object_on l.settled.rows)
      → l.room + length (planned l.most (live_below volume (place_at object_on l.settled.rows)) (take l.number-index l.victims))
      ≡ l.most;
  places : ArePlanned l.most (take l.number-index l.victims) l.settled.rows l.planned.rows;
}
