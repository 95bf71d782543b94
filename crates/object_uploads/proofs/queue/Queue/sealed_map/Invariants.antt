use Rattle.volume_maps.specs.Maps.{settled_at}
use Rattle.object_uploads.proofs.SealedMapLemmas.{AreSettledIn}
use Rattle.object_uploads.proofs.queue.Queue.sealed_map.Given as goal

-- the first objects are settled in the map
abbrev pub invariant-loop-index : goal.invariant-loop-index
invariant-loop-index g l =
    AreSettledIn l.self-inside.frontier l.self-inside.sealed.items (settled_at l.self-inside.maps) l.index l.map
