use Rattle.std.proofs.Common.{rules}
use Rattle.volume_maps.specs.Maps.{settled_at}
use Rattle.object_uploads.proofs.SealedMapLemmas.{more_in}
use Rattle.object_uploads.proofs.queue.Queue.sealed_map.Goals as goal

pub loop-index-preserved : goal.loop-index-preserved
loop-index-preserved g c =
    more_in c.self.inside.frontier c.self.inside.sealed.items (settled_at c.self.inside.maps) c.loop-index.index c.loop-index.map
    c.index.result.now (search rules) c.index.ensures c.loop-index.invariant c.settle_in.new.map c.settle_in.ensures.places
    c.settle_in.ensures.spare
