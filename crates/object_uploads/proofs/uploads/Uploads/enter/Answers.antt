use Rattle.std.proofs.Common.{ap}
use Rattle.extent_map.specs.State.{MapState}
use Rattle.volume_maps.specs.declared.place.ObjectPlace.{ObjectPlace}
use Rattle.object_uploads.proofs.UploadsKept.{uploads_kept, are_known_entered, places_same}
use Rattle.object_uploads.proofs.uploads.Uploads.enter.Goals as goal

pub invariant_of-self : goal.invariant_of-self
invariant_of-self g c =
    let own = c.self.inside in
    let new = c.enter.new.self in
    let e = c.enter.ensures in
    uploads_kept own.uuid own.sectors own.ancestors own.window own.queue new c.self.invariant e.frontier e.sealed e.inherited
    (are_known_entered own.uuid own.queue new c.self.invariant.known e.frontier e.receipts e.removal e.settled e.objects)
    (places_same own.sectors own.ancestors own.queue.frontier own.queue.maps new.maps
    (ap (λ (m : MapState ObjectPlace). m.rows) e.settled) c.self.invariant.places)
