use Rattle.object_uploads.proofs.UploadsKept.{uploads_same}
use Rattle.object_uploads.proofs.uploads.Uploads.reserve.Goals as goal

pub invariant_of-self : goal.invariant_of-self
invariant_of-self g c =
    let own = c.self.inside in
    let e = c.reserve_entry.ensures in
    uploads_same own.uuid own.sectors own.ancestors own.window own.queue c.reserve_entry.new.self c.self.invariant e.frontier
    e.sealed
    e.receipts e.removal e.inherited e.places
