use Rattle.std.proofs.Common.{subst, sym}
use Rattle.std.specs.List.{All}
use Rattle.object_uploads.proofs.NamesKept.{IsNamed}
use Rattle.object_uploads.proofs.UploadsKept.{uploads_changed}
use Rattle.object_uploads.proofs.uploads.Uploads.remove_done.Goals as goal

pub invariant_of-self : goal.invariant_of-self
invariant_of-self g c =
    let own = c.self.inside in
    let e = c.remove_done.ensures in
    uploads_changed own.uuid own.sectors own.ancestors own.window own.queue c.remove_done.new.self c.self.invariant e.rest e.known
    (subst (All (IsNamed own.uuid)) (sym e.receipts) c.self.invariant.known.named)
