use Rattle.std.proofs.Common.{sym, ◌∙◌, ap}
use Rattle.std.specs.Prelude.{option_map}
use Rattle.object_uploads.specs.State.{StoredObject, QueueState}
use Rattle.object_uploads.specs.Queue.{stored_at}
use Rattle.object_uploads.proofs.QueueStored.{stored_receipt}
use Rattle.object_uploads.proofs.queue.Queue.receipt.Goals as goal

pub returns : goal.returns
returns g c =
    let stored = stored_receipt _ c.args.place.now c.self.invariant.2 c.if-place-ne0.false in
    c.get.ensures ∙ (sym stored
    ∙ ap (λ (q : QueueState). option_map (λ (o : StoredObject). o.receipt) (stored_at q c.args.place.now)) c.self.view_is)
