use Rattle.std.proofs.Common.{◌≡◌, Some, subst}
use Rattle.lsvd_names.specs.Names.{numbered_name}
use Rattle.object_uploads.specs.State.{UploadsState}
use Rattle.object_uploads.specs.Order.{IsUploads}
use Rattle.object_uploads.specs.Removal.{IsRemovedNext, TakesRemoval}
use Rattle.object_uploads.proofs.UploadsKept.{whole}
use Rattle.object_uploads.proofs.TakenKept.{uploads_without, own_name, removed_next, takes_removal}
use Rattle.object_uploads.proofs.uploads.Uploads.take_remove.Given as given
use Rattle.object_uploads.proofs.uploads.Uploads.take_remove.Goals as goal

stays : (g : given.Over) (c : goal.In_ok-receipt g)
    → IsUploads (whole c.self.inside.uuid c.self.inside.sectors c.self.inside.ancestors c.take_remove.new.self
    c.self.inside.window)
stays g c =
    let own = c.self.inside in
    let e = c.in_ok-receipt.ensures in
    uploads_without own.uuid own.sectors own.ancestors own.window own.queue c.take_remove.new.self c.in_ok-receipt.field-0-0
    (g.R.Receipt.state c.in_ok-receipt.receipt) c.self.invariant e.taken e.known

pub invariant_of-self-2 : goal.invariant_of-self-2
invariant_of-self-2 g c = stays g c

pub returns-clause-stays : goal.returns-clause-stays
returns-clause-stays g c = stays g c

pub returns-clause-next : goal.returns-clause-next
returns-clause-next g c =
    let own = c.self.inside in
    let e = c.in_ok-receipt.ensures in
    let receipt = g.R.Receipt.state c.in_ok-receipt.receipt in
    subst (λ (u : UploadsState). IsRemovedNext u.queue.removal u.queue.maps.objects (Some receipt.name.number)) c.self.view_is
    (removed_next own.uuid own.sectors own.ancestors own.window own.queue c.take_remove.new.self c.in_ok-receipt.field-0-0 receipt
    c.self.invariant e.taken e.next)

pub returns-clause-named : goal.returns-clause-named
returns-clause-named g c =
    let own = c.self.inside in
    let receipt = g.R.Receipt.state c.in_ok-receipt.receipt in
    subst (λ (u : UploadsState). receipt.name ≡ numbered_name u.uuid receipt.name.number) c.self.view_is
    (own_name own.uuid own.sectors own.ancestors own.window own.queue c.take_remove.new.self c.in_ok-receipt.field-0-0 receipt
    c.self.invariant c.in_ok-receipt.ensures.taken)

pub returns-clause-taken : goal.returns-clause-taken
returns-clause-taken g c =
    let own = c.self.inside in
    let receipt = g.R.Receipt.state c.in_ok-receipt.receipt in
    subst (λ (u : UploadsState). TakesRemoval receipt.name.number receipt u
    (whole own.uuid own.sectors own.ancestors c.take_remove.new.self own.window)) c.self.view_is
    (takes_removal own.uuid own.sectors own.ancestors own.window own.queue c.take_remove.new.self c.in_ok-receipt.field-0-0
    receipt
    c.self.invariant c.in_ok-receipt.ensures.taken)
