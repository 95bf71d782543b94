use Rattle.std.proofs.Common.{◌≡◌, true, false, sym, subst, ◌∙◌, rules}
use Rattle.object_uploads.specs.State.{UploadsState}
use Rattle.upload_window.specs.Window.{is_started}
use Rattle.object_uploads.specs.Order.{IsUploads}
use Rattle.object_uploads.specs.Invariant.{IsOpenAt}
use Rattle.object_uploads.proofs.OpenLemmas.{inside}
use Rattle.object_uploads.proofs.UploadsKept.{whole, IsOpenIn, uploads_done}
use Rattle.object_uploads.proofs.uploads.Uploads.job_done.Given as given
use Rattle.object_uploads.proofs.uploads.Uploads.job_done.Goals as goal

pub acknowledge-requires : goal.acknowledge-requires
acknowledge-requires g c =
    let opened = subst (λ (u : UploadsState). IsOpenAt c.in-Some.index u.queue.sealed false) (sym c.self.view_is)
    c.in-Some.ensures.there in
    inside c.in-Some.index c.self.inside.queue.sealed false opened

stays : (g : given.Over) (c : goal.After-frontier g)
    → IsUploads (whole c.self.inside.uuid c.self.inside.sectors c.self.inside.ancestors c.settle.new.self c.ack.new.self)
stays g c =
    let number = c.name.result.now.number in
    let own = c.self.inside in
    let in_ : IsOpenIn c.args.self.now.queue number c.in-Some.index false =
    record { index_is = c.in-Some.ensures.index; past = c.in-Some.ensures.past; opened = c.in-Some.ensures.there } in
    let started = c.ack.ensures.started ∙ subst (λ (u : UploadsState). is_started number u.window.objects ≡ true)
    (sym c.self.view_is) c.in-Some.ensures.out.started in
    uploads_done own.uuid own.sectors own.ancestors own.window c.ack.new.self own.queue c.acknowledge.new.self c.settle.new.self
    number
    c.in-Some.index c.settle.ensures.settled.0 (g.R.Receipt.state c.args.receipt)
    c.self.invariant (subst (λ (u : UploadsState). IsOpenIn u.queue number c.in-Some.index false) (sym c.self.view_is) in_)
    (search rules) c.acknowledge.ensures
    c.settle.ensures.settled.1 c.settle.ensures.waits c.frontier.ensures.known
    (c.ack.ensures.begun started)
    (c.ack.ensures.acknowledged started)

pub invariant_of-self : goal.invariant_of-self
invariant_of-self g c = stays g c

pub returns-clause-stays : goal.returns-clause-stays
returns-clause-stays g c = stays g c
