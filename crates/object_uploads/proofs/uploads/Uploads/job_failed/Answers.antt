use Rattle.std.proofs.Common.{◌≡◌, true, false, sym, subst, ◌∙◌}
use Rattle.object_uploads.specs.State.{UploadsState}
use Rattle.upload_window.specs.Window.{is_started}
use Rattle.object_uploads.specs.Invariant.{IsOpenAt}
use Rattle.object_uploads.proofs.OpenLemmas.{inside}
use Rattle.object_uploads.proofs.UploadsKept.{IsOpenIn, uploads_failed}
use Rattle.object_uploads.proofs.uploads.Uploads.job_failed.Goals as goal

pub give_spare-requires-clause-inside : goal.give_spare-requires-clause-inside
give_spare-requires-clause-inside g c =
    let opened = subst (λ (u : UploadsState). IsOpenAt c.in-Some.index u.queue.sealed false) (sym c.self.view_is)
    c.in-Some.ensures.there in
    inside c.in-Some.index c.self.inside.queue.sealed false opened

pub invariant_of-self : goal.invariant_of-self
invariant_of-self g c =
    let number = c.name.result.now.number in
    let own = c.self.inside in
    let in_ : IsOpenIn c.args.self.now.queue number c.in-Some.index false =
    record { index_is = c.in-Some.ensures.index; past = c.in-Some.ensures.past; opened = c.in-Some.ensures.there } in
    uploads_failed own.uuid own.sectors own.ancestors own.window c.fail.new.self own.queue c.give_spare.new.self number
    c.in-Some.index
    c.self.invariant (subst (λ (u : UploadsState). IsOpenIn u.queue number c.in-Some.index false) (sym c.self.view_is) in_)
    c.give_spare.ensures
    (c.fail.ensures.ready (c.fail.ensures.started ∙ subst (λ (u : UploadsState). is_started number u.window.objects ≡ true)
    (sym c.self.view_is) c.in-Some.ensures.out.started))
