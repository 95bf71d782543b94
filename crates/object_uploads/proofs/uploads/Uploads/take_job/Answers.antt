use Rattle.std.proofs.Common.{Some, ◌≡◌, true, sym, subst, ◌∙◌}
use Rattle.object_uploads.specs.State.{UploadsState}
use Rattle.std.specs.Prelude.{IfSome}
use Rattle.upload_window.specs.Window.{lowest_ready, marked}
use Rattle.object_uploads.proofs.UploadsKept.{IsOpenIn, uploads_taken}
use Rattle.object_uploads.proofs.uploads.Uploads.take_job.Goals as goal

pub invariant_of-self : goal.invariant_of-self
invariant_of-self g c =
    let number = c.in_ok-number.number in
    let own = c.self.inside in
    let in_ : IsOpenIn c.args.self.now.queue number c.in_ok-number.index true =
    record {
      index_is = c.in_ok-number.ensures.index;
      past = c.in_ok-number.ensures.past;
      opened = c.in_ok-number.ensures.there;
    } in
    let lowest = subst (λ (u : UploadsState). Some number ≡ lowest_ready u.window.objects) (sym c.self.view_is)
    c.in_ok-number.ensures.lowest in
    uploads_taken own.uuid own.sectors own.ancestors own.window c.take.new.self own.queue c.take_spare-object.new.self number
    c.in_ok-number.index c.self.invariant
    (subst (λ (u : UploadsState). IsOpenIn u.queue number c.in_ok-number.index true) (sym c.self.view_is) in_)
    c.take_spare-object.ensures.taken (sym lowest)
    (subst (λ r. IfSome r (λ n. c.take.new.self ≡ marked n true own.window)) (c.take.ensures.lowest ∙ sym lowest)
    c.take.ensures.started)
