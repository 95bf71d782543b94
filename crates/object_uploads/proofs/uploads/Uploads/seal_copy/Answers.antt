use Rattle.std.proofs.Common.{◌<◌, sym, subst, length}
use Rattle.object_uploads.specs.State.{UploadsState}
use Rattle.object_uploads.specs.Queue.{FitCopy}
use Rattle.object_uploads.specs.declared.rows.SealedRows.TheVariants.{Copy}
use Rattle.object_uploads.proofs.OpenLemmas.{when_ok, full}
use Rattle.object_uploads.proofs.UploadsKept.{uploads_sealed, uploads_same}
use Rattle.object_uploads.proofs.uploads.Uploads.seal_copy.Goals as goal

pub invariant_of-self-2 : goal.invariant_of-self-2
invariant_of-self-2 g c =
    let own = c.self.inside in
    let free = subst (λ (u : UploadsState). length u.window.objects < 16) (sym c.self.view_is) c.requires.places in
    let entered_ = when_ok c.enter.result _ c.enter.ensures.entered
    (λ busy. absurd (full (length own.window.objects) free (c.enter.ensures.busy.0 busy))) in
    let fit = subst (λ (u : UploadsState). FitCopy u.sectors c.args.rows.items) (sym c.self.view_is) c.requires.fit in
    let e = c.in_ok-push.ensures in
    rw (entered_, c.last-number.ensures) (
    uploads_sealed own.uuid own.sectors own.ancestors own.window own.queue c.push.new.self c.args.object (Copy c.args.rows)
    c.end_of_last-end.result
    c.self.invariant fit e.sealed e.frontier e.receipts e.removal e.inherited e.places
    )

pub invariant_of-self : goal.invariant_of-self
invariant_of-self g c =
    let own = c.self.inside in
    let e = c.in_err-push.ensures in
    uploads_same own.uuid own.sectors own.ancestors own.window own.queue c.push.new.self c.self.invariant e.frontier e.same
    e.receipts
    e.removal e.inherited e.places
