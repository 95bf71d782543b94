use Rattle.std.proofs.Common.{◌≡◌, ◌+◌, ◌-◌, ◌<◌, sym, subst, length, ap, ◌∙◌, arith}
use Rattle.object_format.specs.declared.expected.Expected.{Expected}
use Rattle.object_uploads.specs.State.{UploadsState}
use Rattle.object_uploads.specs.declared.rows.SealedRows.TheVariants.{Checkpoint}
use Rattle.object_uploads.specs.Queue.{sealed_at}
use Rattle.object_uploads.specs.Order.{PlacesFitIn}
use Rattle.object_uploads.specs.Checkpoint.{expected_next}
use Rattle.object_uploads.proofs.OpenLemmas.{when_ok, full}
use Rattle.object_uploads.proofs.UploadsKept.{uploads_sealed, uploads_same, sealed_places_fit}
use Rattle.object_uploads.proofs.uploads.Uploads.seal_checkpoint.Goals as goal

pub checkpoint-requires-clause-fit : goal.checkpoint-requires-clause-fit
checkpoint-requires-clause-fit g c =
    let own = c.self.inside in
    let fit = sealed_places_fit own.uuid own.sectors own.ancestors own.window own.queue c.self.invariant in
    let last : own.window.last + 1 - 1 ≡ own.window.last = omega arith in
    let now = subst (λ n. PlacesFitIn own.sectors own.ancestors n (sealed_at own.queue)) (sym last) fit in
    subst (λ (e : Expected). PlacesFitIn e.sectors e.ancestors (e.number - 1) (sealed_at own.queue))
    (ap expected_next c.self.view_is ∙ sym c.expected_next-expected.ensures) now

pub invariant_of-self : goal.invariant_of-self
invariant_of-self g c =
    let own = c.self.inside in
    let e = c.in_err-push.ensures in
    uploads_same own.uuid own.sectors own.ancestors own.window own.queue c.push.new.self c.self.invariant e.frontier e.same
    e.receipts
    e.removal e.inherited e.places

pub invariant_of-self-2 : goal.invariant_of-self-2
invariant_of-self-2 g c =
    let own = c.self.inside in
    let free = subst (λ (u : UploadsState). length u.window.objects < 16) (sym c.self.view_is) c.requires.places in
    let entered_ = when_ok c.enter.result _ c.enter.ensures.entered
    (λ busy. absurd (full (length own.window.objects) free (c.enter.ensures.busy.0 busy))) in
    let number : c.expected_next-expected.result.number ≡ own.window.last + 1 =
    ap (λ (e : Expected). e.number) (c.expected_next-expected.ensures ∙ sym (ap expected_next c.self.view_is)) in
    let e = c.in_ok-push.ensures in
    rw (entered_, number) (
    uploads_sealed own.uuid own.sectors own.ancestors own.window own.queue c.push.new.self _ Checkpoint _ c.self.invariant tt
    e.sealed
    e.frontier e.receipts e.removal e.inherited e.places
    )
