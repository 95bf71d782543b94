use Rattle.std.proofs.Common.{ℕ, ◌≡◌, ◌+◌, [], length, ◌∙◌, ap, sym, subst, arith}
use Rattle.lsvd_names.specs.Names.{numbered_name}
use Rattle.object_uploads.specs.State.{UploadsState}
use Rattle.object_uploads.specs.Queue.{FitSealed}
use Rattle.upload_window.specs.Window.{WindowState}
use Rattle.object_uploads.proofs.UploadsKept.{uploads_same, uploads_adopted}
use Rattle.object_uploads.proofs.uploads.Uploads.adopt.Goals as goal

pub invariant_of-self : goal.invariant_of-self
invariant_of-self g c =
    let own = c.self.inside in
    let e = c.in_err-adopt.ensures in
    uploads_same own.uuid own.sectors own.ancestors own.window own.queue c.adopt.new.self c.self.invariant e.same.frontier
    e.sealed
    e.same.receipts e.same.removal e.same.inherited e.same.places

pub invariant_of-self-2 : goal.invariant_of-self-2
invariant_of-self-2 g c =
    let at : ℕ → WindowState = λ last. record { last = last; objects = [] } in
    let own = c.self.inside in
    let fit = subst (λ (u : UploadsState). FitSealed u.sectors c.args.rows) (sym c.self.view_is) c.requires.fit in
    let none = subst (λ (u : UploadsState). u.queue.sealed ≡ []) (sym c.self.view_is) c.requires.none in
    let is_next = subst (λ (u : UploadsState). (g.R.Receipt.state c.args.receipt).name ≡ numbered_name u.uuid (u.window.last + 1))
    (sym c.self.view_is) c.requires.named in
    let same : own.window.last + 1 ≡ own.queue.frontier + 1 = omega (arith, c.self.invariant.last, ap length none) in
    let named = is_next ∙ ap (numbered_name own.uuid) same in
    uploads_adopted own.uuid own.sectors own.ancestors own.window _ own.queue c.adopt.new.self c.args.rows c.args.end
    (g.R.Receipt.state c.args.receipt) c.self.invariant fit named
    c.in_ok-adopt.ensures.settled c.frontier.ensures.known (c.new-self-inside.ensures ∙ ap at c.frontier.ensures.is)
