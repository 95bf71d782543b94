use Rattle.std.proofs.Common.{◌≡◌, ◌-◌, Some, slice_get, sym, ◌∙◌, ap, subst}
use Rattle.upload_window.specs.Window.{WindowState, IsFrontier}
use Rattle.upload_window.proofs.Order.{frontier_at}
use Rattle.upload_window.proofs.window.Window.frontier.Goals as goal

pub returns-in-Some-clause-frontier : goal.returns-in-Some-clause-frontier
returns-in-Some-clause-frontier c =
    let objects = c.self.inside.objects.items in
    let first = c.in-Some.object.now in
    let value : Some first ≡ slice_get c.as_slice.result.now 0 = c.in-Some.ensures.value in
    let is : slice_get objects 0 ≡ Some first = sym (value ∙ ap (λ xs. slice_get xs 0) c.as_slice.ensures.value) in
    subst (λ (w : WindowState). IsFrontier w (first.number - 1)) c.self.view_is
    (frontier_at objects c.self.inside.last first c.self.invariant.order is)
