use Rattle.std.proofs.Common.{◌≡◌, Some, slice_get, sym, ◌∙◌, ap}
use Rattle.upload_window.specs.Window.{is_ready_number}
use Rattle.upload_window.specs.Ready.{number_may_start}
use Rattle.upload_window.proofs.Lowest.{ready_by}
use Rattle.upload_window.proofs.window.Window.ready.Goals as goal

pub returns-in-Some : goal.returns-in-Some
returns-in-Some c =
    let objects = c.self.inside.objects.items in
    let lowest = c.in-Some.lowest.now in
    let value : Some lowest ≡ slice_get c.as_slice-objects.result.now 0 = c.in-Some.ensures.value in
    let is : slice_get objects 0 ≡ Some lowest = sym (value ∙ ap (λ xs. slice_get xs 0) c.as_slice-objects.ensures.value) in
    c.number_may_start.ensures
    ∙ ap (λ xs. number_may_start c.args.number lowest.number xs) c.as_slice-objects.ensures.value
    ∙ ready_by c.args.number objects c.self.inside.last lowest c.self.invariant.order is
    ∙ ap (λ w. is_ready_number c.args.number w.objects) c.self.view_is
