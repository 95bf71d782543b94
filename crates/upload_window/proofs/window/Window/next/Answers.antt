use Rattle.std.proofs.Common.{◌≡◌, ◌∙◌, Some, None, slice_get, slice_index_or, sym, ap}
use Rattle.std.specs.List.{position}
use Rattle.upload_window.specs.Window.{lowest_ready}
use Rattle.upload_window.specs.Ready.{may_start}
use Rattle.upload_window.proofs.Places.{blank}
use Rattle.upload_window.proofs.Lowest.{lowest_at, lowest_none}
use Rattle.upload_window.proofs.window.Window.next.Goals as goal

pub returns-in_err-place : goal.returns-in_err-place
returns-in_err-place c =
    let objects = c.self.inside.objects.items in
    let first = c.in_ok-lowest.field-0.now in
    let value : Some first ≡ slice_get c.as_slice-objects.result.now 0 =
    c.in_ok-lowest.ensures.value in
    let is : slice_get objects 0 ≡ Some first = sym (value ∙ ap (λ xs. slice_get xs 0) c.as_slice-objects.ensures.value) in
    let at : position (may_start first.number) objects ≡ None =
    sym (c.in_err-place.ensures ∙ ap (λ xs. position (may_start first.number) xs) c.as_slice-objects.ensures.value) in
    c.from_residual-in_err-place.ensures
    ∙ lowest_none objects c.self.inside.last first c.self.invariant.order is at
    ∙ ap (λ w. lowest_ready w.objects) c.self.view_is

pub returns : goal.returns
returns c =
    let objects = c.self.inside.objects.items in
    let first = c.in_ok-lowest.field-0.now in
    let value : Some first ≡ slice_get c.as_slice-objects.result.now 0 =
    c.in_ok-lowest.ensures.value in
    let is : slice_get objects 0 ≡ Some first = sym (value ∙ ap (λ xs. slice_get xs 0) c.as_slice-objects.ensures.value) in
    let at : position (may_start first.number) objects ≡ Some c.in_ok-place.place =
    sym (c.in_ok-place.ensures ∙ ap (λ xs. position (may_start first.number) xs) c.as_slice-objects.ensures.value) in
    ap (λ xs. Some (slice_index_or xs c.in_ok-place.place blank).number) c.as_slice-objects.ensures.value
    ∙ lowest_at objects c.self.inside.last first c.in_ok-place.place blank c.self.invariant.order is at
    ∙ ap (λ w. lowest_ready w.objects) c.self.view_is
