use Rattle.std.proofs.Common.{◌≡◌, length}
use Rattle.upload_window.proofs.Starts.{window_marked}
use Rattle.upload_window.proofs.window.Window.fail.Goals as goal

pub invariant_of-self : goal.invariant_of-self
invariant_of-self c =
    let objects = c.self.inside.objects.items in
    let long : length c.set_started.new.objects ≡ length objects = cc in
    window_marked _ _ objects _ _ c.self.inside.last c.as_mut_slice.ensures.value long c.set_started.ensures c.self.invariant
