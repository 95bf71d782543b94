use Rattle.std.proofs.Common.{◌<◌, false, List, refl, sym, ap, subst, arith}
use Rattle.upload_window.specs.declared.object.OpenObject.{OpenObject}
use Rattle.upload_window.specs.Window.{IsWindow}
use Rattle.upload_window.proofs.Starts.{window_entered}
use Rattle.upload_window.proofs.window.Window.enter.Goals as goal

pub invariant_of-self : goal.invariant_of-self
invariant_of-self c =
    let object : OpenObject = record {
      number = c.args.number;
      is_checkpoint = c.args.is_checkpoint;
      is_started =
          false;
      was_started = false;
    } in
    let last = ap (λ w. w.last) c.self.view_is in
    let above : c.self.inside.last < c.args.number = omega (arith, last) in
    subst (λ (xs : List OpenObject). IsWindow (record { last = c.args.number; objects = xs })) (sym c.push.ensures.items)
    (window_entered c.self.inside.objects.items c.self.inside.last object above refl c.self.invariant)
