use Rattle.std.proofs.Common.{subst, sym}
use Rattle.vol_core.specs.declared.event.Event.TheVariants as events
use Rattle.vol_core.specs.Volume.{VolumeState, volume_with}
use Rattle.vol_core.specs.Calls.{IsReadyForStep}
use Rattle.vol_core.proofs.StepLemmas.{with_objects, steps_keep_volume, step_seen}
use Rattle.vol_core.proofs.RemovalSteps.{step_of_removed}
use Rattle.vol_core.proofs.volume.Volume.remove_done.Goals as goal

pub invariant_of-self : goal.invariant_of-self
invariant_of-self g c =
    let inside = c.self.inside in
    let volume : VolumeState = volume_with inside.objects inside.log inside.plan in
    let objects = c.remove_done.new.objects in
    let was = c.self.invariant in
    let ready = subst IsReadyForStep (sym c.self.view_is) c.requires in
    let step =
    step_of_removed g.R.Receipt.state volume objects was.plain was.shows ready.order.uploads c.remove_done.ensures.order
    c.args.number c.remove_done.result c.remove_done.ensures.done in
    steps_keep_volume g.R.Receipt.state (events.RemoveDone c.args.number) c.remove_done.result volume
    (with_objects objects volume) inside.steps was ready step.step step.numbers

pub returns-clause-step : goal.returns-clause-step
returns-clause-step g c =
    let inside = c.self.inside in
    let volume : VolumeState = volume_with inside.objects inside.log inside.plan in
    let objects = c.remove_done.new.objects in
    let was = c.self.invariant in
    let ready = subst IsReadyForStep (sym c.self.view_is) c.requires in
    step_seen g.R.Receipt.state (events.RemoveDone c.args.number) c.remove_done.result
    (with_objects objects volume) _ _ c.self.view_is
    (step_of_removed g.R.Receipt.state volume objects was.plain was.shows ready.order.uploads c.remove_done.ensures.order
    c.args.number c.remove_done.result c.remove_done.ensures.done)
