use Rattle.std.proofs.Common.{subst, sym}
use Rattle.vol_core.specs.declared.event.Event.TheVariants as events
use Rattle.vol_core.specs.Volume.{VolumeState, volume_with}
use Rattle.vol_core.specs.Calls.{IsReadyForStep}
use Rattle.vol_core.proofs.StepLemmas.{with_objects, steps_keep_volume, step_seen}
use Rattle.vol_core.proofs.RemovalSteps.{step_of_removal}
use Rattle.vol_core.proofs.volume.Volume.take_remove.Goals as goal

pub invariant_of-self : goal.invariant_of-self
invariant_of-self g c =
    let inside = c.self.inside in
    let volume : VolumeState = volume_with inside.objects inside.log inside.plan in
    let objects = c.take_remove.new.objects in
    let was = c.self.invariant in
    let ready = subst IsReadyForStep (sym c.self.view_is) c.requires in
    let step =
    step_of_removal g.R.Receipt.state volume objects was.plain was.shows ready.order.uploads c.take_remove.ensures.order
    c.take_remove.result (_, c.take_remove.ensures.alike) c.take_remove.ensures.begun in
    steps_keep_volume g.R.Receipt.state events.TakeRemove c.take_remove.result volume (with_objects objects volume)
    inside.steps was ready step.step step.numbers

pub returns-clause-step : goal.returns-clause-step
returns-clause-step g c =
    let inside = c.self.inside in
    let volume : VolumeState = volume_with inside.objects inside.log inside.plan in
    let objects = c.take_remove.new.objects in
    let was = c.self.invariant in
    let ready = subst IsReadyForStep (sym c.self.view_is) c.requires in
    step_seen g.R.Receipt.state events.TakeRemove c.take_remove.result
    (with_objects objects volume) _ _ c.self.view_is
    (step_of_removal g.R.Receipt.state volume objects was.plain was.shows ready.order.uploads c.take_remove.ensures.order
    c.take_remove.result (_, c.take_remove.ensures.alike) c.take_remove.ensures.begun)
