use Rattle.std.proofs.Common.{subst, sym}
use Rattle.vol_core.specs.declared.event.Event.TheVariants as events
use Rattle.vol_core.specs.Volume.{VolumeState, volume_with}
use Rattle.vol_core.specs.Calls.{IsReadyForStep}
use Rattle.vol_core.proofs.StepLemmas.{with_planned, steps_keep_volume, step_seen}
use Rattle.vol_core.proofs.CollectionSteps.{step_of_drop}
use Rattle.vol_core.proofs.volume.Volume.drop_plan.Goals as goal

pub invariant_of-self : goal.invariant_of-self
invariant_of-self g c =
    let inside = c.self.inside in
    let volume : VolumeState = volume_with inside.objects inside.log inside.plan in
    let objects = c.drop_plan.new.objects in
    let out = c.drop_plan.new.out in
    let reply = c.drop_plan.result in
    let ready = subst IsReadyForStep (sym c.self.view_is) c.requires in
    let is = c.self.invariant in
    let step =
    step_of_drop g.R.Receipt.state volume objects out is.plain is.shows ready.order.uploads reply c.drop_plan.ensures in
    steps_keep_volume g.R.Receipt.state events.DropPlan reply volume (with_planned objects out volume) inside.steps is ready
    step.step
    step.numbers

pub returns-clause-step : goal.returns-clause-step
returns-clause-step g c =
    let inside = c.self.inside in
    let volume : VolumeState = volume_with inside.objects inside.log inside.plan in
    let objects = c.drop_plan.new.objects in
    let out = c.drop_plan.new.out in
    let reply = c.drop_plan.result in
    let ready = subst IsReadyForStep (sym c.self.view_is) c.requires in
    let is = c.self.invariant in
    step_seen g.R.Receipt.state events.DropPlan reply (with_planned objects out volume) _ _ c.self.view_is
    (step_of_drop g.R.Receipt.state volume objects out is.plain is.shows ready.order.uploads reply c.drop_plan.ensures)
