use Rattle.std.proofs.Common.{subst, sym, arith}
use Rattle.vol_core.specs.declared.event.Event.TheVariants as events
use Rattle.vol_core.specs.Volume.{VolumeState, volume_with}
use Rattle.vol_core.specs.Calls.{IsReadyForStep}
use Rattle.vol_core.proofs.StepLemmas.{with_planned, steps_keep_volume, step_seen}
use Rattle.vol_core.proofs.CollectionSteps.{step_of_plan}
use Rattle.vol_core.proofs.CollectionLemmas.{batch_is_few, places_are_inside}
use Rattle.vol_core.proofs.volume.Volume.plan_copy.Goals as goal

pub plan_copy-requires-clause-most : goal.plan_copy-requires-clause-most
plan_copy-requires-clause-most g c =
    let inside = c.self.inside in
    let volume : VolumeState = volume_with inside.objects inside.log inside.plan in
    let is = c.self.invariant in
    let few = batch_is_few volume is.plain is.shows in
    omega (arith, few)

pub plan_copy-requires-clause-inside : goal.plan_copy-requires-clause-inside
plan_copy-requires-clause-inside g c =
    let inside = c.self.inside in
    let volume : VolumeState = volume_with inside.objects inside.log inside.plan in
    let is = c.self.invariant in
    let ready = subst IsReadyForStep (sym c.self.view_is) c.requires in
    places_are_inside volume is.plain is.shows ready.order.uploads

pub invariant_of-self : goal.invariant_of-self
invariant_of-self g c =
    let inside = c.self.inside in
    let volume : VolumeState = volume_with inside.objects inside.log inside.plan in
    let objects = c.plan_copy.new.objects in
    let out = c.plan_copy.new.out in
    let reply = c.plan_copy.result in
    let ready = subst IsReadyForStep (sym c.self.view_is) c.requires in
    let is = c.self.invariant in
    let step =
    step_of_plan g.R.Receipt.state volume objects out is.plain is.shows ready.order.uploads reply c.plan_copy.ensures in
    steps_keep_volume g.R.Receipt.state events.PlanCopy reply volume (with_planned objects out volume) inside.steps is ready
    step.step
    step.numbers

pub returns-clause-step : goal.returns-clause-step
returns-clause-step g c =
    let inside = c.self.inside in
    let volume : VolumeState = volume_with inside.objects inside.log inside.plan in
    let objects = c.plan_copy.new.objects in
    let out = c.plan_copy.new.out in
    let reply = c.plan_copy.result in
    let ready = subst IsReadyForStep (sym c.self.view_is) c.requires in
    let is = c.self.invariant in
    step_seen g.R.Receipt.state events.PlanCopy reply (with_planned objects out volume) _ _ c.self.view_is
    (step_of_plan g.R.Receipt.state volume objects out is.plain is.shows ready.order.uploads reply c.plan_copy.ensures)
