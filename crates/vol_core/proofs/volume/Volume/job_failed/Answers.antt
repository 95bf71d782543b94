use Rattle.std.proofs.Common.{subst, sym}
use Rattle.vol_core.specs.declared.event.Event.TheVariants as events
use Rattle.vol_core.specs.Volume.{VolumeState, volume_with}
use Rattle.vol_core.specs.Calls.{IsReadyForStep}
use Rattle.vol_core.proofs.StepLemmas.{with_objects, steps_keep_volume, step_seen}
use Rattle.vol_core.proofs.StepsOf.{step_of_return}
use Rattle.vol_core.proofs.volume.Volume.job_failed.Goals as goal

pub invariant_of-self : goal.invariant_of-self
invariant_of-self g c =
    let inside = c.self.inside in
    let volume : VolumeState = volume_with inside.objects inside.log inside.plan in
    let objects = c.job_failed.new.objects in
    let is = c.self.invariant in
    let step =
    step_of_return g.R.Receipt.state volume objects is.plain is.shows c.args.job c.job_failed.result c.job_failed.ensures in
    let ready = subst IsReadyForStep (sym c.self.view_is) c.requires in
    steps_keep_volume g.R.Receipt.state (events.JobFailed c.args.job) c.job_failed.result volume (with_objects objects volume)
    inside.steps is ready step.step step.numbers

pub returns-clause-step : goal.returns-clause-step
returns-clause-step g c =
    let inside = c.self.inside in
    let volume : VolumeState = volume_with inside.objects inside.log inside.plan in
    let objects = c.job_failed.new.objects in
    let is = c.self.invariant in
    step_seen g.R.Receipt.state (events.JobFailed c.args.job) c.job_failed.result (with_objects objects volume) _ _ c.self.view_is
    (step_of_return g.R.Receipt.state volume objects is.plain is.shows c.args.job c.job_failed.result c.job_failed.ensures)
