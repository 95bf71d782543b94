use Rattle.std.proofs.Common.{◌≡◌, true, false, refl, sym, subst}
use Rattle.vol_core.specs.declared.event.Event.TheVariants as events
use Rattle.vol_core.specs.Volume.{VolumeState, volume_with}
use Rattle.vol_core.specs.Step.{StepOf}
use Rattle.vol_core.specs.Calls.{IsReadyForStep}
use Rattle.vol_core.proofs.StepLemmas.{with_objects, steps_keep_volume, step_seen}
use Rattle.vol_core.proofs.StepsOf.{step_of_release, step_of_kept_plan}
use Rattle.vol_core.proofs.volume.Volume.release.Given as given
use Rattle.vol_core.proofs.volume.Volume.release.Goals.{Joined-release, in-Ok, in-Err}
use Rattle.vol_core.proofs.volume.Volume.release.Goals as goal

-- the plan is given back, or one of its objects is not pinned
step : (g : given.Over) (c : Joined-release g)
    → StepOf g.R.Receipt.state (events.Release c.args.plan) c.match-release.result
    (volume_with c.self.inside.objects c.self.inside.log c.self.inside.plan)
    (volume_with c.release.new.objects c.self.inside.log c.self.inside.plan)
step g c =
    let state = g.R.Receipt.state in
    let inside = c.self.inside in
    let volume : VolumeState = volume_with inside.objects inside.log inside.plan in
    let plan = c.args.plan in
    let objects = c.release.new.objects in
    let new : VolumeState = with_objects objects volume in
    let is = c.self.invariant in
    let ready = subst IsReadyForStep (sym c.self.view_is) c.requires in
    elim c.match-release.branch [
      | in-Ok w ↦
          let says = w.in-Ok.ensures in
          subst (λ reply. StepOf state (events.Release plan) reply volume new) (sym w.result-is)
          (step_of_release state volume objects is.plain is.shows plan ready.order.uploads says.ascending (says.out.0 refl)
          says.unpinned says.batch)
      | in-Err w ↦
          let says = w.in-Err.ensures in
          subst (λ reply. StepOf state (events.Release plan) reply volume new) (sym w.result-is)
          (step_of_kept_plan state volume objects is.plain is.shows plan w.in-Err.plan says.ascending
          (λ all. let bad : false ≡ true = says.out.1 all in cc) says.back says.same)
    ]

pub invariant_of-self : goal.invariant_of-self
invariant_of-self g c =
    let inside = c.self.inside in
    let volume : VolumeState = volume_with inside.objects inside.log inside.plan in
    let ready = subst IsReadyForStep (sym c.self.view_is) c.requires in
    let of = step g c in
    steps_keep_volume g.R.Receipt.state (events.Release c.args.plan) c.match-release.result volume
    (with_objects c.release.new.objects volume) inside.steps c.self.invariant ready of.step of.numbers

pub returns-clause-step : goal.returns-clause-step
returns-clause-step g c =
    step_seen g.R.Receipt.state (events.Release c.args.plan) c.match-release.result
    (volume_with c.release.new.objects c.self.inside.log c.self.inside.plan) _ _ c.self.view_is (step g c)
