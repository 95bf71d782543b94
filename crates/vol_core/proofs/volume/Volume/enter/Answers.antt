use Rattle.std.proofs.Common.{rules, subst, sym}
use Rattle.vol_core.specs.Volume.{VolumeState, volume_with}
use Rattle.vol_core.specs.Shows.{NumbersGrow}
use Rattle.vol_core.specs.Step.{StepsAsPlain}
use Rattle.vol_core.specs.Calls.{IsReadyForStep, event_of}
use Rattle.vol_core.proofs.StepsOf.{entry_stays}
use Rattle.vol_core.proofs.StepLemmas.{numbers_grow, steps_keep_volume, step_seen}
use Rattle.vol_core.proofs.EnterSteps.{with_both, may_enter, enter_steps, enter_grow}
use Rattle.vol_core.proofs.BytesLemmas.{entering_keeps_bytes}
use Rattle.vol_core.proofs.StopSteps.{entering_keeps_stops, entering_hands_back}
use Rattle.vol_core.proofs.volume.Volume.enter.Given as given
use Rattle.vol_core.proofs.volume.Volume.enter.Goals.{After-on_disk}
use Rattle.vol_core.proofs.volume.Volume.enter.Goals as goal

pub enter-reply-requires : goal.enter-reply-requires
enter-reply-requires g c =
    let inside = c.self.inside in
    let volume : VolumeState = volume_with inside.objects inside.log inside.plan in
    let ready = subst IsReadyForStep (sym c.self.view_is) c.requires in
    let is = c.self.invariant in
    may_enter volume is.plain inside.steps is.shows is.steps ready ready.order.uploads

-- the entry is a step of each plain volume that the volume shows
steps : (g : given.Over) (c : After-on_disk g)
    → StepsAsPlain g.R.Receipt.state (event_of c.args.entry) c.enter-reply.result
    (volume_with c.self.inside.objects c.self.inside.log c.self.inside.plan)
    (volume_with c.enter-reply.new.objects c.enter-reply.new.log c.self.inside.plan)
steps g c =
    let inside = c.self.inside in
    let volume : VolumeState = volume_with inside.objects inside.log inside.plan in
    let objects = c.enter-reply.new.objects in
    let log = c.enter-reply.new.log in
    let ready = subst IsReadyForStep (sym c.self.view_is) c.requires in
    enter_steps g.R.Receipt.state c.args.entry c.enter-reply.result volume objects log ready.order.uploads ready.order.on_disk
    c.enter-reply.ensures

grow : (g : given.Over) (c : After-on_disk g)
    → NumbersGrow (volume_with c.self.inside.objects c.self.inside.log c.self.inside.plan)
    (volume_with c.enter-reply.new.objects c.enter-reply.new.log c.self.inside.plan)
grow g c =
    let inside = c.self.inside in
    let volume : VolumeState = volume_with inside.objects inside.log inside.plan in
    let objects = c.enter-reply.new.objects in
    let log = c.enter-reply.new.log in
    let ready = subst IsReadyForStep (sym c.self.view_is) c.requires in
    let reply = c.enter-reply.result in
    let is = c.self.invariant in
    numbers_grow g.R.Receipt.state (event_of c.args.entry) reply volume (with_both objects log volume) is.plain is.shows
    (steps g c)
    (enter_grow g.R.Receipt.state c.args.entry reply volume objects log is.plain ready.order.uploads ready.order.on_disk
    c.enter-reply.ensures is.shows)

pub invariant_of-self : goal.invariant_of-self
invariant_of-self g c =
    let inside = c.self.inside in
    let volume : VolumeState = volume_with inside.objects inside.log inside.plan in
    let ready = subst IsReadyForStep (sym c.self.view_is) c.requires in
    let before = (goal.at.invariant_of-self g c).After-on_disk in
    steps_keep_volume g.R.Receipt.state (event_of c.args.entry) c.enter-reply.result volume
    (with_both c.enter-reply.new.objects c.enter-reply.new.log volume) inside.steps c.self.invariant ready (steps g before)
    (grow g before)

pub returns-clause-step : goal.returns-clause-step
returns-clause-step g c =
    let inside = c.self.inside in
    let volume : VolumeState = volume_with inside.objects inside.log inside.plan in
    let entry = c.args.entry in
    let objects = c.enter-reply.new.objects in
    let log = c.enter-reply.new.log in
    let ready = subst IsReadyForStep (sym c.self.view_is) c.requires in
    let reply = c.enter-reply.result in
    let before = (goal.at.returns-clause-step g c).After-on_disk in
    step_seen g.R.Receipt.state (event_of entry) reply (with_both objects log volume) _ _ c.self.view_is
    (record {
      step = steps g before;
      back = (entering_hands_back entry reply volume.objects objects volume.log log c.enter-reply.ensures).0;
      plan = (entering_hands_back entry reply volume.objects objects volume.log log c.enter-reply.ensures).1;
      sizes = search rules;
      numbers = grow g before;
      stops = entering_keeps_stops entry volume ready.order.uploads ready.order.on_disk reply objects log c.on_disk.ensures
          c.enter-reply.ensures;
      copying = entry_stays entry reply inside.plan;
      faults = search rules;
      bytes = entering_keeps_bytes entry volume objects log reply c.enter-reply.ensures;
    })
