use Rattle.std.proofs.Common.{rules, ◌+◌, true, false, length, refl, subst, sym}
use Rattle.vol_core.specs.declared.event.Event.TheVariants as events
use Rattle.vol_core.specs.Volume.{VolumeState, volume_with}
use Rattle.vol_core.specs.Calls.{IsReadyForStep}
use Rattle.vol_core.specs.Step.{StepsAsPlain}
use Rattle.vol_core.proofs.StepLemmas.{numbers_grow, step_seen}
use Rattle.vol_core.proofs.FlushLemmas.{with_log, flush_steps, flush_grow, flush_keeps_volume}
use Rattle.vol_core.proofs.BytesLemmas.{same_bytes}
use Rattle.vol_core.proofs.StopSteps.{flushing_keeps}
use Rattle.vol_core.proofs.volume.Volume.flush.Goals as goal
use Rattle.vol_core.proofs.volume.Volume.flush.Goals.{in-Ok, in-Err}

pub invariant_of-self : goal.invariant_of-self
invariant_of-self g c =
    let inside = c.self.inside in
    let volume : VolumeState = volume_with inside.objects inside.log inside.plan in
    let ready = subst IsReadyForStep (sym c.self.view_is) c.requires in
    let end_is = rw c.uploads.ensures at c.end.ensures in
    flush_keeps_volume g.R.Receipt.state volume c.commit.new.log _ c.end.result inside.steps ready.order.uploads
    ready.order.on_disk end_is c.commit.ensures ready c.self.invariant

pub returns-clause-step : goal.returns-clause-step
returns-clause-step g c =
    let state = g.R.Receipt.state in
    let inside = c.self.inside in
    let volume : VolumeState = volume_with inside.objects inside.log inside.plan in
    let batch = volume.objects.batch in
    let count = batch.first + length batch.entries in
    let log = c.commit.new.log in
    let end = c.end.result in
    let reply = c.match-commit.result in
    let ready = subst IsReadyForStep (sym c.self.view_is) c.requires in
    let is = c.self.invariant in
    let end_is = rw c.uploads.ensures at c.end.ensures in
    let steps : StepsAsPlain state events.Flush reply volume (with_log log volume) =
    elim c.match-commit.branch [
      | in-Ok w ↦
          flush_steps state volume log w.batch.result.now true end w.next_seq.result reply ready.order.uploads
          ready.order.on_disk end_is w.in-Ok.ensures
          w.batch.ensures w.next_seq.ensures w.result-is
      | in-Err w ↦ flush_steps state volume log batch false end count reply ready.order.uploads ready.order.on_disk
          end_is w.in-Err.ensures
          refl refl w.result-is
    ] in
    let grow = flush_grow volume log _ end is.plain is.shows ready.order.uploads end_is c.commit.ensures in
    step_seen state events.Flush reply (with_log log volume) _ _ c.self.view_is
    (record {
      step = steps;
      back = tt;
      plan = tt;
      sizes = record { geometry = refl; uuid = refl; ancestors = refl };
      numbers = numbers_grow state events.Flush reply volume (with_log log volume) is.plain is.shows steps grow;
      stops = flushing_keeps events.Flush refl volume log _ end ready.order.uploads ready.order.on_disk
          end_is c.commit.ensures;
      copying = refl;
      faults = search rules;
      bytes = same_bytes volume (with_log log volume) refl refl;
    })
