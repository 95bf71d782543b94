use Rattle.std.proofs.Common.{refl, sym, ◌∙◌, ap, subst}
use Rattle.lsvd_fault.specs.Faults.{Counts}
use Rattle.vol_core.specs.declared.event.Event.TheVariants as asks
use Rattle.vol_core.specs.Volume.{SteppedVolume}
use Rattle.volume_owner.proofs.ReadLemmas.{flush_makes, flush_idle, flush_work, flush_put, flush_none}
use Rattle.volume_owner.proofs.ReadLemmas.{flushed_is, not_flushed, flushed_reply}
use Rattle.volume_owner.proofs.VictimLemmas.{makes_no_victim, step_needs}
use Rattle.volume_owner.proofs.reading.flush.Goals as goal

pub returns-in-Some : goal.returns-in-Some
returns-in-Some g c =
    let state = g.R.Receipt.state in
    let reply = c.step.result in
    let old : SteppedVolume = c.args.volume.now in
    let new : SteppedVolume = c.step.new.self in
    let plain = c.step.ensures.was.plain in
    let shows = c.step.ensures.was.shows in
    let of = c.step.ensures in
    let is = flushed_is state reply old new of plain shows c.in-Some.count
    (flushed_reply reply c.in-Some.count (sym c.count_of-count.ensures ∙ c.in-Some.is)) in
    record {
      flush = record {
        step = record { reply = reply; step = of; entered = refl };
        steps = flush_makes state reply old new of plain shows;
        faults = subst (λ b. Counts b old.volume.log.commits.disk.faults new.volume.log.commits.disk.faults) is.2 of.step.faults;
        count = is.0;
        durable = is.1;
      };
      work = flush_work state reply old new of plain shows;
      put = flush_put state reply old new of plain shows;
      victims = step_needs state asks.Flush reply old new (λ asked is. ap makes_no_victim is) of;
      none = flush_none state reply old new of plain shows c.is_volume.ensures.order.uploads;
      idle = flush_idle state reply old new of plain shows c.requires.idle;
    }

pub returns-in-None : goal.returns-in-None
returns-in-None g c =
    let state = g.R.Receipt.state in
    let reply = c.step.result in
    let old : SteppedVolume = c.args.volume.now in
    let new : SteppedVolume = c.step.new.self in
    let plain = c.step.ensures.was.plain in
    let shows = c.step.ensures.was.shows in
    let of = c.step.ensures in
    let fault = not_flushed state reply old new of plain shows (sym c.count_of-count.ensures ∙ c.in-None.is) in
    record {
      flush = record {
        step = record { reply = reply; step = of; entered = refl };
        steps = flush_makes state reply old new of plain shows;
        faults = subst (λ b. Counts b old.volume.log.commits.disk.faults new.volume.log.commits.disk.faults) fault of.step.faults;
        count = tt;
        durable = tt;
      };
      work = flush_work state reply old new of plain shows;
      put = flush_put state reply old new of plain shows;
      victims = step_needs state asks.Flush reply old new (λ asked is. ap makes_no_victim is) of;
      none = flush_none state reply old new of plain shows c.is_volume.ensures.order.uploads;
      idle = flush_idle state reply old new of plain shows c.requires.idle;
    }
