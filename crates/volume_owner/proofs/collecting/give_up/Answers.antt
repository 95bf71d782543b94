use Rattle.std.proofs.Common.{[], refl}
use Rattle.vol_core.specs.declared.event.Event.TheVariants as asks
use Rattle.vol_core.specs.Volume.{SteppedVolume}
use Rattle.volume_owner.proofs.ActLemmas.{step_act}
use Rattle.volume_owner.proofs.CollectLemmas.{drop_makes, drop_faults, drop_gives_up, drop_none, drop_tally, dropped_idle}
use Rattle.volume_owner.proofs.collecting.give_up.Goals as goal

pub returns : goal.returns
returns g c =
    let state = g.R.Receipt.state in
    let reply = c.step.result in
    let old : SteppedVolume = c.args.volume.now in
    let new : SteppedVolume = c.step.new.self in
    let of = c.step.ensures in
    record {
      acts = λ store. step_act state asks.DropPlan reply [] old new store of tt refl;
      steps = drop_makes state reply old new of;
      tally = drop_tally state reply old new of;
      none = drop_none state reply old new of;
      gives_up = drop_gives_up state reply old new of;
      faults = drop_faults state reply old new of;
      idle = dropped_idle state reply old new of c.requires.idle;
    }
