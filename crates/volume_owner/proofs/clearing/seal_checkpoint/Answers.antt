use Rattle.std.proofs.Common.{arith, Bool, [], refl, sym, ◌∙◌, ap, subst}
use Rattle.std.specs.Prelude.{Result, IfOk, IsOkUnless}
use Rattle.vol_core.specs.declared.event.Event.TheVariants as asks
use Rattle.vol_core.specs.Volume.{SteppedVolume}
use Rattle.volume_owner.specs.Acts.{moment_of}
use Rattle.volume_owner.specs.Clearing.{IsSealedUp}
use Rattle.volume_owner.specs.declared.error.OwnerError.{OwnerError}
use Rattle.volume_owner.specs.declared.error.OwnerError.TheVariants as errors
use Rattle.volume_owner.proofs.ActLemmas.{step_act, made_then}
use Rattle.volume_owner.proofs.ReplyLemmas.{seal_alone}
use Rattle.volume_owner.proofs.StepLemmas.{makes_then, makes_fewer}
use Rattle.volume_owner.proofs.ClearLemmas.{status_makes, status_faults, status_idle, status_unsealed, status_on_way, status_put}
use Rattle.volume_owner.proofs.ClearLemmas.{checkpoint_makes, checkpoint_faults, checkpoint_sealed}
use Rattle.volume_owner.proofs.TallyLemmas.{tally_then, quiet_tally}
use Rattle.volume_owner.proofs.VictimLemmas.{makes_no_victim, step_needs}
use Rattle.volume_owner.proofs.clearing.seal_checkpoint.Goals as goal

pub returns-then-is_newest_checkpoint : goal.returns-then-is_newest_checkpoint
returns-then-is_newest_checkpoint g c =
    let state = g.R.Receipt.state in
    let reply = c.step.result in
    let old : SteppedVolume = c.args.volume.now in
    let new : SteppedVolume = c.step.new.self in
    let of = c.step.ensures in
    let plain = of.was.plain in
    let shows = of.was.shows in
    record {
      acts = λ store. step_act state asks.Status reply [] old new store of tt refl;
      steps = makes_fewer 1 2 [] old new (omega arith) (status_makes state reply old new of plain shows);
      tally = λ store. quiet_tally state asks.Status reply 0 old new store of tt refl refl of.step.copying;
      victims = step_needs state asks.Status reply old new (λ asked is. ap makes_no_victim is) of;
      sealed = status_put state reply old new of plain shows c.requires.unsealed c.requires.none
          (sym c.is_newest_checkpoint.ensures ∙ c.if-is_newest_checkpoint.true);
      error = tt;
      faults = status_faults state reply old new of plain shows;
      idle = status_idle state reply old new of plain shows c.requires.idle;
    }

pub returns : goal.returns
returns g c =
    let state = g.R.Receipt.state in
    let reply = c.step.result in
    let back = c.step-2.result in
    let old : SteppedVolume = c.args.volume.now in
    let mid : SteppedVolume = c.step.new.self in
    let new : SteppedVolume = c.step-2.new.self in
    let of = c.step.ensures in
    let plain = of.was.plain in
    let shows = of.was.shows in
    let seal = c.step-2.ensures in
    let sealed = checkpoint_sealed state back mid new seal seal.was.plain seal.was.shows
    (status_idle state reply old mid of plain shows c.requires.idle)
    (status_unsealed state reply old mid of plain shows c.requires.unsealed)
    (status_on_way state reply old mid of plain shows c.requires.none) in
    record {
      acts = λ store.
          made_then state [] [] (moment_of old store) (moment_of mid store) (moment_of new store)
          (step_act state asks.Status reply [] old mid store of tt refl)
          (step_act state asks.SealCheckpoint back [] mid new store seal tt refl);
      steps = makes_then 1 1 [] old mid new (status_makes state reply old mid of plain shows)
          (checkpoint_makes state back mid new seal seal.was.plain seal.was.shows);
      tally = λ store.
          tally_then state 0 0 0 0 (moment_of old store) (moment_of mid store) (moment_of new store)
          (quiet_tally state asks.Status reply 0 old mid store of tt refl refl of.step.copying)
          (quiet_tally state asks.SealCheckpoint back 0 mid new store seal tt refl refl seal.step.copying);
      victims = λ needs.
          step_needs state asks.SealCheckpoint back mid new (λ asked is. ap makes_no_victim is) seal
          (step_needs state asks.Status reply old mid (λ asked is. ap makes_no_victim is) of needs);
      sealed = subst (λ (r : Result Bool OwnerError). IfOk r (λ has_sealed. IsSealedUp has_sealed new.volume))
          (sym c.seal_of.ensures) sealed.1;
      error = subst (λ (r : Result Bool OwnerError). IsOkUnless r errors.OutOfMemory) (sym c.seal_of.ensures) (seal_alone back);
      faults =
          checkpoint_faults state back mid new seal seal.was.plain seal.was.shows
          ∙ status_faults state reply old mid of plain shows;
      idle = sealed.0;
    }
