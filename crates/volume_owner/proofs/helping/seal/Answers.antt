use Rattle.std.proofs.Common.{Bool, refl, sym, subst}
use Rattle.std.specs.Prelude.{Result, IfOk, IsOkUnless}
use Rattle.vol_core.specs.Volume.{SteppedVolume}
use Rattle.volume_owner.specs.declared.error.OwnerError.{OwnerError}
use Rattle.volume_owner.specs.declared.error.OwnerError.TheVariants as errors
use Rattle.volume_owner.specs.Helping.{HasHelped}
use Rattle.volume_owner.proofs.ReplyLemmas.{seal_alone}
use Rattle.volume_owner.proofs.HelpLemmas.{seal_makes, seal_faults, sealed_leaves}
use Rattle.volume_owner.proofs.VictimLemmas.{seal_needs}
use Rattle.volume_owner.proofs.helping.seal.Goals as goal

pub returns : goal.returns
returns g c =
    let state = g.R.Receipt.state in
    let reply = c.step.result in
    let old : SteppedVolume = c.args.volume.now in
    let new : SteppedVolume = c.step.new.self in
    let plain = c.step.ensures.was.plain in
    let shows = c.step.ensures.was.shows in
    let of = c.step.ensures in
    let left = sealed_leaves state reply old new of plain shows c.requires.idle c.requires.none in
    record {
      step = record { reply = reply; step = of; entered = refl };
      steps = seal_makes state reply old new of plain shows;
      victims = seal_needs state reply old new of;
      less = subst (λ (r : Result Bool OwnerError). IfOk r (λ has_sealed. HasHelped has_sealed old.volume new.volume))
          (sym c.seal_of.ensures) left.1;
      error = subst (λ (r : Result Bool OwnerError). IsOkUnless r errors.OutOfMemory) (sym c.seal_of.ensures) (seal_alone reply);
      faults = seal_faults state reply old new of plain shows;
      idle = left.0;
    }
