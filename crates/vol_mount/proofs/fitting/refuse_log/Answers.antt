use Rattle.std.proofs.Common.{inl, inr, refl}
use Rattle.vol_mount.proofs.RecoveryLemmas.{good_objects}
use Rattle.vol_mount.proofs.fitting.refuse_log.Goals as goal

pub returns-clause-why : goal.returns-clause-why
returns-clause-why g c = λ tells. inr (c.in-Err.ensures.why tells)

pub returns-in-Ok-clause-why : goal.returns-in-Ok-clause-why
returns-in-Ok-clause-why g c = λ tells.
    let recovered = c.in-Ok.recovered in
    inl (
      good_objects c.args.volume.uuid _ _ (g.S.Store.state c.args.store.now).objects recovered.log recovered.checkpoint
          c.in-Ok.ensures.list (c.in-Ok.ensures.told tells),
      refl,
    )
