use Rattle.std.proofs.Common.{subst, sym}
use Rattle.vol_mount.specs.declared.error.MountError.{MountError}
use Rattle.vol_recover.specs.Admitting.{IsWhyNotAdmitted}
use Rattle.volume_commands.proofs.Mounts.{refusal_is}
use Rattle.volume_commands.proofs.Served.{told_as}
use Rattle.volume_commands.proofs.mounting.length_anew.Goals as goal

pub returns-in-Err-clause-why : goal.returns-in-Err-clause-why
returns-in-Err-clause-why g c tells why is =
    let log = c.in-Some.log in
    let objects = (g.S.Store.state c.args.store.now).objects in (
      log,
      sym c.in-Some.ensures.log,
      subst (λ (e : MountError). IsWhyNotAdmitted c.args.request.now.volume log objects e)
          (refusal_is c.in-Err.error why (told_as _ _ _ c.into.ensures is)) (c.in-Err.ensures.why tells),
    )
