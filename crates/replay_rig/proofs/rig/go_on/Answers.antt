use Rattle.std.proofs.Common.{◌≡◌, ◌+◌, false, sym, ◌∙◌, ap, subst}
use Rattle.vol_core.specs.Volume.{SteppedVolume}
use Rattle.vol_mount.specs.Mounted.{MountedState}
use Rattle.replay_rig.specs.Rig.{rig_of, ShowsPlain}
use Rattle.replay_rig.proofs.Copies.{none_held}
use Rattle.replay_rig.proofs.rig.go_on.Goals as goal

pub invariant_of-rig : goal.invariant_of-rig
invariant_of-rig c =
    let mounted : MountedState = c.args.mounted in
    let volume : SteppedVolume = c.mounted.inside.volume in
    let same : volume ≡ mounted.volume = ap (λ (m : MountedState). m.volume) c.mounted.view_is in
    let known = c.requires.shows in (
      (
        known.0,
        subst (λ v. ShowsPlain (rig_of v c.args.store c.new.result.list false (c.args.lines + 1)) known.0) (sym same)
            (subst (λ puts. ShowsPlain (rig_of mounted.volume c.args.store puts false (c.args.lines + 1)) known.0)
            (sym c.new.ensures) known.1),
      ),
      none_held volume.volume.plan (ap (λ (v : SteppedVolume). v.volume.plan) same ∙ c.requires.plan),
    )
