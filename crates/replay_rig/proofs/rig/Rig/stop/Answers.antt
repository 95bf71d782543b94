use Rattle.std.proofs.Common.{◌≡◌, sym, ap, subst, rules}
use Rattle.std.specs.Prelude.{Some}
use Rattle.lsvd_device.specs.Fuse.{with_new_fuse}
use Rattle.plain_disk.specs.State.{PlainState}
use Rattle.plain_disk.specs.Stops.{stopping_after_calls}
use Rattle.vol_core.specs.Volume.{SteppedVolume}
use Rattle.replay_rig.specs.Rig.{RigState, rig_of, ShowsPlain}
use Rattle.replay_rig.proofs.Halting.{stopping_rig}
use Rattle.replay_rig.proofs.Copies.{held_still}
use Rattle.replay_rig.proofs.rig.Rig.stop.Goals as goal

pub invariant_of-self : goal.invariant_of-self
invariant_of-self c =
    let inside = c.self.inside in
    let old : RigState = rig_of inside.volume inside.store inside.puts.list inside.is_stopping inside.lines in
    let volume : SteppedVolume = c.with_disk.new.self in
    let plain : PlainState = c.self.invariant.0.0 in
    let shown : ShowsPlain old plain = c.self.invariant.0.1 in
    let budget : volume.volume.log.commits.disk.budget ≡ with_new_fuse (Some c.args.calls)
    inside.volume.volume.log.commits.disk.budget = search rules in (
      (
        stopping_after_calls c.args.calls plain,
        stopping_rig c.args.calls old volume plain shown
            (c.requires.once plain (subst (λ (r : RigState). ShowsPlain r plain) c.self.view_is shown))
            c.with_disk.ensures.rest (c.with_disk.ensures.shows plain) budget,
      ),
      held_still inside.volume.volume.plan volume.volume.plan inside.copied
          (ap (λ (v : SteppedVolume). v.volume.plan) c.with_disk.ensures.rest) c.self.invariant.1,
    )

pub returns-clause-stops : goal.returns-clause-stops
returns-clause-stops c = record {
  by = λ plain h.
      let inside = c.self.inside in
      let old : RigState = rig_of inside.volume inside.store inside.puts.list inside.is_stopping inside.lines in
      let volume : SteppedVolume = c.with_disk.new.self in
      let budget : volume.volume.log.commits.disk.budget ≡ with_new_fuse (Some c.args.calls)
      inside.volume.volume.log.commits.disk.budget = search rules in
      stopping_rig c.args.calls old volume plain (subst (λ (r : RigState). ShowsPlain r plain) (sym c.self.view_is) h)
      (c.requires.once plain h) c.with_disk.ensures.rest (c.with_disk.ensures.shows plain) budget;
}
