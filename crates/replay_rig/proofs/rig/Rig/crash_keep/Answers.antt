use Rattle.std.proofs.Common.{length, refl, sym, ap, subst}
use Rattle.replay_rig.specs.Rig.{RigState, rig_of, ShowsPlain}
use Rattle.replay_rig.proofs.Halting.{fates_pending}
use Rattle.replay_rig.proofs.Mounts.{WasStopped, was_stopped, may_mount_again, rig_again, no_plan_again, told_by}
use Rattle.replay_rig.proofs.rig.Rig.crash_keep.Goals as goal
use Rattle.replay_rig.proofs.rig.Rig.crash_keep.Goals.{In_ok-land}

pub stopped_device-requires : goal.stopped_device-requires
stopped_device-requires c =
    let known = c.self.invariant.0 in
    let shown = subst (λ (r : RigState). ShowsPlain r known.0) c.self.view_is known.1 in
    fates_pending c.args.self known.0 c.self.inside.volume.volume.log.commits.disk (length c.args.fates.now) shown
    (ap (λ (r : RigState). r.volume.volume.log.commits.disk) c.self.view_is) (c.requires.fates known.0 shown)

-- the rig that was stopped
abbrev inside : (c : In_ok-land) → RigState
inside c = rig_of c.self.inside.volume c.self.inside.store c.self.inside.puts.list c.self.inside.is_stopping c.self.inside.lines

was : (c : In_ok-land) → WasStopped (inside c) c.args.fates.now c.args.letters.now c.land.new.store c.in_ok-disk.disk
was c =
    was_stopped (inside c) c.args.self c.args.fates.now c.args.letters.now c.as_slice.result.now c.land.new.store
    c.self.inside.volume.volume.log.commits.disk c.in_ok-disk.disk c.self.view_is c.is_volume.ensures.order.on_disk
    c.requires.lines c.requires.fates refl c.in_ok-disk.ensures.left c.as_slice.ensures c.in_ok-land.ensures

pub mount_again-requires-clause-may : goal.mount_again-requires-clause-may
mount_again-requires-clause-may c =
    let before = (goal.at.mount_again-requires-clause-may c).In_ok-land in
    let known = c.self.invariant.0 in (
      known.0.geometry,
      may_mount_again (inside before) known.0 c.args.fates.now c.args.letters.now c.land.new.store c.in_ok-disk.disk known.1
          (was before),
    )

pub go_on-requires-clause-shows : goal.go_on-requires-clause-shows
go_on-requires-clause-shows c =
    let before = (goal.at.go_on-requires-clause-shows c).In_ok-land in
    let known = c.self.invariant.0 in
    let e = c.in_ok-mounted.ensures in (
      _,
      (rig_again (inside before) known.0 c.args.fates.now c.args.letters.now c.land.new.store c.mount_again.new.store
          c.in_ok-disk.disk
          c.in_ok-mounted.mounted known.1 (was before) e.ok e.mounts e.number).1,
    )

pub go_on-requires-clause-plan : goal.go_on-requires-clause-plan
go_on-requires-clause-plan c =
    let before = (goal.at.go_on-requires-clause-plan c).In_ok-land in
    let known = c.self.invariant.0 in
    no_plan_again (inside before) known.0 c.args.fates.now c.args.letters.now c.land.new.store c.mount_again.new.store
    c.in_ok-disk.disk c.in_ok-mounted.mounted known.1 (was before) c.in_ok-mounted.ensures.ok

pub returns-clause-ok : goal.returns-clause-ok
returns-clause-ok c = record {
  by = λ plain h.
      let before = (goal.at.returns-clause-ok c).In_ok-land in
      let e = c.in_ok-mounted.ensures in
      told_by (inside before) c.args.letters.now plain _ c.in_ok-mounted.mounted c.mount_again.new.store c.go_on.result.1
      c.go_on.result.0
      c.go_on.ensures.rig c.go_on.ensures.answer
      (rig_again (inside before) plain c.args.fates.now c.args.letters.now c.land.new.store c.mount_again.new.store
      c.in_ok-disk.disk
      c.in_ok-mounted.mounted (subst (λ (r : RigState). ShowsPlain r plain) (sym c.self.view_is) h) (was before) e.ok
      e.mounts e.number);
}
