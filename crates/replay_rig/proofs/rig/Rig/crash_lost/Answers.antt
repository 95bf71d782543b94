use Rattle.std.proofs.Common.{◌≡◌, sym, subst, rules}
use Rattle.commit_slot.specs.Slots.{log_of}
use Rattle.replay_rig.specs.Rig.{RigState, rig_of, ShowsPlain}
use Rattle.replay_rig.proofs.Mounts.{WasLost, was_lost, log_anew, may_mount_anew, rig_anew, no_plan_anew, told_by}
use Rattle.replay_rig.proofs.rig.Rig.crash_lost.Goals as goal
use Rattle.replay_rig.proofs.rig.Rig.crash_lost.Goals.{In_ok-land}

-- the rig that was stopped
abbrev inside : (c : In_ok-land) → RigState
inside c = rig_of c.self.inside.volume c.self.inside.store c.self.inside.puts.list c.self.inside.is_stopping c.self.inside.lines

was : (c : In_ok-land) → WasLost (inside c) c.args.letters.now c.land.new.store
was c =
    was_lost (inside c) c.args.self c.args.letters.now c.as_slice.result.now c.land.new.store c.self.view_is
    c.requires c.as_slice.ensures c.in_ok-land.ensures

-- the new device has a log of as many sectors
sectors : (c : In_ok-land) → c.geometry-log.result.log ≡ log_of c.in_ok-disk.disk.size
sectors c = search rules

pub mount_anew-requires-clause-may : goal.mount_anew-requires-clause-may
mount_anew-requires-clause-may c =
    let before = (goal.at.mount_anew-requires-clause-may c).In_ok-land in
    let known = c.self.invariant.0 in
    let rig : RigState = inside before in (
      known.0.geometry,
      log_anew rig known.0 c.geometry-log.result
          (log_of c.in_ok-disk.disk.size) known.1 c.geometry-log.ensures.is (sectors before),
      may_mount_anew rig known.0 c.args.letters.now c.land.new.store known.1 (was before),
    )

pub go_on-requires-clause-shows : goal.go_on-requires-clause-shows
go_on-requires-clause-shows c =
    let before = (goal.at.go_on-requires-clause-shows c).In_ok-land in
    let rig : RigState = inside before in
    let known = c.self.invariant.0 in
    let e = c.in_ok-mounted.ensures in (
      _,
      (rig_anew rig known.0 c.args.letters.now c.land.new.store c.mount_anew.new.store c.in_ok-mounted.mounted
          (log_of c.in_ok-disk.disk.size) known.1
          (was before)
          (log_anew rig known.0 c.geometry-log.result (log_of c.in_ok-disk.disk.size) known.1 c.geometry-log.ensures.is
          (sectors before)) e.ok
          e.mounts e.number).1,
    )

pub go_on-requires-clause-plan : goal.go_on-requires-clause-plan
go_on-requires-clause-plan c =
    let before = (goal.at.go_on-requires-clause-plan c).In_ok-land in
    let rig : RigState = inside before in
    let known = c.self.invariant.0 in
    no_plan_anew rig known.0 c.args.letters.now c.land.new.store c.mount_anew.new.store c.in_ok-mounted.mounted
    (log_of c.in_ok-disk.disk.size) known.1 (was before)
    (log_anew rig known.0 c.geometry-log.result (log_of c.in_ok-disk.disk.size) known.1 c.geometry-log.ensures.is
    (sectors before)) c.in_ok-mounted.ensures.ok

pub returns-clause-ok : goal.returns-clause-ok
returns-clause-ok c = record {
  by = λ plain h.
      let before = (goal.at.returns-clause-ok c).In_ok-land in
      let rig : RigState = inside before in
      let shown = subst (λ (r : RigState). ShowsPlain r plain) (sym c.self.view_is) h in
      let e = c.in_ok-mounted.ensures in
      told_by rig c.args.letters.now plain _ c.in_ok-mounted.mounted c.mount_anew.new.store c.go_on.result.1 c.go_on.result.0
      c.go_on.ensures.rig
      c.go_on.ensures.answer
      (rig_anew rig plain c.args.letters.now c.land.new.store c.mount_anew.new.store c.in_ok-mounted.mounted
      (log_of c.in_ok-disk.disk.size) shown
      (was before) (log_anew rig plain c.geometry-log.result (log_of c.in_ok-disk.disk.size) shown c.geometry-log.ensures.is
      (sectors before)) e.ok e.mounts
      e.number);
}
