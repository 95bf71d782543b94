use Rattle.std.proofs.Common.{sym, subst}
use Rattle.std.specs.Prelude.{false}
use Rattle.plain_disk.specs.State.{created_volume}
use Rattle.replay_rig.specs.Rig.{rig_of, ShowsPlain}
use Rattle.replay_rig.proofs.Copies.{none_held}
use Rattle.replay_rig.proofs.Opening.{new_has_no_plan, new_rig}
use Rattle.replay_rig.proofs.rig.Rig.new.Goals as goal

pub invariant_of-result : goal.invariant_of-result
invariant_of-result c = (
  (
    created_volume c.args.geometry,
    subst (λ ps. ShowsPlain (rig_of c.in_ok-volume.volume c.create_volume.new.store ps false 0)
        (created_volume c.args.geometry))
        (sym c.new-2.ensures)
        (new_rig c.args.geometry c.in_ok-volume.volume c.create_volume.new.store c.in_ok-volume.ensures),
  ),
  none_held c.in_ok-volume.volume.volume.plan
      (new_has_no_plan c.args.geometry c.in_ok-volume.volume c.create_volume.new.store c.in_ok-volume.ensures),
)

pub returns-clause-shows : goal.returns-clause-shows
returns-clause-shows c =
    subst (λ ps. ShowsPlain (rig_of c.in_ok-volume.volume c.create_volume.new.store ps false 0) (created_volume c.args.geometry))
    (sym c.new-2.ensures)
    (new_rig c.args.geometry c.in_ok-volume.volume c.create_volume.new.store c.in_ok-volume.ensures)
