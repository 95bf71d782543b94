use Rattle.std.proofs.Common.{◌≡◌, sym, length, subst}
use Rattle.std.specs.Prelude.{IfOk}
use Rattle.lsvd_device.specs.Device.{DiskState, HoldsNow}
use Rattle.replay_rig.specs.Crash.{IsLeftBy}
use Rattle.replay_rig.proofs.crash.stopped_device.Goals as goal

pub stopped_disk-left-requires : goal.stopped_disk-left-requires
stopped_disk-left-requires c =
    subst (λ (disk : DiskState). HoldsNow (λ now. length c.args.fates.now ≡ length now.pending) disk.moments)
    (sym c.disk.ensures) c.requires

pub returns-clause-left : goal.returns-clause-left
returns-clause-left c =
    subst (λ (disk : DiskState). IfOk c.stopped_disk-left.result (IsLeftBy c.args.fates.now disk)) c.disk.ensures
    c.stopped_disk-left.ensures.left
