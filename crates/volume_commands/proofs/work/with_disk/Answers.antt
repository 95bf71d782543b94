use Rattle.std.proofs.Common.{subst}
use Rattle.std.specs.Prelude.{Err}
use Rattle.vol_mount.specs.declared.error.MountError.{MountError}
use Rattle.volume_commands.specs.declared.error.CommandError.TheVariants as errors
use Rattle.volume_commands.specs.Mounting.{MountEnds}
use Rattle.volume_commands.specs.Work.{IsTextOf}
use Rattle.volume_commands.proofs.Mounts.{fault_counts_none, made_some, refusal_is}
use Rattle.volume_commands.proofs.Places.{on_done}
use Rattle.volume_commands.proofs.Served.{mounted_has_room, mounted_is_idle, told_as}
use Rattle.volume_commands.proofs.Told.{nothing_told}
use Rattle.volume_commands.proofs.work.with_disk.Goals as goal

-- ---- it was not mounted

pub returns-in-Err-clause-told : goal.returns-in-Err-clause-told
returns-in-Err-clause-told g c = nothing_told (IsTextOf c.args.work) c.into.result (g.W.Out.Sink.contents c.args.out.now)

pub returns-in-Err-clause-why : goal.returns-in-Err-clause-why
returns-in-Err-clause-why g c why is =
    subst (λ (e : MountError). MountEnds (λ disk. g.W.Disk.Disk.state disk) g.W.Store.Receipt.Receipt.state
    c.args.request.now.is_lost c.args.request.now.volume (g.W.Disk.Disk.state c.args.disk)
    (g.W.Store.Store.state c.args.store.now) (g.W.Store.Store.state c.mount.new.store) (Err (c.in-Err.disk, e)))
    (refusal_is c.in-Err.error why (told_as _ _ _ c.into.ensures is)) c.in-Err.ensures

pub returns-in-Err-clause-fault : goal.returns-in-Err-clause-fault
returns-in-Err-clause-fault g c is disks stores clients =
    absurd
    (fault_counts_none (λ disk. g.W.Disk.Disk.state disk) (λ store. g.W.Store.Store.state store)
    g.W.Store.Receipt.Receipt.state c.args.request.now.is_lost c.args.request.now.volume c.args.disk c.in-Err.disk
    c.args.store.now c.mount.new.store c.in-Err.error c.in-Err.ensures
    (told_as _ errors.Fault _ c.into.ensures is) disks stores)

-- ---- it was mounted

pub run_work-volume-requires-clause-idle : goal.run_work-volume-requires-clause-idle
run_work-volume-requires-clause-idle g c =
    mounted_is_idle _ _ c.in-Ok.mounted
    (made_some (λ disk. g.W.Disk.Disk.state disk) g.W.Store.Receipt.Receipt.state c.args.request.now.is_lost
    c.args.request.now.volume (g.W.Disk.Disk.state c.args.disk) _ _ c.in-Ok.mounted c.in-Ok.ensures)

pub run_work-volume-requires-clause-steps : goal.run_work-volume-requires-clause-steps
run_work-volume-requires-clause-steps g c =
    mounted_has_room _ _ c.in-Ok.mounted
    (made_some (λ disk. g.W.Disk.Disk.state disk) g.W.Store.Receipt.Receipt.state c.args.request.now.is_lost
    c.args.request.now.volume (g.W.Disk.Disk.state c.args.disk) _ _ c.in-Ok.mounted c.in-Ok.ensures)

pub returns-clause-why : goal.returns-clause-why
returns-clause-why g c why is = absurd (c.run_work-volume.ensures.refused why is)

pub returns-clause-does : goal.returns-clause-does
returns-clause-does g c =
    on_done c.run_work-volume.result.1 (λ does. record {
      mounted = c.in-Ok.mounted;
      mid = g.W.Store.Store.state c.mount.new.store;
      mounts = c.in-Ok.ensures;
      closing = c.run_work-volume.result.0;
      does = does;
      let_go = c.let_go.ensures.let_go;
      disk_is = c.let_go.ensures.same;
    }) c.run_work-volume.ensures.does
