use Rattle.std.proofs.Common.{◌∙◌, sym, ap}
use Rattle.lsvd_device.specs.Device.{DiskState}
use Rattle.vol_core.specs.Volume.{SteppedVolume}
use Rattle.volume_commands.specs.declared.error.CommandError.TheVariants as errors
use Rattle.volume_owner.specs.declared.draining.Drained.{Drained}
use Rattle.volume_commands.proofs.Served.{owner_refuses_none, owner_counts_none, drains_all, told_as}
use Rattle.volume_commands.proofs.clients.drain.Goals as goal

pub returns-in-Ok : goal.returns-in-Ok
returns-in-Ok g c = record {
  drains =
      drains_all g.S.Receipt.Receipt.state c.in-Ok.drained c.args.volume c.new-owner.result _ c.into_volume-volume.result
      (g.S.Store.state c.args.store.now) (g.S.Store.state c.drain-drained.new.store) c.new-owner.ensures
      c.into_volume-volume.ensures.volume c.in-Ok.ensures;
  refused = λ why is. cc;
  fault = λ is disks stores. cc;
}

pub returns-in-Err : goal.returns-in-Err
returns-in-Err g c =
    let faults_of = λ (v : SteppedVolume). v.volume.log.commits.disk.faults in
    record {
      drains = tt;
      refused = λ why is. owner_refuses_none c.in-Err.error why (told_as _ (errors.Refused why) _ c.into.ensures is);
      fault = λ is disks stores.
          owner_counts_none Drained (λ disk. (g.D.Disk.state disk).faults) (λ store. (g.S.Store.state store).faults)
          c.disk.result.now c.disk-2.result.now c.args.store.now c.drain-drained.new.store c.in-Err.error _ _
          (ap (λ (d : DiskState). d.faults) c.disk.ensures ∙ sym (ap faults_of c.new-owner.ensures))
          (ap (λ (d : DiskState). d.faults) c.disk-2.ensures ∙ ap faults_of c.into_volume-volume.ensures.volume)
          c.in-Err.ensures.in_range c.in-Err.ensures.call.faults (told_as _ errors.Fault _ c.into.ensures is) disks stores;
    }
