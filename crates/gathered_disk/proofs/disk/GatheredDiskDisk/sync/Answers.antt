use Rattle.std.proofs.Common.{rules, ◌≡◌, []}
use Rattle.lsvd_device.specs.Medium.{after_sync}
use Rattle.lsvd_device.specs.Device.{moments_after}
use Rattle.gathered_disk.proofs.Steps.{synced}
use Rattle.gathered_disk.proofs.disk.GatheredDiskDisk.sync.Goals as goal

pub invariant_of-self-2 : goal.invariant_of-self-2
invariant_of-self-2 g c =
    let none : c.self.inside.gathered.items ≡ [] = search rules in
    let moments : (g.D.Disk.state c.sync-outcome.new.self).moments
    ≡ moments_after after_sync (g.D.Disk.state c.self.inside.disk).moments = search rules in
    synced _ _ _ _ c.self.invariant c.sync-outcome.ensures.disk c.sync-outcome.ensures.call.size none moments
    c.note_sync.ensures
