use Rattle.std.proofs.Common.{◌≡◌, length, subst}
use Rattle.lsvd_device.specs.Medium.{after_write}
use Rattle.lsvd_device.specs.Device.{DiskState, moments_after, FailsToWrite}
use Rattle.gathered_disk.proofs.Steps.{handed, torn}
use Rattle.gathered_disk.proofs.disk.GatheredDisk.pass_on.Goals as goal

pub invariant_of-self : goal.invariant_of-self
invariant_of-self g c =
    let old : DiskState = g.D.Disk.state c.self.inside.disk in
    let below : DiskState = g.D.Disk.state c.write.new.self in
    let fails = subst (λ xs. FailsToWrite c.self.inside.at (length xs) old.moments below.moments) c.deref.ensures.value
    c.in_err-write.ensures.err in
    torn _ below c.self.invariant c.write.ensures.disk c.write.ensures.call.size fails

pub invariant_of-self-2 : goal.invariant_of-self-2
invariant_of-self-2 g c =
    let old : DiskState = g.D.Disk.state c.self.inside.disk in
    let below : DiskState = g.D.Disk.state c.write.new.self in
    let moments = subst (λ xs. below.moments ≡ moments_after (after_write c.self.inside.at xs) old.moments)
    c.deref.ensures.value c.in_ok-write.ensures.ok in
    handed _ below _ c.self.invariant c.write.ensures.disk c.write.ensures.call.size moments c.clear.ensures.items
