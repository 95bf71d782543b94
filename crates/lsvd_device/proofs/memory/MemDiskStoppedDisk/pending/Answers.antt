use Rattle.std.proofs.Common.{rules, ◌≡◌, ◌-◌, ap, subst, length}
use Rattle.lsvd_device.specs.Device.{DiskState, HoldsNow}
use Rattle.lsvd_device.specs.Memory.{moments_of}
use Rattle.lsvd_device.proofs.Stopped.{pending_kept}
use Rattle.lsvd_device.proofs.memory.MemDiskStoppedDisk.pending.Goals as goal

pub returns : goal.returns
returns c =
    let was : moments_of c.self.inside.size c.self.inside.changes.items c.self.inside.written.items ≡ c.args.self.now.moments =
    ap (λ (d : DiskState). d.moments) c.self.view_is in
    let count : c.len.result ≡ length c.self.inside.changes.items = search rules in
    subst (HoldsNow (λ now. c.len.result - c.self.inside.synced ≡ length now.pending)) was
    (rw count (pending_kept c.self.inside.size c.self.inside.synced c.self.inside.changes.items c.self.inside.written.items
    c.self.inside.front.items c.self.invariant))
