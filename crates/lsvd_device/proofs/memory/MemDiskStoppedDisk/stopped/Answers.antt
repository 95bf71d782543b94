use Rattle.std.proofs.Common.{◌≡◌, ℕ, List, length, sym, ap, subst}
use Rattle.lsvd_device.specs.Device.{DiskState, HoldsNow}
use Rattle.lsvd_device.specs.Memory.{moments_of}
use Rattle.lsvd_device.specs.declared.change.Change.{Change}
use Rattle.lsvd_device.proofs.Stopped.{may_stop}
use Rattle.lsvd_device.proofs.memory.MemDiskStoppedDisk.stopped.Goals as goal

pub stop-requires : goal.stop-requires
stop-requires c =
    let changes : List Change = c.self.inside.changes.items in
    let written : List ℕ = c.self.inside.written.items in
    let was : moments_of c.self.inside.size changes written ≡ c.args.self.now.moments =
    ap (λ (d : DiskState). d.moments) c.self.view_is in
    let fates : HoldsNow (λ now. length c.args.fates.now ≡ length now.pending) (moments_of c.self.inside.size changes written) =
    subst (HoldsNow (λ now. length c.args.fates.now ≡ length now.pending)) (sym was) c.requires in
    rw (c.deref.ensures.value, c.deref-2.ensures.value) (may_stop c.self.inside.size c.self.inside.synced changes written
    c.self.inside.front.items c.args.fates.now c.self.invariant fates)
