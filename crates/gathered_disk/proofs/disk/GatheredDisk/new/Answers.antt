use Rattle.std.proofs.Common.{◌≡◌, ◌≤◌, [], arith}
use Rattle.lsvd_device.specs.Device.{DiskState, IsDisk}
use Rattle.gathered_disk.proofs.Follows.{gathers, follows_first, first_has_size}
use Rattle.gathered_disk.proofs.disk.GatheredDisk.new.Goals as goal

pub invariant_of-result : goal.invariant_of-result
invariant_of-result g c =
    let below : DiskState = g.D.Disk.state c.args.disk in
    let told = g.M.Moments.told c.args.moments in
    let disk : IsDisk below = c.len-len.ensures.disk in
    let none : c.in_ok-gathered.gathered.items ≡ [] = c.in_ok-gathered.ensures.items in
    let inside : 0 ≤ below.size = omega arith in
    rw none (gathers _ disk inside (first_has_size below.size below.moments told c.requires disk.media)
    (follows_first below.moments told c.requires))
