use Rattle.std.proofs.Common.{rules, ◌≡◌}
use Rattle.lsvd_device.specs.Medium.{after_write, after_sync}
use Rattle.lsvd_device.specs.Device.{DiskState, HoldsNow, moments_after}
use Rattle.commit_slot.specs.Formatting.{clear_bytes}
use Rattle.commit_slot.specs.Clearing.{IsClear}
use Rattle.commit_slot.proofs.Outcomes.{on_ok_as}
use Rattle.commit_slot.proofs.FormatLemmas.{clears}
use Rattle.commit_slot.proofs.formatting.clear_slots.Goals as goal

pub returns-clause-ok : goal.returns-clause-ok
returns-clause-ok g c =
    let old : DiskState = g.D.Disk.state c.args.disk.now in
    let middle : DiskState = g.D.Disk.state c.write.new.self in
    let new : DiskState = g.D.Disk.state c.sync.new.self in
    let moments : middle.moments ≡ moments_after (after_write 0 clear_bytes) old.moments = search rules in
    on_ok_as _ (new.moments ≡ moments_after after_sync middle.moments) (HoldsNow IsClear new.moments)
    (clears old middle new c.requires.size c.requires.is_disk c.write.ensures.disk c.write.ensures.call.size moments)
    c.sync.ensures.ok
