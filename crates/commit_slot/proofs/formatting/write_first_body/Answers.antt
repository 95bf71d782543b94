use Rattle.std.proofs.Common.{rules, ◌≡◌, List, ℕ, length, refl}
use Rattle.lsvd_device.specs.Medium.{after_sync}
use Rattle.lsvd_device.specs.Device.{DiskState, moments_after}
use Rattle.commit_body.specs.Body.{IsBody}
use Rattle.commit_slot.specs.Slots.{log_of}
use Rattle.commit_slot.specs.Clearing.{WritesFirst}
use Rattle.commit_slot.proofs.Outcomes.{on_ok_as}
use Rattle.commit_slot.proofs.FormatLemmas.{AreFirstWritten, writes_first}
use Rattle.commit_slot.proofs.formatting.write_first_body.Goals as goal

pub returns-clause-ok : goal.returns-clause-ok
returns-clause-ok g c =
    let old : DiskState = g.D.Disk.state c.args.disk.now in
    let middle : DiskState = g.D.Disk.state c.write.new.self in
    let next : DiskState = g.D.Disk.state c.write-2.new.self in
    let new : DiskState = g.D.Disk.state c.sync.new.self in
    let piece : List ℕ = c.write_body.new.sector in
    let whole : length piece ≡ 512 = search rules in
    let are : AreFirstWritten piece old middle next = record {
      least = c.requires.size;
      whole = whole;
      is_disk = c.requires.is_disk;
      is_disk' = c.write.ensures.disk;
      is_disk'' = c.write-2.ensures.disk;
      size = c.write.ensures.call.size;
      size' = c.write-2.ensures.call.size;
      moments = search rules;
      moments' = search rules;
    } in
    let is_body : IsBody piece (log_of old.size) 0 c.args.body.now 0 =
    record { bytes = c.write_body.ensures; in_slot = refl; may_stand = c.requires.may_stand; numbers = c.requires.numbers } in
    on_ok_as _ (new.moments ≡ moments_after after_sync next.moments) (WritesFirst c.args.body.now old new)
    (writes_first c.args.body.now piece old middle next new are is_body) c.sync.ensures.ok
