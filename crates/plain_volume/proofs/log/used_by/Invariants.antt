use Rattle.std.proofs.Common.{◌≡◌, take}
use Rattle.plain_disk.specs.Log.{used_by}
use Rattle.plain_volume.proofs.log.used_by.Given as goal

abbrev pub invariant-loop-record : goal.invariant-loop-record
invariant-loop-record l = l.used ≡ used_by (take l.record-index l.records)
