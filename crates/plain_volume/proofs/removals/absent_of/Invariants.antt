use Rattle.std.proofs.Common.{◌≡◌, take}
use Rattle.object_stream.specs.Plain.{numbers_of}
use Rattle.plain_disk.specs.Removals.{absent_of}
use Rattle.plain_volume.proofs.removals.absent_of.Given as goal

abbrev pub invariant-loop-number : goal.invariant-loop-number
invariant-loop-number l = l.absent.items ≡ absent_of (numbers_of l.landed) (take l.number-index l.given_out)
