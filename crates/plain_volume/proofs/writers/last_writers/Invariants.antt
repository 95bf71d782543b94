use Rattle.std.proofs.Common.{◌≡◌, take}
use Rattle.plain_disk.specs.Writers.{writers}
use Rattle.plain_volume.proofs.writers.last_writers.Given as goal

abbrev pub invariant-loop-index : goal.invariant-loop-index
invariant-loop-index l = l.last.items ≡ writers (take l.index l.history) l.lba l.sectors
