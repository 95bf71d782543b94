use Rattle.std.proofs.Common.{◌≡◌, take}
use Rattle.std.specs.List.{sum_by}
use Rattle.batcher.specs.Batch.{data_sectors}
use Rattle.plain_volume.proofs.history.count_data_sectors.Given as goal

abbrev pub invariant-loop-entry : goal.invariant-loop-entry
invariant-loop-entry l = l.sum ≡ sum_by data_sectors (take l.entry-index l.entries)
