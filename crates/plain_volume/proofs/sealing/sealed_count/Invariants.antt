use Rattle.std.proofs.Common.{◌≡◌, ◌-◌, is_some, length, take}
use Rattle.std.specs.List.{find, sum_by, range_with_len}
use Rattle.batcher.specs.Batch.{data_sectors, fullness_of_first}
use Rattle.plain_volume.proofs.sealing.sealed_count.Given as goal

abbrev pub invariant-loop-count : goal.invariant-loop-count
invariant-loop-count l =
    record {
      sum : l.sectors ≡ sum_by data_sectors (take l.count l.entries);
      rest :
          find (λ n. is_some (fullness_of_first l.batch l.entries n)) (range_with_len l.count (length l.entries - l.count))
          ≡ find (λ n. is_some (fullness_of_first l.batch l.entries n)) (range_with_len 0 (length l.entries));
    }
