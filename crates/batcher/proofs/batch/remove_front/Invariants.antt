use Rattle.std.proofs.Common.{◌≡◌, ◌+◌, drop}
use Rattle.std.specs.List.{sum_by}
use Rattle.std.specs.VecDeque.{deque_capacity}
use Rattle.batcher.specs.Batch.{data_sectors}
use Rattle.batcher.proofs.batch.remove_front.Given as goal

abbrev pub invariant-loop : goal.invariant-loop
invariant-loop l =
    record {
      items : l.entries.items ≡ drop l.counter l.initial.entries.items;
      sum : l.sectors + sum_by data_sectors l.entries.items ≡ sum_by data_sectors l.initial.entries.items;
      capacity : deque_capacity l.entries ≡ deque_capacity l.initial.entries;
    }
