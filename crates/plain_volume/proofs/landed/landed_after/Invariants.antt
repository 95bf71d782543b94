use Rattle.std.proofs.Common.{◌≡◌, ◌+◌, ◌-◌}
use Rattle.object_stream.specs.Plain.{numbers_of}
use Rattle.plain_disk.specs.Stops.{landed_after}
use Rattle.plain_volume.proofs.landed.landed_after.Given as goal

abbrev pub invariant-loop : goal.invariant-loop
invariant-loop l =
    record {
      at : l.last ≡ l.number + l.counter;
      rest : landed_after (numbers_of l.landed) l.last (l.count - l.counter) ≡ landed_after (numbers_of l.landed)
          l.number l.count;
    }
