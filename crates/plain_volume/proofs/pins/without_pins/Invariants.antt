use Rattle.std.proofs.Common.{◌≡◌, drop}
use Rattle.plain_disk.specs.Reads.{are_pinned, without_pins}
use Rattle.plain_volume.proofs.pins.without_pins.Given as goal

abbrev pub invariant-loop-number : goal.invariant-loop-number
invariant-loop-number l =
    record {
      pinned : are_pinned (drop l.number-index l.numbers) l.left.items ≡ are_pinned l.numbers l.pins;
      others : without_pins (drop l.number-index l.numbers) l.left.items ≡ without_pins l.numbers l.pins;
    }
