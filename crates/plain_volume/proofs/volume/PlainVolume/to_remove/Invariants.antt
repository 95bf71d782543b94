use Rattle.std.proofs.Common.{◌≡◌, ◌-◌}
use Rattle.std.specs.List.{find, range_with_len}
use Rattle.plain_disk.specs.Removals.{is_removable, to_remove}
use Rattle.plain_volume.proofs.volume.PlainVolume.to_remove.Given as goal

abbrev pub invariant-loop-number : goal.invariant-loop-number
invariant-loop-number l =
    find (is_removable l.self) (range_with_len l.number (l.self.checkpoint.number - l.number)) ≡ to_remove l.self
