use Rattle.std.proofs.Common.{◌≡◌, take}
use Rattle.lsvd_base.specs.Image.{blank, after}
use Rattle.plain_disk.specs.Sectors.{sectors_at}
use Rattle.plain_volume.proofs.history.read_history.Given as goal

abbrev pub invariant-loop-entry : goal.invariant-loop-entry
invariant-loop-entry l =
    l.window.items ≡ sectors_at l.lba l.sectors (after (blank l.geometry.sectors) (take l.entry-index l.history))
