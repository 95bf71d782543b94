use Rattle.vol_mount.proofs.WornLemmas.{AreLowTo}
use Rattle.vol_mount.proofs.worn.worn_number.Given as goal

abbrev pub invariant-loop-number : goal.invariant-loop-number
invariant-loop-number l = AreLowTo l.number-index l.numbers
