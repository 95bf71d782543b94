use Rattle.std.proofs.Common.{take}
use Rattle.object_recovery.specs.State.{IsGreatestNumber}
use Rattle.object_recovery.proofs.removal.greatest_number.Given as goal

abbrev pub invariant-loop-name : goal.invariant-loop-name
invariant-loop-name l = IsGreatestNumber (take l.name-index l.names) l.fn.least l.greatest
