use Rattle.std.proofs.Common.{take}
use Rattle.super_recovery.specs.Found.{IsGreatestIn}
use Rattle.super_recovery.proofs.finding.greatest_epoch.Given as goal

abbrev pub invariant-loop-name : goal.invariant-loop-name
invariant-loop-name l = IsGreatestIn (take l.name-index l.names) l.greatest
