use Rattle.lsvd_device.proofs.Replayed.{IsEndSoFar}
use Rattle.lsvd_device.proofs.stop.end_of.Given as goal

abbrev pub invariant-loop-change : goal.invariant-loop-change
invariant-loop-change l = IsEndSoFar l.changes l.change-index l.end
