use Rattle.lsvd_device.proofs.Replayed.{IsAsFar}
use Rattle.lsvd_device.proofs.memory.replay.Given as goal

abbrev pub invariant-loop-change : goal.invariant-loop-change
invariant-loop-change l = IsAsFar l.at l.changes l.change-index l.from l.written l.fn.buf l.buf
