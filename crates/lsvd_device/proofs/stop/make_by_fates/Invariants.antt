use Rattle.lsvd_device.proofs.Stopped.{AreMet}
use Rattle.lsvd_device.proofs.stop.make_by_fates.Given as goal

abbrev pub invariant-loop-index : goal.invariant-loop-index
invariant-loop-index l = AreMet l.fn.disk l.fn.fates l.fn.changes l.fn.written l.disk l.index l.used
