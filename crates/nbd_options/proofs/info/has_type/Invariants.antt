use Rattle.nbd_options.proofs.InfoLemmas.{HasNone}
use Rattle.nbd_options.proofs.info.has_type.Given as goal

abbrev pub invariant-loop-i : goal.invariant-loop-i
invariant-loop-i l = HasNone l.types l.kind l.i
