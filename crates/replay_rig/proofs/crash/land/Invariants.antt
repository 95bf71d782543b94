use Rattle.std.proofs.Common.{length, take}
use Rattle.replay_rig.specs.Rig.{Lands}
use Rattle.replay_rig.proofs.crash.land.Given as goal

abbrev pub invariant-loop-put : goal.invariant-loop-put
invariant-loop-put l = Lands (take (length l.yielded) l.puts) (take (length l.yielded) l.letters) l.initial.store l.store
