use Rattle.object_stream.specs.Plain.{numbers_of}
use Rattle.object_stream.proofs.PlainLemmas.{IsNewestBelow}
use Rattle.object_stream.proofs.landed.newest_checkpoint.Given as goal

abbrev pub invariant-loop-number : goal.invariant-loop-number
invariant-loop-number l = IsNewestBelow (numbers_of l.checkpoint) (numbers_of l.landed) l.number l.newest
