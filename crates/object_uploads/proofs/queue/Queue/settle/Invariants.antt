use Rattle.std.proofs.Common.{ℕ, length}
use Rattle.object_uploads.specs.Queue.{IsSettledBy}
use Rattle.object_uploads.proofs.queue.Queue.settle.Given as goal

-- some objects are settled so far
abbrev pub invariant-loop-self : goal.invariant-loop-self
invariant-loop-self g l = (count : ℕ) × IsSettledBy count l.fn.self l.self

abbrev pub decreases-loop-self : goal.decreases-loop-self
decreases-loop-self g l = length l.self.sealed
