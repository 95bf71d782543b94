use Rattle.std.proofs.Common.{◌≡◌}
use Rattle.volume_owner.specs.Helping.{work_of}
use Rattle.volume_owner.proofs.LoopLemmas.{IsHelped}
use Rattle.volume_owner.proofs.entering.enter.Given as goal

abbrev pub invariant-loop-count : goal.invariant-loop-count
invariant-loop-count g l =
    (l.left ≡ l.fn.entry) × IsHelped g.R.Receipt.state l.initial.volume l.volume (g.S.Store.state l.initial.store)
    (g.S.Store.state l.store)

abbrev pub decreases-loop-count : goal.decreases-loop-count
decreases-loop-count g l = work_of l.volume.volume
