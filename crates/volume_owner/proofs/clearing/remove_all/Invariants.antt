use Rattle.volume_owner.proofs.LoopLemmas.{IsCleared}
use Rattle.volume_owner.proofs.clearing.remove_all.Given as goal

abbrev pub invariant-loop-removed : goal.invariant-loop-removed
invariant-loop-removed g l = IsCleared g.R.Receipt.state l.removed l.initial.volume l.volume (g.S.Store.state l.initial.store)
    (g.S.Store.state l.store)
