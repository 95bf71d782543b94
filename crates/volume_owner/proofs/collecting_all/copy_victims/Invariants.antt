use Rattle.volume_owner.proofs.LoopLemmas.{IsCopied}
use Rattle.volume_owner.proofs.collecting_all.copy_victims.Given as goal

abbrev pub invariant-loop : goal.invariant-loop
invariant-loop g l = IsCopied g.R.Receipt.state l.counter l.copied l.initial.volume l.volume (g.S.Store.state l.initial.store)
    (g.S.Store.state l.store)
