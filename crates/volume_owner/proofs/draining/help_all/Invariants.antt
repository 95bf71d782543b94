use Rattle.volume_owner.specs.Helping.{work_of}
use Rattle.volume_owner.proofs.LoopLemmas.{IsHelpedAll}
use Rattle.volume_owner.proofs.draining.help_all.Given as goal

abbrev pub invariant-loop : goal.invariant-loop
invariant-loop g l = IsHelpedAll g.R.Receipt.state l.initial.volume l.volume (g.S.Store.state l.initial.store)
    (g.S.Store.state l.store)

abbrev pub decreases-loop : goal.decreases-loop
decreases-loop g l = work_of l.volume.volume
