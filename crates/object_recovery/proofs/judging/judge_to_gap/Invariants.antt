use Rattle.std.proofs.Common.{◌≡◌, ℕ, ◌-◌, ◌^◌}
use Rattle.std.specs.Prelude.{IfSome}
use Rattle.stopped_volume.specs.Store.{TellsBytes}
use Rattle.object_recovery.specs.Judged.{StaysRefused, IsReached}
use Rattle.object_recovery.proofs.judging.judge_to_gap.Given as goal

abbrev pub invariant-loop-reached : goal.invariant-loop-reached
invariant-loop-reached g l = record {
  same : g.S.Store.state l.store ≡ g.S.Store.state l.initial.store;
  stays : StaysRefused l.fn.from.refused l.reached.refused;
  reached : TellsBytes g.S.Receipt.Receipt.state
      → IfSome (g.S.Store.state l.initial.store).objects
      (λ objects. (base : ℕ) → IsReached l.volume objects base l.fn.from → IsReached l.volume objects base l.reached);
}

abbrev pub decreases-loop-reached : goal.decreases-loop-reached
decreases-loop-reached g l = 2 ^ 64 - l.reached.number
