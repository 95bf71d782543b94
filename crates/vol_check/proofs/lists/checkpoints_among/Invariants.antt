use Rattle.std.proofs.Common.{◌≡◌, ◌≤◌, take}
use Rattle.std.specs.Prelude.{IfSome}
use Rattle.stopped_volume.specs.Store.{TellsBytes}
use Rattle.vol_check.specs.Report.{HasCheckpointHeader}
use Rattle.vol_check.specs.Steps.{IsFilterOf}
use Rattle.vol_check.proofs.lists.checkpoints_among.Given as goal

-- the list so far
abbrev pub invariant-loop-number : goal.invariant-loop-number
invariant-loop-number g l = record {
  same : g.S.Store.state l.store ≡ g.S.Store.state l.initial.store;
  among : TellsBytes g.S.Receipt.Receipt.state
      → IfSome (g.S.Store.state l.initial.store).objects
      (λ objects. IsFilterOf (take l.number-index l.numbers)
      (λ number. (number ≤ l.last) × HasCheckpointHeader l.volume objects number) l.list.items);
}
