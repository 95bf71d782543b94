use Rattle.std.proofs.Common.{◌≡◌, take}
use Rattle.std.specs.Prelude.{IfSome}
use Rattle.stopped_volume.specs.Store.{TellsBytes}
use Rattle.super_recovery.proofs.HoldLemmas.{HasEach}
use Rattle.super_recovery.proofs.holding.first_bad.Given as goal

-- the store is as it was, and has the first of the holds
abbrev pub invariant-loop-number : goal.invariant-loop-number
invariant-loop-number g l = record {
  same : g.S.Store.state l.store ≡ g.S.Store.state l.initial.store;
  each : TellsBytes g.S.Receipt.Receipt.state
      → IfSome (g.S.Store.state l.initial.store).objects (HasEach l.fn.uuid (take l.number-index l.numbers));
}
