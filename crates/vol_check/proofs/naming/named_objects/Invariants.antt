use Rattle.std.proofs.Common.{◌≡◌, take}
use Rattle.std.specs.Prelude.{IfSome}
use Rattle.stopped_volume.specs.Store.{TellsBytes}
use Rattle.vol_check.specs.Steps.{NamesAll}
use Rattle.vol_check.proofs.naming.named_objects.Given as goal

-- what the newest checkpoint and the holds so far name was added
abbrev pub invariant-loop-number : goal.invariant-loop-number
invariant-loop-number g l = record {
  same : g.S.Store.state l.store ≡ g.S.Store.state l.initial.store;
  named : TellsBytes g.S.Receipt.Receipt.state
      → IfSome (g.S.Store.state l.initial.store).objects
      (λ objects. NamesAll l.volume objects l.base l.bytes (take l.number-index l.holds) l.named);
}
