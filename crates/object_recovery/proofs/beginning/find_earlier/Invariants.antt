use Rattle.std.proofs.Common.{◌≡◌}
use Rattle.std.specs.Option.{IsSome}
use Rattle.std.specs.List.{All}
use Rattle.stopped_volume.specs.Store.{TellsBytes}
use Rattle.object_recovery.specs.Earlier.{EarlierObject, FindsFirst}
use Rattle.object_recovery.proofs.beginning.find_earlier.Given as goal

abbrev pub invariant-loop-name : goal.invariant-loop-name
invariant-loop-name g l = record {
  same : g.S.Store.state l.store ≡ g.S.Store.state l.initial.store;
  tells : TellsBytes g.S.Receipt.Receipt.state → All (λ (e : EarlierObject). IsSome e.receipt.told) l.earlier.items;
  finds : FindsFirst l.fn.uuid l.names l.number l.name-index (g.S.Store.state l.initial.store).objects l.earlier.items;
}
