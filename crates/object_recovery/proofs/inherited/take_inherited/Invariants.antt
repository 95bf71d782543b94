use Rattle.std.proofs.Common.{◌≡◌}
use Rattle.stopped_volume.specs.Store.{TellsBytes}
use Rattle.object_recovery.proofs.InheritedLemmas.{HasSomeOf}
use Rattle.object_recovery.proofs.inherited.take_inherited.Given as goal

abbrev pub invariant-loop-object : goal.invariant-loop-object
invariant-loop-object g l = record {
  same : g.S.Store.state l.store ≡ g.S.Store.state l.initial.store;
  come : HasSomeOf (TellsBytes g.S.Receipt.Receipt.state) l.geometry l.chain (g.S.Store.state l.initial.store).objects
      l.fn.named.items l.object-iterator.rest.items l.absent l.fn.log l.log;
}
