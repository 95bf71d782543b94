use Rattle.std.proofs.Common.{◌≡◌}
use Rattle.object_recovery.proofs.TakenLists.{TakenUpTo}
use Rattle.object_recovery.proofs.beginning.take_up.Given as goal

abbrev pub invariant-loop-object : goal.invariant-loop-object
invariant-loop-object g l = record {
  same : g.S.Store.state l.store ≡ g.S.Store.state l.initial.store;
  inherited : l.log.uploads.queue.inherited ≡ l.fn.log.uploads.queue.inherited;
  taken : TakenUpTo l.fn.log.uploads.uuid l.geometry l.fn.log.uploads.ancestors l.fn.log.uploads.queue.frontier
      l.fn.log.uploads.queue.end l.fn.earlier.items l.object-iterator.rest.items l.log;
}
