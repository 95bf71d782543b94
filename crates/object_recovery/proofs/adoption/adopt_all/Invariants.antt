use Rattle.std.proofs.Common.{◌≡◌, ◌-◌, ◌^◌, ◌≤◌}
use Rattle.std.specs.Prelude.{IfSome}
use Rattle.obj_log.specs.Changes.{expected_of_volume}
use Rattle.stopped_volume.specs.Store.{TellsBytes}
use Rattle.object_recovery.specs.Places.{HasPlacesInside}
use Rattle.object_recovery.specs.Adoption.{KeepsGood, KeepsKnown, KeepsTable}
use Rattle.object_recovery.specs.Recovery.{IsListUpTo, KeepsStreams}
use Rattle.object_recovery.proofs.adoption.adopt_all.Given as goal

abbrev pub invariant-loop-reached : goal.invariant-loop-reached
invariant-loop-reached g l = record {
  list : IsListUpTo l.initial.log.uploads.uuid l.initial.log.batch.geometry l.initial.log.uploads.ancestors
      l.log.uploads.window.last l.log.uploads.queue.end l.log;
  places : HasPlacesInside l.initial.log.batch.geometry.sectors l.initial.log.uploads.queue
      → HasPlacesInside l.initial.log.batch.geometry.sectors l.log.uploads.queue;
  from : l.initial.log.uploads.window.last ≤ l.log.uploads.window.last;
  same : g.S.Store.state l.store ≡ g.S.Store.state l.initial.store;
  streams : TellsBytes g.S.Receipt.Receipt.state
      → IfSome (g.S.Store.state l.initial.store).objects (λ objects. KeepsStreams (expected_of_volume l.initial.log) objects
      l.initial.log l.log);
  good : TellsBytes g.S.Receipt.Receipt.state
      → IfSome (g.S.Store.state l.initial.store).objects (λ objects. KeepsGood (expected_of_volume l.initial.log) objects
      l.initial.log l.log);
  knows : TellsBytes g.S.Receipt.Receipt.state
      → IfSome (g.S.Store.state l.initial.store).objects (λ objects. KeepsKnown (expected_of_volume l.initial.log) objects
      l.initial.log l.log);
  table : KeepsTable l.initial.log l.log;
}

abbrev pub decreases-loop-reached : goal.decreases-loop-reached
decreases-loop-reached g l = 2 ^ 64 - l.log.uploads.window.last
