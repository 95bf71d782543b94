use Rattle.std.proofs.Common.{◌≡◌, ◌≤◌, length}
use Rattle.std.specs.Prelude.{IfSome}
use Rattle.stopped_volume.specs.Store.{TellsBytes}
use Rattle.object_recovery.specs.Checkpoints.{HasNoneFrom}
use Rattle.object_recovery.proofs.checkpoint.newest_checkpoint.Given as goal

abbrev pub invariant-loop-left : goal.invariant-loop-left
invariant-loop-left g l = record {
  inside : l.left ≤ length l.names;
  same : g.S.Store.state l.store ≡ g.S.Store.state l.initial.store;
  none : TellsBytes g.S.Receipt.Receipt.state
      → IfSome (g.S.Store.state l.store).objects (λ objects. HasNoneFrom l.geometry l.ancestors objects l.names l.left);
}

abbrev pub decreases-loop-left : goal.decreases-loop-left
decreases-loop-left g l = l.left
