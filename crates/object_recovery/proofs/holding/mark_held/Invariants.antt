use Rattle.std.proofs.Common.{◌≡◌}
use Rattle.lsvd_names.specs.Names.{hold_name}
use Rattle.obj_log.specs.Changes.{expected_of_volume}
use Rattle.stopped_volume.specs.Store.{TellsBytes}
use Rattle.object_recovery.specs.Earlier.{IsAmongFirst}
use Rattle.object_recovery.specs.Holding.{MarksKept}
use Rattle.object_recovery.proofs.holding.mark_held.Given as goal

abbrev pub invariant-loop-name : goal.invariant-loop-name
invariant-loop-name g l = record {
  same : g.S.Store.state l.store ≡ g.S.Store.state l.initial.store;
  marks : MarksKept (TellsBytes g.S.Receipt.Receipt.state) (expected_of_volume l.initial.log)
      (g.S.Store.state l.initial.store).objects
      (λ number. IsAmongFirst l.names l.name-index (hold_name l.initial.log.uploads.uuid number)) l.initial.log l.log;
}
