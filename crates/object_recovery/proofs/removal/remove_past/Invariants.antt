use Rattle.std.proofs.Common.{◌≡◌}
use Rattle.lsvd_objstore.specs.Store.{Becomes}
use Rattle.object_recovery.specs.Removal.{RemovesFirst}
use Rattle.object_recovery.proofs.removal.remove_past.Given as goal

abbrev pub invariant-loop-name : goal.invariant-loop-name
invariant-loop-name g l = record {
  faults : (g.S.Store.state l.store).faults ≡ (g.S.Store.state l.initial.store).faults;
  first : Becomes (RemovesFirst l.names l.number l.name-index) (g.S.Store.state l.initial.store).objects
      (g.S.Store.state l.store).objects;
}
