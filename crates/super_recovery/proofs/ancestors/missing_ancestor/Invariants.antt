use Rattle.std.proofs.Common.{◌≡◌, take}
use Rattle.std.specs.Prelude.{IfSome}
use Rattle.stopped_volume.specs.Ancestors.{HasAncestors}
use Rattle.super_recovery.proofs.ancestors.missing_ancestor.Given as goal

-- the store is as it was, and has the nearer ancestors
abbrev pub invariant-loop-ancestor : goal.invariant-loop-ancestor
invariant-loop-ancestor g l = record {
  same : g.S.Store.state l.store ≡ g.S.Store.state l.initial.store;
  nearer : IfSome (g.S.Store.state l.initial.store).objects
      (λ objects. HasAncestors objects (take l.ancestor-index l.ancestor-items));
}
