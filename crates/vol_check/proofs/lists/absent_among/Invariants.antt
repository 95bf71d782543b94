use Rattle.std.proofs.Common.{◌≡◌}
use Rattle.std.specs.Prelude.{IfSome}
use Rattle.vol_check.specs.Steps.{IsAway, IsNotIn}
use Rattle.vol_check.proofs.PartLemmas.{IsPartTo}
use Rattle.vol_check.proofs.lists.absent_among.Given as goal

-- the list so far
abbrev pub invariant-loop-object : goal.invariant-loop-object
invariant-loop-object g l = record {
  same : g.S.Store.state l.store ≡ g.S.Store.state l.initial.store;
  among : IfSome (g.S.Store.state l.initial.store).objects
      (λ known. IsPartTo l.objects (IsAway (IsNotIn l.there) known l.chain) l.object-index l.list.items);
}
