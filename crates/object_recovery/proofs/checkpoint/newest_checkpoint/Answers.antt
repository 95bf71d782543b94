use Rattle.std.proofs.Common.{◌≡◌, ◌+◌, ◌-◌, Some, sym, subst, ap, ◌∙◌, arith}
use Rattle.std.specs.Prelude.{IfSome}
use Rattle.lsvd_objstore.specs.Store.{StoreState}
use Rattle.object_recovery.specs.Checkpoints.{IsCheckpointNamed, HasNoneFrom}
use Rattle.object_recovery.proofs.CheckpointLemmas.{found_newest, none_more, found_none}
use Rattle.object_recovery.proofs.FindLemmas.{same_store}
use Rattle.object_recovery.proofs.checkpoint.newest_checkpoint.Goals as goal

pub checkpoint_named-requires : goal.checkpoint_named-requires
checkpoint_named-requires g c =
    c.requires c.index-names-left.result (c.loop-left.left - 1, omega arith, sym c.index-names-left.is)

pub returns-in-Some-clause-newest : goal.returns-in-Some-clause-newest
returns-in-Some-clause-newest g c = λ tells.
    let index = c.loop-left.left - 1 in
    let more : c.loop-left.left ≡ index + 1 = omega arith in
    let geometry = c.args.geometry.now in
    let name = c.index-names-left.result in
    let told = (g.S.Store.state c.loop-left.store).objects in
    let state = ap (λ (s : StoreState). s.objects) c.loop-left.invariant.same in
    found_newest (g.S.Store.state c.args.store.now).objects geometry c.args.ancestors c.args.names.now index name
    c.in-Some.newest (omega arith)
    (sym c.index-names-left.is)
    (subst (λ o. IfSome o (λ objects. HasNoneFrom geometry c.args.ancestors objects c.args.names.now (index + 1))) state
    (subst (λ n. IfSome told (λ objects. HasNoneFrom geometry c.args.ancestors objects c.args.names.now n)) more
    (c.loop-left.invariant.none tells)))
    (subst (λ o. IfSome o (λ objects. IsCheckpointNamed geometry c.args.ancestors objects name (Some c.in-Some.newest))) state
    ((rw c.in-Some.is at c.in_ok-newest.ensures.named) tells))

pub loop-left-preserved : goal.loop-left-preserved
loop-left-preserved g c =
    let index = c.loop-left.left - 1 in
    let more : c.loop-left.left ≡ index + 1 = omega arith in
    let geometry = c.args.geometry.now in
    let name = c.index-names-left.result in
    let old = g.S.Store.state c.loop-left.store in
    let after = same_store old (g.S.Store.state c.checkpoint_named.new.store) c.in_ok-newest.ensures.unchanged
    c.in_ok-newest.ensures.faults in
    record {
      inside = omega (arith, c.loop-left.invariant.inside);
      same = after ∙ c.loop-left.invariant.same;
      none = λ tells.
          subst (λ (s : StoreState). IfSome s.objects (λ objects. HasNoneFrom geometry c.args.ancestors objects
          c.args.names.now index))
          (sym after)
          (none_more old.objects geometry c.args.ancestors c.args.names.now index name (omega arith) (sym c.index-names-left.is)
          (subst (λ n. IfSome old.objects (λ objects. HasNoneFrom geometry c.args.ancestors objects c.args.names.now n)) more
          (c.loop-left.invariant.none tells))
          ((rw c.in_default.is at c.in_ok-newest.ensures.named) tells));
    }

pub returns-clause-none : goal.returns-clause-none
returns-clause-none g c = λ tells is.
    let geometry = c.args.geometry.now in
    let last : c.loop-left.left ≡ 0 = omega arith in
    found_none (g.S.Store.state c.args.store.now).objects geometry c.args.ancestors c.args.names.now
    (subst (λ (s : StoreState). IfSome s.objects (λ objects. HasNoneFrom geometry c.args.ancestors objects c.args.names.now 0))
    c.loop-left.invariant.same
    (subst (λ n. IfSome (g.S.Store.state c.loop-left.store).objects (λ objects. HasNoneFrom geometry c.args.ancestors objects
    c.args.names.now n))
    last
    (c.loop-left.invariant.none tells)))
