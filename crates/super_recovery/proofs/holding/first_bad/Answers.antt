use Rattle.std.proofs.Common.{◌∙◌, get_or, subst, arith}
use Rattle.std.proofs.lemmas.List.{take_all}
use Rattle.std.specs.Prelude.{IfSome, IsTrue, ◌↔◌}
use Rattle.lsvd_objstore.specs.Store.{StoreState}
use Rattle.super_recovery.specs.Holds.{HasHold}
use Rattle.super_recovery.proofs.HoldLemmas.{HasEach, told_more, told_first}
use Rattle.super_recovery.proofs.Results.{same_store}
use Rattle.super_recovery.proofs.holding.first_bad.Goals as goal

pub returns-then-not-branch-clause-first : goal.returns-then-not-branch-clause-first
returns-then-not-branch-clause-first g c = λ tells.
    let told = (g.S.Store.state c.args.store.now).objects in
    let numbers = c.args.numbers.now in
    let index = c.loop-number.number-index in
    let before = c.loop-number.invariant in
    told_first told c.args.uuid numbers index c.loop-number-test.true c.in_ok-has_hold.field-0
    (subst (λ (s : StoreState). IfSome s.objects (λ objects. IsTrue c.in_ok-has_hold.field-0
    ↔ HasHold c.args.uuid (get_or numbers index 0) objects)) before.same (c.in_ok-has_hold.ensures.has tells))
    (before.each tells) c.if-not-branch.true

pub loop-number-preserved : goal.loop-number-preserved
loop-number-preserved g c =
    let told = (g.S.Store.state c.args.store.now).objects in
    let numbers = c.args.numbers.now in
    let index = c.loop-number.number-index in
    let before = c.loop-number.invariant in
    let now = c.in_ok-has_hold.ensures in
    let new = g.S.Store.state c.has_hold.new.store in
    let after = same_store (g.S.Store.state c.loop-number.store) new now.unchanged now.faults in
    record {
      same = after ∙ before.same;
      each = λ tells.
          told_more told c.args.uuid numbers index c.loop-number-test.true c.in_ok-has_hold.field-0
          (subst (λ (s : StoreState). IfSome s.objects (λ objects. IsTrue c.in_ok-has_hold.field-0
          ↔ HasHold c.args.uuid (get_or numbers index 0) objects)) before.same (now.has tells))
          (before.each tells) c.if-not-branch.false;
    }

pub returns-clause-first : goal.returns-clause-first
returns-clause-first g c = λ tells.
    let numbers = c.args.numbers.now in
    subst (λ list. IfSome (g.S.Store.state c.args.store.now).objects (HasEach c.args.uuid list))
    (take_all c.loop-number.number-index numbers (omega arith)) (c.loop-number.invariant.each tells)
