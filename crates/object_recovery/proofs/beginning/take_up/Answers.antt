use Rattle.std.proofs.Common.{◌≡◌, ◌≤◌, ◌++◌, ◌∷◌, true, subst, ap, ◌∙◌, arith}
use Rattle.std.proofs.lemmas.List.Elements.{All-contains}
use Rattle.object_recovery.specs.Checkpoints.{expected_of}
use Rattle.object_recovery.specs.Earlier.{EarlierObject}
use Rattle.object_recovery.specs.Beginning.{TakesUp, TakesUpOrLacks}
use Rattle.object_recovery.proofs.EarlierLemmas.{Ascend}
use Rattle.object_recovery.proofs.FindLemmas.{same_store}
use Rattle.object_recovery.proofs.TakenLists.{TakenUpTo, next_taken, below_next, next_is_in, newest_next}
use Rattle.object_recovery.proofs.beginning.take_up.Goals as goal

pub take_one_up-requires-clause-newest : goal.take_one_up-requires-clause-newest
take_one_up-requires-clause-newest g c =
    let before = c.loop-object.invariant.taken in
    let queue = c.args.log.now.uploads.queue in
    let earlier = c.args.earlier.items in
    let e = c.in-Some.object in
    let rest = c.next.new.self.rest.items in
    let split : earlier ≡ before.done ++ e ∷ rest = before.split ∙ ap (λ more. before.done ++ more) c.in-Some.ensures.steps.0 in
    let from_one : 1 ≤ e.number =
    All-contains (λ (o : EarlierObject). 1 ≤ o.number) earlier e c.requires.earlier.from_one
    (next_is_in earlier before.done e rest split) in
    newest_next c.args.log.now.uploads.uuid c.args.geometry.now c.args.log.now.uploads.ancestors queue.frontier queue.end
    e.number before.done c.loop-object.log
    before.taken (below_next before.done e rest (subst Ascend split c.requires.earlier.order)) (omega (arith, from_one))

pub loop-object-preserved : goal.loop-object-preserved
loop-object-preserved g c =
    let before = c.loop-object.invariant in
    let uuid = c.args.log.now.uploads.uuid in
    let geometry = c.args.geometry.now in
    let queue = c.args.log.now.uploads.queue in
    let e = c.in-Some.object in
    let old = c.loop-object.log in
    let new = c.take_one_up.new.log in
    let ancestors = c.args.log.now.uploads.ancestors in
    let list = before.taken.taken.list in
    let taken : TakesUpOrLacks (expected_of old.uploads.uuid geometry old.uploads.ancestors) e true old new =
    rw c.if-not-branch.false at c.in_ok-take_one_up.ensures.taken in
    let takes = subst (λ n. TakesUp (expected_of uuid geometry n) e old new) list.ancestors_are
    (subst (λ u. TakesUp (expected_of u geometry old.uploads.ancestors) e old new) list.uuid_is taken) in
    let after = same_store (g.S.Store.state c.loop-object.store) (g.S.Store.state c.take_one_up.new.store)
    c.in_ok-take_one_up.ensures.unchanged c.in_ok-take_one_up.ensures.faults in
    record {
      same = after ∙ before.same;
      inherited = takes.found.rest.inherited ∙ before.inherited;
      taken =
          next_taken uuid geometry ancestors queue.frontier queue.end c.args.earlier.items e c.next.new.self.rest.items old new
          takes
          (subst (λ rest. TakenUpTo uuid geometry ancestors queue.frontier queue.end c.args.earlier.items rest old)
          c.in-Some.ensures.steps.0 before.taken);
    }
