use Rattle.std.proofs.Common.{◌≡◌, ◌∷◌, ◌++◌, [], List, Some, length, sym, subst, ap, ◌∙◌, refl, arith}
use Rattle.std.specs.Option.{option_or}
use Rattle.std.proofs.lemmas.List.Elements.{All-contains}
use Rattle.object_uploads.specs.State.{UploadsState}
use Rattle.stopped_volume.specs.Store.{TellsBytes}
use Rattle.lsvd_objstore.specs.Store.{StoreState}
use Rattle.object_recovery.specs.declared.inherited.Named.{Named}
use Rattle.object_recovery.specs.Checkpoints.{expected_of}
use Rattle.object_recovery.specs.Inherited.{AreInOrder, IsOfLevelUpTo, TakesOne, LacksThere, IsAbsent}
use Rattle.object_recovery.proofs.FindLemmas.{same_store}
use Rattle.object_recovery.proofs.InheritedLemmas.{HasSomeOf, has_none, below_next, next_is_in, comes_last}
use Rattle.object_recovery.proofs.InheritedLemmas.{one_more_taken, one_more_absent, all_come}
use Rattle.object_recovery.proofs.inherited.take_inherited.Given as given
use Rattle.object_recovery.proofs.inherited.take_inherited.Goals.{After-object-in-loop-object-1}
use Rattle.object_recovery.proofs.inherited.take_inherited.Goals as goal

-- ---- the object that comes next

-- those that are done, and the rest with it
split_is : (g : given.Over) (c : After-object-in-loop-object-1 g)
    → c.args.named.items ≡ c.loop-object.invariant.come.done ++ c.in-Some.object ∷ c.next.new.self.rest.items
split_is g c =
    let before = c.loop-object.invariant.come in
    before.split ∙ ap (λ more. before.done ++ more) c.in-Some.ensures.steps.0

ancestors_are : (g : given.Over) (c : After-object-in-loop-object-1 g)
    → c.loop-object.log.uploads.ancestors ≡ c.args.log.now.uploads.ancestors
ancestors_are g c = ap (λ (u : UploadsState). u.ancestors) c.loop-object.invariant.come.some.only.uploads

pub loop-object-init : goal.loop-object-init
loop-object-init g c =
    let Tells = TellsBytes g.S.Receipt.Receipt.state in
    record {
      same = refl;
      come = record {
        done = [];
        split = sym c.into_iter-object-iterator.ensures.into_iter_gives.0;
        some =
            has_none Tells c.args.geometry.now c.args.chain.now (g.S.Store.state c.args.store.now).objects c.args.log.now
            c.requires.none;
      };
    }

pub take_one-requires-clause-level : goal.take_one-requires-clause-level
take_one-requires-clause-level g c =
    let e = c.in-Some.object in
    let its = All-contains (IsOfLevelUpTo _) c.args.named.items e c.requires.levels
    (next_is_in c.args.named.items c.loop-object.invariant.come.done e c.next.new.self.rest.items (split_is g c)) in
    (its.0, omega (arith, its.1, c.requires.ancestors, ancestors_are g c))

pub take_one-requires-clause-last : goal.take_one-requires-clause-last
take_one-requires-clause-last g c =
    let before = c.loop-object.invariant.come in
    let e = c.in-Some.object in
    comes_last before.done e c.loop-object.log.uploads.queue.inherited
    (below_next before.done e c.next.new.self.rest.items (subst AreInOrder (split_is g c) c.requires.order))
    before.some.one_of

pub loop-object-preserved-in-Taken : goal.loop-object-preserved-in-Taken
loop-object-preserved-in-Taken g c =
    let before = c.loop-object.invariant in
    let at = (goal.at.loop-object-preserved-in-Taken g c).After-object-in-loop-object-1 in
    let Tells = TellsBytes g.S.Receipt.Receipt.state in
    let geometry = c.args.geometry.now in
    let uuid = c.uuid_of-uuid.result in
    let old = c.loop-object.log in
    let new = c.take_one.new.log in
    let e = c.in-Some.object in
    let told = (g.S.Store.state c.args.store.now).objects in
    let state = ap (λ (s : StoreState). s.objects) before.same in
    let is = rw c.in-Taken.is at c.in_ok-take_one.ensures.comes in
    let takes = subst (λ n. TakesOne Tells (expected_of uuid geometry n) told e old new)
    (ancestors_are g at ∙ c.requires.ancestors)
    (subst (λ o. TakesOne Tells (expected_of uuid geometry old.uploads.ancestors) o e old new) state is) in
    record {
      same =
          same_store (g.S.Store.state c.loop-object.store) (g.S.Store.state c.take_one.new.store)
          c.in_ok-take_one.ensures.unchanged c.in_ok-take_one.ensures.faults ∙ before.same;
      come =
          one_more_taken Tells geometry c.args.chain.now told c.args.named.items e c.next.new.self.rest.items
          c.loop-object.absent uuid c.args.log.now old new c.requires.order c.uuid_of-uuid.ensures takes
          (subst (λ rest. HasSomeOf Tells geometry c.args.chain.now told c.args.named.items rest c.loop-object.absent
          c.args.log.now old) c.in-Some.ensures.steps.0 before.come);
    }

pub loop-object-preserved : goal.loop-object-preserved
loop-object-preserved g c =
    let before = c.loop-object.invariant in
    let Tells = TellsBytes g.S.Receipt.Receipt.state in
    let geometry = c.args.geometry.now in
    let chain = c.args.chain.now in
    let uuid = c.uuid_of-uuid.result in
    let old = c.loop-object.log in
    let new = c.take_one.new.log in
    let e = c.in-Some.object in
    let named = c.args.named.items in
    let rest = c.next.new.self.rest.items in
    let first = c.args.log.now in
    let told = (g.S.Store.state c.args.store.now).objects in
    let state = ap (λ (s : StoreState). s.objects) before.same in
    let is = rw c.in-Absent.is at c.in_ok-take_one.ensures.comes in
    let is_absent = subst (λ o. IsAbsent uuid o e) state is.1 in
    let come = one_more_absent Tells geometry chain told named e rest c.loop-object.absent uuid first old c.requires.order
    c.uuid_of-uuid.ensures is_absent
    (subst (λ r. HasSomeOf Tells geometry chain told named r c.loop-object.absent first old) c.in-Some.ensures.steps.0
    before.come) in
    record {
      same =
          same_store (g.S.Store.state c.loop-object.store) (g.S.Store.state c.take_one.new.store)
          c.in_ok-take_one.ensures.unchanged c.in_ok-take_one.ensures.faults ∙ before.same;
      come =
          subst (λ a. HasSomeOf Tells geometry chain told named rest a first new) (sym c.or-absent.ensures)
          (subst (λ l. HasSomeOf Tells geometry chain told named rest (option_or c.loop-object.absent (Some uuid)) first l)
          (sym is.0) come);
    }

pub returns-in-Lacking-clause-taken : goal.returns-in-Lacking-clause-taken
returns-in-Lacking-clause-taken g c =
    let before = c.loop-object.invariant in
    let at = (goal.at.returns-in-Lacking-clause-taken g c).After-object-in-loop-object-1 in
    let Tells = TellsBytes g.S.Receipt.Receipt.state in
    let geometry = c.args.geometry.now in
    let uuid = c.uuid_of-uuid.result in
    let e = c.in-Some.object in
    let told = (g.S.Store.state c.args.store.now).objects in
    let state = ap (λ (s : StoreState). s.objects) before.same in
    let is = rw c.in-Lacking.is at c.in_ok-take_one.ensures.comes in
    record {
      named = e;
      among = next_is_in c.args.named.items before.come.done e c.next.new.self.rest.items (split_is g at);
      number_is = refl;
      uuid = uuid;
      of = c.uuid_of-uuid.ensures;
      lacks =
          subst (λ n. LacksThere Tells (expected_of uuid geometry n) told e) (ancestors_are g at ∙ c.requires.ancestors)
          (subst (λ o. LacksThere Tells (expected_of uuid geometry c.loop-object.log.uploads.ancestors) o e) state is);
    }

none_left : (rest : List Named) → length rest ≡ 0 → rest ≡ []
none_left [] none = refl
none_left (n ∷ rest) none = absurd (omega (arith, none))

pub returns-clause-taken : goal.returns-clause-taken
returns-clause-taken g c =
    let Tells = TellsBytes g.S.Receipt.Receipt.state in
    let rest = c.loop-object.object-iterator.rest in
    let none = none_left rest.items (omega (arith, rest.ok.0, c.in-None.ensures.steps.0)) in
    all_come Tells c.args.geometry.now c.args.chain.now (g.S.Store.state c.args.store.now).objects c.args.named.items
    c.loop-object.object-iterator.rest.items c.loop-object.absent c.args.log.now c.loop-object.log none
    c.loop-object.invariant.come
