use Rattle.std.proofs.Common.{◌≡◌, ◌+◌, Some, None, ◌∷◌, ◌++◌, [], length, sym, subst, ap, ◌∙◌, arith}
use Rattle.std.specs.Option.{IsSome}
use Rattle.std.specs.List.{All}
use Rattle.std.proofs.lemmas.Bool.{both_ways}
use Rattle.std.proofs.lemmas.List.Elements.{All-push}
use Rattle.lsvd_objstore.specs.Store.{StoreState, Finds}
use Rattle.object_recovery.specs.Earlier.{EarlierObject, FindsFirst}
use Rattle.object_recovery.proofs.FindLemmas.{same_store}
use Rattle.object_recovery.proofs.FinderLemmas.{skipped, absent, found_one, found_all}
use Rattle.object_recovery.proofs.beginning.find_earlier.Goals.{in-Some, in_default}
use Rattle.object_recovery.proofs.beginning.find_earlier.Goals as goal

pub loop-name-preserved-then-not-is_before : goal.loop-name-preserved-then-not-is_before
loop-name-preserved-then-not-is_before g c =
    let before = c.loop-name.invariant in
    record {
      same = before.same;
      tells = before.tells;
      finds =
          skipped c.args.uuid c.args.names.now c.requires c.loop-name.name-index c.name-item.result c.loop-name-test.true
          (sym c.name-item.is) c.args.number (g.S.Store.state c.args.store.now).objects c.loop-name.earlier.items before.finds
          (λ is. both_ways _ c.if-not-is_before.true (c.is_before.ensures.1 is));
    }

pub find-requires : goal.find-requires
find-requires g c = (c.requires.each c.name-item.result (c.loop-name.name-index, c.loop-name-test.true, sym c.name-item.is)).0

pub loop-name-preserved : goal.loop-name-preserved
loop-name-preserved g c =
    let before = c.loop-name.invariant in
    let names = c.args.names.now in
    let index = c.loop-name.name-index in
    let name = c.name-item.result in
    let inside = c.loop-name-test.true in
    let number = c.args.number in
    let told = (g.S.Store.state c.args.store.now).objects in
    let earlier = c.loop-name.earlier.items in
    let found = c.in_ok-receipt.ensures.found in
    let same = same_store (g.S.Store.state c.loop-name.store) (g.S.Store.state c.find.new.self) c.in_ok-receipt.ensures.unchanged
    c.in_ok-receipt.ensures.count ∙ before.same in
    elim c.match-branch-3.branch [
      | in-Some w ↦
          let receipt = g.S.Receipt.Receipt.state w.in-Some.receipt in
          let e : EarlierObject = record { number = name.number; receipt = receipt; reach = 0 } in
          let items : c.match-branch-3.earlier.items ≡ earlier ++ e ∷ [] =
          ap (λ v. v.items) w.earlier-is ∙ w.push_reserved.ensures.items ∙ ap (λ l. l ++ e ∷ []) c.reserve.ensures.items in
          record {
            same = same;
            tells = λ tells.
                subst (All (λ (o : EarlierObject). IsSome o.receipt.told)) (sym items)
                (All-push (λ (o : EarlierObject). IsSome o.receipt.told) earlier e (before.tells tells)
                (tells w.in-Some.receipt));
            finds =
                subst (FindsFirst c.args.uuid names number (index + 1) told) (sym items)
                (found_one c.args.uuid names c.requires index name inside (sym c.name-item.is) number told earlier before.finds
                receipt (c.is_before.ensures.0 c.if-not-is_before.false)
                (subst (λ (s : StoreState). Finds name s.objects (Some receipt)) before.same (rw w.in-Some.is at found)));
          }
      | in_default w ↦
          let items : c.match-branch-3.earlier.items ≡ earlier = ap (λ v. v.items) w.earlier-is ∙ c.reserve.ensures.items in
          record {
            same = same;
            tells = λ tells. subst (All (λ (o : EarlierObject). IsSome o.receipt.told)) (sym items) (before.tells tells);
            finds =
                subst (FindsFirst c.args.uuid names number (index + 1) told) (sym items)
                (absent c.args.uuid names c.requires index name inside (sym c.name-item.is) number told earlier before.finds
                (subst (λ (s : StoreState). Finds name s.objects None) before.same (rw w.in_default.is at found)));
          }
    ]

pub returns-clause-all : goal.returns-clause-all
returns-clause-all g c =
    let told = (g.S.Store.state c.args.store.now).objects in
    let whole : c.loop-name.name-index ≡ length c.args.names.now = omega arith in
    found_all c.args.uuid c.args.names.now c.args.number told c.loop-name.earlier.items c.a_uuid_has_sixteen_bytes.ensures
    (omega arith)
    (subst (λ n. FindsFirst c.args.uuid c.args.names.now c.args.number n told c.loop-name.earlier.items) whole
    c.loop-name.invariant.finds)
