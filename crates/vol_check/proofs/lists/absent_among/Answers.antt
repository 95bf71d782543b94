use Rattle.std.proofs.Common.{ℕ, ◌+◌, ◌<◌, ◌++◌, ◌∷◌, [], Bool, List, length, get_or, ◌∙◌, subst}
use Rattle.std.specs.Prelude.{IfSome}
use Rattle.std.proofs.lemmas.Bool.{both_ways}
use Rattle.lsvd_objstore.specs.Objects.{Objects}
use Rattle.lsvd_objstore.specs.Store.{StoreState}
use Rattle.super_recovery.proofs.Results.{told_both, same_store}
use Rattle.vol_check.specs.declared.report.ObjectOfLevel.{ObjectOfLevel}
use Rattle.vol_check.specs.Report.{own_object}
use Rattle.vol_check.specs.Steps.{IsAway, IsNotIn}
use Rattle.vol_check.proofs.PartLemmas.{IsPartTo, SaysAway, part_more, part_passed}
use Rattle.vol_check.proofs.lists.absent_among.Goals.{then-branch+in_ok-put_object, else-branch}
use Rattle.vol_check.proofs.lists.absent_among.Goals as goal

pub loop-object-preserved : goal.loop-object-preserved
loop-object-preserved g c =
    let items : List ObjectOfLevel = c.args.objects.now in
    let chain = c.args.chain.now in
    let Gone : ℕ → Type 0 = IsNotIn c.args.there.now in
    let index : ℕ = c.loop-object.object-index in
    let next : ObjectOfLevel = get_or items index (own_object 0) in
    let inside : index < length items = c.loop-object-test.true in
    let list : List ObjectOfLevel = c.loop-object.list.items in
    let told = (g.S.Store.state c.args.store.now).objects in
    let before = c.loop-object.invariant in
    let done = c.in_ok-is_absent.ensures in
    let says : Bool = c.in_ok-is_absent.field-0 in
    let after = same_store (g.S.Store.state c.loop-object.store) (g.S.Store.state c.is_absent.new.store) done.unchanged
    done.faults in
    let Before : Objects → Type 0 = λ known. IsPartTo items (IsAway Gone known chain) index list in
    let After : List ObjectOfLevel → Objects → Type 0 = λ l known. IsPartTo items (IsAway Gone known chain) (index + 1) l in
    let said : IfSome told (SaysAway says Gone chain next) =
    subst (λ (s : StoreState). IfSome s.objects (SaysAway says Gone chain next)) before.same done.told in
    elim c.if-branch.branch [
      | then-branch+in_ok-put_object w ↦
          rw (w.list-is, w.in_ok-put_object.ensures) (record {
            same = after ∙ before.same;
            among = told_both Before (SaysAway says Gone chain next) (After (list ++ next ∷ [])) told
                (λ known is here. part_more items c.requires (IsAway Gone known chain) index inside list (own_object 0) is
                (here.0 w.if-branch.true)) before.among said;
          })
      | else-branch w ↦
          rw w.list-is (record {
            same = after ∙ before.same;
            among = told_both Before (SaysAway says Gone chain next) (After list) told
                (λ known is here. part_passed items c.requires (IsAway Gone known chain) index inside list (own_object 0) is
                (λ away. both_ways says w.if-branch.false (here.1 away))) before.among said;
          })
    ]
