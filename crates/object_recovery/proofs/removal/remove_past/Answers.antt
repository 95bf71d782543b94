use Rattle.std.proofs.Common.{◌≡◌, ◌+◌, ◌∙◌, sym}
use Rattle.std.proofs.lemmas.Bool.{both_ways}
use Rattle.lsvd_objstore.specs.Objects.{IsRemoved}
use Rattle.object_recovery.specs.Removal.{Removes, IsListedPast, RemovesFirst}
use Rattle.object_recovery.proofs.RemovalLemmas.{becomes_so, becomes_with, becomes_both, first_more, first_skip, some_more}
use Rattle.object_recovery.proofs.removal.remove_past.Goals.{then-is_past+in_ok-remove, else-is_past}
use Rattle.object_recovery.proofs.removal.remove_past.Goals as goal

pub remove-requires : goal.remove-requires
remove-requires g c = c.requires c.name-item.result (c.loop-name.name-index, c.loop-name-test.true, sym c.name-item.is)

pub returns-in_err-remove-clause-some : goal.returns-in_err-remove-clause-some
returns-in_err-remove-clause-some g c =
    let names = c.args.names.now in
    let number = c.args.number in
    let name = c.name-item.result in
    becomes_both (RemovesFirst names number c.loop-name.name-index) (Removes (λ other. other ≡ name))
    (Removes (IsListedPast names number))
    (g.S.Store.state c.args.store.now).objects (g.S.Store.state c.loop-name.store).objects
    (g.S.Store.state c.remove.new.store).objects
    (λ x y z. some_more names number c.loop-name.name-index name x y z c.loop-name-test.true (sym c.name-item.is)
    (c.is_past.ensures.0 c.if-is_past.true))
    c.loop-name.invariant.first c.remove.ensures.some

pub loop-name-preserved : goal.loop-name-preserved
loop-name-preserved g c =
    let names = c.args.names.now in
    let number = c.args.number in
    let index = c.loop-name.name-index in
    let name = c.name-item.result in
    let old = (g.S.Store.state c.args.store.now).objects in
    let mid = (g.S.Store.state c.loop-name.store).objects in
    elim c.if-is_past.branch [
      | then-is_past+in_ok-remove w ↦
          let last = (g.S.Store.state w.remove.new.store).objects in
          let both = becomes_with (Removes (λ other. other ≡ name)) (IsRemoved name) mid last w.remove.ensures.some
          w.in_ok-remove.ensures.removed in
          rw w.store-is (record {
            faults = w.in_ok-remove.ensures.faults ∙ c.loop-name.invariant.faults;
            first =
                becomes_both (RemovesFirst names number index) (λ y z. Removes (λ other. other ≡ name) y z × IsRemoved name y z)
                (RemovesFirst names number (index + 1)) old mid last
                (λ x y z first step. first_more names number index name x y z c.loop-name-test.true (sym c.name-item.is)
                (c.is_past.ensures.0 w.if-is_past.true) first step.0 step.1)
                c.loop-name.invariant.first both;
          })
      | else-is_past w ↦
          rw w.store-is (record {
            faults = c.loop-name.invariant.faults;
            first =
                becomes_so (RemovesFirst names number index) (RemovesFirst names number (index + 1)) old mid
                (λ x y first. first_skip names number index name x y c.loop-name-test.true (sym c.name-item.is)
                (λ past. both_ways _ w.if-is_past.false (c.is_past.ensures.1 past)) first)
                c.loop-name.invariant.first;
          })
    ]
