use Rattle.std.proofs.Common.{ℕ, ◌+◌, inl, List, take, get_or, refl, ◌∙◌, subst, arith}
use Rattle.std.specs.Prelude.{IfSome}
use Rattle.std.specs.BTreeSet.{BTreeSet}
use Rattle.std.proofs.lemmas.List.{take_all}
use Rattle.lsvd_objstore.specs.Store.{StoreState}
use Rattle.stopped_volume.specs.Expected.{expected_alone}
use Rattle.super_recovery.proofs.Results.{passed_on, same_store, told_both}
use Rattle.vol_check.specs.declared.report.ObjectOfLevel.{ObjectOfLevel}
use Rattle.vol_check.specs.Steps.{AddsKept, NamesAll, RefusesKept, RefusesNamed}
use Rattle.vol_check.proofs.HeldLemmas.{told_all, no_rows_given}
use Rattle.vol_check.proofs.NamedLemmas.{names_begin, names_more, names_refused}
use Rattle.vol_check.proofs.SetLemmas.{none_in}
use Rattle.vol_check.proofs.naming.named_objects.Goals as goal

pub returns-in_err-add_rows-clause-refused : goal.returns-in_err-add_rows-clause-refused
returns-in_err-add_rows-clause-refused g c = λ tells.
    let told = (g.S.Store.state c.args.store.now).objects in
    let volume = c.args.volume.now in
    let given = c.requires in
    let error = c.in_err-add_rows.field-0.0 in
    passed_on (λ e. IfSome told (λ objects. RefusesNamed volume objects c.args.holds.now e)) c.from_residual.result error
    c.from_residual.ensures.1
    (told_all (λ objects. RefusesNamed volume objects c.args.holds.now error) told
    (λ objects. inl (no_rows_given c.args.bytes.now (expected_alone volume c.args.base) given.0 given.1 given.2 error
    c.in_err-add_rows.ensures.refused)))

pub loop-number-init : goal.loop-number-init
loop-number-init g c =
    let told = (g.S.Store.state c.args.store.now).objects in
    let volume = c.args.volume.now in
    let base = c.args.base in
    let bytes = c.args.bytes.now in
    let holds = c.args.holds.now in
    let named = c.add_rows.new.named in
    record {
      same = refl;
      named = λ tells.
          told_all (λ objects. NamesAll volume objects base bytes (take 0 holds) named) told
          (λ objects. names_begin volume objects base bytes holds c.new-named.result named
          (none_in c.new-named.result c.new-named.ensures.empty) c.in_ok-add_rows.ensures.adds);
    }

pub loop-number-preserved : goal.loop-number-preserved
loop-number-preserved g c =
    let told = (g.S.Store.state c.args.store.now).objects in
    let volume = c.args.volume.now in
    let base = c.args.base in
    let bytes = c.args.bytes.now in
    let holds = c.args.holds.now in
    let index = c.loop-number.number-index in
    let next : ℕ = get_or holds index 0 in
    let before = c.loop-number.invariant in
    let old : BTreeSet ObjectOfLevel = c.loop-number.named in
    let new : BTreeSet ObjectOfLevel = c.add_kept.new.named in
    let done = c.in_ok-add_kept.ensures in
    let after = same_store (g.S.Store.state c.loop-number.store) (g.S.Store.state c.add_kept.new.store) done.unchanged
    done.faults in
    record {
      same = after ∙ before.same;
      named = λ tells.
          told_both (λ objects. NamesAll volume objects base bytes (take index holds) old)
          (λ objects. AddsKept volume objects next old new)
          (λ objects. NamesAll volume objects base bytes (take (index + 1) holds) new) told
          (λ objects. names_more volume objects base bytes holds index c.loop-number-test.true old new) (before.named tells)
          (subst (λ (s : StoreState). IfSome s.objects (λ objects. AddsKept volume objects next old new)) before.same
          (done.adds tells));
    }

pub returns-in_err-add_kept-clause-refused : goal.returns-in_err-add_kept-clause-refused
returns-in_err-add_kept-clause-refused g c = λ tells.
    let told = (g.S.Store.state c.args.store.now).objects in
    let volume = c.args.volume.now in
    let base = c.args.base in
    let bytes = c.args.bytes.now in
    let holds = c.args.holds.now in
    let index = c.loop-number.number-index in
    let next : ℕ = get_or holds index 0 in
    let before = c.loop-number.invariant in
    let old : BTreeSet ObjectOfLevel = c.loop-number.named in
    let error = c.in_err-add_kept.field-0.0 in
    passed_on (λ e. IfSome told (λ objects. RefusesNamed volume objects holds e)) c.from_residual-in_err-add_kept.result error
    c.from_residual-in_err-add_kept.ensures.1
    (told_both (λ objects. NamesAll volume objects base bytes (take index holds) old)
    (λ objects. RefusesKept volume objects next error)
    (λ objects. RefusesNamed volume objects holds error) told
    (λ objects. names_refused volume objects base bytes holds index c.loop-number-test.true old error) (before.named tells)
    (subst (λ (s : StoreState). IfSome s.objects (λ objects. RefusesKept volume objects next error)) before.same
    (c.in_err-add_kept.ensures.refused tells)))

pub returns-clause-named : goal.returns-clause-named
returns-clause-named g c = λ tells.
    let told = (g.S.Store.state c.args.store.now).objects in
    let holds = c.args.holds.now in
    subst (λ (list : List ℕ). IfSome told (λ objects.
    NamesAll c.args.volume.now objects c.args.base c.args.bytes.now list c.loop-number.named))
    (take_all c.loop-number.number-index holds (omega arith)) (c.loop-number.invariant.named tells)
