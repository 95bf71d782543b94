use Rattle.std.proofs.Common.{sym, subst}
use Rattle.std.specs.Prelude.{IfSome, IsTrue, ◌↔◌}
use Rattle.lsvd_objstore.specs.Objects.{Lists}
use Rattle.super_recovery.specs.Found.{HasEpoch}
use Rattle.super_recovery.proofs.Results.{same_objects}
use Rattle.super_recovery.proofs.FindLemmas.{told_none, told_bad, told_newest}
use Rattle.super_recovery.proofs.finding.newest_epoch.Goals as goal

pub returns-in_default-clause-why : goal.returns-in_default-clause-why
returns-in_default-clause-why g c = λ tells.
    let told = (g.S.Store.state c.args.store.now).objects in
    let names = c.as_slice.result.now in
    let lists = subst (λ list. IfSome told (λ objects. Lists c.args.uuid objects list)) (sym c.as_slice.ensures)
    c.in_ok-names.ensures.listed in
    told_none told c.args.uuid names c.a_uuid_has_sixteen_bytes.ensures lists c.in_default.ensures

pub returns-then-not-branch-clause-why : goal.returns-then-not-branch-clause-why
returns-then-not-branch-clause-why g c = λ tells.
    let told = (g.S.Store.state c.args.store.now).objects in
    let names = c.as_slice.result.now in
    let lists = subst (λ list. IfSome told (λ objects. Lists c.args.uuid objects list)) (sym c.as_slice.ensures)
    c.in_ok-names.ensures.listed in
    let same = same_objects (g.S.Store.state c.args.store.now) (g.S.Store.state c.list.new.self)
    c.in_ok-names.ensures.unchanged in
    let number = c.in-Some.number in
    let has = subst (λ held. IfSome held (λ objects. IsTrue c.in_ok-has_epoch.field-0 ↔ HasEpoch c.args.uuid number objects)) same
    (c.in_ok-has_epoch.ensures.has tells) in
    told_bad told c.args.uuid names c.a_uuid_has_sixteen_bytes.ensures lists number c.in-Some.ensures
    c.in_ok-has_epoch.field-0 has c.if-not-branch.true

pub returns-clause-newest : goal.returns-clause-newest
returns-clause-newest g c = λ tells.
    let told = (g.S.Store.state c.args.store.now).objects in
    let names = c.as_slice.result.now in
    let lists = subst (λ list. IfSome told (λ objects. Lists c.args.uuid objects list)) (sym c.as_slice.ensures)
    c.in_ok-names.ensures.listed in
    let same = same_objects (g.S.Store.state c.args.store.now) (g.S.Store.state c.list.new.self)
    c.in_ok-names.ensures.unchanged in
    let number = c.in-Some.number in
    let has = subst (λ held. IfSome held (λ objects. IsTrue c.in_ok-has_epoch.field-0 ↔ HasEpoch c.args.uuid number objects)) same
    (c.in_ok-has_epoch.ensures.has tells) in
    told_newest told c.args.uuid names c.a_uuid_has_sixteen_bytes.ensures lists number c.in-Some.ensures
    c.in_ok-has_epoch.field-0 has c.if-not-branch.false
