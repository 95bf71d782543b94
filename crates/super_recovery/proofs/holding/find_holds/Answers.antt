use Rattle.std.proofs.Common.{subst}
use Rattle.std.specs.Prelude.{IfSome}
use Rattle.super_recovery.specs.Holds.{AreHoldsAmong, IsFirstBad}
use Rattle.super_recovery.proofs.HoldLemmas.{HasEach, told_bad, told_holds}
use Rattle.super_recovery.proofs.NameLemmas.{are_holds_among}
use Rattle.super_recovery.proofs.holding.find_holds.Goals as goal

pub returns-in-Some-clause-why : goal.returns-in-Some-clause-why
returns-in-Some-clause-why g c = λ tells.
    let told = (g.S.Store.state c.args.store.now).objects in
    let names = c.args.names.now in
    let numbers = c.in_ok-numbers.numbers.items in
    let among : AreHoldsAmong c.args.uuid names numbers =
    are_holds_among c.args.uuid names numbers c.requires c.in_ok-numbers.ensures.ascending c.in_ok-numbers.ensures.same in
    told_bad told c.args.uuid numbers names c.a_uuid_has_sixteen_bytes.ensures among c.in-Some.number
    (subst (λ list. IfSome told (IsFirstBad c.args.uuid list c.in-Some.number)) c.as_slice.ensures.value
    (rw c.in-Some.is at (c.in_ok-number.ensures.first tells)))

pub returns-clause-among : goal.returns-clause-among
returns-clause-among g c =
    are_holds_among c.args.uuid c.args.names.now c.in_ok-numbers.numbers.items c.requires c.in_ok-numbers.ensures.ascending
    c.in_ok-numbers.ensures.same

pub returns-clause-holds : goal.returns-clause-holds
returns-clause-holds g c = λ tells.
    let told = (g.S.Store.state c.args.store.now).objects in
    let names = c.args.names.now in
    let numbers = c.in_ok-numbers.numbers.items in
    let among : AreHoldsAmong c.args.uuid names numbers =
    are_holds_among c.args.uuid names numbers c.requires c.in_ok-numbers.ensures.ascending c.in_ok-numbers.ensures.same in
    told_holds told c.args.uuid numbers names c.a_uuid_has_sixteen_bytes.ensures among
    (subst (λ list. IfSome told (HasEach c.args.uuid list)) c.as_slice.ensures.value
    (rw c.in_default.is at (c.in_ok-number.ensures.first tells)))
