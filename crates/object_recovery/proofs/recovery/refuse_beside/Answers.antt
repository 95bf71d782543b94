use Rattle.std.proofs.Common.{Some, None, subst, refl}
use Rattle.std.specs.Prelude.{IfSome}
use Rattle.lsvd_objstore.specs.Store.{StoreState}
use Rattle.object_recovery.specs.Judged.{JudgesPast}
use Rattle.object_recovery.proofs.FindLemmas.{same_store}
use Rattle.object_recovery.proofs.OutcomeLemmas.{refusal_is_one, told_refuses_beside}
use Rattle.object_recovery.proofs.recovery.refuse_beside.Goals as goal

pub returns-in-None-clause-refused : goal.returns-in-None-clause-refused
returns-in-None-clause-refused g c = λ tells.
    let told = (g.S.Store.state c.args.store.now).objects in
    let volume = c.args.volume.now in
    let names = c.args.names.now in
    let gap = c.in_ok-gap.gap in
    let after = same_store (g.S.Store.state c.args.store.now) (g.S.Store.state c.judge_to_gap.new.store)
    c.in_ok-gap.ensures.unchanged c.in_ok-gap.ensures.faults in
    told_refuses_beside told volume c.args.base gap names c.args.missing None _ refl (c.in_ok-gap.ensures.gap tells)
    (subst (λ (s : StoreState). IfSome s.objects (λ objects. JudgesPast volume objects names gap None)) after
    ((rw c.in-None.is at c.in_ok-refusal.ensures.judged) tells))

pub returns-in-Some-clause-refused : goal.returns-in-Some-clause-refused
returns-in-Some-clause-refused g c = λ tells.
    let told = (g.S.Store.state c.args.store.now).objects in
    let volume = c.args.volume.now in
    let names = c.args.names.now in
    let gap = c.in_ok-gap.gap in
    let refusal = c.in-Some.refusal in
    let after = same_store (g.S.Store.state c.args.store.now) (g.S.Store.state c.judge_to_gap.new.store)
    c.in_ok-gap.ensures.unchanged c.in_ok-gap.ensures.faults in
    told_refuses_beside told volume c.args.base gap names c.args.missing (Some refusal) c.into.result c.into.ensures
    (c.in_ok-gap.ensures.gap tells)
    (subst (λ (s : StoreState). IfSome s.objects (λ objects. JudgesPast volume objects names gap (Some refusal))) after
    ((rw c.in-Some.is at c.in_ok-refusal.ensures.judged) tells))

pub returns-in-Some-clause-refusal : goal.returns-in-Some-clause-refusal
returns-in-Some-clause-refusal g c = refusal_is_one c.in-Some.refusal c.into.result c.into.ensures
