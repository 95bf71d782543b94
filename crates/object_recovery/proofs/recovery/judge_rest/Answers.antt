use Rattle.std.proofs.Common.{subst, Some, None}
use Rattle.std.specs.Prelude.{IfSome}
use Rattle.lsvd_objstore.specs.Store.{StoreState}
use Rattle.object_recovery.specs.Judged.{JudgesPast, StaysRefused}
use Rattle.object_recovery.proofs.FindLemmas.{same_store}
use Rattle.object_recovery.proofs.OutcomeLemmas.{told_rest, told_refusal}
use Rattle.object_recovery.proofs.recovery.judge_rest.Goals as goal

pub returns-in-None-clause-judged : goal.returns-in-None-clause-judged
returns-in-None-clause-judged g c = λ tells.
    let told = (g.S.Store.state c.args.store.now).objects in
    let volume = c.expected_of_list-volume.result in
    let names = c.args.names.now in
    let gap = c.in_ok-gap.gap in
    let after = same_store (g.S.Store.state c.args.store.now) (g.S.Store.state c.reach_gap.new.store)
    c.in_ok-gap.ensures.unchanged c.in_ok-gap.ensures.faults in
    told_rest told c.args.log.now volume names c.args.left gap None c.expected_of_list-volume.ensures
    (subst (StaysRefused gap.refused) c.in-None.is c.in_ok-refusal.ensures.stays)
    (c.in_ok-gap.ensures.gap tells)
    (subst (λ (s : StoreState). IfSome s.objects (λ objects. JudgesPast volume objects names gap None)) after
    ((rw c.in-None.is at c.in_ok-refusal.ensures.judged) tells))

pub returns-in-Some-clause-refused : goal.returns-in-Some-clause-refused
returns-in-Some-clause-refused g c = λ tells.
    let told = (g.S.Store.state c.args.store.now).objects in
    let volume = c.expected_of_list-volume.result in
    let names = c.args.names.now in
    let gap = c.in_ok-gap.gap in
    let refusal = c.in-Some.refusal in
    let after = same_store (g.S.Store.state c.args.store.now) (g.S.Store.state c.reach_gap.new.store)
    c.in_ok-gap.ensures.unchanged c.in_ok-gap.ensures.faults in
    told_refusal told c.args.log.now names c.args.left refusal c.into.result c.into.ensures
    (told_rest told c.args.log.now volume names c.args.left gap (Some refusal) c.expected_of_list-volume.ensures
    (subst (StaysRefused gap.refused) c.in-Some.is c.in_ok-refusal.ensures.stays)
    (c.in_ok-gap.ensures.gap tells)
    (subst (λ (s : StoreState). IfSome s.objects (λ objects. JudgesPast volume objects names gap (Some refusal))) after
    ((rw c.in-Some.is at c.in_ok-refusal.ensures.judged) tells)))
