use Rattle.std.proofs.Common.{inr, Some, None, refl, subst}
use Rattle.std.specs.Prelude.{IfSome}
use Rattle.lsvd_objstore.specs.Store.{StoreState}
use Rattle.super_recovery.proofs.Results.{told_both, same_store}
use Rattle.object_recovery.specs.Judged.{GoesToGap, JudgesPast}
use Rattle.vol_check.specs.Steps.{JudgesTo, RefusesPast}
use Rattle.vol_check.proofs.checking.last_number.Goals as goal

pub returns-in-Some-clause-refused : goal.returns-in-Some-clause-refused
returns-in-Some-clause-refused g c = λ tells.
    let told = (g.S.Store.state c.args.store.now).objects in
    let volume = c.args.volume.now in
    let names = c.args.names.now in
    let from = c.args.reached in
    let gap = c.in_ok-gap.gap in
    let refusal = c.in-Some.refusal in
    let after = same_store (g.S.Store.state c.args.store.now) (g.S.Store.state c.judge_to_gap.new.store)
    c.in_ok-gap.ensures.unchanged c.in_ok-gap.ensures.faults in
    told_both (λ objects. GoesToGap volume objects from gap) (λ objects. JudgesPast volume objects names gap (Some refusal))
    (λ objects. RefusesPast volume objects names from c.into.result) told
    (λ objects goes past. inr (gap, refusal, goes, past, c.into.ensures)) (c.in_ok-gap.ensures.gap tells)
    (subst (λ (s : StoreState). IfSome s.objects (λ objects. JudgesPast volume objects names gap (Some refusal))) after
    ((rw c.in-Some.is at c.in_ok-refusal.ensures.judged) tells))

pub returns-in-None-clause-judged : goal.returns-in-None-clause-judged
returns-in-None-clause-judged g c = λ tells.
    let told = (g.S.Store.state c.args.store.now).objects in
    let volume = c.args.volume.now in
    let names = c.args.names.now in
    let from = c.args.reached in
    let gap = c.in_ok-gap.gap in
    let after = same_store (g.S.Store.state c.args.store.now) (g.S.Store.state c.judge_to_gap.new.store)
    c.in_ok-gap.ensures.unchanged c.in_ok-gap.ensures.faults in
    told_both (λ objects. GoesToGap volume objects from gap) (λ objects. JudgesPast volume objects names gap None)
    (λ objects. JudgesTo volume objects names from gap.number) told (λ objects goes past. (gap, goes, past, refl))
    (c.in_ok-gap.ensures.gap tells)
    (subst (λ (s : StoreState). IfSome s.objects (λ objects. JudgesPast volume objects names gap None)) after
    ((rw c.in-None.is at c.in_ok-refusal.ensures.judged) tells))
