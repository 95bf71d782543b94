use Rattle.std.proofs.Common.{Some, subst}
use Rattle.lsvd_objstore.specs.Store.{Finds}
use Rattle.object_recovery.proofs.JudgeLemmas.{told_judged}
use Rattle.object_recovery.proofs.judging.judge.Goals as goal

pub returns-clause-judged : goal.returns-clause-judged
returns-clause-judged g c = λ tells.
    let told = (g.S.Store.state c.args.store.now).objects in
    let receipt = g.S.Receipt.Receipt.state c.in-Some.receipt in
    let found = rw c.in-Some.is at c.in_ok-receipt.ensures.found in
    told_judged told c.args.expected.now receipt c.in_ok-read.field-0 c.judged_by.result c.judged_by.ensures
    (subst (λ name. Finds name told (Some receipt)) c.object_name.ensures.is found) (tells c.in-Some.receipt)
    c.in_ok-read.ensures.read
