use Rattle.std.proofs.Common.{Some, subst}
use Rattle.std.specs.Prelude.{IfSome}
use Rattle.lsvd_names.specs.declared.name.ObjName.{ObjName}
use Rattle.lsvd_objstore.specs.Store.{Finds}
use Rattle.object_format.specs.declared.expected.Expected.{Expected}
use Rattle.object_recovery.specs.Holding.{RefusesOrFails}
use Rattle.object_recovery.specs.Read.{IsWhyNotRead, HasNoHeader}
use Rattle.object_recovery.proofs.FindLemmas.{passed_on}
use Rattle.object_recovery.proofs.HoldingLemmas.{alone_itself, told_unread_held}
use Rattle.object_recovery.proofs.holding.read_held.Goals as goal

pub returns-in_err-read_head-clause-refused : goal.returns-in_err-read_head-clause-refused
returns-in_err-read_head-clause-refused g c = λ tells none.
    let told = (g.S.Store.state c.args.store.now).objects in
    let expected : Expected = c.args.expected.now in
    let number = expected.number in
    let receipt = g.S.Receipt.Receipt.state c.in-Some.receipt in
    let error = c.in_err-read_head.field-0.0 in
    let failed = c.in_err-read_head.ensures in
    let same = alone_itself expected none in
    let found = subst (λ (n : ObjName). Finds n told (Some receipt)) c.object_name.ensures.is
    (rw c.in-Some.is at c.in_ok-receipt.ensures.found) in
    passed_on (λ e. IfSome told (λ objects. RefusesOrFails expected objects number e)) c.from_residual-in_err-read_head.result
    error c.from_residual-in_err-read_head.ensures.1
    (told_unread_held expected number told receipt error found (tells c.in-Some.receipt)
    (subst (λ e. IsWhyNotRead receipt e error) same failed.bad) (subst (λ e. HasNoHeader receipt e error) same failed.none))
