use Rattle.std.proofs.Common.{rules, Some, Ok, Err, sym, ◌∙◌, ap, subst}
use Rattle.std.proofs.lemmas.List.Sorted.{answers_always}
use Rattle.object_uploads.specs.State.{NumberedReceipt}
use Rattle.object_uploads.specs.Queue.{receipt_in}
use Rattle.object_uploads.specs.Receipts.{ReceiptsState, Ascend}
use Rattle.object_uploads.proofs.ReceiptLemmas.{searched, lent_is}
use Rattle.object_uploads.proofs.receipts.Receipts.get.Goals as goal

-- the closure gives a receipt's number
pub returns-in-Ok : goal.returns-in-Ok
returns-in-Ok g c =
    let order = subst Ascend (sym c.deref.ensures.value) c.self.invariant.0 in
    let by_number = c.in-Ok.ensures.position (λ r. r.number) (answers_always _ _ _ (λ f a r g called. search rules)) in
    let found = searched c.args.number c.deref.result.now order (Ok c.in-Ok.at) c.in-Ok.ensures.bound by_number
    c.index.result.now in
    let is = lent_is c.args.number c.in-Ok.at c.self.inside.list.items c.deref.result.now c.index.result.now
    c.deref.ensures.value c.index.ensures found in
    ap (λ (r : NumberedReceipt). Some r.receipt) c.behind-self.view_is
    ∙ (is ∙ ap (λ (r : ReceiptsState). receipt_in r.list c.args.number) c.self.view_is)

pub returns-in-Err : goal.returns-in-Err
returns-in-Err g c =
    let order = subst Ascend (sym c.deref.ensures.value) c.self.invariant.0 in
    let by_number = c.in-Err.ensures.position (λ r. r.number) (answers_always _ _ _ (λ f a r g called. search rules)) in
    let none = searched c.args.number c.deref.result.now order (Err c.in-Err.field-0) c.in-Err.ensures.bound by_number in
    sym none ∙ (ap (λ list. receipt_in list c.args.number) c.deref.ensures.value
    ∙ ap (λ (r : ReceiptsState). receipt_in r.list c.args.number) c.self.view_is)
