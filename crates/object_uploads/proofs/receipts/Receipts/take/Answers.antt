use Rattle.std.proofs.Common.{rules, ◌≡◌, Some, Ok, Err, sym, ◌∙◌, ap, subst}
use Rattle.std.proofs.lemmas.List.Sorted.{answers_always}
use Rattle.object_uploads.specs.State.{NumberedReceipt}
use Rattle.object_uploads.specs.Queue.{receipt_in}
use Rattle.object_uploads.specs.Removal.{without_receipt}
use Rattle.object_uploads.specs.Receipts.{ReceiptsState, Ascend, AreStates}
use Rattle.object_uploads.proofs.ReceiptLemmas.{searched, lent_is, IsFoundAt, searched_at, removed_receipt, none_taken}
use Rattle.object_uploads.proofs.ReceiptLemmas.{ascend_removed}
use Rattle.object_uploads.proofs.TellLemmas.{IsSeen, all_without_receipt}
use Rattle.object_uploads.proofs.receipts.Receipts.take.Goals as goal

-- the closure gives a receipt's number
pub returns-in-Ok-clause-was : goal.returns-in-Ok-clause-was
returns-in-Ok-clause-was g c =
    let order = subst Ascend (sym c.deref.ensures.value) c.self.invariant.0 in
    let by_number = c.in-Ok.ensures.position (λ r. r.number) (answers_always _ _ _ (λ f a r g called. search rules)) in
    let found = searched c.args.number c.deref.result.now order (Ok c.in-Ok.at) c.in-Ok.ensures.bound by_number
    c.remove.result in
    let is = lent_is c.args.number c.in-Ok.at c.self.inside.list.items c.deref.result.now c.remove.result
    c.deref.ensures.value c.remove.ensures.value found in
    ap (λ (r : NumberedReceipt). Some r.receipt) c.result.view_is
    ∙ (is ∙ ap (λ (r : ReceiptsState). receipt_in r.list c.args.number) c.self.view_is)

pub invariant_of-self : goal.invariant_of-self
invariant_of-self g c =
    let state = g.R.Receipt.state in
    let list = c.self.inside.list.items in
    let order = subst Ascend (sym c.deref.ensures.value) c.self.invariant.0 in
    let by_number = c.in-Ok.ensures.position (λ r. r.number) (answers_always _ _ _ (λ f a r g called. search rules)) in
    let at = subst (λ list. IsFoundAt c.args.number list (Ok c.in-Ok.at)) c.deref.ensures.value
    (searched_at c.args.number c.deref.result.now order (Ok c.in-Ok.at) c.in-Ok.ensures.bound by_number) in
    let left = c.remove.ensures.items
    ∙ removed_receipt c.args.number list c.in-Ok.at c.self.invariant.0 at.0 at.1 in (
      subst Ascend (sym c.remove.ensures.items) (ascend_removed list c.in-Ok.at at.0 c.self.invariant.0),
      subst (AreStates state) (sym left) (all_without_receipt (IsSeen state) c.args.number list c.self.invariant.1),
    )

pub returns-in-Ok-clause-list : goal.returns-in-Ok-clause-list
returns-in-Ok-clause-list g c =
    let order = subst Ascend (sym c.deref.ensures.value) c.self.invariant.0 in
    let by_number = c.in-Ok.ensures.position (λ r. r.number) (answers_always _ _ _ (λ f a r g called. search rules)) in
    let at = subst (λ list. IsFoundAt c.args.number list (Ok c.in-Ok.at)) c.deref.ensures.value
    (searched_at c.args.number c.deref.result.now order (Ok c.in-Ok.at) c.in-Ok.ensures.bound by_number) in
    c.remove.ensures.items
    ∙ (removed_receipt c.args.number c.self.inside.list.items c.in-Ok.at c.self.invariant.0 at.0 at.1
    ∙ ap (λ (r : ReceiptsState). without_receipt c.args.number r.list) c.self.view_is)

pub returns-in-Err-clause-was : goal.returns-in-Err-clause-was
returns-in-Err-clause-was g c =
    let order = subst Ascend (sym c.deref.ensures.value) c.self.invariant.0 in
    let by_number = c.in-Err.ensures.position (λ r. r.number) (answers_always _ _ _ (λ f a r g called. search rules)) in
    let none = searched c.args.number c.deref.result.now order (Err c.in-Err.field-0) c.in-Err.ensures.bound by_number in
    sym none ∙ (ap (λ list. receipt_in list c.args.number) c.deref.ensures.value
    ∙ ap (λ (r : ReceiptsState). receipt_in r.list c.args.number) c.self.view_is)

pub returns-in-Err-clause-list : goal.returns-in-Err-clause-list
returns-in-Err-clause-list g c =
    let order = subst Ascend (sym c.deref.ensures.value) c.self.invariant.0 in
    let by_number = c.in-Err.ensures.position (λ r. r.number) (answers_always _ _ _ (λ f a r g called. search rules)) in
    let at = subst (λ list. IsFoundAt c.args.number list (Err c.in-Err.field-0)) c.deref.ensures.value
    (searched_at c.args.number c.deref.result.now order (Err c.in-Err.field-0) c.in-Err.ensures.bound by_number) in
    subst (λ (r : ReceiptsState). r.list ≡ without_receipt c.args.number r.list) c.self.view_is
    (none_taken c.args.number c.self.inside.list.items c.in-Err.field-0 at.1 at.2)
