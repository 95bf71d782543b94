use Rattle.std.proofs.Common.{rules, arith, refl, ◌≡◌, ◌≤◌, None, Ok, Err, sym, ◌∙◌, ap, subst}
use Rattle.std.proofs.lemmas.List.Sorted.{answers_always}
use Rattle.object_uploads.specs.State.{NumberedReceipt}
use Rattle.object_uploads.specs.Queue.{receipt_in}
use Rattle.object_uploads.specs.Removal.{with_receipt_of}
use Rattle.object_uploads.specs.Receipts.{ReceiptsState, Ascend, AreStates}
use Rattle.object_uploads.proofs.ReceiptLemmas.{searched, IsFoundAt, searched_at, inserted_receipt, ascend_with, made_where_ok}
use Rattle.object_uploads.proofs.TellLemmas.{IsSeen, all_with_receipt}
use Rattle.object_uploads.proofs.receipts.Receipts.give_back.Goals as goal
use Rattle.object_uploads.proofs.receipts.Receipts.give_back.Goals.{in-Err-1, in-Ok-1}

-- the closure gives a receipt's number
pub invariant_of-self-in-Err-2 : goal.invariant_of-self-in-Err-2
invariant_of-self-in-Err-2 g c =
    let list = c.self.inside.list.items in
    let receipt = g.R.Receipt.state c.args.receipt in
    let order = subst Ascend (sym c.deref.ensures.value) c.self.invariant.0 in
    let by_number = c.in-Err.ensures.position (λ r. r.number) (answers_always _ _ _ (λ f a r g called. search rules)) in
    let at = subst (λ l. IsFoundAt c.args.number l (Err c.in-Err.at)) c.deref.ensures.value
    (searched_at c.args.number c.deref.result.now order (Err c.in-Err.at) c.in-Err.ensures.bound by_number) in
    let room = subst (λ (r : ReceiptsState). 1 ≤ r.spare) (sym c.self.view_is) c.requires.room in
    let absent = subst (λ (r : ReceiptsState). receipt_in r.list c.args.number ≡ None) (sym c.self.view_is) c.requires.absent in
    let made = made_where_ok c.insert.result _ _ _ (c.insert.ensures.succeeds (omega (arith, room))) c.insert.ensures.items
    ∙ inserted_receipt c.args.number receipt list c.in-Err.at at.0 at.1 at.2 in
    let state = g.R.Receipt.state in (
      subst Ascend (sym made) (ascend_with c.args.number receipt list absent c.self.invariant.0),
      subst (AreStates state) (sym made)
          (all_with_receipt (IsSeen state) c.args.number receipt list (c.args.receipt, refl) c.self.invariant.1),
    )

pub returns-in-Err-clause-list : goal.returns-in-Err-clause-list
returns-in-Err-clause-list g c =
    let list = c.self.inside.list.items in
    let receipt = g.R.Receipt.state c.args.receipt in
    let order = subst Ascend (sym c.deref.ensures.value) c.self.invariant.0 in
    let by_number = c.in-Err.ensures.position (λ r. r.number) (answers_always _ _ _ (λ f a r g called. search rules)) in
    let at = subst (λ l. IsFoundAt c.args.number l (Err c.in-Err.at)) c.deref.ensures.value
    (searched_at c.args.number c.deref.result.now order (Err c.in-Err.at) c.in-Err.ensures.bound by_number) in
    let room = subst (λ (r : ReceiptsState). 1 ≤ r.spare) (sym c.self.view_is) c.requires.room in
    let made = made_where_ok c.insert.result _ _ _ (c.insert.ensures.succeeds (omega (arith, room))) c.insert.ensures.items
    ∙ inserted_receipt c.args.number receipt list c.in-Err.at at.0 at.1 at.2 in
    let now = made ∙ ap (λ (r : ReceiptsState). with_receipt_of c.args.number receipt r.list) c.self.view_is in
    elim c.match-insert.branch [
      | in-Err-1 w ↦ ap (λ (r : ReceiptsState). r.list) w.self-is ∙ now
      | in-Ok-1 w ↦ ap (λ (r : ReceiptsState). r.list) w.self-is ∙ now
    ]

pub returns-in_default-clause-list : goal.returns-in_default-clause-list
returns-in_default-clause-list g c =
    let order = subst Ascend (sym c.deref.ensures.value) c.self.invariant.0 in
    let by_number = c.in_default.ensures.position (λ r. r.number) (answers_always _ _ _ (λ f a r g called. search rules)) in
    let blank : NumberedReceipt = record { number = 0; receipt = g.R.Receipt.state c.args.receipt } in
    let found = searched c.args.number c.deref.result.now order (Ok c.in_default.field-0) c.in_default.ensures.bound by_number
    blank in
    let absent = subst (λ (r : ReceiptsState). receipt_in r.list c.args.number ≡ None) (sym c.self.view_is) c.requires.absent in
    let none = subst (λ list. receipt_in list c.args.number ≡ None) (sym c.deref.ensures.value) absent in
    absurd cc
