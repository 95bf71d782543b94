use Rattle.std.proofs.Common.{List, length, Some, sym, ◌∙◌, ap, refl, subst, arith}
use Rattle.object_uploads.specs.State.{NumberedReceipt, QueueState}
use Rattle.object_uploads.specs.Removal.{IsRemovedNext}
use Rattle.object_uploads.specs.Invariant.{count_out}
use Rattle.object_uploads.proofs.QueueRemoved.{given_of, known_taken, length-taken, some_seen, none_out}
use Rattle.object_uploads.proofs.queue.Queue.take_remove.Goals as goal

pub unwrap-receipt-requires : goal.unwrap-receipt-requires
unwrap-receipt-requires g c =
    let none = none_out c.self.inside.removal (sym c.is_some.ensures ∙ c.if-is_some.false) in
    let there = given_of _ c.in_ok-number.number c.self.invariant.2 none c.in_ok-number.ensures.0 in
    some_seen g.R.Receipt.state c.take.result _ c.take.ensures.was there

pub invariant_of-self : goal.invariant_of-self
invariant_of-self g c =
    let before = c.self.invariant in
    let none = none_out c.self.inside.removal (sym c.is_some.ensures ∙ c.if-is_some.false) in
    let next = c.in_ok-number.ensures.0 in
    let e = c.take.ensures in
    let fewer = length-taken c.in_ok-number.number c.self.inside.receipts.list
    (given_of _ c.in_ok-number.number before.2 none next) in
    let left = ap (λ (list : List NumberedReceipt). length list) e.list in (
      before.0,
      before.1,
      known_taken _ _ c.in_ok-number.number before.2 none next refl e.list refl refl,
      before.3,
      omega (arith, before.4, ap count_out none, fewer, left, e.room),
      before.5,
      before.6,
      before.7,
    )

pub returns-clause-next : goal.returns-clause-next
returns-clause-next g c =
    let none = none_out c.self.inside.removal (sym c.is_some.ensures ∙ c.if-is_some.false) in
    subst (λ (q : QueueState). IsRemovedNext q.removal q.maps.objects (Some c.in_ok-number.number)) c.self.view_is
    (subst (λ o. IsRemovedNext o c.self.inside.maps.objects (Some c.in_ok-number.number)) (sym none) c.in_ok-number.ensures)

pub returns-clause-known : goal.returns-clause-known
returns-clause-known g c =
    let none = none_out c.self.inside.removal (sym c.is_some.ensures ∙ c.if-is_some.false) in
    known_taken _ _ c.in_ok-number.number c.self.invariant.2 none c.in_ok-number.ensures.0 refl c.take.ensures.list refl refl
