use Rattle.std.proofs.Common.{◌≡◌, ◌+◌, ◌∷◌, ◌++◌, List, [], length, sym, ◌∙◌, ap, refl, subst, arith}
use Rattle.object_uploads.specs.State.{NumberedReceipt, QueueState}
use Rattle.object_uploads.specs.Queue.{IsNextSettled}
use Rattle.object_uploads.specs.Receipts.{AreSealedStates}
use Rattle.object_uploads.specs.Invariant.{AllMaySettle}
use Rattle.object_uploads.proofs.RoomLemmas.{room_kept}
use Rattle.object_uploads.proofs.QueueKept.{known_kept}
use Rattle.object_uploads.proofs.QueueSettled.{settles_from}
use Rattle.object_uploads.proofs.queue.Queue.adopt.Goals as goal

pub invariant_of-self : goal.invariant_of-self
invariant_of-self g c =
    let e = c.make_room.ensures in
    let before = c.self.invariant in
    let size = ap length e.sealed in (
      room_kept c.self.inside.sealed.items _ c.self.inside.maps c.make_room.new.maps e.sealed e.settled_kept e.log_kept before.0,
      rw e.sealed before.1,
      known_kept _ _ before.2 refl e.receipts refl e.places.objects e.places.checkpoint e.places.settled,
      subst AllMaySettle (sym e.sealed) before.3,
      omega (arith, size, before.4, e.receipts_kept),
      omega (arith, size, before.5, e.object_kept),
      omega (arith, size, before.6),
      subst (AreSealedStates g.R.Receipt.state) (sym e.sealed) before.7,
    )

pub invariant_of-self-2 : goal.invariant_of-self-2
invariant_of-self-2 g c =
    let e = c.make_room.ensures in
    let before = c.self.invariant in
    let size = ap length e.sealed in (
      room_kept c.self.inside.sealed.items _ c.self.inside.maps c.make_room.new.maps e.sealed e.settled_kept e.log_kept before.0,
      rw e.sealed before.1,
      known_kept _ _ before.2 refl e.receipts refl e.places.objects e.places.checkpoint e.places.settled,
      subst AllMaySettle (sym e.sealed) before.3,
      omega (arith, size, before.4, e.receipts_kept),
      omega (arith, size, before.5, e.object_kept),
      omega (arith, size, before.6),
      subst (AreSealedStates g.R.Receipt.state) (sym e.sealed) before.7,
    )

pub returns-clause-settled : goal.returns-clause-settled
returns-clause-settled g c =
    let e = c.settle_sealed.ensures in
    let made = c.make_room.ensures in
    let none = subst (λ (q : QueueState). q.sealed ≡ []) (sym c.self.view_is) c.requires.none in
    let own : NumberedReceipt =
    record { number = c.self.inside.frontier + 1; receipt = g.R.Receipt.state c.args.receipt } in
    subst (λ (q : QueueState). IsNextSettled c.args.rows c.args.end (g.R.Receipt.state c.args.receipt) q
    c.settle_sealed.new.self) c.self.view_is (record {
      frontier = e.frontier;
      ends = e.end;
      sealed = e.sealed ∙ (made.sealed ∙ none);
      receipts = e.receipts ∙ ap (λ (list : List NumberedReceipt). list ++ own ∷ []) made.receipts;
      removal = e.removal;
      inherited = e.inherited;
      maps = settles_from (c.self.inside.frontier + 1) c.len-size.result _ c.args.end c.args.rows c.self.inside.maps
          c.make_room.new.maps c.settle_sealed.new.self.maps c.requires.no_checkpoint c.len-size.ensures made.places e.maps;
    })
