use Rattle.std.proofs.Common.{◌≡◌, ◌≤◌, ◌∷◌, ◌++◌, List, [], length, None, sym, ◌∙◌, ap, refl, subst, arith}
use Rattle.object_table.specs.declared.row.ObjectRow.{ObjectRow}
use Rattle.object_table.specs.Table.{IsNewest, new_row}
use Rattle.volume_maps.specs.Maps.{MapsState}
use Rattle.object_uploads.specs.State.{SealedState, NumberedReceipt, QueueState}
use Rattle.object_uploads.specs.Receipts.{MayCome}
use Rattle.object_uploads.specs.Invariant.{count_out}
use Rattle.object_uploads.proofs.RoomLemmas.{room_none}
use Rattle.object_uploads.proofs.QueueKept.{newest_may_come}
use Rattle.object_uploads.proofs.QueueSettled.{known_found}
use Rattle.object_uploads.proofs.QueueKept.{known_kept}
use Rattle.object_uploads.proofs.queue.Queue.add_found.Goals as goal

pub push-requires-clause-last : goal.push-requires-clause-last
push-requires-clause-last g c =
    let newest = subst (λ (q : QueueState). IsNewest q.maps.objects c.args.number) (sym c.self.view_is) c.requires.newest in
    subst (MayCome c.args.number) (sym c.reserve.ensures.list) (newest_may_come _ c.args.number c.self.invariant.2 newest)

pub invariant_of-self-2 : goal.invariant_of-self-2
invariant_of-self-2 g c =
    let before = c.self.invariant in
    let newest = subst (λ (q : QueueState). IsNewest q.maps.objects c.args.number) (sym c.self.view_is) c.requires.newest in
    let within = subst (λ (q : QueueState). c.args.number ≤ q.frontier) (sym c.self.view_is) c.requires.within in
    let none = subst (λ (q : QueueState). q.sealed ≡ []) (sym c.self.view_is) c.requires.none in
    let out = subst (λ (q : QueueState). q.removal ≡ None) (sym c.self.view_is) c.requires.no_removal in
    let own : NumberedReceipt = record { number = c.args.number; receipt = g.R.Receipt.state c.args.receipt } in
    let row = new_row c.args.number c.args.payload c.args.front in
    let e = c.in_ok-reserve-2.ensures in
    let added = c.add_object.ensures.added in
    let size = ap (λ (list : List SealedState). length list) none in (
      room_none c.self.inside.sealed.items c.add_object.new.self none,
      before.1,
      known_found _ _ c.args.number c.args.payload c.args.front (g.R.Receipt.state c.args.receipt) before.2 newest within refl
          (c.push.ensures.list ∙ ap (λ (list : List NumberedReceipt). list ++ own ∷ []) c.reserve.ensures.list) refl
          (ap (λ (m : MapsState). m.objects.rows) added ∙ ap (λ (rows : List ObjectRow). rows ++ row ∷ []) e.rows)
          (ap (λ (m : MapsState). m.objects.checkpoint) added ∙ e.checkpoint) c.add_object.ensures.counted
          (ap (λ (m : MapsState). m.settled.rows) added ∙ e.settled_rows),
      before.3,
      omega (arith, size, ap count_out out),
      omega (arith, size),
      before.6,
      before.7,
    )

pub returns-clause-known : goal.returns-clause-known
returns-clause-known g c =
    let newest = subst (λ (q : QueueState). IsNewest q.maps.objects c.args.number) (sym c.self.view_is) c.requires.newest in
    let within = subst (λ (q : QueueState). c.args.number ≤ q.frontier) (sym c.self.view_is) c.requires.within in
    let own : NumberedReceipt = record { number = c.args.number; receipt = g.R.Receipt.state c.args.receipt } in
    let row = new_row c.args.number c.args.payload c.args.front in
    let e = c.in_ok-reserve-2.ensures in
    let added = c.add_object.ensures.added in
    known_found _ _ c.args.number c.args.payload c.args.front (g.R.Receipt.state c.args.receipt) c.self.invariant.2 newest within
    refl
    (c.push.ensures.list ∙ ap (λ (list : List NumberedReceipt). list ++ own ∷ []) c.reserve.ensures.list) refl
    (ap (λ (m : MapsState). m.objects.rows) added ∙ ap (λ (rows : List ObjectRow). rows ++ row ∷ []) e.rows)
    (ap (λ (m : MapsState). m.objects.checkpoint) added ∙ e.checkpoint) c.add_object.ensures.counted
    (ap (λ (m : MapsState). m.settled.rows) added ∙ e.settled_rows)

pub invariant_of-self-in_err-reserve-2 : goal.invariant_of-self-in_err-reserve-2
invariant_of-self-in_err-reserve-2 g c =
    let before = c.self.invariant in
    let none = subst (λ (q : QueueState). q.sealed ≡ []) (sym c.self.view_is) c.requires.none in
    let e = c.in_err-reserve-2.ensures in
    let size = ap (λ (list : List SealedState). length list) none in (
      room_none c.self.inside.sealed.items c.reserve-2.new.self none,
      before.1,
      known_kept _ _ before.2 refl c.reserve.ensures.list refl e.rows e.checkpoint e.settled_rows,
      before.3,
      omega (arith, before.4, c.reserve.ensures.kept),
      omega (arith, size),
      before.6,
      before.7,
    )
