use Rattle.std.proofs.Common.{refl, ap, arith}
use Rattle.object_table.specs.Table.{TableState, pinned}
use Rattle.volume_maps.specs.Maps.{MapsState}
use Rattle.object_uploads.proofs.RoomLemmas.{room_same}
use Rattle.object_uploads.proofs.QueueSettled.{known_pinned}
use Rattle.object_uploads.proofs.queue.Queue.pin.Goals as goal

pub invariant_of-self : goal.invariant_of-self
invariant_of-self g c =
    let before = c.self.invariant in
    let e = c.pin.ensures in
    let objects = ap (λ (m : MapsState). m.objects) e.pinned in (
      room_same _ c.self.inside.maps c.pin.new.self (ap (λ (m : MapsState). m.settled) e.pinned)
          (ap (λ (m : MapsState). m.log) e.pinned) before.0,
      before.1,
      known_pinned pinned c.args.number _ _ (λ r. refl) before.2 refl refl refl objects e.counted
          (ap (λ (m : MapsState). m.settled.rows) e.pinned),
      before.3,
      before.4,
      omega (arith, before.5, ap (λ (t : TableState). t.spare) objects),
      before.6,
      before.7,
    )

pub returns-clause-known : goal.returns-clause-known
returns-clause-known g c =
    let e = c.pin.ensures in
    known_pinned pinned c.args.number _ _ (λ r. refl) c.self.invariant.2 refl refl refl (ap (λ
    (m : MapsState). m.objects) e.pinned)
    e.counted (ap (λ (m : MapsState). m.settled.rows) e.pinned)
