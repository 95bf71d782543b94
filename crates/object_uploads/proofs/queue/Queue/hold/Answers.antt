use Rattle.std.proofs.Common.{refl, ap, arith}
use Rattle.object_table.specs.Table.{TableState, held}
use Rattle.volume_maps.specs.Maps.{MapsState}
use Rattle.object_uploads.proofs.RoomLemmas.{room_same}
use Rattle.object_uploads.proofs.QueueSettled.{known_pinned}
use Rattle.object_uploads.proofs.queue.Queue.hold.Goals as goal

pub invariant_of-self : goal.invariant_of-self
invariant_of-self g c =
    let before = c.self.invariant in
    let e = c.hold.ensures in
    let objects = ap (λ (m : MapsState). m.objects) e.held in (
      room_same _ c.self.inside.maps c.hold.new.self (ap (λ (m : MapsState). m.settled) e.held)
          (ap (λ (m : MapsState). m.log) e.held) before.0,
      before.1,
      known_pinned held c.args.number _ _ (λ r. refl) before.2 refl refl refl objects e.counted
          (ap (λ (m : MapsState). m.settled.rows) e.held),
      before.3,
      before.4,
      omega (arith, before.5, ap (λ (t : TableState). t.spare) objects),
      before.6,
      before.7,
    )

pub returns-clause-known : goal.returns-clause-known
returns-clause-known g c =
    let e = c.hold.ensures in
    known_pinned held c.args.number _ _ (λ r. refl) c.self.invariant.2 refl refl refl (ap (λ
    (m : MapsState). m.objects) e.held)
    e.counted (ap (λ (m : MapsState). m.settled.rows) e.held)
