use Rattle.std.proofs.Common.{refl, sym, ap, arith}
use Rattle.object_table.specs.Table.{TableState, copied}
use Rattle.volume_maps.specs.Maps.{MapsState}
use Rattle.object_uploads.proofs.RoomLemmas.{room_same}
use Rattle.object_uploads.proofs.QueueSettled.{known_pinned}
use Rattle.object_uploads.proofs.queue.Queue.mark_one.Goals as goal

pub invariant_of-self : goal.invariant_of-self
invariant_of-self g c =
    let before = c.self.invariant in
    let e = c.set_copied.ensures in
    let objects = ap (λ (m : MapsState). m.objects) e.copied in (
      room_same _ c.self.inside.maps c.set_copied.new.self (ap (λ (m : MapsState). m.settled) e.copied)
          (ap (λ (m : MapsState). m.log) e.copied) before.0,
      before.1,
      known_pinned (copied c.args.is_copied) c.args.number _ _ (λ r. refl) before.2 refl refl refl objects e.counted
          (ap (λ (m : MapsState). m.settled.rows) e.copied),
      before.3,
      before.4,
      omega (arith, before.5, ap (λ (t : TableState). t.spare) objects),
      before.6,
      before.7,
    )

pub returns : goal.returns
returns g c = rw (c.set_copied.ensures.copied, sym c.self.view_is) refl
