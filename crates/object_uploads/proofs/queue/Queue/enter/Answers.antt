use Rattle.std.proofs.Common.{refl, sym, ap, subst, arith}
use Rattle.extent_map.specs.State.{MapState}
use Rattle.object_table.specs.Table.{TableState}
use Rattle.volume_maps.specs.declared.place.ObjectPlace.{ObjectPlace}
use Rattle.object_uploads.specs.Queue.{HasRoomForEntry}
use Rattle.object_uploads.proofs.RoomLemmas.{room_entered}
use Rattle.object_uploads.proofs.QueueKept.{known_kept}
use Rattle.object_uploads.proofs.queue.Queue.enter.Goals as goal

pub invariant_of-self : goal.invariant_of-self
invariant_of-self g c =
    let room = subst HasRoomForEntry (sym c.self.view_is) c.requires.room in
    let before = c.self.invariant in
    let e = c.enter.ensures in
    let same = e.objects in (
      room_entered c.self.inside.sealed.items c.self.inside.maps c.enter.new.self room e.spare e.settled before.0,
      before.1,
      known_kept _ _ before.2 refl refl refl (ap (λ (t : TableState). t.rows) same)
          (ap (λ (t : TableState). t.checkpoint) same) (ap (λ (m : MapState ObjectPlace). m.rows) e.settled),
      before.3,
      before.4,
      omega (arith, before.5, ap (λ (t : TableState). t.spare) same),
      before.6,
      before.7,
    )
