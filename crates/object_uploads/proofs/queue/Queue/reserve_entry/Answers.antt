use Rattle.std.proofs.Common.{refl, arith}
use Rattle.object_uploads.proofs.RoomLemmas.{room_kept}
use Rattle.object_uploads.proofs.QueueKept.{known_kept}
use Rattle.object_uploads.proofs.queue.Queue.reserve_entry.Goals as goal

pub invariant_of-self : goal.invariant_of-self
invariant_of-self g c =
    let before = c.self.invariant in
    let e = c.reserve.ensures in (
      room_kept _ _ c.self.inside.maps c.reserve.new.self refl e.settled_kept e.log_kept before.0,
      before.1,
      known_kept _ _ before.2 refl refl refl e.rows e.checkpoint e.settled_rows,
      before.3,
      before.4,
      omega (arith, before.5, e.object_kept),
      before.6,
      before.7,
    )
