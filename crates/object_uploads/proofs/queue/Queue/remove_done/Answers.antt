use Rattle.std.proofs.Common.{◌≡◌, ℕ, length, Some, sym, ap, refl, subst, arith}
use Rattle.extent_map.specs.State.{MapState}
use Rattle.volume_maps.specs.declared.place.ObjectPlace.{ObjectPlace}
use Rattle.object_uploads.specs.State.{QueueState}
use Rattle.object_table.proofs.Listed.{length-without}
use Rattle.object_uploads.proofs.RoomLemmas.{room_same}
use Rattle.object_uploads.proofs.QueueRemoved.{out_has_none, known_dropped}
use Rattle.object_uploads.proofs.queue.Queue.remove_done.Goals as goal

pub drop_object-requires : goal.drop_object-requires
drop_object-requires g c =
    let out = subst (λ (q : QueueState). q.removal ≡ Some c.args.number) (sym c.self.view_is) c.requires in
    out_has_none _ c.args.number c.self.invariant.2 out

pub invariant_of-self : goal.invariant_of-self
invariant_of-self g c =
    let out = subst (λ (q : QueueState). q.removal ≡ Some c.args.number) (sym c.self.view_is) c.requires in
    let before = c.self.invariant in
    let e = c.drop_object.ensures in
    let fewer = length-without c.args.number c.self.inside.maps.objects.rows in
    let size = ap {B = ℕ} length e.rows in (
      room_same _ c.self.inside.maps c.drop_object.new.self e.settled e.log before.0,
      before.1,
      known_dropped _ _ c.args.number before.2 out refl refl refl e.rows e.checkpoint e.counted
          (ap (λ (m : MapState ObjectPlace). m.rows) e.settled),
      before.3,
      omega (arith, before.4),
      omega (arith, before.5, e.spare, size, fewer),
      before.6,
      before.7,
    )

pub returns-clause-known : goal.returns-clause-known
returns-clause-known g c =
    let out = subst (λ (q : QueueState). q.removal ≡ Some c.args.number) (sym c.self.view_is) c.requires in
    let e = c.drop_object.ensures in
    known_dropped _ _ c.args.number c.self.invariant.2 out refl refl refl e.rows e.checkpoint e.counted
    (ap (λ (m : MapState ObjectPlace). m.rows) e.settled)
