use Rattle.std.proofs.Common.{◌+◌, ◌<◌, ◌≤◌, ◌^◌, length, sym, ap, refl, subst, arith}
use Rattle.volume_maps.specs.Maps.{MapsState}
use Rattle.object_uploads.specs.State.{QueueState}
use Rattle.object_uploads.proofs.RoomLemmas.{place_parts, room_same, counts_settled}
use Rattle.object_uploads.proofs.QueueKept.{next_is_newest, newest_may_come}
use Rattle.object_uploads.proofs.QueueSettled.{known_passed}
use Rattle.object_uploads.proofs.queue.Queue.settle_checkpoint.Goals as goal

pub push-requires-clause-last : goal.push-requires-clause-last
push-requires-clause-last g c =
    newest_may_come _ (c.self.inside.frontier + 1) c.self.invariant.2 (next_is_newest _ c.self.invariant.2)

pub invariant_of-self : goal.invariant_of-self
invariant_of-self g c =
    let maps = c.self.inside.maps in
    let before = c.self.invariant in
    let e = c.acknowledge_checkpoint.ensures in
    let place = place_parts _ _ _ _ _ (subst (λ (q : QueueState). 1 ≤ q.places) (sym c.self.view_is) c.requires.room.place) in
    let small = subst (λ (q : QueueState). q.frontier + length q.sealed + 1 < 2 ^ 64) (sym c.self.view_is) c.requires.numbers in
    let counts = counts_settled _ _ _ _ _ _ _ _ place.1 c.push.ensures.spare place.2
    (ap (λ (m : MapsState). m.objects.spare) e.passed) small in (
      room_same _ maps c.acknowledge_checkpoint.new.self (ap (λ (m : MapsState). m.settled) e.passed)
          (ap (λ (m : MapsState). m.log) e.passed) before.0,
      before.1,
      known_passed _ _ (c.self.inside.frontier + 1) (g.R.Receipt.state c.args.receipt) before.2 (next_is_newest _ before.2)
          (omega arith) refl c.push.ensures.list refl (ap (λ (m : MapsState). m.objects.rows) e.passed)
          (ap (λ (m : MapsState). m.objects.checkpoint) e.passed) e.counted
          (ap (λ (m : MapsState). m.settled.rows) e.passed),
      before.3,
      counts.0,
      counts.1,
      counts.2,
      before.7,
    )
