use Rattle.std.proofs.Common.{◌≡◌, ◌+◌, ◌-◌, ◌<◌, ◌≤◌, ◌^◌, length, sym, refl, subst, arith}
use Rattle.std.specs.List.{sum_by}
use Rattle.object_table.specs.Table.{new_row, added}
use Rattle.volume_maps.specs.Maps.{MapsState, settled_by}
use Rattle.object_uploads.specs.State.{QueueState}
use Rattle.object_uploads.specs.Queue.{row_count, SettlesObject}
use Rattle.object_uploads.proofs.DeadLemmas.{data_gives}
use Rattle.object_uploads.proofs.RoomLemmas.{place_parts, room_settled, counts_settled}
use Rattle.object_uploads.proofs.QueueKept.{next_is_newest, newest_may_come}
use Rattle.object_uploads.proofs.QueueSettled.{settles_added, known_settled}
use Rattle.object_uploads.proofs.queue.Queue.settle_object.Goals as goal

pub settle-requires-clause-newest : goal.settle-requires-clause-newest
settle-requires-clause-newest g c = next_is_newest _ c.self.invariant.2

pub push-requires-clause-last : goal.push-requires-clause-last
push-requires-clause-last g c =
    newest_may_come _ (c.self.inside.frontier + 1) c.self.invariant.2 (next_is_newest _ c.self.invariant.2)

pub invariant_of-self : goal.invariant_of-self
invariant_of-self g c =
    let maps = c.self.inside.maps in
    let rows = c.args.rows.now in
    let e = c.settle.ensures in
    let before = c.self.invariant in
    let place = place_parts _ _ _ _ _ (subst (λ (q : QueueState). 1 ≤ q.places) (sym c.self.view_is) c.requires.place) in
    let had = subst (λ (q : QueueState). sum_by row_count q.sealed + length rows ≤ q.maps.settled.spare) (sym c.self.view_is)
    c.requires.settled in
    let had_log = subst (λ (q : QueueState). sum_by row_count q.sealed + length rows ≤ q.maps.log.spare) (sym c.self.view_is)
    c.requires.log in
    let small = subst (λ (q : QueueState). q.frontier + length q.sealed + 1 < 2 ^ 64) (sym c.self.view_is) c.requires.numbers in
    let payload = c.payload_of.result in
    let front = c.front_of-front.result in
    let middle : MapsState =
    record maps { objects = added (new_row (c.self.inside.frontier + 1) payload front) maps.objects } in
    let objects : c.settle.new.self.objects.spare ≡ maps.objects.spare - 1 = omega (arith, e.object_spare) in
    let counts = counts_settled _ _ _ _ _ _ _ _ place.1 c.push.ensures.spare place.2 objects small in (
      room_settled _ _ maps c.settle.new.self had had_log e.settled_spare e.log_spare before.0,
      before.1,
      known_settled _ _ middle payload front (settled_by (c.self.inside.frontier + 1) rows) (g.R.Receipt.state c.args.receipt)
          (data_gives (c.self.inside.frontier + 1) rows) before.2 refl c.push.ensures.list refl refl e.objects e.settled
          e.shortest
          e.counted,
      before.3,
      counts.0,
      counts.1,
      counts.2,
      before.7,
    )

pub returns-clause-maps : goal.returns-clause-maps
returns-clause-maps g c =
    let maps = c.self.inside.maps in
    let payload = c.payload_of.result in
    let front = c.front_of-front.result in
    let middle : MapsState =
    record maps { objects = added (new_row (c.self.inside.frontier + 1) payload front) maps.objects } in
    subst (λ (q : QueueState). SettlesObject (q.frontier + 1) c.args.size c.args.rows.now c.args.end q.maps c.settle.new.self)
    c.self.view_is
    (settles_added (c.self.inside.frontier + 1) c.args.size payload front c.args.end c.args.rows.now maps middle c.settle.new.self
    refl c.front_of-front.ensures c.payload_of.ensures c.settle.ensures.settled c.settle.ensures.log c.settle.ensures.objects)
