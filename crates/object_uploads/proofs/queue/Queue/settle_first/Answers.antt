use Rattle.std.proofs.Common.{◌+◌, length, sym, ◌∙◌, ap, refl, subst}
use Rattle.std.specs.Prelude.{option_map}
use Rattle.object_uploads.specs.State.{QueueState}
use Rattle.object_uploads.specs.Queue.{count_of_rows, IsSettledBy}
use Rattle.object_uploads.proofs.QueueLemmas.{settles_one, settles_as}
use Rattle.object_uploads.proofs.RoomLemmas.{popped, rows_popped, left_popped, rest_fit, room_popped, counts_popped}
use Rattle.object_uploads.proofs.QueueKept.{known_as}
use Rattle.object_uploads.proofs.TellLemmas.{rest_seen}
use Rattle.object_uploads.proofs.queue.Queue.settle_first.Goals as goal

pub invariant_of-self : goal.invariant_of-self
invariant_of-self g c =
    let parts = popped _ c.self.inside.sealed.items c.pop_front.new.self.items c.unwrap-sealed.result c.pop_front.ensures.items
    c.unwrap-sealed.ensures in
    let before = c.self.invariant in
    let taken = c.count.ensures ∙ ap count_of_rows c.into_parts-rows.ensures.rows in
    let rest = rows_popped _ _ c.unwrap-sealed.result c.self.inside.rows c.count.result parts before.1 taken in
    let counts = counts_popped _ _ _ _ _ _ _ (ap length parts) before.4 before.5 before.6 in (
      room_popped _ _ c.unwrap-sealed.result c.self.inside.maps parts before.0,
      left_popped _ _ _ rest,
      known_as _ _ before.2 refl refl refl refl,
      rest_fit _ _ c.unwrap-sealed.result parts before.3,
      counts.0,
      counts.1,
      counts.2,
      rest_seen g.R.Receipt.state _ _ c.unwrap-sealed.result parts before.7,
    )

pub returns : goal.returns
returns g c =
    let next = c.self.inside.frontier + 1 in
    let parts = popped _ c.self.inside.sealed.items c.pop_front.new.self.items c.unwrap-sealed.result c.pop_front.ensures.items
    c.unwrap-sealed.ensures in
    let own = c.into_parts-rows.ensures in
    let given = sym own.receipt ∙ ap (option_map g.R.Receipt.state) c.unwrap.ensures in
    let e = c.settle_sealed.ensures in
    subst (λ (q : QueueState). IsSettledBy 1 q c.settle_sealed.new.self) c.self.view_is (
    settles_one _ _ c.unwrap-sealed.result c.pop_front.new.self.items (g.R.Receipt.state c.unwrap.result) parts given e.frontier
    (e.end ∙ own.end) e.sealed e.receipts e.removal e.inherited
    (settles_as next _ _ _ _ _ _ _ _ c.size-size.ensures own.rows own.end e.maps)
    )
