use Rattle.std.proofs.Common.{◌-◌, sym, ◌∙◌, ap, subst}
use Rattle.std.specs.Prelude.{IfSome}
use Rattle.extent_map.specs.Extents.{place_at}
use Rattle.extent_map.specs.State.{MapState}
use Rattle.volume_maps.specs.declared.place.ObjectPlace.{ObjectPlace}
use Rattle.volume_maps.specs.Places.{object_on}
use Rattle.volume_maps.specs.Maps.{settled_at}
use Rattle.object_uploads.specs.State.{QueueState}
use Rattle.object_uploads.specs.Queue.{sealed_at}
use Rattle.object_uploads.specs.Order.{PlaceFits}
use Rattle.object_uploads.proofs.SealedMapLemmas.{stays_settled, holds_same}
use Rattle.object_uploads.proofs.queue.Queue.checkpoint.Goals as goal

pub write_map-requires-clause-fit : goal.write_map-requires-clause-fit
write_map-requires-clause-fit g c k =
    let none = sym c.self.invariant.1 ∙ c.if-self-eq0.true in
    let same = ap (λ (q : QueueState). sealed_at q k) (sym c.self.view_is)
    ∙ (stays_settled c.self.inside.frontier c.self.inside.sealed.items (settled_at c.self.inside.maps k) k none
    ∙ ap (λ (m : MapState ObjectPlace). place_at object_on m.rows k) (sym c.settled.ensures)) in
    let expected = c.args.expected.now in
    subst (λ place. IfSome place (PlaceFits expected.sectors expected.ancestors (expected.number - 1) k)) same
    (c.requires.fit k)

pub returns-then-self-eq0 : goal.returns-then-self-eq0
returns-then-self-eq0 g c =
    let none = sym c.self.invariant.1 ∙ c.if-self-eq0.true in
    holds_same c.write_map.result c.args.expected.now c.args.end (place_at object_on c.settled.result.now.rows)
    (sealed_at c.args.self.now) (λ k.
    ap (λ (m : MapState ObjectPlace). place_at object_on m.rows k) c.settled.ensures
    ∙ (sym (stays_settled c.self.inside.frontier c.self.inside.sealed.items (settled_at c.self.inside.maps k) k none)
    ∙ ap (λ (q : QueueState). sealed_at q k) c.self.view_is)) c.write_map.ensures
