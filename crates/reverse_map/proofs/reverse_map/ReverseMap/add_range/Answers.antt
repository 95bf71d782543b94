use Rattle.std.proofs.Common.{◌≡◌, ◌∷◌, ◌++◌, [], set, ◌∙◌, ap, subst}
use Rattle.reverse_map.specs.Ranges.{ObjectRanges, ReverseState, with_range}
use Rattle.reverse_map.proofs.Places.{placed, ranged_at, none_ranged}
use Rattle.reverse_map.proofs.reverse_map.ReverseMap.add_range.Goals as goal

pub returns-in_ok-push-clause-added : goal.returns-in_ok-push-clause-added
returns-in_ok-push-clause-added c =
    let objects = c.self.inside.objects.items in
    let at = c.in-Some.at in
    let lent = c.index_mut.result.now in
    let place = placed c.args.number _ _ _ _ c.deref.ensures.value c.in-Some.is c.place_of.ensures in
    ap (λ ranges. set objects at (record { number = c.behind-self.inside.number; ranges = ranges })) c.in_ok-push.ensures.items
    ∙ (ap (λ (o : ObjectRanges). set objects at (record o { ranges = o.ranges ++ c.args.range ∷ [] }))
    (c.behind-self.view_is ∙ c.index_mut.ensures.value)
    ∙ (ranged_at c.args.number c.args.range objects at lent c.self.invariant place.0 (place.1 lent)
    ∙ ap (λ (r : ReverseState). with_range c.args.number c.args.range r.objects) c.self.view_is))

pub returns-in_default-clause-added : goal.returns-in_default-clause-added
returns-in_default-clause-added c =
    let none = placed c.args.number _ _ _ _ c.deref.ensures.value c.in_default.is c.place_of.ensures in
    subst (λ (r : ReverseState). r.objects ≡ with_range c.args.number c.args.range r.objects) c.self.view_is
    (none_ranged c.args.number c.args.range c.self.inside.objects.items none)
