use Rattle.std.proofs.Common.{◌≡◌, ◌∙◌, ap, subst}
use Rattle.reverse_map.specs.Ranges.{ReverseState, without_object}
use Rattle.reverse_map.proofs.Places.{placed, removed_at, none_removed}
use Rattle.reverse_map.proofs.reverse_map.ReverseMap.drop_object.Goals as goal

pub returns-in-Some-clause-objects : goal.returns-in-Some-clause-objects
returns-in-Some-clause-objects c =
    let objects = c.self.inside.objects.items in
    let place = placed c.args.number _ _ _ _ c.deref.ensures.value c.in-Some.is c.place_of.ensures in
    c.remove.ensures.items
    ∙ (removed_at c.args.number objects c.in-Some.at c.remove.result c.self.invariant place.0 (place.1 c.remove.result)
    ∙ ap (λ (r : ReverseState). without_object c.args.number r.objects) c.self.view_is)

pub returns-in_default-clause-objects : goal.returns-in_default-clause-objects
returns-in_default-clause-objects c =
    let none = placed c.args.number _ _ _ _ c.deref.ensures.value c.in_default.is c.place_of.ensures in
    subst (λ (r : ReverseState). r.objects ≡ without_object c.args.number r.objects) c.self.view_is
    (none_removed c.args.number c.self.inside.objects.items none)
