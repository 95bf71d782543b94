use Rattle.std.proofs.Common.{◌∙◌, ap, sym}
use Rattle.reverse_map.specs.Ranges.{ObjectRanges, ReverseState, ranges_of}
use Rattle.reverse_map.proofs.Places.{placed, object_at}
use Rattle.reverse_map.proofs.reverse_map.ReverseMap.ranges.Goals as goal

pub returns-in-Some : goal.returns-in-Some
returns-in-Some c =
    let objects = c.self.inside.objects.items in
    let place = placed c.args.number _ _ _ _ c.deref.ensures.value c.in-Some.is c.place_of.ensures in
    let is = object_at c.args.number objects c.in-Some.at c.index.result.now c.self.invariant place.0
    (place.1 c.index.result.now) in
    c.as_slice.ensures.value ∙ (ap (λ (o : ObjectRanges). o.ranges) (c.behind-self.view_is ∙ c.index.ensures)
    ∙ (sym is ∙ ap (λ (r : ReverseState). ranges_of c.args.number r.objects) c.self.view_is))
