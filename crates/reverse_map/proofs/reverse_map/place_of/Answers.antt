use Rattle.std.proofs.Common.{rules, subst, sym}
use Rattle.std.proofs.lemmas.List.Sorted.{answers_always}
use Rattle.reverse_map.specs.Order.{IsPlaceOf}
use Rattle.reverse_map.proofs.Places.{place_searched}
use Rattle.reverse_map.proofs.reverse_map.place_of.Goals as goal

-- the closure gives an object's number
pub returns : goal.returns
returns c =
    let facts = c.binary_search_by_key.ensures in
    let by_number = facts.position (λ object. object.number) (answers_always _ _ _ (λ f a r g called. search rules)) in
    subst (IsPlaceOf c.args.number c.args.objects.now) (sym c.ok.ensures.value)
    (place_searched c.args.number c.args.objects.now c.requires _ facts.bound by_number)
