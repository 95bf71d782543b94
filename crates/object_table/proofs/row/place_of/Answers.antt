use Rattle.std.proofs.Common.{rules, subst, sym}
use Rattle.std.proofs.lemmas.List.Sorted.{answers_always}
use Rattle.object_table.specs.Lists.{IsPlaceOf}
use Rattle.object_table.proofs.Rows.{place_searched}
use Rattle.object_table.proofs.row.place_of.Goals as goal

-- the closure gives a row's number
pub returns : goal.returns
returns c =
    let facts = c.binary_search_by_key.ensures in
    let by_number = facts.position (λ row. row.number) (answers_always _ _ _ (λ f a r g called. search rules)) in
    subst (IsPlaceOf c.args.number c.args.rows.now) (sym c.ok.ensures.value)
    (place_searched c.args.number c.args.rows.now c.requires _ facts.bound by_number)
