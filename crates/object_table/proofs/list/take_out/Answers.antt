use Rattle.std.proofs.Common.{List, ℕ, ◌∙◌, subst}
use Rattle.std.specs.Prelude.{Ok, Err}
use Rattle.std.proofs.lemmas.List.Sorted.{searched}
use Rattle.object_table.proofs.Numbers.{IsFound, rises, removed_at, removed_gap}
use Rattle.object_table.proofs.list.take_out.Goals as goal

pub returns-in_default-clause-items : goal.returns-in_default-clause-items
returns-in_default-clause-items c =
    let items : List ℕ = c.args.numbers.now.items in
    let found : IsFound c.args.number items c.binary_search.result =
    searched items c.args.number c.binary_search.result (rw (← c.deref.ensures.value) c.binary_search.ensures.position)
    (λ i j less within. rises 0 items i j c.requires.order less within) in
    let past : IsFound c.args.number items (Err c.in_default.field-0) =
    subst (IsFound c.args.number items) c.in_default.is found in
    removed_gap c.args.number c.in_default.field-0 items past.1 past.2

pub returns-in-Ok-clause-items : goal.returns-in-Ok-clause-items
returns-in-Ok-clause-items c =
    let items : List ℕ = c.args.numbers.now.items in
    let found : IsFound c.args.number items c.binary_search.result =
    searched items c.args.number c.binary_search.result (rw (← c.deref.ensures.value) c.binary_search.ensures.position)
    (λ i j less within. rises 0 items i j c.requires.order less within) in
    let there : IsFound c.args.number items (Ok c.in-Ok.at) = subst (IsFound c.args.number items) c.in-Ok.is found in
    c.remove.ensures.items ∙ removed_at 0 c.args.number items c.in-Ok.at c.requires.order there.0 there.1
