use Rattle.std.proofs.Common.{List, ℕ, ◌+◌, ◌≡◌, ◌∙◌, true, length, subst, sym, ap, arith}
use Rattle.std.specs.Prelude.{Ok, Err, is_ok}
use Rattle.std.specs.List.{insert}
use Rattle.std.proofs.lemmas.List.Edits.{length-insert}
use Rattle.std.proofs.lemmas.List.Sorted.{searched}
use Rattle.object_table.specs.Lists.{inserted}
use Rattle.object_table.proofs.Numbers.{IsFound, rises, inserted_at, inserted_there}
use Rattle.object_table.proofs.list.put_in.Goals as goal

pub returns-in-Err-clause-items : goal.returns-in-Err-clause-items
returns-in-Err-clause-items c =
    let items : List ℕ = c.args.numbers.now.items in
    let found : IsFound c.args.number items c.binary_search.result =
    searched items c.args.number c.binary_search.result (rw (← c.deref.ensures.value) c.binary_search.ensures.position)
    (λ i j less within. rises 0 items i j c.requires.order less within) in
    let gap : IsFound c.args.number items (Err c.in-Err.at) = subst (IsFound c.args.number items) c.in-Err.is found in
    let put : insert items c.in-Err.at c.args.number ≡ inserted c.args.number items =
    inserted_at c.args.number items c.in-Err.at gap.0 gap.1 gap.2 in
    let longer : length (inserted c.args.number items) ≡ length items + 1 =
    ap length (sym put) ∙ length-insert items c.in-Err.at c.args.number gap.0 in
    let fits : is_ok c.insert.result ≡ true =
    c.insert.ensures.succeeds (omega (arith, c.requires.room, longer, c.args.numbers.now.ok.0)) in
    c.insert.ensures.items ∙ (rw fits put)

pub returns-in_default-clause-items : goal.returns-in_default-clause-items
returns-in_default-clause-items c =
    let items : List ℕ = c.args.numbers.now.items in
    let found : IsFound c.args.number items c.binary_search.result =
    searched items c.args.number c.binary_search.result (rw (← c.deref.ensures.value) c.binary_search.ensures.position)
    (λ i j less within. rises 0 items i j c.requires.order less within) in
    let there : IsFound c.args.number items (Ok c.in_default.field-0) =
    subst (IsFound c.args.number items) c.in_default.is found in
    inserted_there 0 c.args.number items c.in_default.field-0 c.requires.order there.0 there.1
