use Rattle.std.proofs.Common.{◌∙◌, subst, sym, refl, ap, arith}
use Rattle.object_table.specs.Table.{TableState}
use Rattle.object_table.specs.Lists.{KeepsUnmapped, relisted}
use Rattle.object_table.proofs.Rows.{nothing_replaced, placed}
use Rattle.object_table.proofs.Listed.{orders, are_few, length-with_row, put_at}
use Rattle.object_table.proofs.table.ObjectTable.put_row.Goals as goal

pub list-requires-clause-order : goal.list-requires-clause-order
list-requires-clause-order c = (orders _ _ _ _ _ c.self.invariant.0).0

pub list-requires-clause-room : goal.list-requires-clause-room
list-requires-clause-room c =
    let place = placed c.args.row.number _ _ _ _ c.deref.ensures.value c.in-Some.is c.place_of.ensures in
    let keeps = subst (λ (t : TableState). KeepsUnmapped t.rows c.args.row) (sym c.self.view_is) c.requires in
    let now = put_at _ c.in-Some.at c.args.row _ _ _ _ c.self.invariant.0 keeps place in
    let few = (are_few _ _ _ _ _ now.1).0 in
    let same = length-with_row c.args.row c.self.inside.rows.items in
    rw c.is_dead.ensures (omega (arith, few, same, c.self.invariant.1, c.self.invariant.3))

pub list-requires-in-Some-clause-order : goal.list-requires-in-Some-clause-order
list-requires-in-Some-clause-order c = (orders _ _ _ _ _ c.self.invariant.0).1

pub list-requires-in-Some-clause-room : goal.list-requires-in-Some-clause-room
list-requires-in-Some-clause-room c =
    let place = placed c.args.row.number _ _ _ _ c.deref.ensures.value c.in-Some.is c.place_of.ensures in
    let keeps = subst (λ (t : TableState). KeepsUnmapped t.rows c.args.row) (sym c.self.view_is) c.requires in
    let now = put_at _ c.in-Some.at c.args.row _ _ _ _ c.self.invariant.0 keeps place in
    let few = (are_few _ _ _ _ _ now.1).1 in
    let same = length-with_row c.args.row c.self.inside.rows.items in
    rw c.is_free.ensures (omega (arith, few, same, c.self.invariant.1, c.self.invariant.4))

pub list-requires-in-Some-2-clause-order : goal.list-requires-in-Some-2-clause-order
list-requires-in-Some-2-clause-order c = (orders _ _ _ _ _ c.self.invariant.0).2

pub list-requires-in-Some-2-clause-room : goal.list-requires-in-Some-2-clause-room
list-requires-in-Some-2-clause-room c =
    let place = placed c.args.row.number _ _ _ _ c.deref.ensures.value c.in-Some.is c.place_of.ensures in
    let keeps = subst (λ (t : TableState). KeepsUnmapped t.rows c.args.row) (sym c.self.view_is) c.requires in
    let now = put_at _ c.in-Some.at c.args.row _ _ _ _ c.self.invariant.0 keeps place in
    let few = (are_few _ _ _ _ _ now.1).2 in
    let same = length-with_row c.args.row c.self.inside.rows.items in
    rw c.is_candidate.ensures (omega (arith, few, same, c.self.invariant.1, c.self.invariant.5))

pub invariant_of-self : goal.invariant_of-self
invariant_of-self c =
    let place = placed c.args.row.number _ _ _ _ c.deref.ensures.value c.in-Some.is c.place_of.ensures in
    let keeps = subst (λ (t : TableState). KeepsUnmapped t.rows c.args.row) (sym c.self.view_is) c.requires in
    let now = put_at _ c.in-Some.at c.args.row _ _ _ _ c.self.invariant.0 keeps place in
    let same = length-with_row c.args.row c.self.inside.rows.items in
    let dead_are =
    c.list.ensures.items ∙ ap (λ is_in. relisted is_in c.args.row.number c.self.inside.dead.items) c.is_dead.ensures in
    let free_are =
    c.list-in-Some.ensures.items ∙ ap (λ is_in. relisted is_in c.args.row.number c.self.inside.free.items) c.is_free.ensures in
    let candidates_are =
    c.list-in-Some-2.ensures.items
    ∙ ap (λ is_in. relisted is_in c.args.row.number c.self.inside.candidates.items) c.is_candidate.ensures in
    rw (now.0, dead_are, free_are, candidates_are) (
      now.1,
      omega (arith, same, c.self.invariant.1),
      omega (arith, c.self.invariant.2),
      omega (arith, c.self.invariant.3, c.list.ensures.capacity),
      omega (arith, c.self.invariant.4, c.list-in-Some.ensures.capacity),
      omega (arith, c.self.invariant.5, c.list-in-Some-2.ensures.capacity),
    )

pub returns-in-Some : goal.returns-in-Some
returns-in-Some c =
    let place = placed c.args.row.number _ _ _ _ c.deref.ensures.value c.in-Some.is c.place_of.ensures in
    let keeps = subst (λ (t : TableState). KeepsUnmapped t.rows c.args.row) (sym c.self.view_is) c.requires in
    let now = put_at _ c.in-Some.at c.args.row _ _ _ _ c.self.invariant.0 keeps place in
    let same = length-with_row c.args.row c.self.inside.rows.items in
    rw (← c.self.view_is, now.0, same) refl

pub returns-in_default : goal.returns-in_default
returns-in_default c =
    let none = placed c.args.row.number _ _ _ _ c.deref.ensures.value c.in_default.is c.place_of.ensures in
    let same = nothing_replaced c.args.row c.self.inside.rows.items none in
    rw (← c.self.view_is, ← same) refl
