use Rattle.std.proofs.Common.{◌∙◌, arith}
use Rattle.object_table.proofs.Rows.{nothing_out, placed}
use Rattle.object_table.proofs.Listed.{orders, are_few, length-without, taken_at}
use Rattle.object_table.proofs.table.ObjectTable.drop_row.Goals as goal

pub list-requires-clause-order : goal.list-requires-clause-order
list-requires-clause-order c = (orders _ _ _ _ _ c.self.invariant.0).0

pub list-requires-clause-room : goal.list-requires-clause-room
list-requires-clause-room c =
    let place = placed c.args.number _ _ _ _ c.deref.ensures.value c.in-Some.is c.place_of.ensures in
    let now = taken_at _ c.in-Some.at c.args.number _ _ _ _ c.self.invariant.0 place in
    let few = (are_few _ _ _ _ _ now.1).0 in
    let less = length-without c.args.number c.self.inside.rows.items in
    omega (arith, few, less, c.self.invariant.1, c.self.invariant.3)

pub list-requires-in-Some-clause-order : goal.list-requires-in-Some-clause-order
list-requires-in-Some-clause-order c = (orders _ _ _ _ _ c.self.invariant.0).1

pub list-requires-in-Some-clause-room : goal.list-requires-in-Some-clause-room
list-requires-in-Some-clause-room c =
    let place = placed c.args.number _ _ _ _ c.deref.ensures.value c.in-Some.is c.place_of.ensures in
    let now = taken_at _ c.in-Some.at c.args.number _ _ _ _ c.self.invariant.0 place in
    let few = (are_few _ _ _ _ _ now.1).1 in
    let less = length-without c.args.number c.self.inside.rows.items in
    omega (arith, few, less, c.self.invariant.1, c.self.invariant.4)

pub list-requires-in-Some-2-clause-order : goal.list-requires-in-Some-2-clause-order
list-requires-in-Some-2-clause-order c = (orders _ _ _ _ _ c.self.invariant.0).2

pub list-requires-in-Some-2-clause-room : goal.list-requires-in-Some-2-clause-room
list-requires-in-Some-2-clause-room c =
    let place = placed c.args.number _ _ _ _ c.deref.ensures.value c.in-Some.is c.place_of.ensures in
    let now = taken_at _ c.in-Some.at c.args.number _ _ _ _ c.self.invariant.0 place in
    let few = (are_few _ _ _ _ _ now.1).2 in
    let less = length-without c.args.number c.self.inside.rows.items in
    omega (arith, few, less, c.self.invariant.1, c.self.invariant.5)

pub invariant_of-self : goal.invariant_of-self
invariant_of-self c =
    let place = placed c.args.number _ _ _ _ c.deref.ensures.value c.in-Some.is c.place_of.ensures in
    let now = taken_at _ c.in-Some.at c.args.number _ _ _ _ c.self.invariant.0 place in
    let less = length-without c.args.number c.self.inside.rows.items in
    rw (c.remove.ensures.items, now.0, c.list.ensures.items, c.list-in-Some.ensures.items, c.list-in-Some-2.ensures.items) (
      now.1,
      omega (arith, less, c.self.invariant.1),
      omega (arith, c.self.invariant.2, c.remove.ensures.capacity),
      omega (arith, c.self.invariant.3, c.list.ensures.capacity),
      omega (arith, c.self.invariant.4, c.list-in-Some.ensures.capacity),
      omega (arith, c.self.invariant.5, c.list-in-Some-2.ensures.capacity),
    )

pub returns-in-Some-clause-rows : goal.returns-in-Some-clause-rows
returns-in-Some-clause-rows c =
    let place = placed c.args.number _ _ _ _ c.deref.ensures.value c.in-Some.is c.place_of.ensures in
    let now = taken_at _ c.in-Some.at c.args.number _ _ _ _ c.self.invariant.0 place in
    rw (← c.self.view_is) (c.remove.ensures.items ∙ now.0)

pub returns-in_default-clause-rows : goal.returns-in_default-clause-rows
returns-in_default-clause-rows c =
    let none = placed c.args.number _ _ _ _ c.deref.ensures.value c.in_default.is c.place_of.ensures in
    rw (← c.self.view_is) (nothing_out c.args.number c.self.inside.rows.items none)
