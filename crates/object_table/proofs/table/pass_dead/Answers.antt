use Rattle.std.proofs.Common.{◌≡◌, [], true, length, ◌∙◌, subst, ap, arith}
use Rattle.std.proofs.lemmas.List.{nil_from_length}
use Rattle.object_table.specs.Lists.{relisted}
use Rattle.object_table.proofs.Rows.{placed}
use Rattle.object_table.proofs.Listed.{orders, are_few, length-with_row}
use Rattle.object_table.proofs.Passing.{IsPassing, pass_at, pass_nowhere, all_passed}
use Rattle.object_table.proofs.table.pass_dead.Goals as goal

pub list-requires-clause-order : goal.list-requires-clause-order
list-requires-clause-order c = (orders _ _ _ _ _ c.loop-number.invariant.0.listed).1

pub list-requires-clause-room : goal.list-requires-clause-room
list-requires-clause-room c =
    let passes =
    subst (λ dead. IsPassing c.args.checkpoint c.args.rows.now.items c.loop-number.rows.items dead c.loop-number.free.items)
    c.in-Some.ensures.items c.loop-number.invariant.0 in
    let place = placed c.in-Some.number _ _ _ _ c.deref.ensures.value c.in-Some-place_of.is c.place_of.ensures in
    let step =
    pass_at c.args.checkpoint c.in-Some-place_of.at c.in-Some.number c.index.result.now c.args.rows.now.items
    c.loop-number.rows.items c.pop.new.self.items c.loop-number.free.items passes place c.index.ensures in
    let few = (are_few _ _ _ _ _ step.1.listed).1 in
    let same = length-with_row (record c.index.result.now { is_unmapped = true }) c.loop-number.rows.items in
    rw c.is_free.ensures (omega (arith, few, same, c.loop-number.invariant.1))

pub loop-number-preserved-in-Some-place_of : goal.loop-number-preserved-in-Some-place_of
loop-number-preserved-in-Some-place_of c =
    let passes =
    subst (λ dead. IsPassing c.args.checkpoint c.args.rows.now.items c.loop-number.rows.items dead c.loop-number.free.items)
    c.in-Some.ensures.items c.loop-number.invariant.0 in
    let place = placed c.in-Some.number _ _ _ _ c.deref.ensures.value c.in-Some-place_of.is c.place_of.ensures in
    let step =
    pass_at c.args.checkpoint c.in-Some-place_of.at c.in-Some.number c.index.result.now c.args.rows.now.items
    c.loop-number.rows.items c.pop.new.self.items c.loop-number.free.items passes place c.index.ensures in
    let same = length-with_row (record c.index.result.now { is_unmapped = true }) c.loop-number.rows.items in
    let free =
    c.list.ensures.items ∙ ap (λ is_in. relisted is_in c.in-Some.number c.loop-number.free.items) c.is_free.ensures in
    rw (step.0, free) (
      step.1,
      omega (arith, same, c.loop-number.invariant.1, c.list.ensures.capacity),
      c.loop-number.invariant.2,
      omega (arith, c.loop-number.invariant.3, c.pop.ensures.capacity),
      omega (arith, c.loop-number.invariant.4, c.list.ensures.capacity),
    )

pub loop-number-preserved : goal.loop-number-preserved
loop-number-preserved c =
    let passes =
    subst (λ dead. IsPassing c.args.checkpoint c.args.rows.now.items c.loop-number.rows.items dead c.loop-number.free.items)
    c.in-Some.ensures.items c.loop-number.invariant.0 in
    let place = placed c.in-Some.number _ _ _ _ c.deref.ensures.value c.in_default-place_of.is c.place_of.ensures in
    absurd (pass_nowhere c.args.checkpoint c.in-Some.number _ _ c.pop.new.self.items _ passes place)

pub returns-clause-passed : goal.returns-clause-passed
returns-clause-passed c =
    let none : length c.loop-number.dead.items ≡ 0 =
    omega (arith, c.loop-number.dead.ok.0, c.in_default.ensures.cases.0) in
    let empty : c.loop-number.dead.items ≡ [] = nil_from_length c.loop-number.dead.items none in
    all_passed c.args.checkpoint c.args.rows.now.items c.loop-number.rows.items c.loop-number.free.items
    (subst (λ dead. IsPassing c.args.checkpoint c.args.rows.now.items c.loop-number.rows.items dead c.loop-number.free.items)
    empty c.loop-number.invariant.0)
