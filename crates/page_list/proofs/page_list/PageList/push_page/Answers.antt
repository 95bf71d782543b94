use Rattle.std.proofs.Common.{length, refl, arith}
use Rattle.page_list.proofs.More.{seen_free}
use Rattle.page_list.proofs.Pushed.{pushed_kept}
use Rattle.page_list.proofs.Splits.{left_empty}
use Rattle.page_list.proofs.page_list.PageList.push_page.Goals as goal

pub insert-requires : goal.insert-requires
insert-requires g c =
    let empty = left_empty c.self.inside.free.items c.pop.new.self.items c.in-Some.page c.in-Some.ensures.items
    c.self.invariant.empty in
    record { index = omega arith; room = omega (arith, empty.0) }

pub invariant_of-self : goal.invariant_of-self
invariant_of-self g c =
    let empty = left_empty c.self.inside.free.items c.pop.new.self.items c.in-Some.page c.in-Some.ensures.items
    c.self.invariant.empty in
    let ok = c.push.ensures.succeeds (omega (arith, c.self.inside.pages.ok.0, c.self.invariant.room, empty.2)) in
    pushed_kept c.self.inside.pages.items c.self.inside.free.items c.pop.new.self.items c.push.new.self.items c.in-Some.page
    c.insert.new.self c.args.item c.self.inside.surplus _ _ _ _ c.self.invariant c.in-Some.ensures.items c.insert.ensures.items
    (rw (c.push.ensures.items, ok) refl) c.push.ensures.capacity (omega (arith, c.pop.ensures.capacity))

pub invariant_of-self-in-Some-2 : goal.invariant_of-self-in-Some-2
invariant_of-self-in-Some-2 g c =
    let empty = left_empty c.self.inside.free.items c.pop.new.self.items c.in-Some.page c.in-Some.ensures.items
    c.self.invariant.empty in
    let ok = c.push.ensures.succeeds (omega (arith, c.self.inside.pages.ok.0, c.self.invariant.room, empty.2)) in
    pushed_kept c.self.inside.pages.items c.self.inside.free.items c.pop.new.self.items c.push.new.self.items c.in-Some.page
    c.insert.new.self c.args.item c.self.inside.surplus _ _ _ _ c.self.invariant c.in-Some.ensures.items c.insert.ensures.items
    (rw (c.push.ensures.items, ok) refl) c.push.ensures.capacity (omega (arith, c.pop.ensures.capacity))

pub invariant_of-self-in_default : goal.invariant_of-self-in_default
invariant_of-self-in_default g c =
    let free = seen_free c.self.inside.pages.items (length c.self.inside.free.items) c.args.self.now c.self.view_is in
    absurd (omega (arith, free, c.requires, c.in_default.ensures.cases.0, c.self.inside.free.ok.0))

pub returns-in_default : goal.returns-in_default
returns-in_default g c =
    let free = seen_free c.self.inside.pages.items (length c.self.inside.free.items) c.args.self.now c.self.view_is in
    absurd (omega (arith, free, c.requires, c.in_default.ensures.cases.0, c.self.inside.free.ok.0))
