use Rattle.std.proofs.Common.{length, ◌∙◌, refl, sym, arith}
use Rattle.page_list.proofs.Seen.{page_here}
use Rattle.page_list.proofs.Edits.{length_seen, part_of_surplus}
use Rattle.page_list.proofs.More.{seen_free}
use Rattle.page_list.proofs.Pushed.{no_items}
use Rattle.page_list.proofs.Splits.{split_kept, split_items, split_lengths, left_empty}
use Rattle.page_list.proofs.page_list.PageList.split.Goals as goal

pub invariant_of-self : goal.invariant_of-self
invariant_of-self g c =
    let pages = c.self.inside.pages.items in
    let free = c.self.inside.free.items in
    let here = page_here pages (length free) c.args.self.now c.self.view_is c.args.page c.requires.page in
    let full =
    sym (length_seen pages (length free) c.args.self.now c.self.view_is c.args.page here c.index_mut.result.now c.split.new.self
    c.index_mut.ensures.value)
    ∙ c.requires.full in
    let empty = left_empty free c.pop.new.self.items c.in-Some.rest c.in-Some.ensures.items c.self.invariant.empty in
    let ok = c.insert.ensures.succeeds (omega (arith, c.self.inside.pages.ok.0, c.self.invariant.room, empty.2)) in
    split_kept pages free c.self.inside.surplus _ _ c.self.invariant
    c.pop.new.self.items c.in-Some.rest c.in-Some.ensures.items c.args.page here
    c.index_mut.result.now c.split.new.self c.split.new.rest c.index_mut.ensures.value c.split.ensures.first
    c.split.ensures.rest full
    c.insert.new.self.items (rw (c.insert.ensures.items, ok) refl) _ _ c.insert.ensures.capacity
    (omega (arith, c.pop.ensures.capacity))

pub returns-in-Some-clause-items : goal.returns-in-Some-clause-items
returns-in-Some-clause-items g c =
    let pages = c.self.inside.pages.items in
    let free = c.self.inside.free.items in
    let here = page_here pages (length free) c.args.self.now c.self.view_is c.args.page c.requires.page in
    let full =
    sym (length_seen pages (length free) c.args.self.now c.self.view_is c.args.page here c.index_mut.result.now c.split.new.self
    c.index_mut.ensures.value)
    ∙ c.requires.full in
    let empty = left_empty free c.pop.new.self.items c.in-Some.rest c.in-Some.ensures.items c.self.invariant.empty in
    let ok = c.insert.ensures.succeeds (omega (arith, c.self.inside.pages.ok.0, c.self.invariant.room, empty.2)) in
    split_items pages free c.self.inside.surplus _ _ c.self.invariant
    c.pop.new.self.items c.in-Some.rest c.in-Some.ensures.items c.args.page here
    c.index_mut.result.now c.split.new.self c.split.new.rest c.index_mut.ensures.value c.split.ensures.first
    c.split.ensures.rest full
    c.insert.new.self.items (rw (c.insert.ensures.items, ok) refl) (length free) c.args.self.now c.self.view_is

pub returns-in-Some-clause-lengths : goal.returns-in-Some-clause-lengths
returns-in-Some-clause-lengths g c =
    let pages = c.self.inside.pages.items in
    let free = c.self.inside.free.items in
    let here = page_here pages (length free) c.args.self.now c.self.view_is c.args.page c.requires.page in
    let full =
    sym (length_seen pages (length free) c.args.self.now c.self.view_is c.args.page here c.index_mut.result.now c.split.new.self
    c.index_mut.ensures.value)
    ∙ c.requires.full in
    let empty = left_empty free c.pop.new.self.items c.in-Some.rest c.in-Some.ensures.items c.self.invariant.empty in
    let ok = c.insert.ensures.succeeds (omega (arith, c.self.inside.pages.ok.0, c.self.invariant.room, empty.2)) in
    split_lengths pages free c.self.inside.surplus _ _ c.self.invariant
    c.pop.new.self.items c.in-Some.rest c.in-Some.ensures.items c.args.page here
    c.index_mut.result.now c.split.new.self c.split.new.rest c.index_mut.ensures.value c.split.ensures.first
    c.split.ensures.rest full
    c.insert.new.self.items (rw (c.insert.ensures.items, ok) refl) (length free) c.args.self.now c.self.view_is

pub index_mut-requires : goal.index_mut-requires
index_mut-requires g c =
    let here = page_here c.self.inside.pages.items (length c.self.inside.free.items) c.args.self.now c.self.view_is c.args.page
    c.requires.page in
    omega (arith, here, c.self.inside.pages.ok.0)

pub split-requires : goal.split-requires
split-requires g c =
    let here = page_here c.self.inside.pages.items (length c.self.inside.free.items) c.args.self.now c.self.view_is c.args.page
    c.requires.page in
    let is = length_seen c.self.inside.pages.items (length c.self.inside.free.items) c.args.self.now c.self.view_is
    c.args.page here
    c.index_mut.result.now c.index_mut.result.now c.index_mut.ensures.value in
    let empty = left_empty c.self.inside.free.items c.pop.new.self.items c.in-Some.rest c.in-Some.ensures.items
    c.self.invariant.empty in
    record { full = sym is ∙ c.requires.full; empty = no_items c.in-Some.rest empty.0 }

pub overflow_add-page : goal.overflow_add-page
overflow_add-page g c =
    let here = page_here c.self.inside.pages.items (length c.self.inside.free.items) c.args.self.now c.self.view_is c.args.page
    c.requires.page in
    omega (arith, here, c.self.invariant.few)

pub insert-requires : goal.insert-requires
insert-requires g c =
    let here = page_here c.self.inside.pages.items (length c.self.inside.free.items) c.args.self.now c.self.view_is c.args.page
    c.requires.page in
    omega (arith, here, c.self.inside.pages.ok.0)

pub overflow_sub-self : goal.overflow_sub-self
overflow_sub-self g c =
    let here = page_here c.self.inside.pages.items (length c.self.inside.free.items) c.args.self.now c.self.view_is c.args.page
    c.requires.page in
    let is = length_seen c.self.inside.pages.items (length c.self.inside.free.items) c.args.self.now c.self.view_is
    c.args.page here
    c.index_mut.result.now c.index_mut.result.now c.index_mut.ensures.value in
    let part = part_of_surplus c.self.inside.pages.items c.self.inside.free.items c.self.inside.surplus _ _ c.self.invariant
    c.args.page here c.index_mut.result.now c.index_mut.result.now c.index_mut.ensures.value in
    omega (arith, part, is, c.requires.full)

pub invariant_of-self-in_default : goal.invariant_of-self-in_default
invariant_of-self-in_default g c =
    let free = seen_free c.self.inside.pages.items (length c.self.inside.free.items) c.args.self.now c.self.view_is in
    absurd (omega (arith, free, c.requires.free, c.in_default.ensures.cases.0, c.self.inside.free.ok.0))

pub returns-in-Some-clause-free : goal.returns-in-Some-clause-free
returns-in-Some-clause-free g c =
    let empty = left_empty c.self.inside.free.items c.pop.new.self.items c.in-Some.rest c.in-Some.ensures.items
    c.self.invariant.empty in
    let free = seen_free c.self.inside.pages.items (length c.self.inside.free.items) c.args.self.now c.self.view_is in
    omega (arith, empty.2, free)

pub returns-in-Some-clause-steps : goal.returns-in-Some-clause-steps
returns-in-Some-clause-steps g c = c.split.ensures.steps

pub returns-in_default : goal.returns-in_default
returns-in_default g c =
    let free = seen_free c.self.inside.pages.items (length c.self.inside.free.items) c.args.self.now c.self.view_is in
    absurd (omega (arith, free, c.requires.free, c.in_default.ensures.cases.0, c.self.inside.free.ok.0))
