use Rattle.std.proofs.Common.{length, ap, arith}
use Rattle.page_list.proofs.More.{seen_free}
use Rattle.page_list.proofs.Seen.{page_here}
use Rattle.page_list.proofs.Edits.{kept_with, part_of_surplus, surplus_small, is_put, put_seen}
use Rattle.page_list.proofs.Edits.{lengths_seen, length_seen, put_length}
use Rattle.page_list.proofs.page_list.PageList.put.Goals as goal

pub overflow_add-self : goal.overflow_add-self
overflow_add-self g c =
    let pages = c.self.inside.pages.items in
    let here = page_here pages (length c.self.inside.free.items) c.args.self.now c.self.view_is c.args.at.page c.requires.page in
    let is = length_seen pages (length c.self.inside.free.items) c.args.self.now c.self.view_is c.args.at.page here
    c.index_mut.result.now c.insert.new.self c.index_mut.ensures.value in
    let long = put_length c.index_mut.result.now c.insert.new.self c.args.at.item c.args.item
    (omega (arith, is, c.requires.place)) c.insert.ensures.items in
    let again = is_put pages c.self.inside.free.items c.self.inside.surplus _ _ c.self.invariant c.args.at.page here
    c.index_mut.result.now c.insert.new.self c.index_mut.ensures.value c.index-2.result.now c.index-2.ensures in
    let small = surplus_small pages c.self.inside.free.items c.self.inside.surplus _ _ c.self.invariant in
    omega (arith, small, long, ap length again, c.surplus-2.ensures, is, c.requires.room)

pub invariant_of-self : goal.invariant_of-self
invariant_of-self g c =
    let pages = c.self.inside.pages.items in
    let here = page_here pages (length c.self.inside.free.items) c.args.self.now c.self.view_is c.args.at.page c.requires.page in
    let is = length_seen pages (length c.self.inside.free.items) c.args.self.now c.self.view_is c.args.at.page here
    c.index_mut.result.now c.insert.new.self c.index_mut.ensures.value in
    let first = length_seen pages (length c.self.inside.free.items) c.args.self.now c.self.view_is c.args.at.page here
    c.index.result.now c.insert.new.self c.index.ensures in
    let long = put_length c.index_mut.result.now c.insert.new.self c.args.at.item c.args.item
    (omega (arith, is, c.requires.place)) c.insert.ensures.items in
    let again = is_put pages c.self.inside.free.items c.self.inside.surplus _ _ c.self.invariant c.args.at.page here
    c.index_mut.result.now c.insert.new.self c.index_mut.ensures.value c.index-2.result.now c.index-2.ensures in
    kept_with pages c.self.inside.free.items c.self.inside.surplus _ _ c.self.invariant c.args.at.page here
    c.index_mut.result.now c.insert.new.self c.index_mut.ensures.value (omega (arith, long))
    (omega (arith, long, is, c.requires.room)) _
    (omega (arith, c.surplus.ensures, c.surplus-2.ensures, ap length again, is, first))

pub returns-clause-items : goal.returns-clause-items
returns-clause-items g c =
    let pages = c.self.inside.pages.items in
    let here = page_here pages (length c.self.inside.free.items) c.args.self.now c.self.view_is c.args.at.page c.requires.page in
    let is = length_seen pages (length c.self.inside.free.items) c.args.self.now c.self.view_is c.args.at.page here
    c.index_mut.result.now c.insert.new.self c.index_mut.ensures.value in
    put_seen pages (length c.self.inside.free.items) c.args.self.now c.self.view_is c.args.at.page here
    c.index_mut.result.now c.insert.new.self c.index_mut.ensures.value c.args.at.item c.args.item
    (omega (arith, is, c.requires.place)) c.insert.ensures.items

pub returns-clause-lengths : goal.returns-clause-lengths
returns-clause-lengths g c =
    let pages = c.self.inside.pages.items in
    let here = page_here pages (length c.self.inside.free.items) c.args.self.now c.self.view_is c.args.at.page c.requires.page in
    let is = length_seen pages (length c.self.inside.free.items) c.args.self.now c.self.view_is c.args.at.page here
    c.index_mut.result.now c.insert.new.self c.index_mut.ensures.value in
    let long = put_length c.index_mut.result.now c.insert.new.self c.args.at.item c.args.item
    (omega (arith, is, c.requires.place)) c.insert.ensures.items in
    lengths_seen pages (length c.self.inside.free.items) c.args.self.now c.self.view_is c.args.at.page here
    c.index_mut.result.now c.insert.new.self c.index_mut.ensures.value _ (omega (arith, long, is))

pub index-requires : goal.index-requires
index-requires g c =
    let here = page_here c.self.inside.pages.items (length c.self.inside.free.items) c.args.self.now c.self.view_is c.args.at.page
    c.requires.page in
    omega (arith, here, c.self.inside.pages.ok.0)

pub overflow_sub-self : goal.overflow_sub-self
overflow_sub-self g c =
    let here = page_here c.self.inside.pages.items (length c.self.inside.free.items) c.args.self.now c.self.view_is c.args.at.page
    c.requires.page in
    let part = part_of_surplus c.self.inside.pages.items c.self.inside.free.items c.self.inside.surplus _ _ c.self.invariant
    c.args.at.page here c.index.result.now c.index.result.now c.index.ensures in
    omega (arith, part, c.surplus.ensures)

pub index_mut-requires : goal.index_mut-requires
index_mut-requires g c =
    let here = page_here c.self.inside.pages.items (length c.self.inside.free.items) c.args.self.now c.self.view_is c.args.at.page
    c.requires.page in
    omega (arith, here, c.self.inside.pages.ok.0)

pub insert-requires : goal.insert-requires
insert-requires g c =
    let here = page_here c.self.inside.pages.items (length c.self.inside.free.items) c.args.self.now c.self.view_is c.args.at.page
    c.requires.page in
    let is = length_seen c.self.inside.pages.items (length c.self.inside.free.items) c.args.self.now c.self.view_is
    c.args.at.page here c.index_mut.result.now c.index_mut.result.now c.index_mut.ensures.value in
    record { index = omega (arith, is, c.requires.place); room = omega (arith, is, c.requires.room) }

pub index-requires-2 : goal.index-requires-2
index-requires-2 g c =
    let here = page_here c.self.inside.pages.items (length c.self.inside.free.items) c.args.self.now c.self.view_is c.args.at.page
    c.requires.page in
    omega (arith, here, c.self.inside.pages.ok.0)

pub returns-clause-free : goal.returns-clause-free
returns-clause-free g c =
    seen_free c.self.inside.pages.items (length c.self.inside.free.items) c.args.self.now c.self.view_is

pub returns-clause-steps : goal.returns-clause-steps
returns-clause-steps g c =
    let here = page_here c.self.inside.pages.items (length c.self.inside.free.items) c.args.self.now c.self.view_is c.args.at.page
    c.requires.page in
    let is = length_seen c.self.inside.pages.items (length c.self.inside.free.items) c.args.self.now c.self.view_is
    c.args.at.page here c.index_mut.result.now c.insert.new.self c.index_mut.ensures.value in
    omega (arith, is, c.insert.ensures.steps)
