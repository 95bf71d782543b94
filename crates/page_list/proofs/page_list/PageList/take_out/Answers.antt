use Rattle.std.proofs.Common.{length, take, drop, ◌-◌, ◌∙◌, ap, arith}
use Rattle.page_list.specs.Items.{surplus_of}
use Rattle.page_list.specs.Pages.{lengths_of}
use Rattle.page_list.proofs.Edits.{surplus_small}
use Rattle.page_list.proofs.Gone.{mid_surplus, gone_kept, gone_seen, mid_seen, pages_bound}
use Rattle.page_list.proofs.page_list.PageList.take_out.Goals as goal

pub surplus_in-requires : goal.surplus_in-requires
surplus_in-requires g c =
    let pages = c.self.inside.pages.items in
    let is = ap (λ xs. surplus_of (lengths_of (take (c.args.last - c.args.first) (drop c.args.first xs))))
    c.deref.ensures.value in
    let small = surplus_small pages c.self.inside.free.items c.self.inside.surplus _ _ c.self.invariant in
    omega (arith, is, small, c.self.invariant.surplus_is, mid_surplus pages c.args.first c.args.last c.requires.order)

pub overflow_sub-self : goal.overflow_sub-self
overflow_sub-self g c =
    let pages = c.self.inside.pages.items in
    let is = ap (λ xs. surplus_of (lengths_of (take (c.args.last - c.args.first) (drop c.args.first xs))))
    c.deref.ensures.value in
    omega (
      arith,
      is,
      c.surplus_in.ensures,
      c.self.invariant.surplus_is,
      mid_surplus pages c.args.first c.args.last
          c.requires.order,
    )

pub invariant_of-self : goal.invariant_of-self
invariant_of-self g c =
    let pages = c.self.inside.pages.items in
    let inside = pages_bound pages (length c.self.inside.free.items) c.args.self.now c.self.view_is c.args.last
    c.requires.inside in
    let is = ap (λ xs. surplus_of (lengths_of (take (c.args.last - c.args.first) (drop c.args.first xs))))
    c.deref.ensures.value in
    gone_kept pages c.args.first c.args.last c.requires.order inside c.release.new.pages.items c.release.ensures.pages
    c.self.inside.free.items c.release.new.free.items c.self.inside.surplus _ _ _ _ _ c.self.invariant c.release.ensures.free
    c.release.ensures.empty
    (ap (λ n. c.self.inside.surplus - n) (c.surplus_in.ensures ∙ is)) c.release.ensures.capacity c.release.ensures.free_capacity

pub returns-clause-items : goal.returns-clause-items
returns-clause-items g c =
    let pages = c.self.inside.pages.items in
    let inside = pages_bound pages (length c.self.inside.free.items) c.args.self.now c.self.view_is c.args.last
    c.requires.inside in
    let shown = gone_seen pages c.args.first c.args.last c.requires.order inside c.release.new.pages.items c.release.ensures.pages
    (length c.self.inside.free.items) c.args.self.now c.self.view_is in
    shown.0

pub returns-clause-lengths : goal.returns-clause-lengths
returns-clause-lengths g c =
    let pages = c.self.inside.pages.items in
    let inside = pages_bound pages (length c.self.inside.free.items) c.args.self.now c.self.view_is c.args.last
    c.requires.inside in
    let shown = gone_seen pages c.args.first c.args.last c.requires.order inside c.release.new.pages.items c.release.ensures.pages
    (length c.self.inside.free.items) c.args.self.now c.self.view_is in
    shown.1

pub returns-clause-steps : goal.returns-clause-steps
returns-clause-steps g c =
    omega (
      arith,
      c.release.ensures.steps,
      mid_seen c.self.inside.pages.items c.args.first c.args.last c.requires.order (length c.self.inside.free.items)
          c.args.self.now c.self.view_is,
    )
