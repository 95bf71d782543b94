use Rattle.std.proofs.Common.{◌≡◌, ◌+◌, ◌≤◌, length, vec_capacity}
use Rattle.page_list.specs.Pages.{items_of}
use Rattle.page_list.proofs.free.add_pages.Given as goal

abbrev pub invariant-loop : goal.invariant-loop
invariant-loop g l =
    (length l.free.items ≡ length l.initial.free.items + l.counter)
    × (length (items_of l.free.items) ≡ length (items_of l.initial.free.items))
    × (vec_capacity l.initial.free ≤ vec_capacity l.free)
