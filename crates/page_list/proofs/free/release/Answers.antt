use Rattle.std.proofs.Common.{◌≡◌, ◌+◌, ◌-◌, ◌≤◌, [], ◌∷◌, ◌++◌, List, length, take, drop}
use Rattle.std.proofs.Common.{◌∙◌, refl, le_refl, le_trans, ap, arith}
use Rattle.std.proofs.Common.{ℕ, length-drop, length-take-le}
use Rattle.std.specs.List.{sum}
use Rattle.std.specs.Vec.Iter.{drain_items}
use Rattle.page_list.specs.Pages.{lengths_of}
use Rattle.page_list.proofs.Released.{released_none, released_room, released_more, released_all}
use Rattle.page_list.proofs.free.release.Goals as goal

pub drain-page-items-requires : goal.drain-page-items-requires
drain-page-items-requires g c = record {
  start_le_end = c.requires.order;
  in_bounds = omega (arith, c.requires.inside, c.args.pages.now.ok.0);
  not_exhausted = tt;
}

pub loop-page-init : goal.loop-page-init
loop-page-init g c = record {
  released = released_none (drain_items c.into_iter-page-iterator.result) c.args.free.now.items c.args.steps.now;
  free_capacity = le_refl _;
}

-- how many pages go
length_released : {X : Type 0} (pages : List X) (first last : ℕ) → first ≤ last → last ≤ length pages → (all : List X)
    → all ≡ take (last - first) (drop first pages) → length all ≡ last - first
length_released pages first last order inside all is =
    ap length is ∙ length-take-le (last - first) (drop first pages) (omega (arith, inside, length-drop first pages))

pub loop-page-preserved-in-Some : goal.loop-page-preserved-in-Some
loop-page-preserved-in-Some g c =
    let all = drain_items c.into_iter-page-iterator.result in
    let so_far = c.loop-page.invariant.released in
    let next = c.in-Some.ensures.steps.0 in
    let count = length_released c.args.pages.now.items c.args.first c.args.last c.requires.order c.requires.inside all
    (ap (λ it. drain_items it) c.into_iter-page-iterator.ensures.into_iter_gives ∙ c.drain-page-items.ensures.rest) in
    let room = released_room all c.args.free.now.items c.args.steps.now c.loop-page.yielded
    (drain_items c.loop-page.page-iterator)
    c.loop-page.free.items c.loop-page.steps so_far c.in-Some.page (drain_items c.next.new.self) next in
    let ok = c.push.ensures.succeeds
    (omega (arith, room, count, c.requires.room, c.loop-page.invariant.free_capacity, c.loop-page.free.ok.0)) in
    let pushed : c.push.new.self.items ≡ c.loop-page.free.items ++ c.clear.new.self ∷ [] = rw (c.push.ensures.items, ok) refl in
    record {
      released =
          released_more all c.args.free.now.items c.args.steps.now c.loop-page.yielded (drain_items c.loop-page.page-iterator)
          c.loop-page.free.items c.loop-page.steps so_far c.in-Some.page (drain_items c.next.new.self) next
          c.push.new.self.items c.clear.new.self c.clear.new.steps pushed c.clear.ensures.items c.clear.ensures.steps;
      free_capacity = le_trans c.loop-page.invariant.free_capacity c.push.ensures.capacity;
    }

pub loop-page-preserved : goal.loop-page-preserved
loop-page-preserved g c =
    let all = drain_items c.into_iter-page-iterator.result in
    let so_far = c.loop-page.invariant.released in
    let next = c.in-Some.ensures.steps.0 in
    let count = length_released c.args.pages.now.items c.args.first c.args.last c.requires.order c.requires.inside all
    (ap (λ it. drain_items it) c.into_iter-page-iterator.ensures.into_iter_gives ∙ c.drain-page-items.ensures.rest) in
    let room = released_room all c.args.free.now.items c.args.steps.now c.loop-page.yielded
    (drain_items c.loop-page.page-iterator)
    c.loop-page.free.items c.loop-page.steps so_far c.in-Some.page (drain_items c.next.new.self) next in
    let ok = c.push.ensures.succeeds
    (omega (arith, room, count, c.requires.room, c.loop-page.invariant.free_capacity, c.loop-page.free.ok.0)) in
    let pushed : c.push.new.self.items ≡ c.loop-page.free.items ++ c.clear.new.self ∷ [] = rw (c.push.ensures.items, ok) refl in
    record {
      released =
          released_more all c.args.free.now.items c.args.steps.now c.loop-page.yielded (drain_items c.loop-page.page-iterator)
          c.loop-page.free.items c.loop-page.steps so_far c.in-Some.page (drain_items c.next.new.self) next
          c.push.new.self.items c.clear.new.self c.clear.new.steps pushed c.clear.ensures.items c.clear.ensures.steps;
      free_capacity = le_trans c.loop-page.invariant.free_capacity c.push.ensures.capacity;
    }

pub returns-clause-free : goal.returns-clause-free
returns-clause-free g c =
    let all = drain_items c.into_iter-page-iterator.result in
    let mid : all ≡ take (c.args.last - c.args.first) (drop c.args.first c.args.pages.now.items) =
    ap (λ it. drain_items it) c.into_iter-page-iterator.ensures.into_iter_gives ∙ c.drain-page-items.ensures.rest in
    let given = released_all all c.args.free.now.items c.args.steps.now c.loop-page.yielded
    (drain_items c.loop-page.page-iterator) c.loop-page.free.items c.loop-page.steps c.loop-page.invariant.released
    c.in-None.ensures.steps.0 in
    let count = length_released c.args.pages.now.items c.args.first c.args.last c.requires.order c.requires.inside all mid in
    omega (arith, c.loop-page.invariant.released.count, ap length given, count)

pub returns-clause-empty : goal.returns-clause-empty
returns-clause-empty g c = c.loop-page.invariant.released.empty

pub returns-clause-free_capacity : goal.returns-clause-free_capacity
returns-clause-free_capacity g c = c.loop-page.invariant.free_capacity

pub returns-clause-steps : goal.returns-clause-steps
returns-clause-steps g c =
    let all = drain_items c.into_iter-page-iterator.result in
    let mid : all ≡ take (c.args.last - c.args.first) (drop c.args.first c.args.pages.now.items) =
    ap (λ it. drain_items it) c.into_iter-page-iterator.ensures.into_iter_gives ∙ c.drain-page-items.ensures.rest in
    let given = released_all all c.args.free.now.items c.args.steps.now c.loop-page.yielded
    (drain_items c.loop-page.page-iterator) c.loop-page.free.items c.loop-page.steps c.loop-page.invariant.released
    c.in-None.ensures.steps.0 in
    c.loop-page.invariant.released.steps_are ∙ ap (λ ps. c.args.steps.now + sum (lengths_of ps)) (given ∙ mid)
