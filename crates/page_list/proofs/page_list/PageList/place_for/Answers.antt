use Rattle.std.proofs.Common.{◌≡◌, ◌+◌, length, refl, le_refl, ap, arith}
use Rattle.page_list.specs.Items.{length_at}
use Rattle.page_list.proofs.Cuts.{place_inside, free_for_full, are_halves}
use Rattle.page_list.proofs.Lengths.{page_inside}
use Rattle.page_list.proofs.Rooms.{halves_split}
use Rattle.page_list.proofs.Seen.{page_here, stands_inside}
use Rattle.page_list.proofs.page_list.PageList.place_for.Goals as goal

pub end_before-requires : goal.end_before-requires
end_before-requires g c = c.requires.place

pub returns-in-Some : goal.returns-in-Some
returns-in-Some g c =
    let end = c.in-Some.ensures in
    record {
      items = refl;
      page = end.0;
      place = omega (arith, end.1);
      not_full = omega (arith, end.1, end.2);
      index = end.3;
      free = omega arith;
      halves = le_refl _;
      steps = omega (arith, end.1);
      rises = le_refl _;
    }

pub page_len-requires : goal.page_len-requires
page_len-requires g c =
    place_inside c.args.self.now.lengths c.args.at c.requires.place c.requires.last c.in_default.ensures

pub returns-then-page_len-lt-PAGE : goal.returns-then-page_len-lt-PAGE
returns-then-page_len-lt-PAGE g c =
    let is = c.page_len.ensures.length in
    let page = page_inside c.args.self.now.lengths c.args.at.page (omega (arith, is, c.page_len.ensures.some)) in
    let inside = stands_inside c.args.self.now.lengths c.args.at c.requires.place page in
    record {
      items = refl;
      page = page;
      place = omega (arith, inside);
      not_full = omega (arith, is, c.if-page_len-lt-PAGE.true);
      index = refl;
      free = omega arith;
      halves = le_refl _;
      steps = omega (arith, is, c.page_len.ensures.bound);
      rises = le_refl _;
    }

pub split-requires : goal.split-requires
split-requires g c =
    let is = c.page_len.ensures.length in
    let page = page_inside c.args.self.now.lengths c.args.at.page (omega (arith, is, c.page_len.ensures.some)) in
    let full : length_at c.args.self.now.lengths c.args.at.page ≡ 128 =
    omega (arith, is, c.page_len.ensures.bound, c.if-page_len-lt-PAGE.false) in
    record { page = page; full = full; free = free_for_full c.args.self.now c.args.at.page c.requires.room page full }

pub overflow_add-result : goal.overflow_add-result
overflow_add-result g c =
    let page = page_inside c.args.self.now.lengths c.args.at.page
    (omega (arith, c.page_len.ensures.length, c.page_len.ensures.some)) in
    let here = page_here c.self.inside.pages.items (length c.self.inside.free.items) c.args.self.now c.self.view_is
    c.args.at.page page in
    omega (arith, here, c.self.invariant.few)

pub overflow_sub-result : goal.overflow_sub-result
overflow_sub-result g c = omega (arith, c.if-at-le-HALF.false)

pub returns-then-at-le-HALF : goal.returns-then-at-le-HALF
returns-then-at-le-HALF g c =
    let is = c.page_len.ensures.length in
    let page = page_inside c.args.self.now.lengths c.args.at.page (omega (arith, is, c.page_len.ensures.some)) in
    let full : length_at c.args.self.now.lengths c.args.at.page ≡ 128 =
    omega (arith, is, c.page_len.ensures.bound, c.if-page_len-lt-PAGE.false) in
    let halves = are_halves c.args.self.now.lengths c.split.new.self.lengths c.args.at.page page c.split.ensures.lengths in
    record {
      items = c.split.ensures.items;
      page = omega (arith, halves.inside);
      place = omega (arith, halves.first, c.if-at-le-HALF.true);
      not_full = omega (arith, halves.first);
      index = ap (λ n. n + c.args.at.item) halves.start;
      free = omega (arith, c.split.ensures.free);
      halves = halves_split c.args.self.now c.split.new.self c.args.at.page page full c.split.ensures.lengths
          c.split.ensures.free;
      steps = omega (arith, halves.first, c.split.ensures.steps);
      rises = omega (arith, c.split.ensures.steps);
    }

pub returns-else-at-le-HALF : goal.returns-else-at-le-HALF
returns-else-at-le-HALF g c =
    let is = c.page_len.ensures.length in
    let page = page_inside c.args.self.now.lengths c.args.at.page (omega (arith, is, c.page_len.ensures.some)) in
    let full : length_at c.args.self.now.lengths c.args.at.page ≡ 128 =
    omega (arith, is, c.page_len.ensures.bound, c.if-page_len-lt-PAGE.false) in
    let inside = stands_inside c.args.self.now.lengths c.args.at c.requires.place page in
    let halves = are_halves c.args.self.now.lengths c.split.new.self.lengths c.args.at.page page c.split.ensures.lengths in
    record {
      items = c.split.ensures.items;
      page = halves.inside;
      place = omega (arith, halves.second, inside, full);
      not_full = omega (arith, halves.second);
      index = omega (arith, halves.next_start, c.if-at-le-HALF.false);
      free = omega (arith, c.split.ensures.free);
      halves = halves_split c.args.self.now c.split.new.self c.args.at.page page full c.split.ensures.lengths
          c.split.ensures.free;
      steps = omega (arith, halves.second, c.split.ensures.steps);
      rises = omega (arith, c.split.ensures.steps);
    }
