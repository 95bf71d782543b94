use Rattle.std.proofs.Common.{◌≡◌, ◌+◌, ◌<◌, ◌≤◌, ◌++◌, length, take, drop, sym, ◌∙◌, refl, le_refl, ap, arith}
use Rattle.std.proofs.Common.{length-append, length-take-le, take-append-drop}
use Rattle.page_list.specs.Items.{page_start, cursor_index}
use Rattle.page_list.proofs.Cuts.{place_kept, end_is, both_inside}
use Rattle.page_list.proofs.Lengths.{index_bound, page_bound, length_front, start_rises}
use Rattle.page_list.proofs.More.{seen_count}
use Rattle.page_list.proofs.Seen.{count_is}
use Rattle.page_list.proofs.Rooms.{halves_trim, halves_gone, room_kept}
use Rattle.page_list.proofs.Removals.{stands_before, removed, from_same, mid_order, last_at, front_start}
use Rattle.page_list.proofs.page_list.PageList.remove.Goals as goal

pub returns-then-from-len : goal.returns-then-from-len
returns-then-from-len g c =
    let from = cursor_index c.args.self.now.lengths c.args.from in
    let count = seen_count c.self.inside.pages.items (length c.self.inside.free.items) c.args.self.now c.self.view_is in
    let last : c.args.from.page ≡ length c.args.self.now.lengths =
    omega (arith, c.if-from-len.true, c.len.ensures, c.self.inside.pages.ok.0, count) in
    let end = end_is c.args.self.now.lengths c.args.from c.requires.from last in
    let bound = index_bound c.args.self.now.lengths c.args.to c.requires.to in
    let same : cursor_index c.args.self.now.lengths c.args.from ≡ cursor_index c.args.self.now.lengths c.args.to =
    omega (arith, end.1, bound, c.requires.order) in
    record {
      items =
          sym (take-append-drop from c.args.self.now.items)
          ∙ ap (λ n. take from c.args.self.now.items ++ drop n c.args.self.now.items) same;
      place = c.requires.from;
      index = refl;
      room = le_refl _;
      steps = omega arith;
      rises = le_refl _;
    }

pub trim-requires : goal.trim-requires
trim-requires g c =
    let ns = c.args.self.now.lengths in
    let count = seen_count c.self.inside.pages.items (length c.self.inside.free.items) c.args.self.now c.self.view_is in
    let bound = page_bound c.args.self.now.lengths c.args.from c.requires.from in
    let inside : c.args.from.page < length c.args.self.now.lengths =
    omega (arith, bound, c.if-from-len.false, c.len.ensures, c.self.inside.pages.ok.0, count) in
    let both = both_inside ns c.args.from c.args.to c.requires.to c.requires.order inside c.if-from-to.true in
    record { page = inside; order = both.1; inside = omega (arith, both.0); keeps = omega (arith, both.0) }

pub returns-then-from-to : goal.returns-then-from-to
returns-then-from-to g c =
    let ns = c.args.self.now.lengths in
    let count = seen_count c.self.inside.pages.items (length c.self.inside.free.items) c.args.self.now c.self.view_is in
    let bound = page_bound c.args.self.now.lengths c.args.from c.requires.from in
    let inside : c.args.from.page < length c.args.self.now.lengths =
    omega (arith, bound, c.if-from-len.false, c.len.ensures, c.self.inside.pages.ok.0, count) in
    let both = both_inside ns c.args.from c.args.to c.requires.to c.requires.order inside c.if-from-to.true in
    let from = cursor_index c.args.self.now.lengths c.args.from in
    let place = place_kept ns c.trim.new.self.lengths c.args.from _ inside (omega (arith, both.0, both.1))
    c.trim.ensures.lengths in
    record {
      items =
          c.trim.ensures.items
          ∙ ap (λ p. take from c.args.self.now.items ++ drop (page_start ns p + c.args.to.item) c.args.self.now.items)
          c.if-from-to.true;
      place = place.0;
      index = place.1;
      room =
          room_kept c.args.self.now c.trim.new.self (omega (arith, c.trim.ensures.free))
          (halves_trim c.args.self.now c.trim.new.self c.args.from.page _ inside (omega arith) c.trim.ensures.lengths
          c.trim.ensures.free);
      steps = omega (arith, c.trim.ensures.steps, c.trim.ensures.bound);
      rises = omega (arith, c.trim.ensures.steps);
    }

pub cut_front-requires : goal.cut_front-requires
cut_front-requires g c = c.requires.to

pub cut_back-first-requires : goal.cut_back-first-requires
cut_back-first-requires g c =
    let at = stands_before c.args.self.now.lengths c.args.from c.args.to c.requires.from c.requires.to c.requires.order
    c.if-from-to.false in
    omega (
      arith,
      at.1,
      length_front c.cut_front.new.self.lengths c.args.self.now.lengths c.args.from.page c.args.to.page at.0
          c.cut_front.ensures.front,
    )

pub take_out-requires-clause-order : goal.take_out-requires-clause-order
take_out-requires-clause-order g c =
    let at = stands_before c.args.self.now.lengths c.args.from c.args.to c.requires.from c.requires.to c.requires.order
    c.if-from-to.false in
    omega (arith, at.0, c.cut_back-first.ensures.first)

pub take_out-requires-clause-inside : goal.take_out-requires-clause-inside
take_out-requires-clause-inside g c =
    omega (
      arith,
      page_bound c.args.self.now.lengths c.args.to c.requires.to,
      c.cut_front.ensures.count,
      c.cut_back-first.ensures.count,
    )

pub start_at-requires : goal.start_at-requires
start_at-requires g c =
    let at = stands_before c.args.self.now.lengths c.args.from c.args.to c.requires.from c.requires.to c.requires.order
    c.if-from-to.false in
    let bound = page_bound c.args.self.now.lengths c.args.to c.requires.to in
    let first = c.cut_back-first.result in
    let ns = c.cut_back-first.new.self.lengths in
    let inside : c.cut_back-first.result ≤ length c.cut_back-first.new.self.lengths =
    omega (arith, at.0, bound, c.cut_back-first.ensures.first, c.cut_front.ensures.count, c.cut_back-first.ensures.count) in
    omega (
      arith,
      ap length c.take_out.ensures.lengths,
      length-append (take first ns) (drop c.args.to.page ns),
      length-take-le
          first ns inside,
    )

pub returns-clause-items : goal.returns-clause-items
returns-clause-items g c =
    let at = stands_before c.args.self.now.lengths c.args.from c.args.to c.requires.from c.requires.to c.requires.order
    c.if-from-to.false in
    let count = count_is c.self.inside.pages.items (length c.self.inside.free.items) c.args.self.now c.self.view_is in
    removed c.args.self.now.lengths c.cut_front.new.self.lengths c.cut_back-first.new.self.lengths c.args.from c.args.to
    c.cut_back-first.result
    c.cut_front.ensures.front c.cut_back-first.ensures.start c.cut_back-first.ensures.rest c.cut_back-first.ensures.order
    (omega (arith, at.0, c.cut_back-first.ensures.first)) at.0
    c.args.self.now.items c.cut_front.new.self.items c.cut_back-first.new.self.items c.take_out.new.self.items
    (omega (arith, count, index_bound c.args.self.now.lengths c.args.to c.requires.to))
    c.cut_front.ensures.items c.cut_back-first.ensures.items c.take_out.ensures.items

pub returns-clause-index : goal.returns-clause-index
returns-clause-index g c =
    let at = stands_before c.args.self.now.lengths c.args.from c.args.to c.requires.from c.requires.to c.requires.order
    c.if-from-to.false in
    let bound = page_bound c.args.self.now.lengths c.args.to c.requires.to in
    let inside : c.cut_back-first.result ≤ length c.cut_back-first.new.self.lengths =
    omega (arith, at.0, bound, c.cut_back-first.ensures.first, c.cut_front.ensures.count, c.cut_back-first.ensures.count) in
    c.start_at.ensures.index
    ∙ ap (λ ns. page_start ns c.cut_back-first.result) c.take_out.ensures.lengths
    ∙ front_start c.cut_back-first.new.self.lengths c.cut_back-first.result c.args.to.page inside
    ∙ c.cut_back-first.ensures.start
    ∙ from_same c.args.self.now.lengths c.cut_front.new.self.lengths c.cut_back-first.new.self.lengths c.args.from c.args.to
    c.cut_back-first.result
    c.cut_front.ensures.front c.cut_back-first.ensures.start c.cut_back-first.ensures.rest c.cut_back-first.ensures.order
    (omega (arith, at.0, c.cut_back-first.ensures.first)) at.0

pub returns-clause-room : goal.returns-clause-room
returns-clause-room g c =
    let at = stands_before c.args.self.now.lengths c.args.from c.args.to c.requires.from c.requires.to c.requires.order
    c.if-from-to.false in
    let gone = halves_gone c.cut_back-first.new.self c.take_out.new.self c.cut_back-first.result c.args.to.page
    (omega (arith, at.0, c.cut_back-first.ensures.first)) c.take_out.ensures.lengths c.take_out.ensures.free in
    room_kept c.args.self.now c.take_out.new.self
    (omega (arith, c.cut_front.ensures.free, c.cut_back-first.ensures.free, c.take_out.ensures.free))
    (omega (arith, c.cut_front.ensures.halves, c.cut_back-first.ensures.halves, gone))

pub returns-clause-steps : goal.returns-clause-steps
returns-clause-steps g c =
    let at = stands_before c.args.self.now.lengths c.args.from c.args.to c.requires.from c.requires.to c.requires.order
    c.if-from-to.false in
    let first = c.cut_back-first.result in
    let last = last_at c.args.self.now.lengths c.cut_front.new.self.lengths c.cut_back-first.new.self.lengths c.args.from
    c.args.to first
    c.cut_front.ensures.front c.cut_back-first.ensures.start c.cut_back-first.ensures.rest c.cut_back-first.ensures.order
    (omega (arith, at.0, c.cut_back-first.ensures.first)) at.0 in
    let same = from_same c.args.self.now.lengths c.cut_front.new.self.lengths c.cut_back-first.new.self.lengths c.args.from
    c.args.to first
    c.cut_front.ensures.front c.cut_back-first.ensures.start c.cut_back-first.ensures.rest c.cut_back-first.ensures.order
    (omega (arith, at.0, c.cut_back-first.ensures.first)) at.0 in
    let mid = mid_order c.args.self.now.lengths c.cut_front.new.self.lengths c.cut_back-first.new.self.lengths c.args.from
    c.args.to first
    c.cut_front.ensures.front c.cut_back-first.ensures.start c.cut_back-first.ensures.rest c.cut_back-first.ensures.order
    (omega (arith, at.0, c.cut_back-first.ensures.first)) at.0 in
    omega (
      arith,
      c.cut_front.ensures.steps,
      c.cut_back-first.ensures.steps,
      c.take_out.ensures.steps,
      c.cut_back-first.ensures.start,
      c.cut_back-first.ensures.order,
      last,
      same,
      mid,
    )

pub returns-clause-rises : goal.returns-clause-rises
returns-clause-rises g c =
    let at = stands_before c.args.self.now.lengths c.args.from c.args.to c.requires.from c.requires.to c.requires.order
    c.if-from-to.false in
    let rises = start_rises c.cut_back-first.new.self.lengths c.cut_back-first.result c.args.to.page
    (omega (arith, at.0, c.cut_back-first.ensures.first)) in
    omega (
      arith,
      c.cut_front.ensures.rises,
      c.cut_back-first.ensures.steps,
      c.cut_back-first.ensures.order,
      c.take_out.ensures.steps,
      rises,
    )

pub returns-clause-place : goal.returns-clause-place
returns-clause-place g c = c.start_at.ensures.place
