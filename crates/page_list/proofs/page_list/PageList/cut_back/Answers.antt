use Rattle.std.proofs.Common.{◌≡◌, ◌+◌, ◌-◌, ◌++◌, length, take, drop, sym, ◌∙◌, refl}
use Rattle.std.proofs.Common.{le_refl, ap, arith, take-append-drop, drop-set-lt}
use Rattle.std.proofs.Math.ListN.{length-set}
use Rattle.page_list.specs.Items.{length_at, page_start, cursor_index}
use Rattle.page_list.proofs.Cuts.{next_start_with}
use Rattle.page_list.proofs.Lengths.{page_inside, start_more}
use Rattle.page_list.proofs.Rooms.{halves_trim}
use Rattle.page_list.proofs.Seen.{page_here}
use Rattle.page_list.proofs.page_list.PageList.cut_back.Goals as goal

pub returns-then-from-eq0 : goal.returns-then-from-eq0
returns-then-from-eq0 g c =
    let start : page_start c.args.self.now.lengths c.args.from.page ≡ cursor_index c.args.self.now.lengths c.args.from =
    omega (arith, c.if-from-eq0.true) in
    record {
      items =
          sym (take-append-drop (page_start c.args.self.now.lengths c.args.from.page) c.args.self.now.items)
          ∙ ap (λ n. take n c.args.self.now.items
          ++ drop (page_start c.args.self.now.lengths c.args.from.page) c.args.self.now.items)
          start;
      start = start;
      rest = refl;
      count = refl;
      first = (le_refl _, omega arith);
      order = omega (arith, start);
      free = refl;
      halves = le_refl _;
      steps = omega (arith, start);
    }

pub page_len-end-requires : goal.page_len-end-requires
page_len-end-requires g c = page_inside c.args.self.now.lengths c.args.from.page (omega (arith, c.requires))

pub trim-requires : goal.trim-requires
trim-requires g c =
    let end = c.page_len-end.ensures.length in
    record {
      page = page_inside c.args.self.now.lengths c.args.from.page (omega (arith, c.requires));
      order = omega (arith, end, c.requires);
      inside = omega (arith, end);
      keeps = omega (arith, end, c.requires, c.if-from-eq0.false);
    }

pub overflow_add-result : goal.overflow_add-result
overflow_add-result g c =
    let page = page_inside c.args.self.now.lengths c.args.from.page (omega (arith, c.requires)) in
    let here = page_here c.self.inside.pages.items (length c.self.inside.free.items) c.args.self.now c.self.view_is
    c.args.from.page page in
    omega (arith, here, c.self.invariant.few)

pub returns : goal.returns
returns g c =
    let ns = c.args.self.now.lengths in
    let p = c.args.from.page in
    let left = length_at c.args.self.now.lengths c.args.from.page - (c.page_len-end.result - c.args.from.item) in
    let end = c.page_len-end.ensures.length in
    let page = page_inside c.args.self.now.lengths c.args.from.page (omega (arith, c.requires)) in
    let next = start_more c.args.self.now.lengths c.args.from.page page in
    let to : page_start c.args.self.now.lengths c.args.from.page + c.page_len-end.result
    ≡ page_start c.args.self.now.lengths (c.args.from.page + 1) = omega (arith, next, end) in
    let cut : page_start c.trim.new.self.lengths (c.args.from.page + 1)
    ≡ page_start c.args.self.now.lengths c.args.from.page + left =
    ap (λ ms. page_start ms (c.args.from.page + 1)) c.trim.ensures.lengths ∙ next_start_with ns p left page in
    record {
      items =
          c.trim.ensures.items
          ∙ ap (λ n. take (cursor_index c.args.self.now.lengths c.args.from) c.args.self.now.items
          ++ drop n c.args.self.now.items)
          to;
      start = omega (arith, cut, end, c.requires);
      rest = ap (drop (c.args.from.page + 1)) c.trim.ensures.lengths ∙ drop-set-lt (p + 1) ns p left (omega arith);
      count = ap length c.trim.ensures.lengths ∙ length-set ns p left;
      first = (omega arith, le_refl _);
      order = omega (arith, next, c.requires);
      free = c.trim.ensures.free;
      halves = halves_trim c.args.self.now c.trim.new.self p left page (omega arith) c.trim.ensures.lengths c.trim.ensures.free;
      steps = omega (arith, c.trim.ensures.steps, next, c.requires);
    }
