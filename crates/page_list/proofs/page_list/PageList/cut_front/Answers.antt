use Rattle.std.proofs.Common.{◌≡◌, ◌+◌, ◌-◌, ◌++◌, length, take, drop, sym, ◌∙◌, refl, le_refl, ap, arith, take-append-drop}
use Rattle.std.proofs.Math.ListN.{length-set}
use Rattle.std.proofs.lemmas.List.{take-set}
use Rattle.page_list.specs.Items.{length_at, page_start, cursor_index}
use Rattle.page_list.proofs.Cuts.{stands_at}
use Rattle.page_list.proofs.Lengths.{page_inside}
use Rattle.page_list.proofs.Rooms.{halves_trim}
use Rattle.page_list.proofs.page_list.PageList.cut_front.Goals as goal

pub trim-requires : goal.trim-requires
trim-requires g c =
    let inside = stands_at c.args.self.now.lengths c.args.to c.requires c.if-to-ne0.true in
    record {
      page = page_inside c.args.self.now.lengths c.args.to.page (omega (arith, inside));
      order = omega arith;
      inside = omega (arith, inside);
      keeps = omega (arith, inside);
    }

pub returns-then-to-ne0 : goal.returns-then-to-ne0
returns-then-to-ne0 g c =
    let ns = c.args.self.now.lengths in
    let p = c.args.to.page in
    let left = length_at c.args.self.now.lengths c.args.to.page - (c.args.to.item - 0) in
    let inside = stands_at c.args.self.now.lengths c.args.to c.requires c.if-to-ne0.true in
    let page = page_inside c.args.self.now.lengths c.args.to.page (omega (arith, inside)) in
    let start : page_start c.args.self.now.lengths c.args.to.page + 0 ≡ page_start c.args.self.now.lengths c.args.to.page =
    omega arith in
    record {
      items =
          c.trim.ensures.items
          ∙ ap (λ n. take n c.args.self.now.items ++ drop (cursor_index c.args.self.now.lengths c.args.to) c.args.self.now.items)
          start;
      front = ap (take c.args.to.page) c.trim.ensures.lengths ∙ take-set ns p left;
      count = ap length c.trim.ensures.lengths ∙ length-set ns p left;
      free = c.trim.ensures.free;
      halves = halves_trim c.args.self.now c.trim.new.self p left page (omega arith) c.trim.ensures.lengths c.trim.ensures.free;
      steps = omega (arith, c.trim.ensures.steps, c.trim.ensures.bound);
      rises = omega (arith, c.trim.ensures.steps);
    }

pub returns-else-to-ne0 : goal.returns-else-to-ne0
returns-else-to-ne0 g c =
    let start : page_start c.args.self.now.lengths c.args.to.page ≡ cursor_index c.args.self.now.lengths c.args.to =
    omega (arith, c.if-to-ne0.false) in
    record {
      items =
          sym (take-append-drop (page_start c.args.self.now.lengths c.args.to.page) c.args.self.now.items)
          ∙ ap (λ n. take (page_start c.args.self.now.lengths c.args.to.page) c.args.self.now.items
          ++ drop n c.args.self.now.items)
          start;
      front = refl;
      count = refl;
      free = refl;
      halves = le_refl _;
      steps = omega arith;
      rises = le_refl _;
    }
