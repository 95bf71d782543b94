use Rattle.std.proofs.Common.{◌≡◌, ◌≤◌, ◌∙◌, ◌++◌, length, take, drop, sym, ap, subst, arith}
use Rattle.page_list.specs.Items.{cursor_index}
use Rattle.extent_map.specs.Extents.{IsShortest, AllFit}
use Rattle.extent_map.specs.Cut.{rows_before, before_count}
use Rattle.extent_map.proofs.CutTwice.{from_twice, none_between, some_between, before_length, front_count, front_shortest}
use Rattle.extent_map.proofs.CutTwice.{front_fits, taken, taken_count}
use Rattle.extent_map.proofs.cut.take_out.Goals as goal

pub cut_one-requires-clause-end : goal.cut_one-requires-clause-end
cut_one-requires-clause-end g c =
    none_between c.args.end c.args.lba _ c.args.rows.now.items c.get.result c.begins_before.result
    (omega (arith, c.requires.order)) c.first_from-first.ensures.index
    c.begins_before.ensures c.get.ensures c.if-not-begins_before.true

pub returns-then-not-begins_before-clause-taken : goal.returns-then-not-begins_before-clause-taken
returns-then-not-begins_before-clause-taken g c =
    let twice = from_twice g.P.Place.on g.met.P.Place.on_twice c.args.lba c.args.end c.args.rows.now.items c.requires.order
    c.requires.rows.shortest in
    let rows = c.cut_one.ensures.rows ∙ ap (λ xs. rows_before c.args.lba c.args.rows.now.items ++ xs) (sym twice) in
    record {
      rows = rows;
      count = omega (
        arith,
        ap length rows,
        taken_count g.P.Place.on g.met.P.Place.on_twice c.args.lba c.args.end c.args.rows.now.items c.requires.rows.shortest,
      );
      room = c.cut_one.ensures.room;
    }

pub first_after-last-requires-clause-early : goal.first_after-last-requires-clause-early
first_after-last-requires-clause-early g c =
    some_between c.args.end c.args.lba _ c.args.rows.now.items c.get.result c.begins_before.result
    (omega (arith, c.requires.order)) c.first_from-first.ensures.index
    c.begins_before.ensures c.get.ensures c.if-not-begins_before.false

pub cut_back-requires-clause-index : goal.cut_back-requires-clause-index
cut_back-requires-clause-index g c =
    let found = some_between c.args.end c.args.lba _ c.args.rows.now.items c.get.result c.begins_before.result
    (omega (arith, c.requires.order)) c.first_from-first.ensures.index
    c.begins_before.ensures c.get.ensures c.if-not-begins_before.false in
    let near : cursor_index c.args.rows.now.lengths c.first_from-first.result ≤ cursor_index c.args.rows.now.lengths
    c.cut_front-last.result =
    omega (arith, found, c.cut_front-last.ensures.near) in
    let same = ap (λ ns. cursor_index ns c.first_from-first.result) c.cut_front-last.ensures.lengths in
    same
    ∙ front_count g.P.Place.on c.args.rows.now.items c.cut_front-last.new.rows.items c.args.lba c.args.end
    (cursor_index c.args.rows.now.lengths c.first_from-first.result)
    (cursor_index c.args.rows.now.lengths c.cut_front-last.result) c.requires.rows.shortest c.first_from-first.ensures.index near
    c.cut_front-last.ensures.front c.cut_front-last.ensures.back
    ∙ ap (λ k. before_count c.args.lba (take k c.cut_front-last.new.rows.items)) (sym same)

pub cut_back-requires-clause-shortest : goal.cut_back-requires-clause-shortest
cut_back-requires-clause-shortest g c =
    let found = some_between c.args.end c.args.lba _ c.args.rows.now.items c.get.result c.begins_before.result
    (omega (arith, c.requires.order)) c.first_from-first.ensures.index
    c.begins_before.ensures c.get.ensures c.if-not-begins_before.false in
    let near : cursor_index c.args.rows.now.lengths c.first_from-first.result ≤ cursor_index c.args.rows.now.lengths
    c.cut_front-last.result =
    omega (arith, found, c.cut_front-last.ensures.near) in
    let same = ap (λ ns. cursor_index ns c.first_from-first.result) c.cut_front-last.ensures.lengths in
    subst (λ k. IsShortest g.P.Place.on (take k c.cut_front-last.new.rows.items)) (sym same)
    (front_shortest g.P.Place.on c.args.rows.now.items c.cut_front-last.new.rows.items c.args.lba c.args.end
    (cursor_index c.args.rows.now.lengths c.first_from-first.result)
    (cursor_index c.args.rows.now.lengths c.cut_front-last.result) c.requires.rows.shortest c.first_from-first.ensures.index near
    c.cut_front-last.ensures.front c.cut_front-last.ensures.back)

pub cut_back-requires-clause-fits : goal.cut_back-requires-clause-fits
cut_back-requires-clause-fits g c =
    let found = some_between c.args.end c.args.lba _ c.args.rows.now.items c.get.result c.begins_before.result
    (omega (arith, c.requires.order)) c.first_from-first.ensures.index
    c.begins_before.ensures c.get.ensures c.if-not-begins_before.false in
    let near : cursor_index c.args.rows.now.lengths c.first_from-first.result ≤ cursor_index c.args.rows.now.lengths
    c.cut_front-last.result =
    omega (arith, found, c.cut_front-last.ensures.near) in
    let same = ap (λ ns. cursor_index ns c.first_from-first.result) c.cut_front-last.ensures.lengths in
    subst (λ k. AllFit g.P.Place.number (take k c.cut_front-last.new.rows.items)) (sym same)
    (front_fits g.P.Place.on c.args.rows.now.items c.cut_front-last.new.rows.items c.args.lba c.args.end
    (cursor_index c.args.rows.now.lengths c.first_from-first.result)
    (cursor_index c.args.rows.now.lengths c.cut_front-last.result) c.requires.rows.shortest c.first_from-first.ensures.index near
    c.cut_front-last.ensures.front c.cut_front-last.ensures.back g.P.Place.number c.requires.rows.fits)

pub remove-requires-clause-order : goal.remove-requires-clause-order
remove-requires-clause-order g c =
    let found = some_between c.args.end c.args.lba _ c.args.rows.now.items c.get.result c.begins_before.result
    (omega (arith, c.requires.order)) c.first_from-first.ensures.index
    c.begins_before.ensures c.get.ensures c.if-not-begins_before.false in
    let near : cursor_index c.args.rows.now.lengths c.first_from-first.result ≤ cursor_index c.args.rows.now.lengths
    c.cut_front-last.result =
    omega (arith, found, c.cut_front-last.ensures.near) in
    let lengths = c.cut_back.ensures.lengths ∙ c.cut_front-last.ensures.lengths in
    omega (
      arith,
      near,
      ap (λ ns. cursor_index ns c.first_from-first.result) lengths,
      ap (λ ns. cursor_index ns c.cut_front-last.result) lengths,
    )

-- what the rows are in the end, by their places among the first
pub returns-clause-taken : goal.returns-clause-taken
returns-clause-taken g c =
    let found = some_between c.args.end c.args.lba _ c.args.rows.now.items c.get.result c.begins_before.result
    (omega (arith, c.requires.order)) c.first_from-first.ensures.index
    c.begins_before.ensures c.get.ensures c.if-not-begins_before.false in
    let near : cursor_index c.args.rows.now.lengths c.first_from-first.result ≤ cursor_index c.args.rows.now.lengths
    c.cut_front-last.result =
    omega (arith, found, c.cut_front-last.ensures.near) in
    let same = ap (λ ns. cursor_index ns c.first_from-first.result) c.cut_front-last.ensures.lengths in
    let lengths = c.cut_back.ensures.lengths ∙ c.cut_front-last.ensures.lengths in
    let twice = c.cut_back.new.rows.items in
    let front = subst (λ k. take k c.cut_back.new.rows.items ≡ rows_before c.args.lba (take k c.cut_front-last.new.rows.items))
    same c.cut_back.ensures.front in
    let back = subst (λ k. drop k c.cut_back.new.rows.items ≡ drop k c.cut_front-last.new.rows.items) same
    c.cut_back.ensures.back in
    let left =
    c.remove.ensures.items
    ∙ ap (λ ns. take (cursor_index ns c.first_from-first.result) twice ++ drop (cursor_index ns c.cut_front-last.result) twice)
    lengths in
    let rows =
    taken g.P.Place.on c.args.rows.now.items c.cut_front-last.new.rows.items c.args.lba c.args.end
    (cursor_index c.args.rows.now.lengths c.first_from-first.result)
    (cursor_index c.args.rows.now.lengths c.cut_front-last.result) c.requires.rows.shortest c.first_from-first.ensures.index near
    c.cut_front-last.ensures.front c.cut_front-last.ensures.back
    c.cut_back.new.rows.items c.remove.new.self.items front back left
    ∙ ap (λ xs. rows_before c.args.lba c.args.rows.now.items ++ xs)
    (sym (from_twice g.P.Place.on g.met.P.Place.on_twice c.args.lba c.args.end c.args.rows.now.items c.requires.order
    c.requires.rows.shortest)) in
    record {
      rows = rows;
      count = omega (
        arith,
        ap length rows,
        taken_count g.P.Place.on g.met.P.Place.on_twice c.args.lba c.args.end c.args.rows.now.items c.requires.rows.shortest,
      );
      room = omega (arith, c.remove.ensures.room, c.cut_back.ensures.room, c.cut_front-last.ensures.room);
    }

pub returns-clause-index : goal.returns-clause-index
returns-clause-index g c =
    let lengths = c.cut_back.ensures.lengths ∙ c.cut_front-last.ensures.lengths in
    omega (
      arith,
      c.remove.ensures.index,
      ap (λ ns. cursor_index ns c.first_from-first.result) lengths,
      c.first_from-first.ensures.index,
      before_length g.P.Place.on c.args.lba c.args.rows.now.items c.requires.rows.shortest,
    )
