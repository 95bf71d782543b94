use Rattle.std.proofs.Common.{◌∙◌, ◌++◌, ◌∷◌, [], take, sym, ap, arith}
use Rattle.std.proofs.lemmas.Option.{slice_get_within}
use Rattle.std.proofs.lemmas.List.{take-take}
use Rattle.page_list.specs.Items.{cursor_index}
use Rattle.extent_map.specs.Cut.{cut_short}
use Rattle.extent_map.proofs.CutEnds.{none_before, last_begins, last_fits, before_whole, before_part, written_front, read_front}
use Rattle.extent_map.proofs.cut.cut_back.Goals as goal

pub returns-in_default-clause-front : goal.returns-in_default-clause-front
returns-in_default-clause-front g c =
    ap (λ k. take k c.args.rows.now.items) c.in_default.ensures
    ∙ sym (none_before g.P.Place.on (take (cursor_index c.args.rows.now.lengths c.args.next) c.args.rows.now.items) c.args.at
    (cursor_index c.args.rows.now.lengths c.args.next) c.requires.shortest c.requires.index c.in_default.ensures)

pub overflow_add-row : goal.overflow_add-row
overflow_add-row g c =
    let i = cursor_index c.args.rows.now.lengths c.in-Some.last in
    let read = read_front c.args.rows.now.items i (cursor_index c.args.rows.now.lengths c.args.next) c.in-Some.row
    c.in-Some.ensures.1 c.in-Some.ensures.2 in
    let fits = last_fits g.P.Place.on (take (cursor_index c.args.rows.now.lengths c.args.next) c.args.rows.now.items) c.args.at
    (cursor_index c.args.rows.now.lengths c.args.next) c.requires.shortest c.requires.index
    i c.in-Some.row c.in-Some.ensures.1 read g.P.Place.number c.requires.fits in
    omega (arith, fits.sectors)

pub overflow_sub-at : goal.overflow_sub-at
overflow_sub-at g c =
    let i = cursor_index c.args.rows.now.lengths c.in-Some.last in
    let read = read_front c.args.rows.now.items i (cursor_index c.args.rows.now.lengths c.args.next) c.in-Some.row
    c.in-Some.ensures.1 c.in-Some.ensures.2 in
    let begins = last_begins g.P.Place.on (take (cursor_index c.args.rows.now.lengths c.args.next) c.args.rows.now.items)
    c.args.at (cursor_index c.args.rows.now.lengths c.args.next) c.requires.shortest c.requires.index
    i c.in-Some.row c.in-Some.ensures.1 read in
    omega (arith, begins)

pub returns-then-at-row-clause-front : goal.returns-then-at-row-clause-front
returns-then-at-row-clause-front g c =
    let i = cursor_index c.args.rows.now.lengths c.in-Some.last in
    let n = cursor_index c.args.rows.now.lengths c.args.next in
    let read = read_front c.args.rows.now.items i n c.in-Some.row c.in-Some.ensures.1 c.in-Some.ensures.2 in
    let inside = slice_get_within c.args.rows.now.items i c.in-Some.row c.in-Some.ensures.2 in
    ap (take n) c.replace.ensures.items
    ∙ written_front c.args.rows.now.items i n (cut_short c.args.at c.in-Some.row) c.in-Some.ensures.1 inside
    ∙ ap (λ xs. xs ++ cut_short c.args.at c.in-Some.row ∷ [])
    (sym (take-take i n c.args.rows.now.items (omega (arith, c.in-Some.ensures.1))))
    ∙ sym (before_part g.P.Place.on (take (cursor_index c.args.rows.now.lengths c.args.next) c.args.rows.now.items) c.args.at
    (cursor_index c.args.rows.now.lengths c.args.next) c.requires.shortest c.requires.index
    i c.in-Some.row c.in-Some.ensures.1 read c.if-at-row.true)

pub returns-else-at-row-clause-front : goal.returns-else-at-row-clause-front
returns-else-at-row-clause-front g c =
    let i = cursor_index c.args.rows.now.lengths c.in-Some.last in
    let n = cursor_index c.args.rows.now.lengths c.args.next in
    let read = read_front c.args.rows.now.items i n c.in-Some.row c.in-Some.ensures.1 c.in-Some.ensures.2 in
    sym (before_whole g.P.Place.on (take (cursor_index c.args.rows.now.lengths c.args.next) c.args.rows.now.items) c.args.at
    (cursor_index c.args.rows.now.lengths c.args.next) c.requires.shortest c.requires.index
    i c.in-Some.row c.in-Some.ensures.1 read c.if-at-row.false
    ∙ take-take n n c.args.rows.now.items (omega arith))
