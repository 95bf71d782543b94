use Rattle.std.proofs.Common.{◌∙◌, drop, sym, ap, arith}
use Rattle.std.proofs.Math.ListN.{set}
use Rattle.page_list.specs.Items.{cursor_index}
use Rattle.extent_map.specs.Cut.{rest_of}
use Rattle.extent_map.proofs.CutEnds.{whole_from, last_inside, last_begins, last_fits, from_whole, from_part, written_back}
use Rattle.extent_map.proofs.cut.cut_front.Goals as goal

pub returns-in_default-clause-back : goal.returns-in_default-clause-back
returns-in_default-clause-back g c =
    ap (λ k. drop k c.args.rows.now.items) c.in_default.ensures
    ∙ sym (whole_from g.P.Place.on c.args.rows.now.items c.args.at (cursor_index c.args.rows.now.lengths c.args.next)
    c.requires.shortest c.requires.index c.in_default.ensures)

pub overflow_add-row : goal.overflow_add-row
overflow_add-row g c =
    let fits = last_fits g.P.Place.on c.args.rows.now.items c.args.at (cursor_index c.args.rows.now.lengths c.args.next)
    c.requires.shortest c.requires.index
    (cursor_index c.args.rows.now.lengths c.in-Some.last) c.in-Some.row c.in-Some.ensures.1 c.in-Some.ensures.2 g.P.Place.number
    c.requires.fits in
    omega (arith, fits.sectors)

pub returns-then-row-at-clause-back : goal.returns-then-row-at-clause-back
returns-then-row-at-clause-back g c =
    sym (from_whole g.P.Place.on c.args.rows.now.items c.args.at (cursor_index c.args.rows.now.lengths c.args.next)
    c.requires.shortest c.requires.index
    (cursor_index c.args.rows.now.lengths c.in-Some.last) c.in-Some.row c.in-Some.ensures.1 c.in-Some.ensures.2 c.if-row-at.true)

pub rest-requires-clause-fits : goal.rest-requires-clause-fits
rest-requires-clause-fits g c =
    last_fits g.P.Place.on c.args.rows.now.items c.args.at (cursor_index c.args.rows.now.lengths c.args.next) c.requires.shortest
    c.requires.index
    (cursor_index c.args.rows.now.lengths c.in-Some.last) c.in-Some.row c.in-Some.ensures.1 c.in-Some.ensures.2 g.P.Place.number
    c.requires.fits

pub rest-requires-clause-from : goal.rest-requires-clause-from
rest-requires-clause-from g c =
    let begins = last_begins g.P.Place.on c.args.rows.now.items c.args.at (cursor_index c.args.rows.now.lengths c.args.next)
    c.requires.shortest c.requires.index
    (cursor_index c.args.rows.now.lengths c.in-Some.last) c.in-Some.row c.in-Some.ensures.1 c.in-Some.ensures.2 in
    omega (arith, begins)

pub replace-requires-clause-some : goal.replace-requires-clause-some
replace-requires-clause-some g c =
    last_inside g.P.Place.on c.args.rows.now.items c.args.at (cursor_index c.args.rows.now.lengths c.args.next)
    c.requires.shortest c.requires.index
    (cursor_index c.args.rows.now.lengths c.in-Some.last) c.in-Some.row c.in-Some.ensures.1 c.in-Some.ensures.2

pub returns-clause-back : goal.returns-clause-back
returns-clause-back g c =
    let rows = c.args.rows.now.items in
    let i = cursor_index c.args.rows.now.lengths c.in-Some.last in
    let n = cursor_index c.args.rows.now.lengths c.args.next in
    let inside = last_inside g.P.Place.on rows c.args.at n c.requires.shortest c.requires.index i c.in-Some.row
    c.in-Some.ensures.1 c.in-Some.ensures.2 in
    ap (drop i) (c.replace.ensures.items ∙ ap (λ r. set rows i r) c.rest.ensures)
    ∙ written_back rows i n (rest_of g.P.Place.on c.args.at c.in-Some.row) c.in-Some.ensures.1 inside
    ∙ sym (from_part g.P.Place.on rows c.args.at n c.requires.shortest c.requires.index i c.in-Some.row c.in-Some.ensures.1
    c.in-Some.ensures.2 c.if-row-at.false)
