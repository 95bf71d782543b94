use Rattle.std.proofs.Common.{◌++◌, ◌∷◌, drop, arith, ap, sym, ◌∙◌}
use Rattle.std.specs.Prelude.{option_to_list}
use Rattle.page_list.specs.Items.{cursor_index}
use Rattle.extent_map.specs.Cut.{rows_before}
use Rattle.extent_map.proofs.CutEnds.{whole_from, last_begins, last_fits, from_whole, from_part}
use Rattle.extent_map.proofs.Walked.{walked_row, rest_fits}
use Rattle.extent_map.proofs.look.part_over.Goals as goal

pub returns-in_err-row-clause-part : goal.returns-in_err-row-clause-part
returns-in_err-row-clause-part g c =
    let rows = c.args.rows.now.items in
    let n = cursor_index c.args.rows.now.lengths c.args.next in
    let none = whole_from g.P.Place.on rows c.args.lba n c.requires.shortest c.requires.index c.in_err-row.ensures in
    ap (λ part. option_to_list part ++ rows_before c.args.end (drop n rows)) c.from_residual.ensures
    ∙ ap (λ k. rows_before c.args.end (drop k rows)) c.in_err-row.ensures
    ∙ ap (rows_before c.args.end) (sym none)

pub overflow_add-row : goal.overflow_add-row
overflow_add-row g c =
    let fits = last_fits g.P.Place.on c.args.rows.now.items c.args.lba (cursor_index c.args.rows.now.lengths c.args.next)
    c.requires.shortest c.requires.index
    (cursor_index c.args.rows.now.lengths c.in_ok-row.field-0-0) c.in_ok-row.row c.in_ok-row.ensures.1 c.in_ok-row.ensures.2
    g.P.Place.number c.requires.fits in
    omega (arith, fits.sectors)

pub returns-then-row-lba-clause-part : goal.returns-then-row-lba-clause-part
returns-then-row-lba-clause-part g c =
    ap (rows_before c.args.end)
    (sym (from_whole g.P.Place.on c.args.rows.now.items c.args.lba (cursor_index c.args.rows.now.lengths c.args.next)
    c.requires.shortest c.requires.index
    (cursor_index c.args.rows.now.lengths c.in_ok-row.field-0-0) c.in_ok-row.row c.in_ok-row.ensures.1 c.in_ok-row.ensures.2
    c.if-row-lba.true))

pub rest-requires-clause-fits : goal.rest-requires-clause-fits
rest-requires-clause-fits g c =
    last_fits g.P.Place.on c.args.rows.now.items c.args.lba (cursor_index c.args.rows.now.lengths c.args.next) c.requires.shortest
    c.requires.index
    (cursor_index c.args.rows.now.lengths c.in_ok-row.field-0-0) c.in_ok-row.row c.in_ok-row.ensures.1 c.in_ok-row.ensures.2
    g.P.Place.number c.requires.fits

pub rest-requires-clause-from : goal.rest-requires-clause-from
rest-requires-clause-from g c =
    let begins = last_begins g.P.Place.on c.args.rows.now.items c.args.lba (cursor_index c.args.rows.now.lengths c.args.next)
    c.requires.shortest c.requires.index
    (cursor_index c.args.rows.now.lengths c.in_ok-row.field-0-0) c.in_ok-row.row c.in_ok-row.ensures.1 c.in_ok-row.ensures.2 in
    omega (arith, begins)

pub before-requires-2 : goal.before-requires-2
before-requires-2 g c =
    let begins = last_begins g.P.Place.on c.args.rows.now.items c.args.lba (cursor_index c.args.rows.now.lengths c.args.next)
    c.requires.shortest c.requires.index
    (cursor_index c.args.rows.now.lengths c.in_ok-row.field-0-0) c.in_ok-row.row c.in_ok-row.ensures.1 c.in_ok-row.ensures.2 in
    let fits = last_fits g.P.Place.on c.args.rows.now.items c.args.lba (cursor_index c.args.rows.now.lengths c.args.next)
    c.requires.shortest c.requires.index
    (cursor_index c.args.rows.now.lengths c.in_ok-row.field-0-0) c.in_ok-row.row c.in_ok-row.ensures.1 c.in_ok-row.ensures.2
    g.P.Place.number c.requires.fits in
    rest_fits g.P.Place.on g.P.Place.number g.met.P.Place.number_on c.args.lba c.in_ok-row.row c.rest.result
    fits begins (omega (arith, c.if-row-lba.false)) c.rest.ensures

pub returns-clause-part : goal.returns-clause-part
returns-clause-part g c =
    let rows = c.args.rows.now.items in
    let n = cursor_index c.args.rows.now.lengths c.args.next in
    walked_row g.P.Place.on c.args.end c.rest.result (drop n rows) c.before-3.result c.before-3.ensures
    ∙ ap (λ row. rows_before c.args.end (row ∷ drop n rows)) c.rest.ensures
    ∙ ap (rows_before c.args.end)
    (sym (from_part g.P.Place.on rows c.args.lba n c.requires.shortest c.requires.index
    (cursor_index c.args.rows.now.lengths c.in_ok-row.field-0-0) c.in_ok-row.row c.in_ok-row.ensures.1 c.in_ok-row.ensures.2
    (omega (arith, c.if-row-lba.false))))
