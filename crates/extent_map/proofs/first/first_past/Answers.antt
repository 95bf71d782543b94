use Rattle.std.proofs.Common.{arith, ap, sym, ◌∙◌, Some}
use Rattle.std.specs.Prelude.{slice_get}
use Rattle.page_list.specs.Items.{cursor_index}
use Rattle.extent_map.proofs.CutEnds.{whole_from, last_begins, last_fits, from_whole, from_part}
use Rattle.extent_map.proofs.CutTwice.{get_drop}
use Rattle.extent_map.proofs.first.first_past.Goals as goal

pub returns-in_default : goal.returns-in_default
returns-in_default g c =
    c.get.ensures
    ∙ ap (slice_get c.args.rows.now.items) c.in_default.ensures
    ∙ ap (λ xs. slice_get xs 0) (sym (whole_from g.P.Place.on c.args.rows.now.items c.args.lba
    (cursor_index c.args.rows.now.lengths c.first_from-next.result) c.requires.shortest c.first_from-next.ensures.index
    c.in_default.ensures))

pub overflow_add-row : goal.overflow_add-row
overflow_add-row g c =
    let fits = last_fits g.P.Place.on c.args.rows.now.items c.args.lba
    (cursor_index c.args.rows.now.lengths c.first_from-next.result) c.requires.shortest c.first_from-next.ensures.index
    (cursor_index c.args.rows.now.lengths c.in-Some.field-0-0) c.in-Some.row c.in-Some.ensures.1 c.in-Some.ensures.2
    g.P.Place.number c.requires.fits in
    omega (arith, fits.sectors)

pub returns-then-row-lba : goal.returns-then-row-lba
returns-then-row-lba g c =
    c.get-then-row-lba.ensures
    ∙ sym (get_drop (cursor_index c.args.rows.now.lengths c.first_from-next.result) c.args.rows.now.items)
    ∙ ap (λ xs. slice_get xs 0) (sym (from_whole g.P.Place.on c.args.rows.now.items c.args.lba
    (cursor_index c.args.rows.now.lengths c.first_from-next.result) c.requires.shortest c.first_from-next.ensures.index
    (cursor_index c.args.rows.now.lengths c.in-Some.field-0-0) c.in-Some.row c.in-Some.ensures.1 c.in-Some.ensures.2
    c.if-row-lba.true))

pub rest-requires-clause-fits : goal.rest-requires-clause-fits
rest-requires-clause-fits g c =
    last_fits g.P.Place.on c.args.rows.now.items c.args.lba (cursor_index c.args.rows.now.lengths c.first_from-next.result)
    c.requires.shortest c.first_from-next.ensures.index
    (cursor_index c.args.rows.now.lengths c.in-Some.field-0-0) c.in-Some.row c.in-Some.ensures.1 c.in-Some.ensures.2
    g.P.Place.number c.requires.fits

pub rest-requires-clause-from : goal.rest-requires-clause-from
rest-requires-clause-from g c =
    let begins = last_begins g.P.Place.on c.args.rows.now.items c.args.lba
    (cursor_index c.args.rows.now.lengths c.first_from-next.result) c.requires.shortest c.first_from-next.ensures.index
    (cursor_index c.args.rows.now.lengths c.in-Some.field-0-0) c.in-Some.row c.in-Some.ensures.1 c.in-Some.ensures.2 in
    omega (arith, begins)

pub returns : goal.returns
returns g c =
    ap (λ r. Some r) c.rest.ensures
    ∙ ap (λ xs. slice_get xs 0) (sym (from_part g.P.Place.on c.args.rows.now.items c.args.lba
    (cursor_index c.args.rows.now.lengths c.first_from-next.result) c.requires.shortest c.first_from-next.ensures.index
    (cursor_index c.args.rows.now.lengths c.in-Some.field-0-0) c.in-Some.row c.in-Some.ensures.1 c.in-Some.ensures.2
    c.if-row-lba.false))
