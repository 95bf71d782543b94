use Rattle.std.proofs.Common.{take, drop, sym, subst, le_refl, le-add_right}
use Rattle.std.proofs.lemmas.Option.{slice_get_within}
use Rattle.page_list.specs.Items.{cursor_index}
use Rattle.extent_map.specs.Join.{IsPutAfter}
use Rattle.extent_map.proofs.PutPlaces.{differ, fits_read, put_not, put_onto}
use Rattle.extent_map.proofs.join.put_after.Goals as goal

pub goes_on-requires : goal.goes_on-requires
goes_on-requires g c =
    fits_read g.P.Place.number c.args.rows.now.items (cursor_index c.args.rows.now.lengths c.in-Some.last_at) c.in-Some.last
    c.requires.fits c.in-Some.ensures.2

pub returns-then-not-goes_on-clause-rows : goal.returns-then-not-goes_on-clause-rows
returns-then-not-goes_on-clause-rows g c =
    put_not g.P.Place.on c.args.rows.now.items (cursor_index c.args.rows.now.lengths c.args.at) c.args.row
    (cursor_index c.args.rows.now.lengths c.in-Some.last_at) c.in-Some.last _ c.in-Some.ensures.1 c.in-Some.ensures.2
    (λ goes. differ (c.goes_on.ensures.1 goes) c.if-not-goes_on.true) c.insert-then-not-goes_on.ensures.items

pub replace-requires-clause-some : goal.replace-requires-clause-some
replace-requires-clause-some g c =
    slice_get_within c.args.rows.now.items (cursor_index c.args.rows.now.lengths c.in-Some.last_at) c.in-Some.last
    c.in-Some.ensures.2

pub returns-clause-rows : goal.returns-clause-rows
returns-clause-rows g c =
    subst (λ xs. IsPutAfter g.P.Place.on (take (cursor_index c.args.rows.now.lengths c.args.at) c.args.rows.now.items) c.args.row
    (drop (cursor_index c.args.rows.now.lengths c.args.at) c.args.rows.now.items) xs)
    (sym c.replace.ensures.items)
    (put_onto g.P.Place.on c.args.rows.now.items (cursor_index c.args.rows.now.lengths c.args.at) c.args.row
    (cursor_index c.args.rows.now.lengths c.in-Some.last_at) c.in-Some.last c.in-Some.ensures.1 c.in-Some.ensures.2
    (c.goes_on.ensures.0 c.if-not-goes_on.false))

pub before-requires : goal.before-requires
before-requires g c = c.requires.place

pub insert-requires : goal.insert-requires
insert-requires g c = record { room = c.requires.room; place = c.requires.place }

pub insert-requires-then-not-goes_on : goal.insert-requires-then-not-goes_on
insert-requires-then-not-goes_on g c = record { room = c.requires.room; place = c.requires.place }

pub returns-then-not-goes_on-clause-room : goal.returns-then-not-goes_on-clause-room
returns-then-not-goes_on-clause-room g c = c.insert-then-not-goes_on.ensures.room

pub returns-then-not-goes_on-clause-steps : goal.returns-then-not-goes_on-clause-steps
returns-then-not-goes_on-clause-steps g c = c.insert-then-not-goes_on.ensures.steps

pub returns-then-not-goes_on-clause-rises : goal.returns-then-not-goes_on-clause-rises
returns-then-not-goes_on-clause-rises g c = c.insert-then-not-goes_on.ensures.rises

pub returns-clause-steps : goal.returns-clause-steps
returns-clause-steps g c = le-add_right _ _

pub returns-clause-rises : goal.returns-clause-rises
returns-clause-rises g c = le_refl _
