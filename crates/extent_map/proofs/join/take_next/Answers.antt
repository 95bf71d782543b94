use Rattle.std.proofs.Common.{arith, sym, refl, le_refl, le-add_right}
use Rattle.std.proofs.lemmas.Option.{slice_get_within}
use Rattle.page_list.specs.Items.{cursor_index}
use Rattle.extent_map.proofs.PutPlaces.{differ, fits_read, taken_none, taken_not, taken_one, front_left}
use Rattle.extent_map.proofs.join.take_next.Goals as goal

pub returns-in_default-clause-taken : goal.returns-in_default-clause-taken
returns-in_default-clause-taken g c =
    taken_none g.P.Place.on c.args.rows.now.items (cursor_index c.args.rows.now.lengths c.args.at) c.args.row
    (sym c.in_default.ensures)

pub returns-then-not-goes_on-clause-taken : goal.returns-then-not-goes_on-clause-taken
returns-then-not-goes_on-clause-taken g c =
    taken_not g.P.Place.on c.args.rows.now.items (cursor_index c.args.rows.now.lengths c.args.at) c.args.row c.in-Some.next
    (sym c.in-Some.ensures)
    (λ goes. differ (c.goes_on.ensures.1 goes) c.if-not-goes_on.true)

pub next-to-requires-clause-some : goal.next-to-requires-clause-some
next-to-requires-clause-some g c =
    slice_get_within c.args.rows.now.items (cursor_index c.args.rows.now.lengths c.args.at) c.in-Some.next (sym c.in-Some.ensures)

pub overflow_add-result : goal.overflow_add-result
overflow_add-result g c =
    let fits = fits_read g.P.Place.number c.args.rows.now.items (cursor_index c.args.rows.now.lengths c.args.at) c.in-Some.next
    c.requires.fits (sym c.in-Some.ensures) in
    let goes = c.goes_on.ensures.0 c.if-not-goes_on.false in
    omega (arith, fits.sectors, goes.touches)

pub returns-clause-taken : goal.returns-clause-taken
returns-clause-taken g c =
    taken_one g.P.Place.on c.args.rows.now.items (cursor_index c.args.rows.now.lengths c.args.at) c.args.row c.in-Some.next
    (sym c.in-Some.ensures)
    c.remove-at.new.self.items _ c.next-to.ensures.index c.remove-at.ensures.items (c.goes_on.ensures.0 c.if-not-goes_on.false)

pub returns-clause-front : goal.returns-clause-front
returns-clause-front g c =
    front_left g.P.Place.on c.args.rows.now.items (cursor_index c.args.rows.now.lengths c.args.at) c.args.row c.in-Some.next
    (sym c.in-Some.ensures)
    c.remove-at.new.self.items _ c.next-to.ensures.index c.remove-at.ensures.items

pub get-requires : goal.get-requires
get-requires g c = c.requires.place

pub returns-in_default-clause-front : goal.returns-in_default-clause-front
returns-in_default-clause-front g c = refl

pub returns-in_default-clause-place : goal.returns-in_default-clause-place
returns-in_default-clause-place g c = c.requires.place

pub returns-in_default-clause-index : goal.returns-in_default-clause-index
returns-in_default-clause-index g c = refl

pub returns-in_default-clause-length : goal.returns-in_default-clause-length
returns-in_default-clause-length g c = le_refl _

pub returns-in_default-clause-room : goal.returns-in_default-clause-room
returns-in_default-clause-room g c = le_refl _

pub returns-in_default-clause-steps : goal.returns-in_default-clause-steps
returns-in_default-clause-steps g c = le-add_right _ _

pub returns-in_default-clause-rises : goal.returns-in_default-clause-rises
returns-in_default-clause-rises g c = le_refl _

pub returns-then-not-goes_on-clause-front : goal.returns-then-not-goes_on-clause-front
returns-then-not-goes_on-clause-front g c = refl

pub returns-then-not-goes_on-clause-place : goal.returns-then-not-goes_on-clause-place
returns-then-not-goes_on-clause-place g c = c.requires.place

pub returns-then-not-goes_on-clause-index : goal.returns-then-not-goes_on-clause-index
returns-then-not-goes_on-clause-index g c = refl

pub returns-then-not-goes_on-clause-length : goal.returns-then-not-goes_on-clause-length
returns-then-not-goes_on-clause-length g c = le_refl _

pub returns-then-not-goes_on-clause-room : goal.returns-then-not-goes_on-clause-room
returns-then-not-goes_on-clause-room g c = le_refl _

pub returns-then-not-goes_on-clause-steps : goal.returns-then-not-goes_on-clause-steps
returns-then-not-goes_on-clause-steps g c = le-add_right _ _

pub returns-then-not-goes_on-clause-rises : goal.returns-then-not-goes_on-clause-rises
returns-then-not-goes_on-clause-rises g c = le_refl _

pub goes_on-requires : goal.goes_on-requires
goes_on-requires g c = c.requires.row_fits

pub next-to-requires-clause-place : goal.next-to-requires-clause-place
next-to-requires-clause-place g c = c.requires.place

pub remove-at-requires : goal.remove-at-requires
remove-at-requires g c = record {
  from = c.requires.place;
  to = c.next-to.ensures.place;
  order = omega (arith, c.next-to.ensures.index);
}

pub returns-clause-place : goal.returns-clause-place
returns-clause-place g c = c.remove-at.ensures.place

pub returns-clause-index : goal.returns-clause-index
returns-clause-index g c = c.remove-at.ensures.index

pub returns-clause-room : goal.returns-clause-room
returns-clause-room g c = c.remove-at.ensures.room

pub returns-clause-steps : goal.returns-clause-steps
returns-clause-steps g c = omega (arith, c.remove-at.ensures.steps, c.next-to.ensures.index)

pub returns-clause-rises : goal.returns-clause-rises
returns-clause-rises g c = c.remove-at.ensures.rises
