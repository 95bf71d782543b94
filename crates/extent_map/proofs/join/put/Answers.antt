use Rattle.std.proofs.Common.{take, drop, subst}
use Rattle.page_list.specs.Items.{cursor_index}
use Rattle.extent_map.specs.Join.{IsPutAfter}
use Rattle.extent_map.proofs.Put.{new_fits, once_fits, twice_fits, twice_places, twice_shortest}
use Rattle.extent_map.proofs.join.put.Goals as goal

pub put_after-requires-clause-fits : goal.put_after-requires-clause-fits
put_after-requires-clause-fits g c =
    once_fits g.P.Place.on g.met.P.Place.on_twice c.args.rows.now.items c.take_next-row.new.rows.items
    (cursor_index c.args.rows.now.lengths c.args.at) c.args.row c.take_next-row.result.1
    c.take_next-row.ensures.taken c.take_next-row.ensures.front g.P.Place.number g.met.P.Place.number_on c.requires.fits
    c.requires.row_fits

pub put_after-requires-clause-row_fits : goal.put_after-requires-clause-row_fits
put_after-requires-clause-row_fits g c =
    new_fits g.P.Place.on g.met.P.Place.on_twice c.args.rows.now.items c.take_next-row.new.rows.items
    (cursor_index c.args.rows.now.lengths c.args.at) c.args.row c.take_next-row.result.1
    c.take_next-row.ensures.taken c.take_next-row.ensures.front g.P.Place.number g.met.P.Place.number_on c.requires.fits
    c.requires.row_fits

pub returns-clause-places : goal.returns-clause-places
returns-clause-places g c k =
    let put = subst (λ k. IsPutAfter g.P.Place.on (take k c.take_next-row.new.rows.items) c.take_next-row.result.1
    (drop k c.take_next-row.new.rows.items) c.put_after.new.rows.items)
    c.take_next-row.ensures.index c.put_after.ensures.rows in
    twice_places g.P.Place.on g.met.P.Place.on_twice c.args.rows.now.items c.take_next-row.new.rows.items
    (cursor_index c.args.rows.now.lengths c.args.at) c.args.row c.take_next-row.result.1
    c.take_next-row.ensures.taken c.take_next-row.ensures.front
    c.put_after.new.rows.items put k

pub returns-clause-shortest : goal.returns-clause-shortest
returns-clause-shortest g c =
    let put = subst (λ k. IsPutAfter g.P.Place.on (take k c.take_next-row.new.rows.items) c.take_next-row.result.1
    (drop k c.take_next-row.new.rows.items) c.put_after.new.rows.items)
    c.take_next-row.ensures.index c.put_after.ensures.rows in
    twice_shortest g.P.Place.on g.met.P.Place.on_twice c.args.rows.now.items c.take_next-row.new.rows.items
    (cursor_index c.args.rows.now.lengths c.args.at) c.args.row c.take_next-row.result.1
    c.take_next-row.ensures.taken c.take_next-row.ensures.front
    c.put_after.new.rows.items put c.requires.some c.requires.front c.requires.before c.requires.back
    c.requires.after

pub returns-clause-fits : goal.returns-clause-fits
returns-clause-fits g c =
    let put = subst (λ k. IsPutAfter g.P.Place.on (take k c.take_next-row.new.rows.items) c.take_next-row.result.1
    (drop k c.take_next-row.new.rows.items) c.put_after.new.rows.items)
    c.take_next-row.ensures.index c.put_after.ensures.rows in
    twice_fits g.P.Place.on g.met.P.Place.on_twice c.args.rows.now.items c.take_next-row.new.rows.items
    (cursor_index c.args.rows.now.lengths c.args.at) c.args.row c.take_next-row.result.1
    c.take_next-row.ensures.taken c.take_next-row.ensures.front g.P.Place.number g.met.P.Place.number_on c.requires.fits
    c.requires.row_fits
    c.put_after.new.rows.items put
