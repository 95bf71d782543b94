use Rattle.std.proofs.Common.{sym, ◌∙◌, subst, arith}
use Rattle.page_list.specs.Items.{cursor_index}
use Rattle.extent_map.specs.Extents.{AllFit}
use Rattle.extent_map.proofs.Changed.{fit_without, front_shortest, front_ends, back_shortest, back_starts, places_set}
use Rattle.extent_map.proofs.RowsMet.{begin_met}
use Rattle.extent_map.proofs.extent_map.set_rows.Goals as goal

pub put-requires-clause-front : goal.put-requires-clause-front
put-requires-clause-front g c =
    front_shortest g.P.Place.on g.met.P.Place.on_twice c.args.rows.now.items c.args.row.lba c.args.row.sectors
    c.requires.rows.shortest c.take_out-at.new.rows.items
    (cursor_index c.take_out-at.new.rows.lengths c.take_out-at.result) c.take_out-at.ensures.taken.rows
    c.take_out-at.ensures.index

pub put-requires-clause-before : goal.put-requires-clause-before
put-requires-clause-before g c =
    front_ends g.P.Place.on g.met.P.Place.on_twice c.args.rows.now.items c.args.row.lba c.args.row.sectors
    c.requires.rows.shortest c.take_out-at.new.rows.items
    (cursor_index c.take_out-at.new.rows.lengths c.take_out-at.result) c.take_out-at.ensures.taken.rows
    c.take_out-at.ensures.index

pub put-requires-clause-back : goal.put-requires-clause-back
put-requires-clause-back g c =
    back_shortest g.P.Place.on g.met.P.Place.on_twice c.args.rows.now.items c.args.row.lba c.args.row.sectors
    c.requires.rows.shortest c.take_out-at.new.rows.items
    (cursor_index c.take_out-at.new.rows.lengths c.take_out-at.result) c.take_out-at.ensures.taken.rows
    c.take_out-at.ensures.index

pub put-requires-clause-after : goal.put-requires-clause-after
put-requires-clause-after g c =
    back_starts g.P.Place.on g.met.P.Place.on_twice c.args.rows.now.items c.args.row.lba c.args.row.sectors
    c.requires.rows.shortest c.take_out-at.new.rows.items
    (cursor_index c.take_out-at.new.rows.lengths c.take_out-at.result) c.take_out-at.ensures.taken.rows
    c.take_out-at.ensures.index

pub put-requires-clause-fits : goal.put-requires-clause-fits
put-requires-clause-fits g c =
    subst (AllFit g.P.Place.number) (sym c.take_out-at.ensures.taken.rows)
    (fit_without g.P.Place.on g.met.P.Place.on_twice c.args.rows.now.items c.args.row.lba c.args.row.sectors
    c.requires.rows.shortest g.P.Place.number g.met.P.Place.number_on
    c.requires.rows.fits)

pub returns-clause-set : goal.returns-clause-set
returns-clause-set g c =
    record {
      places = λ k.
          c.put.ensures.places k
          ∙ places_set g.P.Place.on g.met.P.Place.on_twice c.args.rows.now.items c.args.row.lba c.args.row.sectors
          c.requires.rows.shortest c.take_out-at.new.rows.items
          (cursor_index c.take_out-at.new.rows.lengths c.take_out-at.result) c.take_out-at.ensures.taken.rows
          c.take_out-at.ensures.index c.args.row.place k;
      shortest = c.put.ensures.shortest;
      fits = c.put.ensures.fits;
      count = omega (arith, c.put.ensures.length, c.take_out-at.ensures.taken.count);
      room = omega (arith, c.put.ensures.room, c.take_out-at.ensures.taken.room);
    }

pub returns-clause-steps : goal.returns-clause-steps
returns-clause-steps g c =
    omega (
      arith,
      c.take_out-at.ensures.steps,
      c.put.ensures.steps,
      begin_met g.P.Place.on c.args.row.lba c.args.row.sectors c.args.rows.now.items c.requires.rows.shortest,
    )
