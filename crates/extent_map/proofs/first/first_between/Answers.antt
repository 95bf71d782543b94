use Rattle.std.proofs.Common.{sym, ◌∙◌}
use Rattle.extent_map.specs.Cut.{rows_from}
use Rattle.extent_map.proofs.Cuts.{shortest_from, from_start}
use Rattle.extent_map.proofs.CutPlaces.{fit_from}
use Rattle.extent_map.proofs.FirstRow.{none_first, none_in_none, part_first, fits_first}
use Rattle.extent_map.proofs.first.first_between.Goals as goal

pub returns-then-end-lba : goal.returns-then-end-lba
returns-then-end-lba g c =
    none_in_none g.P.Place.on c.args.end c.args.lba (rows_from g.P.Place.on c.args.lba c.args.rows.now.items)
    (shortest_from g.P.Place.on g.met.P.Place.on_twice c.args.lba c.args.rows.now.items c.requires.shortest)
    (from_start g.P.Place.on c.args.lba c.args.rows.now.items c.requires.shortest) c.if-end-lba.true

pub returns-in_err-row : goal.returns-in_err-row
returns-in_err-row g c =
    c.from_residual.ensures ∙ none_first g.P.Place.on c.args.end (rows_from g.P.Place.on c.args.lba c.args.rows.now.items)
    (sym c.in_err-row.was ∙ c.first_past.ensures)

pub before-requires : goal.before-requires
before-requires g c =
    fits_first g.P.Place.on g.P.Place.number (rows_from g.P.Place.on c.args.lba c.args.rows.now.items) c.in_ok-row.row
    (fit_from g.P.Place.on g.P.Place.number g.met.P.Place.number_on c.args.lba c.args.rows.now.items c.requires.shortest
    c.requires.fits)
    (sym c.in_ok-row.was ∙ c.first_past.ensures)

pub returns : goal.returns
returns g c =
    c.before-2.ensures
    ∙ part_first g.P.Place.on c.args.end (rows_from g.P.Place.on c.args.lba c.args.rows.now.items) c.in_ok-row.row
    (shortest_from g.P.Place.on g.met.P.Place.on_twice c.args.lba c.args.rows.now.items c.requires.shortest) (sym c.in_ok-row.was
    ∙ c.first_past.ensures)
