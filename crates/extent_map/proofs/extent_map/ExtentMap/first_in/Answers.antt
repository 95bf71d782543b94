use Rattle.std.proofs.Common.{subst}
use Rattle.std.specs.Prelude.{IfSome, IsNone, ◌↔◌}
use Rattle.extent_map.specs.Extents.{place_at, StartsRange, IsBare, IsFirstOfRange}
use Rattle.extent_map.proofs.Range.{first_of_range, first_is_none, first_starts, first_fits}
use Rattle.extent_map.proofs.extent_map.ExtentMap.first_in.Goals as goal

pub returns-clause-first : goal.returns-clause-first
returns-clause-first g c =
    subst (λ m. IsFirstOfRange g.P.Place.on c.args.lba c.args.sectors (place_at g.P.Place.on m.rows) c.first_between.result)
    c.self.view_is
    (first_of_range g.P.Place.on g.met.P.Place.on_twice c.args.lba c.args.sectors c.self.inside.rows.items c.self.invariant.0
    c.first_between.result c.first_between.ensures)

pub returns-clause-none : goal.returns-clause-none
returns-clause-none g c =
    subst (λ m. IsNone c.first_between.result ↔ IsBare c.args.lba c.args.sectors (place_at g.P.Place.on m.rows)) c.self.view_is
    (first_is_none g.P.Place.on g.met.P.Place.on_twice c.args.lba c.args.sectors c.self.inside.rows.items c.self.invariant.0
    c.first_between.result c.first_between.ensures)

pub returns-clause-row : goal.returns-clause-row
returns-clause-row g c =
    subst (λ m. IfSome c.first_between.result (StartsRange g.P.Place.on c.args.lba c.args.sectors (place_at g.P.Place.on m.rows)))
    c.self.view_is
    (first_starts g.P.Place.on g.met.P.Place.on_twice c.args.lba c.args.sectors c.self.inside.rows.items c.self.invariant.0
    c.first_between.result c.first_between.ensures)

pub returns-clause-fits : goal.returns-clause-fits
returns-clause-fits g c =
    first_fits g.P.Place.on g.met.P.Place.on_twice c.args.lba c.args.sectors c.self.inside.rows.items c.self.invariant.0
    c.first_between.result c.first_between.ensures
    g.P.Place.number g.met.P.Place.number_on c.self.invariant.1
