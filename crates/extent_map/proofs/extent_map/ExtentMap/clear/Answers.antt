use Rattle.std.proofs.Common.{◌<◌, sym, ◌∙◌, ap, subst, arith}
use Rattle.extent_map.specs.Extents.{place_at, place_after_clear, IsShortest, AllFit}
use Rattle.extent_map.proofs.Changed.{places_without, shortest_without, fit_without}
use Rattle.extent_map.proofs.extent_map.ExtentMap.clear.Goals as goal

pub invariant_of-self : goal.invariant_of-self
invariant_of-self g c =
    let on = g.P.Place.on in
    let rows = c.self.inside.rows.items in
    let is = sym c.clear_range.ensures.rows in
    let some : 0 < c.args.sectors = omega (arith, c.if-sectors-ne0.true) in (
      subst (IsShortest on) is
          (shortest_without on g.met.P.Place.on_twice rows c.args.lba c.args.sectors c.self.invariant.0 some),
      subst (AllFit g.P.Place.number) is
          (fit_without on g.met.P.Place.on_twice rows c.args.lba c.args.sectors c.self.invariant.0 g.P.Place.number
          g.met.P.Place.number_on
          c.self.invariant.1),
    )

pub returns-then-sectors-ne0-clause-places : goal.returns-then-sectors-ne0-clause-places
returns-then-sectors-ne0-clause-places g c k =
    let on = g.P.Place.on in
    let rows = c.self.inside.rows.items in
    ap (λ xs. place_at on xs k) c.clear_range.ensures.rows
    ∙ places_without on g.met.P.Place.on_twice rows c.args.lba c.args.sectors c.self.invariant.0 k
    ∙ ap (λ m. place_after_clear c.args.lba c.args.sectors (place_at on m.rows) k) c.self.view_is

pub returns-then-sectors-ne0-clause-shortest : goal.returns-then-sectors-ne0-clause-shortest
returns-then-sectors-ne0-clause-shortest g c =
    let some : 0 < c.args.sectors = omega (arith, c.if-sectors-ne0.true) in
    subst (IsShortest g.P.Place.on) (sym c.clear_range.ensures.rows)
    (shortest_without g.P.Place.on g.met.P.Place.on_twice c.self.inside.rows.items c.args.lba c.args.sectors
    c.self.invariant.0 some)
