use Rattle.std.proofs.Common.{◌+◌, ◌<◌, sym, ◌∙◌, ap, subst, arith}
use Rattle.extent_map.specs.Extents.{place_at, place_after_clear_if, IsShortest, AllFit}
use Rattle.extent_map.proofs.Left.{shortest_left, fit_left}
use Rattle.extent_map.proofs.LeftPlaces.{places_left}
use Rattle.extent_map.proofs.extent_map.ExtentMap.clear_if.Goals as goal

pub invariant_of-self : goal.invariant_of-self
invariant_of-self g c =
    let on = g.P.Place.on in
    let rows = c.self.inside.rows.items in
    let end = c.args.lba + c.args.sectors in
    let is = sym c.clear_rows.ensures.rows in
    let order : c.args.lba < c.args.lba + c.args.sectors = omega (arith, c.if-sectors-ne0.true) in (
      subst (IsShortest on) is
          (shortest_left on c.args.lba end order g.test g.met.P.Place.on_twice rows c.self.invariant.0),
      subst (AllFit g.P.Place.number) is
          (fit_left on c.args.lba end order g.test g.P.Place.number g.met.P.Place.number_on rows c.self.invariant.1),
    )

pub returns-then-sectors-ne0-clause-places : goal.returns-then-sectors-ne0-clause-places
returns-then-sectors-ne0-clause-places g c k =
    let steady = c.requires.1.1.1.1.1.1 in
    let on = g.P.Place.on in
    let rows = c.self.inside.rows.items in
    let some : 0 < c.args.sectors = omega (arith, c.if-sectors-ne0.true) in
    ap (λ xs. place_at on xs k) c.clear_rows.ensures.rows
    ∙ places_left on g.met.P.Place.on_twice c.args.lba c.args.sectors some g.test steady rows k c.self.invariant.0
    ∙ ap (λ m. place_after_clear_if c.args.lba c.args.sectors g.test (place_at on m.rows) k) c.self.view_is

pub returns-then-sectors-ne0-clause-shortest : goal.returns-then-sectors-ne0-clause-shortest
returns-then-sectors-ne0-clause-shortest g c =
    let order : c.args.lba < c.args.lba + c.args.sectors = omega (arith, c.if-sectors-ne0.true) in
    subst (IsShortest g.P.Place.on) (sym c.clear_rows.ensures.rows)
    (shortest_left g.P.Place.on c.args.lba (c.args.lba + c.args.sectors) order g.test g.met.P.Place.on_twice
    c.self.inside.rows.items c.self.invariant.0)
