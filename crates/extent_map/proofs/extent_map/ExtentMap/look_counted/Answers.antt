use Rattle.std.proofs.Common.{ap, subst, sym, ◌∙◌}
use Rattle.std.proofs.lemmas.Result.{IfOk-weaker}
use Rattle.extent_map.specs.Extents.{place_at, place_in_range, IsShortest, AllFit}
use Rattle.extent_map.proofs.Range.{range_places, range_shortest, range_fits}
use Rattle.extent_map.proofs.extent_map.ExtentMap.look_counted.Goals as goal

pub returns-clause-places : goal.returns-clause-places
returns-clause-places g c =
    let on = g.P.Place.on in
    IfOk-weaker c.look.result _ _ (λ found is k. ap (λ xs. place_at on xs k) is
    ∙ range_places on g.met.P.Place.on_twice c.args.lba c.args.sectors c.self.inside.rows.items c.self.invariant.0 k
    ∙ ap (λ m. place_in_range c.args.lba c.args.sectors (place_at on m.rows) k) c.self.view_is) c.look.ensures.rows

pub returns-clause-shortest : goal.returns-clause-shortest
returns-clause-shortest g c =
    IfOk-weaker c.look.result _ _ (λ found is. subst (IsShortest g.P.Place.on) (sym is)
    (range_shortest g.P.Place.on g.met.P.Place.on_twice c.args.lba c.args.sectors c.self.inside.rows.items c.self.invariant.0))
    c.look.ensures.rows

pub returns-clause-fits : goal.returns-clause-fits
returns-clause-fits g c =
    IfOk-weaker c.look.result _ _ (λ found is. subst (AllFit g.P.Place.number) (sym is)
    (range_fits g.P.Place.on g.met.P.Place.on_twice c.args.lba c.args.sectors c.self.inside.rows.items c.self.invariant.0
    g.P.Place.number
    g.met.P.Place.number_on c.self.invariant.1)) c.look.ensures.rows
