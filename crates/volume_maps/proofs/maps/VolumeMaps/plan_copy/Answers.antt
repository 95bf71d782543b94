use Rattle.std.proofs.Common.{◌≡◌, sym, subst}
use Rattle.std.specs.Prelude.{IfOk}
use Rattle.extent_map.specs.Extents.{IsShortest}
use Rattle.gc_policy.specs.Victims.{AreVictims}
use Rattle.volume_maps.specs.Places.{object_on}
use Rattle.volume_maps.specs.Maps.{MapsState}
use Rattle.volume_maps.specs.CopyPlan.{PlacesAreIn, PlansCopy}
use Rattle.volume_maps.specs.Parts.{rows_of_parts}
use Rattle.volume_maps.proofs.Planned.{places_below, plans_copy, both_ok}
use Rattle.volume_maps.proofs.maps.VolumeMaps.plan_copy.Goals as goal

pub returns : goal.returns
returns c volume places =
    let inside = c.self.inside in
    let maps : MapsState = record { settled = inside.settled; log = inside.log; objects = inside.objects } in
    let view : maps ≡ c.args.self.now = c.self.view_is in
    let most = c.args.most in
    let parts = c.in_ok-planned.planned.rows in
    let victims = c.deref.result.now in
    let in_volume : PlacesAreIn volume maps = subst (PlacesAreIn volume) (sym view) places in
    let are : AreVictims maps.objects.rows victims =
    subst (AreVictims maps.objects.rows) (sym c.deref.ensures.value) c.in_ok-victims.ensures in
    subst (λ maps. IfOk c.copy_rows.result (λ rows. PlansCopy volume most maps rows.items)) view
    (both_ok c.copy_rows.result (IsShortest object_on parts) (λ rows. rows.items ≡ rows_of_parts 0 parts)
    (λ rows. PlansCopy volume most maps rows.items) c.copy_rows.ensures.shortest c.copy_rows.ensures.rows (λ rows shortest is.
    subst (PlansCopy volume most maps) (sym is)
    (plans_copy volume most maps victims parts in_volume shortest
    (c.in_ok-planned.ensures volume (places_below volume maps in_volume)) c.self.invariant.0 are)))
