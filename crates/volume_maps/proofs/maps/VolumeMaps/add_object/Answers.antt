use Rattle.std.proofs.Common.{[], sym, subst, arith}
use Rattle.object_table.specs.Table.{IsNewest}
use Rattle.volume_maps.specs.Maps.{MapsState}
use Rattle.volume_maps.proofs.RangeLemmas.{above_ranges}
use Rattle.volume_maps.proofs.ReverseLemmas.{kept_added, reverse_added}
use Rattle.volume_maps.proofs.maps.VolumeMaps.add_object.Goals as goal

pub add_empty-requires-clause-above : goal.add_empty-requires-clause-above
add_empty-requires-clause-above c =
    let number = c.args.object.number in
    let newest = subst (λ (maps : MapsState). IsNewest maps.objects number) (sym c.self.view_is) c.requires.newest in
    above_ranges number c.self.inside.reverse.objects c.self.inside.objects.rows c.self.invariant.1.known newest.above_rows

pub invariant_of-self : goal.invariant_of-self
invariant_of-self c =
    let new = c.args.object in
    let rows = c.self.inside.settled.rows in
    let objects = c.self.inside.objects in
    let ranges = c.self.inside.reverse.objects in
    let kept = c.self.invariant.0 in
    let reverse = c.self.invariant.1 in
    let newest = subst (λ (maps : MapsState). IsNewest maps.objects new.number) (sym c.self.view_is) c.requires.newest in
    let spare = c.add_empty.ensures.spare in
    let room = c.self.invariant.2 in
    rw (c.add.ensures, c.add_empty.ensures.objects) (
      kept_added rows objects ranges new.number new.payload new.front kept reverse newest,
      reverse_added rows objects ranges new.number new.payload new.front kept reverse newest [],
      omega (arith, spare, room),
    )

pub returns-clause-counted : goal.returns-clause-counted
returns-clause-counted c = (invariant_of-self c).0.counted
