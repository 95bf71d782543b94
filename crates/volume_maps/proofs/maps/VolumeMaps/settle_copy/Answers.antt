use Rattle.std.proofs.Common.{◌≡◌, sym, subst, arith}
use Rattle.object_table.specs.Table.{IsNewest}
use Rattle.reverse_map.specs.Ranges.{ranges_of}
use Rattle.volume_maps.specs.Live.{MayGain}
use Rattle.volume_maps.specs.Maps.{MapsState}
use Rattle.volume_maps.specs.Covered.{IsReverse}
use Rattle.volume_maps.proofs.RangeLemmas.{above_ranges, last_ranges}
use Rattle.volume_maps.proofs.ReverseLemmas.{kept_added, reverse_added, gains_added, reverse_copied}
use Rattle.volume_maps.proofs.TableLemmas.{same_numbers}
use Rattle.volume_maps.proofs.maps.VolumeMaps.settle_copy.Goals as goal

pub add-requires-clause-above : goal.add-requires-clause-above
add-requires-clause-above c =
    let number = c.args.object.number in
    let newest = subst (λ (maps : MapsState). IsNewest maps.objects number) (sym c.self.view_is) c.requires.newest in
    above_ranges number c.self.inside.reverse.objects c.self.inside.objects.rows c.self.invariant.1.known newest.above_rows

pub settle_copies_counted-requires-clause-object : goal.settle_copies_counted-requires-clause-object
settle_copies_counted-requires-clause-object c =
    let new = c.args.object in
    let newest = subst (λ (maps : MapsState). IsNewest maps.objects new.number) (sym c.self.view_is) c.requires.newest in
    subst (MayGain new.number) (sym c.add.ensures.objects) (
    gains_added c.self.inside.settled.rows c.self.inside.objects c.self.inside.reverse.objects new.number new.payload new.front
    c.self.invariant.0 c.self.invariant.1 newest
    )

pub settle_copies_counted-requires-clause-kept : goal.settle_copies_counted-requires-clause-kept
settle_copies_counted-requires-clause-kept c =
    let new = c.args.object in
    let newest = subst (λ (maps : MapsState). IsNewest maps.objects new.number) (sym c.self.view_is) c.requires.newest in
    rw c.add.ensures.objects (
    kept_added c.self.inside.settled.rows c.self.inside.objects c.self.inside.reverse.objects new.number new.payload new.front
    c.self.invariant.0 c.self.invariant.1 newest
    )

pub invariant_of-self : goal.invariant_of-self
invariant_of-self c =
    let new = c.args.object in
    let rows = c.self.inside.settled.rows in
    let objects = c.self.inside.reverse.objects in
    let newest = subst (λ (maps : MapsState). IsNewest maps.objects new.number) (sym c.self.view_is) c.requires.newest in
    let above = above_ranges new.number objects c.self.inside.objects.rows c.self.invariant.1.known newest.above_rows in
    let reverse : IsReverse rows c.add.new.objects c.add.new.reverse.objects =
    rw (c.add.ensures.objects, c.add.ensures.reverse) (
    reverse_added rows c.self.inside.objects objects new.number new.payload new.front c.self.invariant.0 c.self.invariant.1
    newest c.args.ranges.items
    ) in
    let ranges : ranges_of new.number c.add.new.reverse.objects ≡ c.args.ranges.items =
    rw c.add.ensures.reverse (last_ranges new.number c.args.ranges.items objects above) in
    let settled = c.settle_copies_counted.ensures in
    let same = same_numbers c.add.new.objects c.settle_copies_counted.new.objects settled.same in (
      settled.kept,
      reverse_copied rows c.settle_copies_counted.new.settled.rows c.add.new.objects c.settle_copies_counted.new.objects
          c.add.new.reverse.objects new.number c.args.ranges.items reverse same ranges c.args.rows.now c.requires.covered
          settled.places,
      omega (arith, settled.object_spare, c.add.ensures.room),
    )
