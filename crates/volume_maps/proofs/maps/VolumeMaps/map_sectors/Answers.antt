use Rattle.std.proofs.Common.{◌≡◌, sym, subst, arith}
use Rattle.volume_maps.specs.Live.{MayGain}
use Rattle.volume_maps.specs.Maps.{MapsState}
use Rattle.volume_maps.specs.Covered.{IsReverse}
use Rattle.volume_maps.proofs.KeptLemmas.{gains_there}
use Rattle.volume_maps.proofs.ReverseLemmas.{reverse_set}
use Rattle.volume_maps.proofs.TableLemmas.{same_numbers}
use Rattle.volume_maps.proofs.maps.VolumeMaps.map_sectors.Goals as goal

pub invariant_of-self-2 : goal.invariant_of-self-2
invariant_of-self-2 c =
    let place = c.args.place in
    let rows = c.self.inside.settled.rows in
    let objects = c.self.inside.objects in
    let set = c.set_counted.ensures in
    let new = c.set_counted.new.settled.rows in
    let next = c.set_counted.new.objects in
    let gains = subst (λ (maps : MapsState). place.level ≡ 0 → MayGain place.number maps.objects) (sym c.self.view_is)
    c.requires.object in
    let reverse : IsReverse new next c.add_sectors.new.reverse.objects =
    rw c.in_ok-add_sectors.ensures.added (
    reverse_set rows new objects next c.self.inside.reverse.objects c.args.lba c.args.sectors place c.self.invariant.1
    (same_numbers objects next set.same) (λ own. gains_there place.number objects (gains own)) set.places
    ) in
    (set.kept, reverse, omega (arith, set.object_spare, c.add_sectors.ensures.spare, c.self.invariant.2))
