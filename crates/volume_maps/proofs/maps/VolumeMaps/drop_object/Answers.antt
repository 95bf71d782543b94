use Rattle.std.proofs.Common.{◌≡◌, sym, subst, arith}
use Rattle.volume_maps.specs.Live.{live_sectors}
use Rattle.volume_maps.specs.Maps.{MapsState}
use Rattle.volume_maps.specs.Covered.{IsReverse}
use Rattle.volume_maps.proofs.KeptLemmas.{kept_without}
use Rattle.volume_maps.proofs.ReverseLemmas.{reverse_without, same_length}
use Rattle.volume_maps.proofs.maps.VolumeMaps.drop_object.Goals as goal

pub invariant_of-self : goal.invariant_of-self
invariant_of-self c =
    let number = c.args.number in
    let rows = c.self.inside.settled.rows in
    let objects = c.self.inside.objects in
    let ranges = c.self.inside.reverse.objects in
    let next = c.drop_row.new.self in
    let left = c.drop_object.new.self.objects in
    let none = subst (λ (maps : MapsState). live_sectors number maps.settled.rows ≡ 0) (sym c.self.view_is) c.requires in
    let reverse : IsReverse rows next left =
    rw c.drop_object.ensures.objects (
    reverse_without rows objects next ranges number c.self.invariant.1 none c.drop_row.ensures.rows
    ) in (
      kept_without rows objects next number c.self.invariant.0 none c.drop_row.ensures.rows,
      reverse,
      omega (
        arith,
        c.self.invariant.2,
        c.drop_row.ensures.spare,
        c.drop_object.ensures.spare,
        same_length rows objects ranges c.self.invariant.1,
        same_length rows next left reverse,
      ),
    )

pub returns-clause-counted : goal.returns-clause-counted
returns-clause-counted c = (invariant_of-self c).0.counted
