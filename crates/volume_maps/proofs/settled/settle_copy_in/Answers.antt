use Rattle.std.proofs.Common.{refl, arith}
use Rattle.extent_map.specs.Extents.{place_at}
use Rattle.volume_maps.specs.Places.{object_on}
use Rattle.volume_maps.proofs.CopyLemmas.{none_settled, all_settled}
use Rattle.volume_maps.proofs.settled.settle_copy_in.Goals as goal

pub loop-part-init : goal.loop-part-init
loop-part-init c = record {
  range = refl;
  low = omega arith;
  high = omega arith;
  places = none_settled c.args.number c.args.row.now (place_at object_on c.args.map.now.rows);
  spare = omega arith;
}

pub returns-clause-places : goal.returns-clause-places
returns-clause-places c k =
    let l = c.loop-part in
    all_settled c.args.number c.args.row.now (place_at object_on c.args.map.now.rows) (place_at object_on l.map.rows) l.from
    l.invariant.low l.invariant.places k l.invariant.high (c.in_default.ensures.none.0 refl)
