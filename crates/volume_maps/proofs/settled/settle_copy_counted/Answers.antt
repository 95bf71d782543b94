use Rattle.std.proofs.Common.{◌+◌, ◌-◌, ◌≤◌, refl, sym, ◌∙◌, arith}
use Rattle.extent_map.specs.Extents.{place_at}
use Rattle.volume_maps.specs.Places.{object_on}
use Rattle.volume_maps.proofs.CopyLemmas.{none_settled, left_settled, taken_settled, all_settled, in_copy}
use Rattle.volume_maps.proofs.TableLemmas.{same_table, same_twice, still_gains}
use Rattle.volume_maps.proofs.settled.settle_copy_counted.Goals.{in-Some-place_in_copy, in_default-place_in_copy}
use Rattle.volume_maps.proofs.settled.settle_copy_counted.Goals as goal

pub loop-part-init : goal.loop-part-init
loop-part-init c = record {
  range = refl;
  low = omega arith;
  high = omega arith;
  places = none_settled c.args.number c.args.row.now (place_at object_on c.args.settled.now.rows);
  spare = omega arith;
  kept = c.requires.kept;
  same = same_table c.args.objects.now;
  object_spare = refl;
}

pub set_counted-requires-clause-object : goal.set_counted-requires-clause-object
set_counted-requires-clause-object c own =
    let l = c.loop-part in
    let place = c.in-Some-place_in_copy.place in
    let some = sym c.place_in_copy.ensures ∙ c.in-Some-place_in_copy.is in
    let number = in_copy c.args.number c.args.row.now c.in-Some.part place some in
    rw number (still_gains c.args.number c.args.objects.now l.objects l.invariant.same c.requires.object)

pub loop-part-preserved : goal.loop-part-preserved
loop-part-preserved c =
    let l = c.loop-part in
    let number = c.args.number in
    let row = c.args.row.now in
    let part = c.in-Some.part in
    let starts = c.in-Some.ensures.row in
    let old = place_at object_on c.args.settled.now.rows in
    let before = place_at object_on l.settled.rows in
    let rest = row.lba + row.sectors - l.from in
    let low : row.lba ≤ part.lba + part.sectors = omega (arith, l.invariant.low, starts.from) in
    let high : part.lba + part.sectors ≤ row.lba + row.sectors = omega (arith, l.invariant.high, starts.to) in
    elim c.match-place_in_copy.branch [
      | in-Some-place_in_copy w ↦
          let set = w.set_counted.ensures in
          let place = w.in-Some-place_in_copy.place in
          let some = sym c.place_in_copy.ensures ∙ w.in-Some-place_in_copy.is in
          rw (w.settled-is, w.objects-is) (record {
            range = refl;
            low = low;
            high = high;
            places = taken_settled number row old before l.from l.invariant.low l.invariant.places rest part starts place
                (place_at object_on w.set_counted.new.settled.rows) some set.places;
            spare = omega (arith, l.invariant.low, l.invariant.spare, starts.from, starts.some, set.spare);
            kept = set.kept;
            same = same_twice c.args.objects.now l.objects w.set_counted.new.objects l.invariant.same set.same;
            object_spare = set.object_spare ∙ l.invariant.object_spare;
          })
      | in_default-place_in_copy w ↦
          let none = sym c.place_in_copy.ensures ∙ w.in_default-place_in_copy.is in
          rw (w.settled-is, w.objects-is) (record {
            range = refl;
            low = low;
            high = high;
            places = left_settled number row old before l.from l.invariant.low l.invariant.places rest part starts none;
            spare = omega (arith, l.invariant.low, l.invariant.spare, starts.from);
            kept = l.invariant.kept;
            same = l.invariant.same;
            object_spare = l.invariant.object_spare;
          })
    ]

pub returns-clause-places : goal.returns-clause-places
returns-clause-places c k =
    let l = c.loop-part in
    all_settled c.args.number c.args.row.now (place_at object_on c.args.settled.now.rows) (place_at object_on l.settled.rows)
    l.from l.invariant.low l.invariant.places k l.invariant.high (c.in_default.ensures.none.0 refl)
