use Rattle.std.proofs.Common.{get_or, refl, sym, ◌∙◌, ap, arith}
use Rattle.extent_map.specs.Extents.{place_at}
use Rattle.volume_maps.specs.Places.{object_on}
use Rattle.volume_maps.specs.Maps.{settled_by_copy_row}
use Rattle.volume_maps.proofs.CopyLemmas.{no_row, copies_more, sectors_more, sectors_most}
use Rattle.volume_maps.proofs.TableLemmas.{same_table, same_twice, still_gains}
use Rattle.volume_maps.proofs.settled.settle_copies_counted.Goals as goal

pub loop-row-init : goal.loop-row-init
loop-row-init c = record {
  places = λ k. refl;
  spare = omega arith;
  kept = c.requires.kept;
  same = same_table c.args.objects.now;
  object_spare = refl;
}

pub settle_copy_counted-requires-clause-room : goal.settle_copy_counted-requires-clause-room
settle_copy_counted-requires-clause-room c =
    omega (
      arith,
      c.requires.room,
      c.loop-row.invariant.spare,
      sectors_most c.args.rows.now c.loop-row.row-index c.loop-row-test.true,
    )

pub settle_copy_counted-requires-clause-object : goal.settle_copy_counted-requires-clause-object
settle_copy_counted-requires-clause-object c =
    still_gains c.args.number c.args.objects.now c.loop-row.objects c.loop-row.invariant.same c.requires.object

pub loop-row-preserved : goal.loop-row-preserved
loop-row-preserved c =
    let rows = c.args.rows.now in
    let i = c.loop-row.row-index in
    let number = c.args.number in
    let before = place_at object_on c.args.settled.now.rows in
    let kept = c.loop-row.invariant in
    let step = c.settle_copy_counted.ensures in
    record {
      places = λ k.
          step.places k ∙ ap (λ p. settled_by_copy_row number (get_or rows i no_row) p k) (kept.places k)
          ∙ sym (copies_more rows i c.loop-row-test.true number (before k) k);
      spare = omega (arith, kept.spare, step.spare, sectors_more rows i c.loop-row-test.true);
      kept = step.kept;
      same = same_twice c.args.objects.now c.loop-row.objects c.settle_copy_counted.new.objects kept.same step.same;
      object_spare = step.object_spare ∙ kept.object_spare;
    }
