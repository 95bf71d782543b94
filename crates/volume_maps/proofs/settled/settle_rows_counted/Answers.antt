use Rattle.std.proofs.Common.{None, ◌≡◌, ◌+◌, suc, take, get_or, sym, ◌∙◌, ap, arith}
use Rattle.std.proofs.Math.Seq.{take-suc}
use Rattle.extent_map.specs.Extents.{place_at}
use Rattle.object_format.specs.declared.data_row.DataRow.{DataRow}
use Rattle.volume_maps.specs.Places.{object_on}
use Rattle.volume_maps.specs.Maps.{settled_by_row, settled_by}
use Rattle.volume_maps.proofs.SettleLemmas.{settled_push}
use Rattle.volume_maps.proofs.TableLemmas.{same_twice, still_gains}
use Rattle.volume_maps.proofs.settled.settle_rows_counted.Goals as goal

pub settle_counted-requires-clause-object : goal.settle_counted-requires-clause-object
settle_counted-requires-clause-object c =
    still_gains c.args.number c.args.objects.now c.loop-row.objects c.loop-row.invariant.same c.requires.object

pub loop-row-preserved : goal.loop-row-preserved
loop-row-preserved c =
    let rows = c.args.rows.now in
    let i = c.loop-row.row-index in
    let number = c.args.number in
    let before = place_at object_on c.args.settled.now.rows in
    let kept = c.loop-row.invariant in
    let step = c.settle_counted.ensures in
    let next : i + 1 ≡ suc i = omega arith in
    let none : DataRow = record { lba = 0; sectors = 0; place = None } in
    let row = get_or rows i none in
    let split = ap (λ n. take n rows) next ∙ take-suc rows i none c.loop-row-test.true in
    record {
      places = λ k.
          step.places k ∙ (ap (λ p. settled_by_row number row p k) (kept.places k)
          ∙ (sym (settled_push number (take i rows) row (before k) k)
          ∙ sym (ap (λ xs. settled_by number xs (before k) k) split)));
      spare = omega (arith, kept.spare, step.spare);
      kept = step.kept;
      same = same_twice c.args.objects.now c.loop-row.objects c.settle_counted.new.objects kept.same step.same;
      object_spare = step.object_spare ∙ kept.object_spare;
    }
