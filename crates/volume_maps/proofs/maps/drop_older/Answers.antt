use Rattle.std.proofs.Common.{None, ◌≡◌, ◌+◌, suc, take, get_or, sym, ◌∙◌, ap, arith}
use Rattle.std.proofs.Math.Seq.{take-suc}
use Rattle.extent_map.specs.Extents.{place_at}
use Rattle.object_format.specs.declared.data_row.DataRow.{DataRow}
use Rattle.volume_maps.specs.Places.{log_on}
use Rattle.volume_maps.specs.Maps.{logged_by_row, logged_by}
use Rattle.volume_maps.proofs.SettleLemmas.{logged_push}
use Rattle.volume_maps.proofs.maps.drop_older.Goals as goal

pub loop-row-preserved : goal.loop-row-preserved
loop-row-preserved c =
    let rows = c.args.rows.now in
    let i = c.loop-row.row-index in
    let end = c.args.end in
    let before = place_at log_on c.args.log.now.rows in
    let kept = c.loop-row.invariant in
    let step = c.drop_older_in.ensures in
    let next : i + 1 ≡ suc i = omega arith in
    let none : DataRow = record { lba = 0; sectors = 0; place = None } in
    let row = get_or rows i none in
    let split = ap (λ n. take n rows) next ∙ take-suc rows i none c.loop-row-test.true in
    record {
      places = λ k.
          step.places k ∙ (ap (λ p. logged_by_row end row p k) (kept.places k)
          ∙ (sym (logged_push end (take i rows) row (before k) k) ∙ sym (ap (λ xs. logged_by end xs (before k) k) split)));
      spare = omega (arith, kept.spare, step.spare);
    }
