use Rattle.std.proofs.Common.{ap, ◌+◌}
use Rattle.gc_copier.proofs.RunLemmas.{run_with}
use Rattle.gc_copier.proofs.runs.run_from.Goals as goal

pub loop-row-preserved : goal.loop-row-preserved
loop-row-preserved c =
    let count = c.loop-row.invariant.0 in (
      ap (λ n. n + 1) count,
      run_with c.args.first.now c.args.rows.now c.loop-row.run c.loop-row.row-index _ c.in-Some.sectors count
          c.loop-row-test.true c.in-Some.ensures c.loop-row.invariant.1,
    )
