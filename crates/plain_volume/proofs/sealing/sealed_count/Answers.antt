use Rattle.std.proofs.Common.{◌≡◌, ◌+◌, ap, sym, ◌∙◌, arith, is_some, take, length, false}
use Rattle.std.specs.List.{sum_by}
use Rattle.std.proofs.lemmas.List.Sums.{sum_by_more}
use Rattle.batcher.specs.Batch.{data_sectors, fullness, fullness_of_first}
use Rattle.plain_volume.proofs.Ranges.{found_later}
use Rattle.plain_volume.proofs.sealing.sealed_count.Goals as goal

pub loop-count-preserved : goal.loop-count-preserved
loop-count-preserved c =
    let entries = c.args.entries.now in
    let count = c.loop-count.count in
    let entry = c.index-entries-count.result in
    let fails : is_some (fullness_of_first c.args.batch entries count) ≡ false =
    ap (λ n. is_some (fullness c.args.batch n count)) (sym c.loop-count.invariant.sum)
    ∙ (sym c.is_full.ensures.full ∙ c.if-is_full.false) in
    let more : sum_by data_sectors (take (count + 1) entries) ≡ sum_by data_sectors (take count entries) + data_sectors entry =
    sum_by_more data_sectors entries count entry c.loop-count-test.true
    ∙ ap (λ e. sum_by data_sectors (take count entries) + data_sectors e) (sym c.index-entries-count.is) in
    record {
      sum = omega (arith, more, c.loop-count.invariant.sum, c.data_sectors-sectors.ensures.sectors);
      rest = found_later (λ n. is_some (fullness_of_first c.args.batch entries n)) count (length entries)
          c.loop-count-test.true fails
          ∙ c.loop-count.invariant.rest;
    }
