use Rattle.std.proofs.Common.{length, ◌≡◌, ◌+◌, ap, subst, sym, ◌∙◌, arith, take, ◌++◌, ◌∷◌, []}
use Rattle.std.proofs.lemmas.List.{length_push}
use Rattle.reverse_map.specs.declared.range.SectorRange.{SectorRange}
use Rattle.volume_maps.specs.Covered.{CoverCopyRows}
use Rattle.volume_maps.proofs.CoverLemmas.{copied_row}
use Rattle.volume_maps.proofs.ranges.copied_ranges.Goals as goal

pub loop-row-preserved : goal.loop-row-preserved
loop-row-preserved c =
    let rows = c.args.rows.now in
    let i = c.loop-row.row-index in
    let ranges = c.loop-row.ranges.items in
    let now = c.push_reserved.ensures.items ∙ ap (λ (range : SectorRange). ranges ++ range ∷ []) c.range_of.ensures in
    let more : length c.push_reserved.new.self.items ≡ length ranges + 1 =
    ap length c.push_reserved.ensures.items ∙ length_push ranges c.range_of.result in
    record {
      covered = subst (λ ranges. CoverCopyRows ranges (take (i + 1) rows)) (sym now)
          (copied_row ranges rows i c.loop-row-test.true c.loop-row.invariant.covered);
      room = omega (arith, more, c.loop-row.invariant.room, c.push_reserved.ensures.capacity);
    }
