use Rattle.std.proofs.Common.{length, ◌≡◌, ◌+◌, ap, subst, sym, ◌∙◌, arith, take, ◌++◌, ◌∷◌, [], Vec, Global}
use Rattle.std.specs.Prelude.{vec_capacity}
use Rattle.std.proofs.lemmas.List.{length_push}
use Rattle.reverse_map.specs.declared.range.SectorRange.{SectorRange}
use Rattle.volume_maps.specs.Covered.{CoverRows}
use Rattle.volume_maps.proofs.CoverLemmas.{put_row, cleared_row}
use Rattle.volume_maps.proofs.ranges.put_ranges.Goals as goal
use Rattle.volume_maps.proofs.ranges.put_ranges.Goals.{then-is_some, else-is_some}

pub loop-row-preserved : goal.loop-row-preserved
loop-row-preserved c =
    let rows = c.args.rows.now in
    let i = c.loop-row.row-index in
    let ranges = c.loop-row.ranges.items in
    let kept = c.loop-row.invariant in
    elim c.if-is_some.branch [
      | then-is_some w ↦ (
          let items = ap (λ (v : Vec SectorRange Global). v.items) w.ranges-is in
          let now = items ∙ w.push_reserved.ensures.items
          ∙ ap (λ (range : SectorRange). ranges ++ range ∷ []) w.range_of.ensures in
          let more : length c.if-is_some.ranges.items ≡ length ranges + 1 =
          ap length (items ∙ w.push_reserved.ensures.items) ∙ length_push ranges w.range_of.result in
          let capacity = ap vec_capacity w.ranges-is ∙ w.push_reserved.ensures.capacity in
          record {
            covered = subst (λ ranges. CoverRows ranges (take (i + 1) rows)) (sym now)
                (put_row ranges rows i c.loop-row-test.true kept.covered);
            room = omega (arith, more, kept.room, capacity);
          }
          )
      | else-is_some w ↦ rw w.ranges-is (record {
        covered = cleared_row ranges rows i c.loop-row-test.true kept.covered (sym c.is_some.ensures ∙ w.if-is_some.false);
        room = omega (arith, kept.room);
      })
    ]
