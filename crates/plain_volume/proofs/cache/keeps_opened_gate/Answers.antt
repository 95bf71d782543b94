use Rattle.std.proofs.Common.{◌≡◌, get_or, false, sym, ◌∙◌, rules}
use Rattle.plain_volume.proofs.Pending.{goes_on, ends_here}
use Rattle.plain_volume.proofs.cache.keeps_opened_gate.Goals as goal

pub loop-index-preserved : goal.loop-index-preserved
loop-index-preserved c =
    let is : c.unwrap_or-is_kept.result ≡ get_or c.args.kept.now c.loop-index.index false = search rules in
    goes_on _ _ _ _ c.unwrap_or-is_kept.result c.loop-index-test.true is (sym c.if-is_kept_opening.false
    ∙ c.is_kept_opening.ensures)
    ∙ c.loop-index.invariant

pub returns-then-is_kept_opening : goal.returns-then-is_kept_opening
returns-then-is_kept_opening c =
    let is : c.unwrap_or-is_kept.result ≡ get_or c.args.kept.now c.loop-index.index false = search rules in
    ends_here _ _ _ _ c.unwrap_or-is_kept.result c.loop-index-test.true is (sym c.if-is_kept_opening.true
    ∙ c.is_kept_opening.ensures)
    ∙ c.loop-index.invariant
