use Rattle.std.proofs.Common.{sym, ◌∙◌}
use Rattle.plain_volume.proofs.Ranges.{any_later}
use Rattle.plain_volume.proofs.plans.is_object_read.Goals as goal

pub loop-sector-preserved : goal.loop-sector-preserved
loop-sector-preserved c =
    any_later _ c.loop-sector.sector _ c.loop-sector-test.true (sym c.is_sector_read.ensures ∙ c.if-is_sector_read.false)
    ∙ c.loop-sector.invariant
