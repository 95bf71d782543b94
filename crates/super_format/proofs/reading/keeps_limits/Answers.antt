use Rattle.std.proofs.Common.{sym, ◌∙◌, ap}
use Rattle.lsvd_base.specs.Limits.{is_within_limits}
use Rattle.super_format.proofs.HeadLemmas.{limits_in}
use Rattle.super_format.proofs.reading.keeps_limits.Goals as goal

pub returns-then-is_within_limits : goal.returns-then-is_within_limits
returns-then-is_within_limits c =
    limits_in c.args.bytes.now c.read_u32.result
    (ap is_within_limits (sym c.sizes_in.ensures) ∙ sym c.is_within_limits.ensures ∙ c.if-is_within_limits.true)
    c.read_u32.ensures
