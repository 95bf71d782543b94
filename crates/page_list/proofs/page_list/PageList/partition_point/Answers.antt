use Rattle.std.proofs.Common.{◌∙◌}
use Rattle.page_list.proofs.Points.{all_pass}
use Rattle.page_list.proofs.page_list.PageList.partition_point.Goals as goal

pub returns-then-last_passes-clause-partitioned : goal.returns-then-last_passes-clause-partitioned
returns-then-last_passes-clause-partitioned g c p says partitioned =
    c.end.ensures.index
    ∙ all_pass p c.args.self.now.items partitioned (λ d some. c.last_passes.ensures.passes p d says c.if-last_passes.true some)
