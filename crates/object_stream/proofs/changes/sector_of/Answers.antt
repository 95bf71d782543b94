use Rattle.std.proofs.Common.{◌*◌, ◌∙◌, ap, arith}
use Rattle.object_stream.proofs.PlainLemmas.{sector_between}
use Rattle.object_stream.proofs.changes.sector_of.Goals as goal

pub returns : goal.returns
returns c =
    c.from_bytes.ensures
    ∙ (c.in_ok-data.ensures.items
    ∙ sector_between c.args.index c.min-start.result c.min-end.result c.args.bytes.now
    (omega (arith, ap (λ n. c.args.index * n) c.from.ensures)) (omega arith))
