use Rattle.std.proofs.Common.{rules, of_calls, nat_lt}
use Rattle.extent_map.proofs.Counts.{partitioned}
use Rattle.extent_map.proofs.cut.first_from.Goals as goal

pub returns-clause-index : goal.returns-clause-index
returns-clause-index g c =
    c.partition_point.ensures.partitioned (λ row. nat_lt row.lba c.args.at) (λ row answer calls. search (rules, of_calls))
    (partitioned g.P.Place.on c.args.at c.args.rows.now.items c.requires)
