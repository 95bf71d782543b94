use Rattle.std.proofs.Common.{rules, ◌≡◌, ◌≤◌, length, arith}
use Rattle.lsvd_device.proofs.stop.make_at_once.Goals as goal

pub make_as-requires-clause-fits : goal.make_as-requires-clause-fits
make_as-requires-clause-fits c =
    let least : c.end_of.result ≤ c.args.disk.now.size = c.end_of.ensures.least c.args.disk.now.size c.requires.inside in
    let count : length c.deref_mut.result.now ≡ c.end_of.result = search rules in
    omega (arith, least, count)
