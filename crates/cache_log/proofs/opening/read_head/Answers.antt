use Rattle.std.proofs.Common.{rules, ◌≡◌, ◌+◌, ◌≤◌, arith}
use Rattle.std.specs.Prelude.{min}
use Rattle.cache_log.proofs.PaidLemmas.{paid_header, some_to_head}
use Rattle.cache_log.proofs.opening.read_head.Goals as goal

pub returns-in_err-read-clause-err : goal.returns-in_err-read-clause-err
returns-in_err-read-clause-err g c =
    let one = c.in_err-read.ensures.only in
    search (one, rules)

pub returns-in-Ok-clause-paid : goal.returns-in-Ok-clause-paid
returns-in-Ok-clause-paid g c =
    let e = c.in_ok-read.ensures in
    let some : 1 ≤ c.args.place.now.to_head = some_to_head c.args.geometry.now c.args.place.now _ c.in-Ok.ensures.ok.fits in
    let end : c.min-end.result ≡ min c.args.geometry.now.log (c.args.place.now.position + c.args.place.now.to_head) =
    omega (arith, some, c.min-end.ensures, c.max.ensures) in
    paid_header c.args.geometry.now.log c.min-end.result c.args.place.now c.args.ahead.now c.read.new.self c.args.commits.now
    c.read.new.commits some end c.requires.on_disk e.ahead e.spared e.only
