use Rattle.std.proofs.Common.{rules, List, ℕ, drop, length, ◌≡◌, take, refl}
use Rattle.cache_log.proofs.AheadLemmas.{front_read}
use Rattle.cache_log.proofs.ReadCounts.{one_read}
use Rattle.cache_log.proofs.reading_ahead.read_front.Goals as goal

pub returns-clause-ok : goal.returns-clause-ok
returns-clause-ok g c =
    let room : List ℕ = c.args.room.now in
    let buf : List ℕ = c.read.new.buf in
    let size : length (take c.args.count room) ≡ c.args.count = search rules in
    let whole : length buf ≡ c.args.count = search rules in
    front_read c.read.result _ buf (drop c.args.count room) c.args.at c.args.count _ _ refl whole size c.read.ensures.ok

pub returns-clause-only : goal.returns-clause-only
returns-clause-only g c =
    let e = c.read.ensures in
    one_read _ c.args.commits.now c.read.new.self e.same e.moments e.costs e.on_disk
