use Rattle.std.proofs.Common.{◌+◌, ◌*◌, true, false, length, arith}
use Rattle.gc_copier.specs.Plan.{seen}
use Rattle.gc_copier.proofs.AskLemmas.{asks_one}
use Rattle.gc_copier.proofs.reading.fetch.Goals as goal

pub returns-in-Ok-clause-asks : goal.returns-in-Ok-clause-asks
returns-in-Ok-clause-asks g c =
    let source = c.args.source.now in
    let gets = c.get.ensures in
    asks_one (seen g.S.Receipt.Receipt.state source) false (g.S.Store.state c.args.store.now) (g.S.Store.state c.get.new.self)
    (g.S.Store.gets c.args.store.now) (g.S.Store.gets c.get.new.self) (512 * (source.front + c.args.place))
    (length c.args.buf.now) (omega arith) c.requires gets.asked gets.unchanged c.in-Ok.ensures.count

pub returns-in-Err-clause-asks : goal.returns-in-Err-clause-asks
returns-in-Err-clause-asks g c =
    let source = c.args.source.now in
    let gets = c.get.ensures in
    asks_one (seen g.S.Receipt.Receipt.state source) true (g.S.Store.state c.args.store.now) (g.S.Store.state c.get.new.self)
    (g.S.Store.gets c.args.store.now) (g.S.Store.gets c.get.new.self) (512 * (source.front + c.args.place))
    (length c.args.buf.now) (omega arith) c.requires gets.asked gets.unchanged c.in-Err.ensures.count
