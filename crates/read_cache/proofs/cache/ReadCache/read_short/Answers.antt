use Rattle.std.proofs.Common.{length, arith}
use Rattle.read_cache.proofs.AskLemmas.{adds_one, adds_fewer}
use Rattle.read_cache.proofs.cache.ReadCache.read_short.Goals as goal

pub returns-then-eq-2-clause-asked : goal.returns-then-eq-2-clause-asked
returns-then-eq-2-clause-asked g c =
    let receipt = g.R.Receipt.state c.args.receipt.now in
    let after = g.S.Store.gets c.get.new.self in
    adds_fewer receipt 65536 65536 1 2 (g.S.Store.gets c.args.store.now) after (omega arith) (omega arith)
    (adds_one receipt 65536 c.args.from (length c.args.buf.now) (g.S.Store.gets c.args.store.now) after c.requires.object
    c.requires.blocks c.get.ensures.asked)
