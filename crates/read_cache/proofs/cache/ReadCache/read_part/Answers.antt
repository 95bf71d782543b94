use Rattle.std.proofs.Common.{length, arith}
use Rattle.read_cache.proofs.AskLemmas.{adds_one}
use Rattle.read_cache.proofs.cache.ReadCache.read_part.Goals as goal

pub returns-then-eq-clause-asked : goal.returns-then-eq-clause-asked
returns-then-eq-clause-asked g c =
    let block = c.requires.block in
    adds_one (g.R.Receipt.state c.args.receipt.now) 65536 c.args.from (length c.args.buf.now) (g.S.Store.gets c.args.store.now)
    (g.S.Store.gets c.get.new.self) c.requires.object (omega (arith, block)) c.get.ensures.asked

pub returns-in_default-clause-asked : goal.returns-in_default-clause-asked
returns-in_default-clause-asked g c =
    let block = c.requires.block in
    let object = c.requires.object in
    let size = c.give.auto.buf in
    adds_one (g.R.Receipt.state c.args.receipt.now) 65536 c.args.from (length c.give.new.buf) (g.S.Store.gets c.args.store.now)
    (g.S.Store.gets c.get-in_default.new.self) (omega (arith, object, size)) (omega (arith, block, size))
    c.get-in_default.ensures.asked
