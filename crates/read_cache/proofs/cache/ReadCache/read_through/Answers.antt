use Rattle.std.proofs.Common.{length, arith}
use Rattle.std.specs.Prelude.{max}
use Rattle.read_cache.proofs.AskLemmas.{adds_one, adds_fewer}
use Rattle.read_cache.proofs.cache.ReadCache.read_through.Goals as goal

pub returns-then-self-eq0-clause-asked : goal.returns-then-self-eq0-clause-asked
returns-then-self-eq0-clause-asked g c =
    let receipt = g.R.Receipt.state c.args.receipt.now in
    let most = max 65536 (length c.args.buf.now) in
    adds_fewer receipt most most 1 2 (g.S.Store.gets c.args.store.now) (g.S.Store.gets c.get.new.self) (omega arith) (omega arith)
    (adds_one receipt most c.args.from (length c.args.buf.now) (g.S.Store.gets c.args.store.now) (g.S.Store.gets c.get.new.self)
    c.requires (omega arith) c.get.ensures.asked)

pub returns-then-buf-ge-LONG_READ-clause-asked :
    goal.returns-then-buf-ge-LONG_READ-clause-asked
returns-then-buf-ge-LONG_READ-clause-asked g c =
    let receipt = g.R.Receipt.state c.args.receipt.now in
    let most = max 65536 (length c.args.buf.now) in
    let after = g.S.Store.gets c.get-then-buf-ge-LONG_READ.new.self in
    adds_fewer receipt most most 1 2 (g.S.Store.gets c.args.store.now) after (omega arith) (omega arith)
    (adds_one receipt most c.args.from (length c.args.buf.now) (g.S.Store.gets c.args.store.now) after c.requires (omega arith)
    c.get-then-buf-ge-LONG_READ.ensures.asked)
