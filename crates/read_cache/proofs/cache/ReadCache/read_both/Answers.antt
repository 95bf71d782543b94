use Rattle.std.proofs.Common.{length}
use Rattle.std.proofs.lemmas.Result.{on_ok_weaker}
use Rattle.read_cache.proofs.AskLemmas.{adds_both}
use Rattle.read_cache.proofs.BlockLemmas.{told_together}
use Rattle.read_cache.proofs.cache.ReadCache.read_both.Goals as goal

pub returns-clause-bytes : goal.returns-clause-bytes
returns-clause-bytes g c =
    on_ok_weaker c.read_part-2.result
    (told_together c.args.from (length c.args.front.now) (length c.args.back.now) c.read_part.new.buf c.read_part-2.new.buf
    (g.R.Receipt.state c.args.receipt.now).told c.in_ok-read_part.ensures.bytes) c.read_part-2.ensures.bytes

pub returns-clause-asked : goal.returns-clause-asked
returns-clause-asked g c =
    adds_both (g.R.Receipt.state c.args.receipt.now) 65536 1 1 (g.S.Store.gets c.args.store.now)
    (g.S.Store.gets c.read_part.new.store) (g.S.Store.gets c.read_part-2.new.store) c.in_ok-read_part.ensures.asked
    c.read_part-2.ensures.asked
