use Rattle.std.proofs.Common.{◌≡◌, ◌-◌, length, take, arith}
use Rattle.std.specs.Prelude.{min}
use Rattle.std.proofs.lemmas.List.{length-take-le}
use Rattle.std.proofs.lemmas.Result.{on_ok_weaker}
use Rattle.read_cache.proofs.AskLemmas.{adds_one}
use Rattle.read_cache.proofs.BlockLemmas.{counted, is_filled}
use Rattle.read_cache.proofs.block.fill.Goals as goal

pub returns-clause-filled : goal.returns-clause-filled
returns-clause-filled g c =
    let receipt = g.R.Receipt.state c.args.receipt.now in
    let count = c.min-count.result in
    let some = counted receipt.size c.len.result c.args.start count c.len.ensures c.min-count.ensures in
    on_ok_weaker c.get.result
    (is_filled receipt c.args.start count c.get.new.buf c.args.bytes.now c.requires.start some c.requires.block
    c.get.auto.buf (g.met.R.Receipt.told_whole c.args.receipt.now)) c.get.ensures.bytes

pub returns-clause-asked : goal.returns-clause-asked
returns-clause-asked g c =
    let receipt = g.R.Receipt.state c.args.receipt.now in
    let count = c.min-count.result in
    let bytes = c.args.bytes.now in
    let some : count ≡ min 65536 (receipt.size - c.args.start) =
    counted receipt.size c.len.result c.args.start count c.len.ensures c.min-count.ensures in
    let room = c.requires.block in
    let start = c.requires.start in
    let part : length (take count bytes) ≡ count = length-take-le count bytes (omega (arith, room, some)) in
    adds_one receipt 65536 c.args.start (length (take count bytes)) (g.S.Store.gets c.args.store.now)
    (g.S.Store.gets c.get.new.self) (omega (arith, part, some, start)) (omega (arith, part, some)) c.get.ensures.asked
