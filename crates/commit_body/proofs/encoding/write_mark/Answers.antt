use Rattle.std.proofs.Common.{arith}
use Rattle.std.specs.Int.{w64, to_be_bytes}
use Rattle.commit_body.proofs.BodyLemmas.{written_after}
use Rattle.commit_body.proofs.encoding.write_mark.Goals as goal

pub returns : goal.returns
returns c =
    let position = to_be_bytes w64 c.args.mark.now.position in
    let seq = to_be_bytes w64 c.args.mark.now.seq in
    written_after c.args.at position seq c.args.sector.now c.write_u64.new.bytes c.write_u64-2.new.bytes
    (omega (arith, c.requires)) c.write_u64.ensures c.write_u64-2.ensures
