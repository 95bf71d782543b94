use Rattle.std.proofs.Common.{rules}
use Rattle.object_recovery.proofs.CheckpointLemmas.{other_kind}
use Rattle.object_recovery.proofs.checkpoint.bytes_of_checkpoint.Goals as goal

pub returns-then-ne-clause-bytes : goal.returns-then-ne-clause-bytes
returns-then-ne-clause-bytes g c =
    other_kind (g.S.Receipt.Receipt.state c.args.receipt.now) c.args.expected.now c.read_head.new.bytes.items c.in-Ok.header
    c.in-Ok.ensures.ok (search rules)
