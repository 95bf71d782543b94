use Rattle.object_recovery.proofs.EndLemmas.{front_refused}
use Rattle.object_recovery.proofs.reading.read_rest.Goals as goal

pub returns-in-Err-BadObject-clause-read : goal.returns-in-Err-BadObject-clause-read
returns-in-Err-BadObject-clause-read g c =
    front_refused (g.S.Receipt.Receipt.state c.args.receipt.now) c.args.expected.now c.args.bytes.now.items c.args.header.now _
    c.in-Err-BadObject.reason
    c.requires (rw c.in-Err-BadObject.field-0-is at c.in-Err-BadObject.ensures.bad)
