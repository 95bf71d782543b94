use Rattle.std.proofs.Common.{arith}
use Rattle.nbd_wire.proofs.MessageLemmas.{is_option_head}
use Rattle.nbd_wire.proofs.decoding.option_head_of.Goals as goal

pub returns-clause-found : goal.returns-clause-found
returns-clause-found c =
    rw (c.read_u32.ensures, c.read_u32-2.ensures)
    (is_option_head c.args.bytes.now c.requires (λ i. omega (arith, c.type_inv.bytes i))
    (c.has_option_magic.ensures.0 c.if-not-has_option_magic.false))
