use Rattle.std.proofs.Common.{sym, ◌∙◌, arith}
use Rattle.nbd_wire.proofs.MessageLemmas.{is_request}
use Rattle.nbd_wire.proofs.decoding.request_of.Goals as goal

pub returns-clause-found : goal.returns-clause-found
returns-clause-found c =
    rw (c.read_u16.ensures, c.read_u16-2.ensures, c.read_u64.ensures, c.read_u64-2.ensures, c.read_u32-2.ensures)
    (is_request c.args.bytes.now c.requires (λ i. omega (arith, c.type_inv.bytes i))
    (sym c.read_u32.ensures ∙ c.if-read_u32-ne-REQUEST_MAGIC.false))
