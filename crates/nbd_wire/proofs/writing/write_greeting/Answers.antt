use Rattle.nbd_wire.proofs.WritingLemmas.{whole_front, tells_fault}
use Rattle.nbd_wire.proofs.writing.write_greeting.Goals as goal

pub returns-in_err-write_all-clause-bytes : goal.returns-in_err-write_all-clause-bytes
returns-in_err-write_all-clause-bytes g c =
    tells_fault c.from_residual.result _ _ _ c.from_residual.ensures.1 (whole_front _ _ _ c.in_err-write_all.ensures.front)
