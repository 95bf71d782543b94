use Rattle.nbd_wire.proofs.WritingLemmas.{writes_front, writes_front_after, tells_fault}
use Rattle.nbd_wire.proofs.writing.write_both.Goals as goal

pub returns-in_err-write_all-clause-bytes : goal.returns-in_err-write_all-clause-bytes
returns-in_err-write_all-clause-bytes g c =
    tells_fault c.from_residual.result _ _ _ c.from_residual.ensures.1 (writes_front _ _ _ _ c.in_err-write_all.ensures.front)

pub returns-in_err-write_all-2-clause-bytes : goal.returns-in_err-write_all-2-clause-bytes
returns-in_err-write_all-2-clause-bytes g c =
    tells_fault c.from_residual-in_err-write_all-2.result _ _ _ c.from_residual-in_err-write_all-2.ensures.1
    (writes_front_after _ _ _ _ _ c.in_ok-write_all.ensures.ok c.in_err-write_all-2.ensures.front)
