use Rattle.std.proofs.Common.{rules}
use Rattle.std.proofs.lemmas.Result.{err_from_is_err_and}
use Rattle.nbd_session.specs.BlockDevice.{geometry_at}
use Rattle.nbd_session.proofs.CallLemmas.{read_fits, nothing_read, not_read}
use Rattle.nbd_session.proofs.carrying_out.read.Goals as goal

-- there are some sectors, and they are in range
pub read-requires-clause-fits : goal.read-requires-clause-fits
read-requires-clause-fits g c =
    read_fits (geometry_at g.B.BlockDevice.io (g.B.BlockDevice.state c.args.device.now c.args.store.now)) c.args.lba
    c.args.sectors c.if-sectors-eq0.false c.requires.fits

pub returns-then-sectors-eq0 : goal.returns-then-sectors-eq0
returns-then-sectors-eq0 g c =
    nothing_read g.B.BlockDevice.io g.met.B.BlockDevice.reads_nothing c.args.lba c.args.sectors _ _ c.if-sectors-eq0.true
    (search rules)

pub returns-in_err-body : goal.returns-in_err-body
returns-in_err-body g c =
    let p = err_from_is_err_and c.from_residual.result c.from_residual.ensures.1 in
    rw (p.1, p.2) (not_read g.B.BlockDevice.io c.args.lba c.args.sectors _ _ _ c.in_err-body.ensures)
