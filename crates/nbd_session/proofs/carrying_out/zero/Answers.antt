use Rattle.std.proofs.Common.{[]}
use Rattle.std.proofs.lemmas.Result.{err_from_is_err_and}
use Rattle.nbd_session.specs.BlockDevice.{geometry_at}
use Rattle.nbd_session.proofs.CallLemmas.{may_be_zeroed, some_sectors, nothing_zeroed, zeroed, not_zeroed, entered_and_flushed}
use Rattle.nbd_session.proofs.carrying_out.zero.Goals as goal

-- the sectors are in range
pub zero-requires-clause-fits : goal.zero-requires-clause-fits
zero-requires-clause-fits g c =
    may_be_zeroed (geometry_at g.B.BlockDevice.io (g.B.BlockDevice.state c.args.device.now c.args.store.now))
    c.args.lba c.args.sectors (some_sectors c.args.sectors c.if-sectors-eq0.false) c.requires.fits

pub returns-then-sectors-eq0 : goal.returns-then-sectors-eq0
returns-then-sectors-eq0 g c =
    entered_and_flushed g.B.BlockDevice.io _ c.args.is_durable _ _ _ _
    (nothing_zeroed g.B.BlockDevice.io c.args.lba c.args.sectors _ c.if-sectors-eq0.true) c.flush_if.ensures

pub returns-in_err-zero : goal.returns-in_err-zero
returns-in_err-zero g c =
    let p = err_from_is_err_and c.from_residual.result c.from_residual.ensures.1 in
    rw (p.1, p.2) (
      [],
      not_zeroed g.B.BlockDevice.io c.args.lba c.args.sectors c.args.is_durable _ _ _ c.if-sectors-eq0.false
          c.in_err-zero.ensures.enters,
    )

pub returns : goal.returns
returns g c =
    entered_and_flushed g.B.BlockDevice.io _ c.args.is_durable _ _ _ _
    (zeroed g.B.BlockDevice.io c.args.lba c.args.sectors _ _ c.if-sectors-eq0.false c.in_ok-zero.ensures.enters)
    c.flush_if-2.ensures
