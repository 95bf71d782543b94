use Rattle.std.proofs.Common.{[], refl}
use Rattle.std.proofs.lemmas.Result.{err_from_is_err_and}
use Rattle.nbd_session.specs.BlockDevice.{geometry_at}
use Rattle.nbd_session.proofs.CallLemmas.{is_kept, nothing_written, written, not_written, entered_and_flushed, write_is_in_range}
use Rattle.nbd_session.proofs.carrying_out.write.Goals as goal

-- the data are in range
pub write-requires-clause-fits : goal.write-requires-clause-fits
write-requires-clause-fits g c =
    write_is_in_range (geometry_at g.B.BlockDevice.io (g.B.BlockDevice.state c.args.device.now c.args.store.now))
    c.args.lba c.args.body c.in-Some.body c.sectors.result c.in-Some.is c.sectors.ensures c.if-sectors-eq0.false c.requires.fits

pub returns-in_default : goal.returns-in_default
returns-in_default g c = λ content is. ([], (refl, g.met.B.BlockDevice.enters_nothing _))

pub returns-then-sectors-eq0 : goal.returns-then-sectors-eq0
returns-then-sectors-eq0 g c = λ content is.
    let kept = is_kept content c.args.body c.in-Some.body c.sectors.result c.in-Some.is is c.sectors.ensures in
    entered_and_flushed g.B.BlockDevice.io _ c.args.is_durable _ _ _ _
    (nothing_written g.B.BlockDevice.io c.args.lba content _ _ _ kept c.if-sectors-eq0.true) c.flush_if.ensures

pub returns-in_err-write : goal.returns-in_err-write
returns-in_err-write g c = λ content is.
    let p = err_from_is_err_and c.from_residual.result c.from_residual.ensures.1 in
    let kept = is_kept content c.args.body c.in-Some.body c.sectors.result c.in-Some.is is c.sectors.ensures in
    rw (p.1, p.2) (
      [],
      not_written g.B.BlockDevice.io c.args.lba content _ _ c.args.is_durable _ _ _ kept c.if-sectors-eq0.false
          c.in_err-write.ensures.enters,
    )

pub returns : goal.returns
returns g c = λ content is.
    let kept = is_kept content c.args.body c.in-Some.body c.sectors.result c.in-Some.is is c.sectors.ensures in
    entered_and_flushed g.B.BlockDevice.io _ c.args.is_durable _ _ _ _
    (written g.B.BlockDevice.io c.args.lba content _ _ _ _ kept c.if-sectors-eq0.false c.in_ok-write.ensures.enters)
    c.flush_if-2.ensures
