use Rattle.std.proofs.Common.{sym, ◌∙◌, ap, length}
use Rattle.std.specs.Prelude.{IsTrue}
use Rattle.transcript.specs.Letters.{fits_writes, fits_objects}
use Rattle.vol_replay.proofs.Commands.{fit_kept, unfit_kept, unfit_writes, keep_in}
use Rattle.vol_replay.proofs.line.crash_keep.Goals as goal
use Rattle.vol_replay.proofs.line.crash_keep.Goals.{then-not-fits_writes-via-then-not-fits_writes}
use Rattle.vol_replay.proofs.line.crash_keep.Goals.{then-not-fits_writes-via-else-not-fits_writes+then-not-fits_objects}

pub returns-then-not-fits_writes-clause-refused : goal.returns-then-not-fits_writes-clause-refused
returns-then-not-fits_writes-clause-refused c =
    let device = c.args.device.now in
    let objects = c.args.objects.now in
    elim c.then-not-fits_writes.branch [
      | then-not-fits_writes-via-then-not-fits_writes w ↦
          unfit_writes device objects c.pending-pending.result c.args.rig (sym c.fits_writes.ensures
          ∙ w.if-not-fits_writes.true) c.pending-pending.ensures
      | then-not-fits_writes-via-else-not-fits_writes+then-not-fits_objects w ↦
          unfit_kept device objects w.under_way.result c.args.rig (sym w.fits_objects.ensures ∙ w.if-not-fits_objects.true)
          w.under_way.ensures
    ]

pub fates_of-requires : goal.fates_of-requires
fates_of-requires c = sym c.fits_writes.ensures ∙ c.if-not-fits_writes.false

pub crash_keep-requires-clause-fates : goal.crash_keep-requires-clause-fates
crash_keep-requires-clause-fates c = λ plain shown. ap length c.deref.ensures.value ∙ c.in-Ok.ensures.count
    ∙ c.pending-pending.ensures plain shown

pub returns-clause-ok : goal.returns-clause-ok
returns-clause-ok c =
    let device = c.args.device.now in
    let objects = c.args.objects.now in
    let writes : IsTrue (fits_writes c.pending-pending.result device) = sym c.fits_writes.ensures ∙ c.if-not-fits_writes.false in
    let puts : IsTrue (fits_objects c.under_way.result objects) = sym c.fits_objects.ensures ∙ c.if-not-fits_objects.false in
    let fit = fit_kept device objects c.pending-pending.result c.under_way.result c.args.rig writes puts
    c.pending-pending.ensures c.under_way.ensures in
    record {
      by = keep_in device objects c.deref.result.now c.pending-pending.result c.in_ok-crash_keep.field-0.1 c.args.rig
          c.in_ok-crash_keep.field-0.0
          fit c.pending-pending.ensures (c.deref.ensures.value ∙ c.in-Ok.ensures.fates) c.in_ok-crash_keep.ensures.ok;
    }
