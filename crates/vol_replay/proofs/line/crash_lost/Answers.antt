use Rattle.std.proofs.Common.{sym, ◌∙◌}
use Rattle.std.specs.Prelude.{IsTrue}
use Rattle.transcript.specs.Letters.{is_dash, fits_objects}
use Rattle.vol_replay.proofs.Commands.{fit_lost, unfit_word, unfit_lost, lost_in}
use Rattle.vol_replay.proofs.line.crash_lost.Goals as goal
use Rattle.vol_replay.proofs.line.crash_lost.Goals.{then-not-is_dash-via-then-not-is_dash}
use Rattle.vol_replay.proofs.line.crash_lost.Goals.{then-not-is_dash-via-else-not-is_dash+then-not-fits_objects}

pub returns-then-not-is_dash-clause-refused : goal.returns-then-not-is_dash-clause-refused
returns-then-not-is_dash-clause-refused c =
    let device = c.args.device.now in
    let objects = c.args.objects.now in
    elim c.then-not-is_dash.branch [
      | then-not-is_dash-via-then-not-is_dash w ↦
          unfit_word device objects c.args.rig (sym c.is_dash.ensures ∙ w.if-not-is_dash.true)
      | then-not-is_dash-via-else-not-is_dash+then-not-fits_objects w ↦
          unfit_lost device objects w.under_way.result c.args.rig (sym w.fits_objects.ensures ∙ w.if-not-fits_objects.true)
          w.under_way.ensures
    ]

pub returns-clause-ok : goal.returns-clause-ok
returns-clause-ok c =
    let device = c.args.device.now in
    let objects = c.args.objects.now in
    let dash : IsTrue (is_dash device) = sym c.is_dash.ensures ∙ c.if-not-is_dash.false in
    let puts : IsTrue (fits_objects c.under_way.result objects) = sym c.fits_objects.ensures ∙ c.if-not-fits_objects.false in
    record {
      by = lost_in device objects c.in_ok-crash_lost.field-0.1 c.args.rig c.in_ok-crash_lost.field-0.0
          (fit_lost device objects c.under_way.result c.args.rig dash puts c.under_way.ensures) c.in_ok-crash_lost.ensures.ok;
    }
