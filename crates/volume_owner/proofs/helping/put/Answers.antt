use Rattle.std.proofs.Common.{◌≡◌, ℕ, List, [], refl, sym, ap, subst, Err}
use Rattle.lsvd_fault.specs.Faults.{Counts}
use Rattle.lsvd_objstore.specs.declared.error.StoreError.{StoreError}
use Rattle.lsvd_objstore.specs.Store.{StoreState, has_failed}
use Rattle.object_uploads.specs.State.{JobState}
use Rattle.vol_core.specs.declared.event.Event.TheVariants as asks
use Rattle.vol_core.specs.Volume.{SteppedVolume}
use Rattle.volume_owner.specs.Calls.{IsCall}
use Rattle.volume_owner.specs.Errors.{is_eio, of_store}
use Rattle.volume_owner.specs.declared.error.OwnerError.TheVariants as errors
use Rattle.volume_owner.proofs.ActLemmas.{step_act, done_acts, failed_acts, no_want}
use Rattle.volume_owner.proofs.CallLemmas.{put_call, failed_put_call, store_no_range}
use Rattle.volume_owner.proofs.HelpLemmas.{done_makes, done_faults, done_leaves, done_puts}
use Rattle.volume_owner.proofs.HelpLemmas.{failed_makes, failed_faults, failed_idle}
use Rattle.volume_owner.proofs.TallyLemmas.{done_tally}
use Rattle.volume_owner.proofs.VictimLemmas.{makes_no_victim, step_needs}
use Rattle.volume_owner.proofs.helping.put.Goals as goal

pub returns-in-Ok : goal.returns-in-Ok
returns-in-Ok g c =
    let state = g.R.Receipt.state in
    let job : JobState = c.args.job in
    let reply = c.step.result in
    let old : SteppedVolume = c.args.volume.now in
    let new : SteppedVolume = c.step.new.self in
    let uuid : List ℕ = old.volume.objects.uploads.uuid in
    let taken = c.requires.job in
    let of = c.step.ensures in
    let plain = of.was.plain in
    let shows = of.was.shows in
    let receipt = c.in-Ok.receipt in
    let put = c.in-Ok.ensures in
    let named : (state receipt).name ≡ job.name = put.receipt.named in
    let first : StoreState = g.S.Store.state c.args.store.now in
    let second : StoreState = g.S.Store.state c.put.new.store in
    let left = done_leaves state job receipt reply old new of plain shows taken named in
    record {
      call =
          put_call state uuid job.name.number job.name job.bytes old new first second
          (done_acts state job job.name job.bytes reply old new first second taken refl refl receipt put.put
          (put.asked (λ is. cc)) put.count of)
          refl taken.named put.put put.count
          (done_makes state job receipt reply old new of plain shows taken named)
          (done_faults state job receipt reply old new of plain shows taken named);
      tally =
          done_tally state job reply old new first second receipt taken put.put (put.asked (λ is. cc)) put.count of;
      less = left.1;
      put = done_puts state job receipt reply old new of plain shows taken named;
      victims = step_needs state (asks.JobDone job receipt) reply old new (λ asked is. ap makes_no_victim is.1) of;
      error = λ range. cc;
      idle = left.0;
    }

pub returns-in-Err : goal.returns-in-Err
returns-in-Err g c =
    let state = g.R.Receipt.state in
    let job : JobState = c.args.job in
    let reply = c.step-in-Err.result in
    let old : SteppedVolume = c.args.volume.now in
    let new : SteppedVolume = c.step-in-Err.new.self in
    let uuid : List ℕ = old.volume.objects.uploads.uuid in
    let taken = c.requires.job in
    let of = c.step-in-Err.ensures in
    let plain = of.was.plain in
    let shows = of.was.shows in
    let error : StoreError = c.in-Err.error in
    let put = c.in-Err.ensures in
    let first : StoreState = g.S.Store.state c.args.store.now in
    let second : StoreState = g.S.Store.state c.put.new.store in
    let told = c.into.ensures in
    record {
      call =
          subst (λ e. IsCall state 1 [] (is_eio {T = Unit {0}} (Err e)) old new first second) (sym told)
          (failed_put_call state g.row.R.Denot error uuid job.name.number job.name job.bytes old new first second
          (λ is.
          failed_acts state job job.name job.bytes reply old new first second taken refl refl (put.failed (ap Err is))
          (put.asked (no_want error is))
          (subst (λ e. Counts (has_failed {T = g.row.R.Denot} (Err e)) first.faults second.faults) is put.count) of)
          (step_act state (asks.JobFailed job) reply [] old new first of tt refl) refl taken.named
          (λ is. put.failed (ap Err is)) (λ is. put.unchanged (ap Err is)) put.count
          (failed_makes state job reply old new of plain shows taken)
          (failed_faults state job reply old new of plain shows taken));
      tally = tt;
      less = tt;
      put = λ awaits. tt;
      victims = step_needs state (asks.JobFailed job) reply old new (λ asked is. ap makes_no_victim is.1) of;
      error = λ range. (let same : of_store error ≡ errors.Range = cc in store_no_range error same);
      idle = failed_idle state job reply old new of plain shows taken;
    }
