use Rattle.std.proofs.Common.{Err, ◌+◌, inl, sym, ap, subst, length}
use Rattle.object_recovery.specs.Checkpoints.{expected_of}
use Rattle.stopped_volume.specs.Store.{TellsBytes}
use Rattle.object_recovery.specs.Recovery.{RemovesAllPast, MayRemovePast}
use Rattle.object_recovery.proofs.FindLemmas.{passed_on}
use Rattle.object_recovery.proofs.RemovalLemmas.{becomes_both, becomes_so}
use Rattle.super_recovery.specs.Put.{PutsEpoch}
use Rattle.lsvd_fault.specs.Faults.{Counts}
use Rattle.vol_mount.specs.Epochs.{BeginsEpoch, MayBeginEpoch}
use Rattle.vol_mount.specs.Refusals.{of_super, IsFault, is_store_fault_of}
use Rattle.vol_mount.specs.Steps.{RefusesAlone}
use Rattle.vol_mount.proofs.RecoveryLemmas.{faults_refuse_none, why_faulted, why_lost_too, last_landed}
use Rattle.vol_mount.proofs.EpochLemmas.{put_faults, no_device_fault_of_put, put_counts, may_begin}
use Rattle.vol_mount.proofs.lost.begin_epoch.Goals as goal

-- ---- the list was not recovered

pub returns-in_err-objects-clause-err : goal.returns-in_err-objects-clause-err
returns-in_err-objects-clause-err g c =
    let old = (g.S.Store.state c.args.store.now).objects in
    let new = (g.S.Store.state c.recover_alone.new.store).objects in
    let Tells : Type 0 = TellsBytes g.S.Receipt.Receipt.state in
    let volume = expected_of c.args.volume.uuid c.args.volume.geometry (length c.args.volume.chain) in
    let refused = c.in_err-objects.ensures.err in
    passed_on (RefusesAlone Tells c.args.volume.uuid c.args.volume.geometry c.args.volume.chain c.args.volume.epoch
    (MayBeginEpoch Tells volume (c.args.volume.epoch + 1)) old new)
    c.from_residual.result c.in_err-objects.field-0.0 c.from_residual.ensures.1
    (record {
      why = refused.why;
      no_refusal = refused.no_refusal;
      store = refused.store;
      some =
          becomes_so (MayRemovePast Tells volume) (MayBeginEpoch Tells volume (c.args.volume.epoch + 1)) old new
          (λ a b is. inl is) refused.some;
      no_fault = refused.no_fault;
    })

-- ---- the epoch was not put

pub returns-in-Err-clause-err : goal.returns-in-Err-clause-err
returns-in-Err-clause-err g c =
    let old = (g.S.Store.state c.args.store.now).objects in
    let new = g.S.Store.state c.put_epoch.new.store in
    let error = of_super c.in-Err.error in
    let recovers = c.in_ok-objects.ensures.ok in
    let list = c.in_ok-objects.objects in
    let Tells : Type 0 = TellsBytes g.S.Receipt.Receipt.state in
    let fault : IsFault error = put_faults c.in-Err.error c.in-Err.ensures.answer in
    subst (RefusesAlone Tells c.args.volume.uuid c.args.volume.geometry c.args.volume.chain c.args.volume.epoch
    (MayBeginEpoch Tells (expected_of c.args.volume.uuid c.args.volume.geometry (length c.args.volume.chain))
    (c.args.volume.epoch + 1)) old new.objects) (sym
    c.into.ensures)
    (record {
      why = λ tells.
          why_lost_too error c.args.volume.uuid c.args.volume.geometry c.args.volume.chain c.args.volume.epoch old
          (why_faulted error c.args.volume.uuid c.args.volume.geometry c.args.volume.chain old fault);
      no_refusal = λ tells plain number stored. faults_refuse_none error fault;
      store = λ none. absurd (none fault);
      some =
          may_begin Tells c.args.volume.uuid c.args.volume.geometry c.args.volume.chain list.uploads.window.last
          (c.args.volume.epoch + 1)
          c.in-Err.error old
          (g.S.Store.state c.recover_alone.new.store) new
          (λ tells. last_landed c.args.volume.uuid c.args.volume.geometry c.args.volume.chain old list recovers.checkpoint
          recovers.low.last
          (recovers.told tells))
          c.in_ok-objects.ensures.removed c.in-Err.ensures.answer (λ same. c.in-Err.ensures.failed (ap Err same))
          (λ same. c.in-Err.ensures.unchanged (ap Err same));
      no_fault = no_device_fault_of_put c.in-Err.error;
    })

pub returns-in-Err-clause-faults : goal.returns-in-Err-clause-faults
returns-in-Err-clause-faults g c =
    subst (λ b. Counts b (g.S.Store.state c.args.store.now).faults (g.S.Store.state c.put_epoch.new.store).faults)
    (sym (ap is_store_fault_of c.into.ensures))
    (put_counts c.in-Err.error (g.S.Store.state c.args.store.now).faults
    (g.S.Store.state c.recover_alone.new.store).faults
    (g.S.Store.state c.put_epoch.new.store).faults c.in_ok-objects.ensures.faults c.in-Err.ensures.faults)

-- ---- it was put

pub returns-clause-begun : goal.returns-clause-begun
returns-clause-begun g c =
    let last = c.in_ok-objects.objects.uploads.window.last in
    becomes_both (RemovesAllPast c.args.volume.uuid last) (PutsEpoch c.args.volume.uuid (c.args.volume.epoch + 1))
    (BeginsEpoch c.args.volume.uuid last (c.args.volume.epoch + 1))
    (g.S.Store.state c.args.store.now).objects (g.S.Store.state c.recover_alone.new.store).objects
    (g.S.Store.state c.put_epoch.new.store).objects
    (λ old middle new removed put. (middle, removed, put)) c.in_ok-objects.ensures.removed c.in_default.ensures.ok
