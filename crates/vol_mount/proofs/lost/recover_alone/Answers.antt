use Rattle.std.proofs.Common.{◌≡◌, ◌<◌, ◌∷◌, [], refl, sym, subst, arith, length}
use Rattle.lsvd_objstore.specs.Store.{Becomes}
use Rattle.obj_log.specs.State.{ObjLogState}
use Rattle.vol_core.specs.Shows.{max_number}
use Rattle.object_recovery.specs.Checkpoints.{expected_of}
use Rattle.stopped_volume.specs.Store.{TellsBytes}
use Rattle.object_recovery.specs.Removal.{Removes}
use Rattle.object_recovery.specs.Recovery.{IsPastOf, MayRemovePast}
use Rattle.object_recovery.proofs.FindLemmas.{passed_on}
use Rattle.vol_mount.specs.Refusals.{of_recovery, IsFirstGreat, IsFault, HasExtent}
use Rattle.vol_mount.specs.Steps.{AreLow, RecoversAlone, RefusesAlone}
use Rattle.vol_mount.proofs.StoreLemmas.{same_objects, becomes_from, may_leave_same, may_leave_less}
use Rattle.vol_mount.proofs.ExtentLemmas.{extent_of}
use Rattle.vol_mount.proofs.RecoveryLemmas.{why_lost_too, removal_faults, faults_refuse_none, why_faulted, no_device_fault}
use Rattle.vol_mount.proofs.RecoveryLemmas.{last_landed, good_objects, good_up_to, counts_on}
use Rattle.vol_mount.proofs.lost.recover_alone.Given as given
use Rattle.vol_mount.proofs.lost.recover_alone.Goals.{After-greatest_number, In_default}
use Rattle.vol_mount.proofs.lost.recover_alone.Goals as goal

-- ---- the list was not recovered

pub returns-in_err-recovered-clause-err : goal.returns-in_err-recovered-clause-err
returns-in_err-recovered-clause-err g c =
    let old = g.S.Store.state c.args.store.now in
    let new = g.S.Store.state c.recover_list.new.store in
    let error = c.in_err-recovered.field-0.0 in
    let Tells : Type 0 = TellsBytes g.S.Receipt.Receipt.state in
    let same = same_objects old new c.in_err-recovered.ensures.unchanged in
    passed_on (RefusesAlone Tells c.args.volume.uuid c.args.volume.geometry c.args.volume.chain c.args.volume.epoch
    (MayRemovePast Tells (expected_of c.args.volume.uuid c.args.volume.geometry
    (length c.args.volume.chain))) old.objects new.objects) c.from_residual.result
    error
    c.from_residual.ensures.1
    (record {
      why = λ tells.
          why_lost_too error c.args.volume.uuid c.args.volume.geometry c.args.volume.chain c.args.volume.epoch old.objects
          (c.in_err-recovered.ensures.why tells);
      no_refusal = c.in_err-recovered.ensures.no_refusal;
      store = λ none. same;
      some = may_leave_same Tells c.args.volume.uuid c.args.volume.geometry c.args.volume.chain old.objects new.objects same;
      no_fault = c.in_err-recovered.ensures.no_fault;
    })

-- ---- the volume is worn out, or not

end_is : (g : given.Over) (c : After-greatest_number g) → c.end-end.result ≡ c.in_ok-recovered.recovered.log.uploads.queue.end
end_is g c = cc (c.end-end.ensures, c.uploads.ensures, c.log.ensures)

extent : (g : given.Over) (c : After-greatest_number g) → TellsBytes g.S.Receipt.Receipt.state
    → HasExtent c.args.volume.uuid c.args.volume.geometry c.args.volume.chain
    (g.S.Store.state c.args.store.now).objects c.greatest_number.result
    c.in_ok-recovered.recovered.log.uploads.queue.end
extent g c tells =
    extent_of c.args.volume.uuid c.args.volume.geometry c.args.volume.chain
    (g.S.Store.state c.args.store.now).objects c.in_ok-recovered.recovered
    c.greatest_number.result c.in_ok-recovered.ensures.list (c.in_ok-recovered.ensures.told tells)
    c.in_ok-recovered.ensures.has_names c.greatest_number.ensures

pub returns-in-Some-clause-err : goal.returns-in-Some-clause-err
returns-in-Some-clause-err g c =
    let old = g.S.Store.state c.args.store.now in
    let new = g.S.Store.state c.recover_list.new.store in
    let recovered = c.in_ok-recovered.recovered in
    let greatest = c.greatest_number.result in
    let at = (goal.at.returns-in-Some-clause-err g c).After-greatest_number in
    let same = same_objects old new c.in_ok-recovered.ensures.unchanged in
    record {
      why = λ tells. (
        greatest,
        recovered.log.uploads.queue.end,
        subst (λ end. IsFirstGreat (c.args.volume.epoch ∷ greatest ∷ end ∷ []) c.in-Some.value) (end_is g at)
            c.in-Some.ensures.some,
        extent g at tells,
        good_objects c.args.volume.uuid c.args.volume.geometry c.args.volume.chain old.objects recovered.log recovered.checkpoint
            c.in_ok-recovered.ensures.list
            (c.in_ok-recovered.ensures.told tells),
      );
      no_refusal = λ tells plain number stored. refl;
      store = λ none. same;
      some = may_leave_same
          (TellsBytes g.S.Receipt.Receipt.state) c.args.volume.uuid c.args.volume.geometry c.args.volume.chain old.objects
          new.objects same;
      no_fault = refl;
    }

-- its numbers are low
list_low : (g : given.Over) (c : In_default g) → AreLow c.args.volume.epoch c.in_ok-recovered.recovered.log
list_low g c =
    let low = c.in_default.ensures.none in
    let epoch : c.args.volume.epoch < max_number = low 0 0 (omega arith) in
    let greatest : c.greatest_number.result < max_number = low 1 0 (omega arith) in
    let end : c.end-end.result < max_number = low 2 0 (omega arith) in
    let less = c.greatest_number.ensures.no_less in
    let same : c.end-end.result ≡ c.in_ok-recovered.recovered.log.uploads.queue.end =
    cc (c.end-end.ensures, c.uploads.ensures, c.log.ensures) in
    record {
      epoch_low = epoch;
      last = omega (arith, greatest, less);
      end = subst (λ n. n < max_number) same end;
    }

-- ---- the removal failed

pub returns-in-Err-clause-err : goal.returns-in-Err-clause-err
returns-in-Err-clause-err g c =
    let old = g.S.Store.state c.args.store.now in
    let middle = g.S.Store.state c.recover_list.new.store in
    let new = g.S.Store.state c.remove_past.new.store in
    let error = of_recovery c.in-Err.error in
    let list = c.in_ok-recovered.recovered.log in
    let last = list.uploads.window.last in
    let Tells : Type 0 = TellsBytes g.S.Receipt.Receipt.state in
    let fault : IsFault error = removal_faults c.in-Err.error c.in-Err.ensures.answer in
    let some =
    subst (λ uuid. Becomes (Removes (IsPastOf uuid last)) middle.objects new.objects) c.in_ok-recovered.ensures.list.list.uuid_is
    c.in-Err.ensures.some in
    subst (RefusesAlone Tells c.args.volume.uuid c.args.volume.geometry c.args.volume.chain c.args.volume.epoch
    (MayRemovePast Tells (expected_of c.args.volume.uuid c.args.volume.geometry
    (length c.args.volume.chain))) old.objects new.objects) (sym c.into.ensures)
    (record {
      why = λ tells.
          why_lost_too error c.args.volume.uuid c.args.volume.geometry c.args.volume.chain c.args.volume.epoch old.objects
          (why_faulted error c.args.volume.uuid c.args.volume.geometry c.args.volume.chain old.objects fault);
      no_refusal = λ tells plain number stored. faults_refuse_none error fault;
      store = λ none. absurd (none fault);
      some =
          may_leave_less Tells c.args.volume.uuid c.args.volume.geometry c.args.volume.chain last old.objects new.objects
          (λ tells. last_landed c.args.volume.uuid c.args.volume.geometry c.args.volume.chain old.objects list
          c.in_ok-recovered.recovered.checkpoint
          (list_low g (goal.at.returns-in-Err-clause-err g c).In_default).last (c.in_ok-recovered.ensures.told tells))
          (becomes_from (Removes (IsPastOf c.args.volume.uuid last)) old.objects middle.objects new.objects
          (same_objects old middle c.in_ok-recovered.ensures.unchanged) some);
      no_fault = no_device_fault c.in-Err.error;
    })

pub returns-in-Err-clause-faults : goal.returns-in-Err-clause-faults
returns-in-Err-clause-faults g c =
    counts_on c.into.result c.in-Err.error (g.S.Store.state c.args.store.now).faults
    (g.S.Store.state c.recover_list.new.store).faults (g.S.Store.state c.remove_past.new.store).faults
    c.into.ensures
    c.in_ok-recovered.ensures.faults c.in-Err.ensures.faults

-- ---- they were removed

pub returns-clause-ok : goal.returns-clause-ok
returns-clause-ok g c =
    let told = (g.S.Store.state c.args.store.now).objects in
    let recovered = c.in_ok-recovered.recovered in
    let list : ObjLogState = recovered.log in
    let at = goal.at.returns-clause-ok g c in
    let low = list_low g at.In_default in
    let numbers = c.in_default.ensures.none in
    let greatest : c.greatest_number.result < max_number = numbers 1 0 (omega arith) in
    subst (RecoversAlone (TellsBytes g.S.Receipt.Receipt.state) c.args.volume.uuid c.args.volume.geometry c.args.volume.chain
    c.args.volume.epoch told)
    (sym c.into_log.ensures)
    (record {
      checkpoint = recovered.checkpoint;
      list = c.in_ok-recovered.ensures.list;
      low = low;
      told = c.in_ok-recovered.ensures.told;
      passes = λ tells. record {
        good =
            good_up_to c.args.volume.uuid c.args.volume.geometry c.args.volume.chain told list recovered.checkpoint low.last
            c.in_ok-recovered.ensures.list
            (c.in_ok-recovered.ensures.told tells);
        greatest = c.greatest_number.result;
        extent = extent g at.After-greatest_number tells;
        low = (low.epoch_low, (greatest, (low.end, tt)));
      };
    })
