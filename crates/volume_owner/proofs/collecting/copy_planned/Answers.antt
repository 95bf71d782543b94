use Rattle.std.proofs.Common.{arith, ◌≡◌, false, [], sym, subst, Err}
use Rattle.std.specs.Prelude.{Result, IfOk}
use Rattle.std.proofs.lemmas.Result.{IfOk-weaker}
use Rattle.lsvd_fault.specs.Faults.{Counts}
use Rattle.lsvd_objstore.specs.Store.{StoreState}
use Rattle.gc_copier.specs.declared.error.CopyError.{CopyError}
use Rattle.gc_copier.specs.Copying.{CopiedState, IsCopyOf, has_failed}
use Rattle.vol_core.specs.Volume.{SteppedVolume}
use Rattle.volume_owner.specs.declared.collecting.Turn.{Turn}
use Rattle.volume_owner.specs.declared.error.OwnerError.TheVariants as errors
use Rattle.volume_owner.specs.Acts.{moment_of}
use Rattle.volume_owner.specs.Tally.{IsTally}
use Rattle.volume_owner.specs.Calls.{IsCall}
use Rattle.volume_owner.specs.Collecting.{copied_in}
use Rattle.volume_owner.specs.Errors.{is_eio, of_copy}
use Rattle.volume_owner.proofs.CallLemmas.{memory_alone, memory_no_range}
use Rattle.volume_owner.proofs.StepLemmas.{makes_fewer}
use Rattle.volume_owner.proofs.TallyLemmas.{tally_after, get_tally}
use Rattle.volume_owner.proofs.CollectLemmas.{got_then, copy_eio, copy_no_range, is_planned}
use Rattle.volume_owner.proofs.collecting.copy_planned.Goals as goal

pub seal_copied-requires : goal.seal_copied-requires
seal_copied-requires g c =
    let of = subst (λ (r : Result CopiedState CopyError). IfOk r (IsCopyOf c.args.plan)) c.in-Ok.is
    c.copy-result.ensures.copied in
    record {
      steps = c.requires.steps;
      idle = c.requires.idle;
      planned = is_planned c.args.volume.now.volume.plan c.args.plan c.in-Ok.copied c.requires.planned of;
    }

pub returns-in-Ok : goal.returns-in-Ok
returns-in-Ok g c =
    let state = g.R.Receipt.state in
    let old : SteppedVolume = c.args.volume.now in
    let last : SteppedVolume = c.seal_copied.new.volume in
    let first : StoreState = g.S.Store.state c.args.store.now in
    let second : StoreState = g.S.Store.state c.copy-result.new.store in
    let asks = c.copy-result.ensures.asks in
    let sealed = c.seal_copied.ensures in
    let counts = subst (λ (r : Result CopiedState CopyError). Counts (has_failed r) first.faults second.faults) c.in-Ok.is
    asks.count in
    record {
      call = subst (λ b. IsCall state 2 [] b old last first second) (sym (memory_alone c.seal_copied.result sealed.error))
          (got_then state 2 false old last first second asks.unchanged counts (sealed.acts second) sealed.steps sealed.faults);
      tally = IfOk-weaker c.seal_copied.result
          (λ t. (store : StoreState) → IsTally state (copied_in t) 0 (moment_of old store) (moment_of last store))
          (λ t. IsTally state (copied_in t) 0 (moment_of old first) (moment_of last second))
          (λ t tally.
          tally_after state (copied_in t) 0 (moment_of old first) (moment_of old second) (moment_of last second)
          (get_tally state false old first second asks.unchanged counts) (tally second))
          sealed.tally;
      none = sealed.none;
      ends = sealed.ends;
      error = memory_no_range c.seal_copied.result sealed.error;
      idle = sealed.idle;
    }

pub returns-in-Err : goal.returns-in-Err
returns-in-Err g c =
    let state = g.R.Receipt.state in
    let old : SteppedVolume = c.args.volume.now in
    let last : SteppedVolume = c.give_up.new.volume in
    let first : StoreState = g.S.Store.state c.args.store.now in
    let second : StoreState = g.S.Store.state c.copy-result.new.store in
    let asks = c.copy-result.ensures.asks in
    let error : CopyError = c.in-Err.error in
    let gave = c.give_up.ensures in
    let counts = subst (λ (r : Result CopiedState CopyError). Counts (has_failed r) first.faults second.faults) c.in-Err.is
    asks.count in
    let told = c.into.ensures in
    record {
      call =
          subst (λ e. IsCall state 2 [] (is_eio {T = Turn} (Err e)) old last first second) (sym told)
          (subst (λ b. IsCall state 2 [] b old last first second) (sym (copy_eio Turn CopiedState error))
          (got_then state 2 (has_failed {T = CopiedState} (Err error)) old last first second asks.unchanged counts
          (gave.acts second) (makes_fewer 1 2 [] old last (omega arith) gave.steps) gave.faults));
      tally = tt;
      none = gave.none;
      ends = λ plain shows. gave.gives_up plain shows;
      error = λ range. (let same : of_copy error ≡ errors.Range = cc in copy_no_range error same);
      idle = gave.idle;
    }
