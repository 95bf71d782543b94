use Rattle.std.proofs.Common.{arith, ◌≡◌, ℕ, ◌+◌, true, false, [], ap, subst, Err}
use Rattle.lsvd_objstore.specs.Store.{StoreState}
use Rattle.vol_core.specs.Volume.{SteppedVolume}
use Rattle.volume_owner.specs.Owner.{most_of_call}
use Rattle.volume_owner.specs.Calls.{IsCall}
use Rattle.volume_owner.specs.Clearing.{most_of_helps, most_of_removals}
use Rattle.volume_owner.specs.Collecting.{NeedsNoCopy}
use Rattle.volume_owner.specs.Errors.{is_eio}
use Rattle.volume_owner.specs.Helping.{work_of}
use Rattle.volume_owner.specs.declared.draining.Drained.{Drained}
use Rattle.volume_owner.specs.declared.error.OwnerError.{OwnerError}
use Rattle.volume_owner.specs.declared.error.OwnerError.TheVariants as errors
use Rattle.volume_owner.proofs.CallLemmas.{handed_on, none_answered, same_eio, drain_counted, drain_failed}
use Rattle.volume_owner.proofs.CallLemmas.{call_then, call_fewer}
use Rattle.volume_owner.proofs.LoopLemmas.{nothing_left, all_put_is_drained, cleared_call, clear_and_flush, drained_tally}
use Rattle.volume_owner.proofs.draining.drain.Goals as goal

pub put_checkpoint-requires : goal.put_checkpoint-requires
put_checkpoint-requires g c =
    let helped = c.in_ok-help_all.ensures in
    let left = nothing_left c.help_all.new.volume.volume helped.none in
    record {
      steps = (let made = helped.call.steps.steps in let few = c.requires.steps in omega (arith, made, few));
      idle = helped.idle;
      unsealed = left.0;
      none = left.1;
    }

pub remove_all-requires : goal.remove_all-requires
remove_all-requires g c =
    let put = c.in_ok-put_checkpoint.ensures in
    record {
      steps =
          (let made = c.in_ok-help_all.ensures.call.steps.steps in
          let more = put.call.steps.steps in
          let few = c.requires.steps in
          omega (arith, made, more, few));
      idle = put.idle;
      put = put.put;
    }

pub flush-requires : goal.flush-requires
flush-requires g c = record {
  steps =
      (let made = c.in_ok-help_all.ensures.call.steps.steps in
      let more = c.in_ok-put_checkpoint.ensures.call.steps.steps in
      let removed = c.in_ok-removed.ensures.call.steps.steps in
      let few = c.requires.steps in
      omega (arith, made, more, removed, few));
  idle = c.in_ok-removed.ensures.idle;
}

pub returns-in_err-help_all : goal.returns-in_err-help_all
returns-in_err-help_all g c =
    let state = g.R.Receipt.state in
    let old : SteppedVolume = c.args.volume.now in
    let new : SteppedVolume = c.help_all.new.volume in
    let first : StoreState = g.S.Store.state c.args.store.now in
    let second : StoreState = g.S.Store.state c.help_all.new.store in
    let error : OwnerError = c.in_err-help_all.field-0.0 in
    let helped = c.in_err-help_all.ensures in
    let result = c.from_residual.result in
    record {
      drain =
          drain_failed state result error old new first second (handed_on result error c.from_residual.ensures.1)
          (λ range. helped.error (ap Err range))
          (subst (λ b. IsCall state most_of_call [] b old new first second) (same_eio (Unit {0}) Drained error)
          (call_fewer state most_of_helps most_of_call [] (is_eio {T = Unit {0}} (Err error)) old new first second (omega arith)
          helped.call));
      victims = none_answered result error (work_of old.volume ≡ 0 → NeedsNoCopy old.volume → NeedsNoCopy new.volume)
          (handed_on result error c.from_residual.ensures.1);
      idle = helped.idle;
    }

pub returns-in_err-put_checkpoint : goal.returns-in_err-put_checkpoint
returns-in_err-put_checkpoint g c =
    let state = g.R.Receipt.state in
    let old : SteppedVolume = c.args.volume.now in
    let mid : SteppedVolume = c.help_all.new.volume in
    let new : SteppedVolume = c.put_checkpoint.new.volume in
    let first : StoreState = g.S.Store.state c.args.store.now in
    let second : StoreState = g.S.Store.state c.help_all.new.store in
    let third : StoreState = g.S.Store.state c.put_checkpoint.new.store in
    let error : OwnerError = c.in_err-put_checkpoint.field-0.0 in
    let failed = is_eio {T = Unit {0}} (Err error) in
    let put = c.in_err-put_checkpoint.ensures in
    let result = c.from_residual-in_err-put_checkpoint.result in
    record {
      drain =
          drain_failed state result error old new first third
          (handed_on result error c.from_residual-in_err-put_checkpoint.ensures.1) (λ range. put.error (ap Err range))
          (subst (λ b. IsCall state most_of_call [] b old new first third) (same_eio (Unit {0}) Drained error)
          (call_fewer state (most_of_helps + 4) most_of_call [] failed old new first third (omega arith)
          (call_then state most_of_helps 4 [] failed old mid new first second third c.in_ok-help_all.ensures.call put.call)));
      victims = none_answered result error (work_of old.volume ≡ 0 → NeedsNoCopy old.volume → NeedsNoCopy new.volume)
          (handed_on result error c.from_residual-in_err-put_checkpoint.ensures.1);
      idle = put.idle;
    }

pub returns-in_err-removed : goal.returns-in_err-removed
returns-in_err-removed g c =
    let state = g.R.Receipt.state in
    let old : SteppedVolume = c.args.volume.now in
    let mid : SteppedVolume = c.help_all.new.volume in
    let put : SteppedVolume = c.put_checkpoint.new.volume in
    let new : SteppedVolume = c.remove_all.new.volume in
    let first : StoreState = g.S.Store.state c.args.store.now in
    let second : StoreState = g.S.Store.state c.help_all.new.store in
    let third : StoreState = g.S.Store.state c.put_checkpoint.new.store in
    let fourth : StoreState = g.S.Store.state c.remove_all.new.store in
    let error : OwnerError = c.in_err-removed.field-0.0 in
    let failed = is_eio {T = ℕ} (Err error) in
    let removed = c.in_err-removed.ensures in
    let result = c.from_residual-in_err-removed.result in
    record {
      drain =
          drain_failed state result error old new first fourth
          (handed_on result error c.from_residual-in_err-removed.ensures.1) (λ range. removed.error (ap Err range))
          (subst (λ b. IsCall state most_of_call [] b old new first fourth) (same_eio ℕ Drained error)
          (cleared_call state most_of_removals failed old mid put new first second third fourth (omega arith)
          c.in_ok-help_all.ensures.call c.in_ok-put_checkpoint.ensures.call removed.call));
      victims = none_answered result error (work_of old.volume ≡ 0 → NeedsNoCopy old.volume → NeedsNoCopy new.volume)
          (handed_on result error c.from_residual-in_err-removed.ensures.1);
      idle = removed.idle;
    }

pub returns-in_err-entries : goal.returns-in_err-entries
returns-in_err-entries g c =
    let state = g.R.Receipt.state in
    let old : SteppedVolume = c.args.volume.now in
    let mid : SteppedVolume = c.help_all.new.volume in
    let put : SteppedVolume = c.put_checkpoint.new.volume in
    let clear : SteppedVolume = c.remove_all.new.volume in
    let new : SteppedVolume = c.flush.new.volume in
    let first : StoreState = g.S.Store.state c.args.store.now in
    let second : StoreState = g.S.Store.state c.help_all.new.store in
    let third : StoreState = g.S.Store.state c.put_checkpoint.new.store in
    let fourth : StoreState = g.S.Store.state c.remove_all.new.store in
    let flushed = c.in_err-entries.ensures.flush in
    let result = c.from_residual-in_err-entries.result in
    record {
      drain =
          drain_failed state result errors.Eio old new first fourth
          (handed_on result errors.Eio c.from_residual-in_err-entries.ensures.1) (λ range. cc)
          (cleared_call state (most_of_removals + 1) true old mid put new first second third fourth (omega arith)
          c.in_ok-help_all.ensures.call c.in_ok-put_checkpoint.ensures.call
          (clear_and_flush state true put clear new third fourth c.in_ok-removed.ensures.call flushed.step flushed.steps
          flushed.faults));
      victims = none_answered result errors.Eio (work_of old.volume ≡ 0 → NeedsNoCopy old.volume → NeedsNoCopy new.volume)
          (handed_on result errors.Eio c.from_residual-in_err-entries.ensures.1);
      idle = c.in_err-entries.ensures.idle;
    }

pub returns : goal.returns
returns g c =
    let state = g.R.Receipt.state in
    let old : SteppedVolume = c.args.volume.now in
    let mid : SteppedVolume = c.help_all.new.volume in
    let put : SteppedVolume = c.put_checkpoint.new.volume in
    let clear : SteppedVolume = c.remove_all.new.volume in
    let new : SteppedVolume = c.flush.new.volume in
    let first : StoreState = g.S.Store.state c.args.store.now in
    let second : StoreState = g.S.Store.state c.help_all.new.store in
    let third : StoreState = g.S.Store.state c.put_checkpoint.new.store in
    let fourth : StoreState = g.S.Store.state c.remove_all.new.store in
    let helped = c.in_ok-help_all.ensures in
    let sealed = c.in_ok-put_checkpoint.ensures in
    let flushed = c.in_ok-entries.ensures.flush in
    let removed = c.in_ok-removed.ensures in
    record {
      drain =
          drain_counted state _ old new first fourth
          (cleared_call state (most_of_removals + 1) false old mid put new first second third fourth (omega arith)
          c.in_ok-help_all.ensures.call c.in_ok-put_checkpoint.ensures.call
          (clear_and_flush state false put clear new third fourth removed.call flushed.step flushed.steps flushed.faults))
          flushed.count
          (drained_tally state c.in_ok-removed.removed old mid put clear new first second third fourth helped.tally sealed.tally
          removed.removed flushed.step)
          removed.few
          (all_put_is_drained new.volume (c.in_ok-entries.ensures.put removed.put) (c.in_ok-entries.ensures.none removed.none)
          flushed.durable);
      victims = λ none needs. c.in_ok-entries.ensures.victims (removed.victims (sealed.victims (helped.victims none needs)));
      idle = c.in_ok-entries.ensures.idle;
    }
