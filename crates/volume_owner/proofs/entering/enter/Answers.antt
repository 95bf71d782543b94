use Rattle.std.proofs.Common.{arith, ℕ, ◌<◌, Bool, true, false, [], ◌∷◌, refl, ◌∙◌, ap, subst, Err}
use Rattle.lsvd_base.specs.declared.entry.Entry.{Entry}
use Rattle.lsvd_base.specs.Range.{is_in_range}
use Rattle.lsvd_objstore.specs.Store.{StoreState}
use Rattle.vol_core.specs.Volume.{SteppedVolume}
use Rattle.volume_owner.specs.Owner.{most_of_call}
use Rattle.volume_owner.specs.Calls.{IsCall}
use Rattle.volume_owner.specs.Errors.{is_eio}
use Rattle.volume_owner.specs.Helping.{work_of}
use Rattle.volume_owner.specs.declared.error.OwnerError.{OwnerError}
use Rattle.volume_owner.specs.declared.error.OwnerError.TheVariants as errors
use Rattle.volume_owner.proofs.CallLemmas.{handed_on, same_eio, told_of_sizes, enter_refused, enter_counted, enter_failed}
use Rattle.volume_owner.proofs.LoopLemmas.{helped_first, helped_some, helped_few, helped_ends_call, helped_more}
use Rattle.volume_owner.proofs.LoopLemmas.{one_attempt, attempt_and_help}
use Rattle.volume_owner.proofs.entering.enter.Goals as goal

pub returns-then-not-in_range : goal.returns-then-not-in_range
returns-then-not-in_range g c =
    let entry : Entry = c.args.entry in
    let old : SteppedVolume = c.args.volume.now in
    let first : StoreState = g.S.Store.state c.args.store.now in
    let outside = told_of_sizes (λ sizes. is_in_range sizes entry) old.volume.objects.batch.geometry c.geometry.result
    c.in_range.result false c.geometry.ensures.is c.in_range.ensures c.if-not-in_range.true in
    record { enter = enter_refused g.R.Receipt.state entry old first outside; idle = c.requires.idle }

pub loop-count-init : goal.loop-count-init
loop-count-init g c =
    (refl, helped_first g.R.Receipt.state c.args.volume.now (g.S.Store.state c.args.store.now) c.requires.idle)

pub try_entry-requires-clause-steps : goal.try_entry-requires-clause-steps
try_entry-requires-clause-steps g c =
    let old : SteppedVolume = c.args.volume.now in
    let now : SteppedVolume = c.loop-count.volume in
    let first : StoreState = g.S.Store.state c.args.store.now in
    let second : StoreState = g.S.Store.state c.loop-count.store in
    let few = helped_few g.R.Receipt.state old now first second c.loop-count.invariant.1 c.requires.steps in
    omega (arith, few)

pub help-requires-clause-steps : goal.help-requires-clause-steps
help-requires-clause-steps g c =
    let old : SteppedVolume = c.args.volume.now in
    let now : SteppedVolume = c.loop-count.volume in
    let first : StoreState = g.S.Store.state c.args.store.now in
    let second : StoreState = g.S.Store.state c.loop-count.store in
    let few = helped_few g.R.Receipt.state old now first second c.loop-count.invariant.1 c.requires.steps in
    let one = c.in-Again.ensures.steps.steps in
    omega (arith, few, one)

pub returns-in-Entered : goal.returns-in-Entered
returns-in-Entered g c =
    let state = g.R.Receipt.state in
    let entry : Entry = c.args.entry in
    let left : Entry = c.loop-count.left in
    let count : ℕ = c.in-Entered.count in
    let old : SteppedVolume = c.args.volume.now in
    let now : SteppedVolume = c.loop-count.volume in
    let new : SteppedVolume = c.try_entry.new.volume in
    let first : StoreState = g.S.Store.state c.args.store.now in
    let second : StoreState = g.S.Store.state c.loop-count.store in
    let inside = told_of_sizes (λ sizes. is_in_range sizes entry) old.volume.objects.batch.geometry c.geometry.result
    c.in_range.result true c.geometry.ensures.is c.in_range.ensures c.if-not-in_range.false in
    let is = c.in-Entered.ensures in
    let call =
    subst (λ e. IsCall state most_of_call (e ∷ []) false old new first second) c.loop-count.invariant.0
    (helped_ends_call state old now first second c.loop-count.invariant.1 (left ∷ []) false new second is.work
    (one_attempt state left (left ∷ []) false now new second is.step is.steps is.faults)) in
    record {
      enter = enter_counted state entry count old new first second inside call (is.count count refl);
      idle = is.idle;
    }

pub returns-in-Failed : goal.returns-in-Failed
returns-in-Failed g c =
    let state = g.R.Receipt.state in
    let entry : Entry = c.args.entry in
    let old : SteppedVolume = c.args.volume.now in
    let now : SteppedVolume = c.loop-count.volume in
    let new : SteppedVolume = c.try_entry.new.volume in
    let first : StoreState = g.S.Store.state c.args.store.now in
    let second : StoreState = g.S.Store.state c.loop-count.store in
    let inside = told_of_sizes (λ sizes. is_in_range sizes entry) old.volume.objects.batch.geometry c.geometry.result
    c.in_range.result true c.geometry.ensures.is c.in_range.ensures c.if-not-in_range.false in
    let is = c.in-Failed.ensures in
    record {
      enter =
          enter_failed state entry (Err errors.Eio) errors.Eio old new first second refl (λ range. cc) inside
          (helped_ends_call state old now first second c.loop-count.invariant.1 [] true new second is.work
          (one_attempt state c.loop-count.left [] true now new second is.step is.steps is.faults));
      idle = is.idle;
    }

pub returns-in-OutOfMemory : goal.returns-in-OutOfMemory
returns-in-OutOfMemory g c =
    let state = g.R.Receipt.state in
    let entry : Entry = c.args.entry in
    let old : SteppedVolume = c.args.volume.now in
    let now : SteppedVolume = c.loop-count.volume in
    let new : SteppedVolume = c.try_entry.new.volume in
    let first : StoreState = g.S.Store.state c.args.store.now in
    let second : StoreState = g.S.Store.state c.loop-count.store in
    let inside = told_of_sizes (λ sizes. is_in_range sizes entry) old.volume.objects.batch.geometry c.geometry.result
    c.in_range.result true c.geometry.ensures.is c.in_range.ensures c.if-not-in_range.false in
    let is = c.in-OutOfMemory.ensures in
    record {
      enter =
          enter_failed state entry (Err errors.OutOfMemory) errors.OutOfMemory old new first second refl (λ range. cc) inside
          (helped_ends_call state old now first second c.loop-count.invariant.1 [] false new second is.work
          (one_attempt state c.loop-count.left [] false now new second is.step is.steps is.faults));
      idle = is.idle;
    }

pub loop-count-smaller : goal.loop-count-smaller
loop-count-smaller g c =
    let now : SteppedVolume = c.loop-count.volume in
    let mid : SteppedVolume = c.try_entry.new.volume in
    let new : SteppedVolume = c.help.new.volume in
    let back = c.in-Again.ensures.back in
    let lower = helped_some c.in_ok-help.field-0 mid.volume new.volume back.1 c.in_ok-help.ensures.less in
    let less : work_of new.volume < work_of now.volume = subst (λ n. work_of new.volume < n) back.2 lower in
    less

pub loop-count-preserved : goal.loop-count-preserved
loop-count-preserved g c =
    let old : SteppedVolume = c.args.volume.now in
    let now : SteppedVolume = c.loop-count.volume in
    let mid : SteppedVolume = c.try_entry.new.volume in
    let new : SteppedVolume = c.help.new.volume in
    let first : StoreState = g.S.Store.state c.args.store.now in
    let second : StoreState = g.S.Store.state c.loop-count.store in
    let third : StoreState = g.S.Store.state c.help.new.store in
    let back = c.in-Again.ensures.back in
    let lower = helped_some c.in_ok-help.field-0 mid.volume new.volume back.1 c.in_ok-help.ensures.less in
    let less : work_of new.volume < work_of now.volume = subst (λ n. work_of new.volume < n) back.2 lower in (
      back.0 ∙ c.loop-count.invariant.0,
      helped_more g.R.Receipt.state old now first second c.loop-count.invariant.1 new third c.in-Again.ensures.work
          (attempt_and_help g.R.Receipt.state c.loop-count.left false now mid new second third c.in-Again.ensures.step
          c.in-Again.ensures.steps c.in-Again.ensures.faults c.in_ok-help.ensures.help)
          less c.in_ok-help.ensures.idle,
    )

pub returns-in_err-help : goal.returns-in_err-help
returns-in_err-help g c =
    let state = g.R.Receipt.state in
    let entry : Entry = c.args.entry in
    let old : SteppedVolume = c.args.volume.now in
    let now : SteppedVolume = c.loop-count.volume in
    let mid : SteppedVolume = c.try_entry.new.volume in
    let new : SteppedVolume = c.help.new.volume in
    let first : StoreState = g.S.Store.state c.args.store.now in
    let second : StoreState = g.S.Store.state c.loop-count.store in
    let third : StoreState = g.S.Store.state c.help.new.store in
    let error : OwnerError = c.in_err-help.field-0.0 in
    let failed = is_eio {T = Bool} (Err error) in
    let inside = told_of_sizes (λ sizes. is_in_range sizes entry) old.volume.objects.batch.geometry c.geometry.result
    c.in_range.result true c.geometry.ensures.is c.in_range.ensures c.if-not-in_range.false in
    let tried = c.in-Again.ensures in
    let fails = helped_ends_call state old now first second c.loop-count.invariant.1 [] failed new third tried.work
    (attempt_and_help state c.loop-count.left failed now mid new second third tried.step tried.steps tried.faults
    c.in_err-help.ensures.help) in
    record {
      enter =
          enter_failed state entry c.from_residual.result error old new first third
          (handed_on c.from_residual.result error c.from_residual.ensures.1) (λ range. c.in_err-help.ensures.error (ap Err range))
          inside (subst (λ b. IsCall state most_of_call [] b old new first third) (same_eio Bool ℕ error) fails);
      idle = c.in_err-help.ensures.idle;
    }
