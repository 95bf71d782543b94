use Rattle.std.proofs.Common.{arith, ◌+◌, ℕ, false, [], ap, subst, Err}
use Rattle.lsvd_objstore.specs.Store.{StoreState}
use Rattle.vol_core.specs.Volume.{SteppedVolume}
use Rattle.volume_owner.specs.declared.collecting_all.Collected.{Collected}
use Rattle.volume_owner.specs.declared.draining.Drained.{Drained}
use Rattle.volume_owner.specs.declared.error.OwnerError.{OwnerError}
use Rattle.volume_owner.specs.Owner.{most_of_call}
use Rattle.volume_owner.specs.Acts.{moment_of}
use Rattle.volume_owner.specs.Calls.{IsCall}
use Rattle.volume_owner.specs.Collecting.{most_of_copies, most_of_collection}
use Rattle.volume_owner.specs.Errors.{is_eio}
use Rattle.volume_owner.proofs.CallLemmas.{quiet_call, handed_on, same_eio, collect_counted, collect_failed}
use Rattle.volume_owner.proofs.LoopLemmas.{no_work, whole_tally, whole_first, whole_then, copies_then}
use Rattle.volume_owner.proofs.VictimLemmas.{needs_no_victim}
use Rattle.volume_owner.proofs.collecting_all.collect_all.Goals as goal

pub copy_victims-requires : goal.copy_victims-requires
copy_victims-requires g c =
    let drained = c.in_ok-before.ensures.drain in
    let gave = c.give_up.ensures in
    let clear : SteppedVolume = c.drain.new.volume in
    record {
      steps =
          (let few = c.requires.steps in
          let one = gave.steps.steps in
          let more = drained.call.steps.steps in
          omega (arith, few, one, more));
      idle = c.in_ok-before.ensures.idle;
      work = no_work clear.volume drained.drained.unsealed drained.drained.on_way;
      plan = drained.removed.plan gave.none;
    }

pub drain-requires-2 : goal.drain-requires-2
drain-requires-2 g c = record {
  steps =
      (let few = c.requires.steps in
      let one = c.give_up.ensures.steps.steps in
      let more = c.in_ok-before.ensures.drain.call.steps.steps in
      let copies = c.in_ok-copied.ensures.call.steps.steps in
      omega (arith, few, one, more, copies));
  idle = c.in_ok-copied.ensures.idle;
}

pub returns-in_err-before : goal.returns-in_err-before
returns-in_err-before g c =
    let state = g.R.Receipt.state in
    let old : SteppedVolume = c.args.volume.now in
    let gave : SteppedVolume = c.give_up.new.volume in
    let new : SteppedVolume = c.drain.new.volume in
    let first : StoreState = g.S.Store.state c.args.store.now in
    let fourth : StoreState = g.S.Store.state c.drain.new.store in
    let error : OwnerError = c.in_err-before.field-0.0 in
    let failed = is_eio {T = Drained} (Err error) in
    let given_up = c.give_up.ensures in
    let drained = c.in_err-before.ensures in
    let result = c.from_residual.result in
    record {
      collect =
          collect_failed state result error old new first fourth (handed_on result error c.from_residual.ensures.1)
          (λ range. drained.drain.in_range (ap Err range))
          (subst (λ b. IsCall state most_of_collection [] b old new first fourth) (same_eio Drained Collected error)
          (whole_first state failed old gave new new new first fourth fourth fourth
          (quiet_call state 1 [] old gave first (given_up.acts first) given_up.steps given_up.faults) drained.drain.call));
      idle = drained.idle;
    }

pub returns-in_err-copied : goal.returns-in_err-copied
returns-in_err-copied g c =
    let state = g.R.Receipt.state in
    let old : SteppedVolume = c.args.volume.now in
    let gave : SteppedVolume = c.give_up.new.volume in
    let clear : SteppedVolume = c.drain.new.volume in
    let new : SteppedVolume = c.copy_victims.new.volume in
    let first : StoreState = g.S.Store.state c.args.store.now in
    let second : StoreState = g.S.Store.state c.drain.new.store in
    let fourth : StoreState = g.S.Store.state c.copy_victims.new.store in
    let error : OwnerError = c.in_err-copied.field-0.0 in
    let failed = is_eio {T = ℕ} (Err error) in
    let given_up = c.give_up.ensures in
    let copies = c.in_err-copied.ensures in
    let result = c.from_residual-in_err-copied.result in
    record {
      collect =
          collect_failed state result error old new first fourth
          (handed_on result error c.from_residual-in_err-copied.ensures.1) (λ range. copies.error (ap Err range))
          (subst (λ b. IsCall state most_of_collection [] b old new first fourth) (same_eio ℕ Collected error)
          (whole_then state failed old gave clear new new first second fourth fourth most_of_copies (omega arith)
          (quiet_call state 1 [] old gave first (given_up.acts first) given_up.steps given_up.faults)
          c.in_ok-before.ensures.drain.call copies.call));
      idle = copies.idle;
    }

pub returns-in_err-after : goal.returns-in_err-after
returns-in_err-after g c =
    let state = g.R.Receipt.state in
    let old : SteppedVolume = c.args.volume.now in
    let gave : SteppedVolume = c.give_up.new.volume in
    let clear : SteppedVolume = c.drain.new.volume in
    let mid : SteppedVolume = c.copy_victims.new.volume in
    let new : SteppedVolume = c.drain-2.new.volume in
    let first : StoreState = g.S.Store.state c.args.store.now in
    let second : StoreState = g.S.Store.state c.drain.new.store in
    let third : StoreState = g.S.Store.state c.copy_victims.new.store in
    let fourth : StoreState = g.S.Store.state c.drain-2.new.store in
    let error : OwnerError = c.in_err-after.field-0.0 in
    let failed = is_eio {T = Drained} (Err error) in
    let given_up = c.give_up.ensures in
    let drained = c.in_err-after.ensures in
    let result = c.from_residual-in_err-after.result in
    record {
      collect =
          collect_failed state result error old new first fourth
          (handed_on result error c.from_residual-in_err-after.ensures.1) (λ range. drained.drain.in_range (ap Err range))
          (subst (λ b. IsCall state most_of_collection [] b old new first fourth) (same_eio Drained Collected error)
          (whole_then state failed old gave clear mid new first second third fourth (most_of_copies + most_of_call) (omega arith)
          (quiet_call state 1 [] old gave first (given_up.acts first) given_up.steps given_up.faults)
          c.in_ok-before.ensures.drain.call
          (copies_then state failed old gave clear mid new first second third fourth c.in_ok-copied.ensures.call
          drained.drain.call)));
      idle = drained.idle;
    }

pub returns : goal.returns
returns g c =
    let state = g.R.Receipt.state in
    let old : SteppedVolume = c.args.volume.now in
    let gave : SteppedVolume = c.give_up.new.volume in
    let clear : SteppedVolume = c.drain.new.volume in
    let mid : SteppedVolume = c.copy_victims.new.volume in
    let new : SteppedVolume = c.drain-2.new.volume in
    let first : StoreState = g.S.Store.state c.args.store.now in
    let second : StoreState = g.S.Store.state c.drain.new.store in
    let third : StoreState = g.S.Store.state c.copy_victims.new.store in
    let fourth : StoreState = g.S.Store.state c.drain-2.new.store in
    let before = c.in_ok-before.before in
    let after = c.in_ok-after.after in
    let given_up = c.give_up.ensures in
    let drained = c.in_ok-before.ensures.drain in
    let copies = c.in_ok-copied.ensures in
    let again = c.in_ok-after.ensures in
    let plan = again.drain.removed.plan (copies.tally.plan (drained.removed.plan given_up.none)) in
    record {
      collect =
          collect_counted state _ old new first fourth
          (whole_then state false old gave clear mid new first second third fourth (most_of_copies + most_of_call) (omega arith)
          (quiet_call state 1 [] old gave first (given_up.acts first) given_up.steps given_up.faults) drained.call
          (copies_then state false old gave clear mid new first second third fourth copies.call again.drain.call))
          (whole_tally state before.removed c.in_ok-copied.copied after.removed (moment_of old first) (moment_of gave first)
          (moment_of clear second) (moment_of mid third) (moment_of new fourth) (given_up.tally first) drained.removed
          copies.tally again.drain.removed)
          (needs_no_victim new.volume c.is_volume.ensures.order.uploads plan again.drain.drained.on_way
          (again.victims copies.work copies.victims))
          again.drain.drained;
      idle = again.idle;
    }
