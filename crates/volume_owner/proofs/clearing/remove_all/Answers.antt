use Rattle.std.proofs.Common.{arith, ◌≡◌, ℕ, ◌*◌, ◌^◌, ◌≤◌, Bool, false, [], ap, subst, Err}
use Rattle.lsvd_objstore.specs.Store.{StoreState}
use Rattle.vol_core.specs.Volume.{SteppedVolume}
use Rattle.volume_owner.specs.Acts.{moment_of}
use Rattle.volume_owner.specs.Tally.{IsTally}
use Rattle.volume_owner.specs.Calls.{HasNoneToRemove, IsCall}
use Rattle.volume_owner.specs.Clearing.{NoneIfNot, count_of_removed, most_of_removals}
use Rattle.volume_owner.specs.Errors.{is_eio}
use Rattle.volume_owner.specs.declared.error.OwnerError.{OwnerError}
use Rattle.volume_owner.specs.declared.error.OwnerError.TheVariants as errors
use Rattle.volume_owner.proofs.CallLemmas.{call_fewer, call_ends_none, handed_on, no_answer, none_answered, same_eio}
use Rattle.volume_owner.proofs.LoopLemmas.{cleared_first, cleared_more, cleared_ends}
use Rattle.volume_owner.proofs.TallyLemmas.{tally_before}
use Rattle.volume_owner.proofs.clearing.remove_all.Goals as goal

pub loop-removed-init : goal.loop-removed-init
loop-removed-init g c = cleared_first g.R.Receipt.state c.args.volume.now (g.S.Store.state c.args.store.now) c.requires.put
    c.requires.idle

pub remove_next-requires : goal.remove_next-requires
remove_next-requires g c = record {
  steps =
      (let made = c.loop-removed.invariant.call.steps.steps in
      let few = c.requires.steps in
      let more = c.loop-removed-test.true in
      omega (arith, made, few, more));
  idle = c.loop-removed.invariant.idle;
  put = c.loop-removed.invariant.put;
}

pub returns-in_err-remove_next : goal.returns-in_err-remove_next
returns-in_err-remove_next g c =
    let state = g.R.Receipt.state in
    let old : SteppedVolume = c.args.volume.now in
    let now : SteppedVolume = c.loop-removed.volume in
    let new : SteppedVolume = c.remove_next.new.volume in
    let first : StoreState = g.S.Store.state c.args.store.now in
    let second : StoreState = g.S.Store.state c.loop-removed.store in
    let third : StoreState = g.S.Store.state c.remove_next.new.store in
    let error : OwnerError = c.in_err-remove_next.field-0.0 in
    let failed = is_eio {T = Bool} (Err error) in
    let cleared = c.loop-removed.invariant in
    let removed = c.in_err-remove_next.ensures in
    let result = c.from_residual.result in
    let is = handed_on result error c.from_residual.ensures.1 in
    record {
      call =
          call_ends_none state most_of_removals result error old new first third c.from_residual.ensures.1
          (subst (λ b. IsCall state most_of_removals [] b old new first third) (same_eio Bool ℕ error)
          (cleared_ends state c.loop-removed.removed old now new first second third cleared failed c.loop-removed-test.true
          removed.call));
      removed = no_answer result error (λ count. IsTally state 0 count (moment_of old first) (moment_of new third)) is;
      few = no_answer result error (λ count. count ≤ 2 ^ 37) is;
      put = removed.put;
      victims = λ needs. removed.victims (cleared.victims needs);
      none = none_answered result error (HasNoneToRemove new.volume) is;
      error = λ range. (let same : error ≡ errors.Range = cc in removed.error (ap Err same));
      idle = removed.idle;
    }

pub returns-then-not-branch : goal.returns-then-not-branch
returns-then-not-branch g c =
    let state = g.R.Receipt.state in
    let old : SteppedVolume = c.args.volume.now in
    let now : SteppedVolume = c.loop-removed.volume in
    let new : SteppedVolume = c.remove_next.new.volume in
    let first : StoreState = g.S.Store.state c.args.store.now in
    let second : StoreState = g.S.Store.state c.loop-removed.store in
    let third : StoreState = g.S.Store.state c.remove_next.new.store in
    let cleared = c.loop-removed.invariant in
    let few = c.loop-removed-test.true in
    let removed = c.in_ok-remove_next.ensures in
    record {
      call = cleared_ends state c.loop-removed.removed old now new first second third cleared false few removed.call;
      removed =
          tally_before state 0 c.loop-removed.removed (moment_of old first) (moment_of now second) (moment_of new third)
          cleared.tally
          (subst (λ b. IsTally state 0 (count_of_removed b) (moment_of now second) (moment_of new third)) c.if-not-branch.true
          removed.removed);
      few = omega (arith, few);
      put = removed.put;
      victims = λ needs. removed.victims (cleared.victims needs);
      none = subst (λ b. NoneIfNot b new.volume) c.if-not-branch.true removed.none;
      error = λ range. cc;
      idle = removed.idle;
    }

pub loop-removed-preserved : goal.loop-removed-preserved
loop-removed-preserved g c =
    let state = g.R.Receipt.state in
    let old : SteppedVolume = c.args.volume.now in
    let now : SteppedVolume = c.loop-removed.volume in
    let new : SteppedVolume = c.remove_next.new.volume in
    let first : StoreState = g.S.Store.state c.args.store.now in
    let second : StoreState = g.S.Store.state c.loop-removed.store in
    let third : StoreState = g.S.Store.state c.remove_next.new.store in
    let removed = c.in_ok-remove_next.ensures in
    cleared_more state c.loop-removed.removed old now new first second third c.loop-removed.invariant removed.call
    (subst (λ b. IsTally state 0 (count_of_removed b) (moment_of now second) (moment_of new third)) c.if-not-branch.false
    removed.removed)
    removed.victims removed.put removed.idle

pub returns : goal.returns
returns g c =
    let old : SteppedVolume = c.args.volume.now in
    let now : SteppedVolume = c.loop-removed.volume in
    let first : StoreState = g.S.Store.state c.args.store.now in
    let second : StoreState = g.S.Store.state c.loop-removed.store in
    let cleared = c.loop-removed.invariant in
    record {
      call =
          call_fewer g.R.Receipt.state (2 * c.loop-removed.removed) most_of_removals [] false old now first second
          (let within = c.loop-removed.auto.removed-end in omega (arith, within)) cleared.call;
      removed = tt;
      few = tt;
      put = cleared.put;
      victims = cleared.victims;
      none = tt;
      error = λ range. cc;
      idle = cleared.idle;
    }
