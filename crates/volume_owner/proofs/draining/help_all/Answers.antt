use Rattle.std.proofs.Common.{arith, ◌≡◌, Bool, false, [], ap, subst, Err}
use Rattle.lsvd_objstore.specs.Store.{StoreState}
use Rattle.vol_core.specs.Volume.{SteppedVolume}
use Rattle.volume_owner.specs.Acts.{moment_of}
use Rattle.volume_owner.specs.Tally.{IsTally}
use Rattle.volume_owner.specs.Calls.{IsCall}
use Rattle.volume_owner.specs.Clearing.{most_of_helps}
use Rattle.volume_owner.specs.Collecting.{NeedsNoCopy}
use Rattle.volume_owner.specs.Errors.{is_eio}
use Rattle.volume_owner.specs.Helping.{work_of, HasHelped}
use Rattle.volume_owner.specs.declared.error.OwnerError.{OwnerError}
use Rattle.volume_owner.specs.declared.error.OwnerError.TheVariants as errors
use Rattle.volume_owner.proofs.CallLemmas.{handed_on, none_answered, same_eio, call_ends_none}
use Rattle.volume_owner.proofs.LoopLemmas.{helped_room, helped_ends, helps_first, helps_need, helps_tally, helps_more, one_help}
use Rattle.volume_owner.proofs.draining.help_all.Goals as goal

pub loop-init : goal.loop-init
loop-init g c = helps_first g.R.Receipt.state c.args.volume.now (g.S.Store.state c.args.store.now) c.requires.idle

pub help-requires-clause-steps : goal.help-requires-clause-steps
help-requires-clause-steps g c =
    let old : SteppedVolume = c.args.volume.now in
    let now : SteppedVolume = c.loop.volume in
    let first : StoreState = g.S.Store.state c.args.store.now in
    let second : StoreState = g.S.Store.state c.loop.store in
    let few = helped_room g.R.Receipt.state old now first second c.loop.invariant.helped c.requires.steps in
    omega (arith, few)

pub returns-in_err-help : goal.returns-in_err-help
returns-in_err-help g c =
    let state = g.R.Receipt.state in
    let old : SteppedVolume = c.args.volume.now in
    let now : SteppedVolume = c.loop.volume in
    let new : SteppedVolume = c.help.new.volume in
    let first : StoreState = g.S.Store.state c.args.store.now in
    let second : StoreState = g.S.Store.state c.loop.store in
    let third : StoreState = g.S.Store.state c.help.new.store in
    let error : OwnerError = c.in_err-help.field-0.0 in
    let failed = is_eio {T = Bool} (Err error) in
    let helped = c.in_err-help.ensures in
    let result = c.from_residual.result in
    let is = handed_on result error c.from_residual.ensures.1 in
    let fails = helped_ends state old now first second c.loop.invariant.helped [] failed new third helped.work
    (one_help state failed now new second third helped.help) in
    record {
      call = call_ends_none state most_of_helps result error old new first third c.from_residual.ensures.1
          (subst (λ b. IsCall state most_of_helps [] b old new first third) (same_eio Bool (Unit {0}) error) fails);
      tally = none_answered result error (IsTally state 0 0 (moment_of old first) (moment_of new third)) is;
      victims = none_answered result error (work_of old.volume ≡ 0 → NeedsNoCopy old.volume → NeedsNoCopy new.volume) is;
      none = none_answered result error (work_of new.volume ≡ 0) is;
      error = λ range. (let same : error ≡ errors.Range = cc in helped.error (ap Err same));
      idle = helped.idle;
    }

pub loop-preserved : goal.loop-preserved
loop-preserved g c =
    let old : SteppedVolume = c.args.volume.now in
    let now : SteppedVolume = c.loop.volume in
    let new : SteppedVolume = c.help.new.volume in
    let first : StoreState = g.S.Store.state c.args.store.now in
    let second : StoreState = g.S.Store.state c.loop.store in
    let third : StoreState = g.S.Store.state c.help.new.store in
    let less = subst (λ b. HasHelped b now.volume new.volume) c.if-branch.true c.in_ok-help.ensures.less in
    helps_more g.R.Receipt.state old now first second c.loop.invariant new third c.in_ok-help.ensures.victims
    c.in_ok-help.ensures.work (one_help g.R.Receipt.state false now new second third c.in_ok-help.ensures.help)
    less c.in_ok-help.ensures.idle c.in_ok-help.ensures.tally

pub returns : goal.returns
returns g c =
    let state = g.R.Receipt.state in
    let old : SteppedVolume = c.args.volume.now in
    let now : SteppedVolume = c.loop.volume in
    let new : SteppedVolume = c.help.new.volume in
    let first : StoreState = g.S.Store.state c.args.store.now in
    let second : StoreState = g.S.Store.state c.loop.store in
    let third : StoreState = g.S.Store.state c.help.new.store in
    let helped = c.in_ok-help.ensures in
    let none = subst (λ b. HasHelped b now.volume new.volume) c.if-branch.false helped.less in
    record {
      call =
          helped_ends state old now first second c.loop.invariant.helped [] false new third helped.work
          (one_help state false now new second third helped.help);
      tally = helps_tally state old now first second c.loop.invariant new third helped.victims helped.tally;
      victims = helps_need state old now first second c.loop.invariant new third helped.victims;
      none = none.1;
      error = λ range. cc;
      idle = helped.idle;
    }
