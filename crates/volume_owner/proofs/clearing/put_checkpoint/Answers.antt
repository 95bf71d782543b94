use Rattle.std.proofs.Common.{◌≡◌, Bool, false, [], ap, subst, Err}
use Rattle.lsvd_objstore.specs.Store.{StoreState}
use Rattle.vol_core.specs.Volume.{SteppedVolume}
use Rattle.volume_owner.specs.Acts.{moment_of}
use Rattle.volume_owner.specs.Tally.{IsTally}
use Rattle.volume_owner.specs.Calls.{IsCall}
use Rattle.volume_owner.specs.Clearing.{HasAllPut, IsSealedUp}
use Rattle.volume_owner.specs.Errors.{is_eio}
use Rattle.volume_owner.specs.declared.error.OwnerError.{OwnerError}
use Rattle.volume_owner.specs.declared.error.OwnerError.TheVariants as errors
use Rattle.volume_owner.proofs.CallLemmas.{quiet_call, call_then, call_ends_none, handed_on, none_answered, same_eio}
use Rattle.volume_owner.proofs.TallyLemmas.{tally_then}
use Rattle.volume_owner.proofs.clearing.put_checkpoint.Goals as goal

pub returns-in_err-help : goal.returns-in_err-help
returns-in_err-help g c =
    let state = g.R.Receipt.state in
    let old : SteppedVolume = c.args.volume.now in
    let mid : SteppedVolume = c.seal_checkpoint.new.volume in
    let new : SteppedVolume = c.help.new.volume in
    let first : StoreState = g.S.Store.state c.args.store.now in
    let second : StoreState = g.S.Store.state c.help.new.store in
    let error : OwnerError = c.in_err-help.field-0.0 in
    let sealed = c.in_ok-seal_checkpoint.ensures in
    let helped = c.in_err-help.ensures in
    let result = c.from_residual-in_err-help.result in
    let is = handed_on result error c.from_residual-in_err-help.ensures.1 in
    record {
      call =
          call_ends_none state 4 result error old new first second c.from_residual-in_err-help.ensures.1
          (subst (λ b. IsCall state 4 [] b old new first second) (same_eio Bool (Unit {0}) error)
          (call_then state 2 2 [] (is_eio {T = Bool} (Err error)) old mid new first first second
          (quiet_call state 2 [] old mid first (sealed.acts first) sealed.steps sealed.faults) helped.help));
      tally = none_answered result error (IsTally state 0 0 (moment_of old first) (moment_of new second)) is;
      put = none_answered result error (HasAllPut new.volume) is;
      victims = λ needs. (
          let up = subst (λ b. IsSealedUp b mid.volume) c.if-branch.true sealed.sealed in
          helped.victims up.unsealed (sealed.victims needs)
          );
      error = λ range. (let same : error ≡ errors.Range = cc in helped.error (ap Err same));
      idle = helped.idle;
    }

pub returns-in_ok-help : goal.returns-in_ok-help
returns-in_ok-help g c =
    let state = g.R.Receipt.state in
    let old : SteppedVolume = c.args.volume.now in
    let mid : SteppedVolume = c.seal_checkpoint.new.volume in
    let new : SteppedVolume = c.help.new.volume in
    let first : StoreState = g.S.Store.state c.args.store.now in
    let second : StoreState = g.S.Store.state c.help.new.store in
    let sealed = c.in_ok-seal_checkpoint.ensures in
    let helped = c.in_ok-help.ensures in
    let up = subst (λ b. IsSealedUp b mid.volume) c.if-branch.true sealed.sealed in
    record {
      call =
          call_then state 2 2 [] false old mid new first first second
          (quiet_call state 2 [] old mid first (sealed.acts first) sealed.steps sealed.faults) helped.help;
      tally =
          tally_then state 0 0 0 0 (moment_of old first) (moment_of mid first) (moment_of new second) (sealed.tally first)
          helped.tally;
      put = helped.put up;
      victims = λ needs. helped.victims up.unsealed (sealed.victims needs);
      error = λ range. cc;
      idle = helped.idle;
    }
