use Rattle.std.proofs.Common.{arith, ◌≡◌, ◌∙◌, Bool, false, [], ap, subst, Ok, Err}
use Rattle.std.specs.Prelude.{Result, OnOk}
use Rattle.lsvd_objstore.specs.Store.{StoreState}
use Rattle.plain_disk.specs.Collection.{planned_copy}
use Rattle.vol_core.specs.Volume.{SteppedVolume}
use Rattle.volume_owner.specs.declared.collecting.Turn.{Turn}
use Rattle.volume_owner.specs.declared.error.OwnerError.{OwnerError}
use Rattle.volume_owner.specs.declared.error.OwnerError.TheVariants as errors
use Rattle.volume_owner.specs.Acts.{moment_of}
use Rattle.volume_owner.specs.Tally.{IsTally}
use Rattle.volume_owner.specs.Calls.{IsCall}
use Rattle.volume_owner.specs.Collecting.{CollectOf, copied_in, NoneIfIdle}
use Rattle.volume_owner.specs.Errors.{is_eio}
use Rattle.volume_owner.specs.Helping.{work_of}
use Rattle.volume_owner.proofs.CallLemmas.{call_then, call_fewer, call_ends_none, handed_on, no_answer, none_answered, same_eio}
use Rattle.volume_owner.proofs.LoopLemmas.{nothing_left, helped_none}
use Rattle.volume_owner.proofs.TallyLemmas.{tally_before}
use Rattle.volume_owner.proofs.VictimLemmas.{idle_needs, idle_work, copied_work, few_copied}
use Rattle.volume_owner.proofs.collecting_all.copy_next.Goals as goal

pub help-requires : goal.help-requires
help-requires g c = record {
  steps =
      (let few = c.requires.steps in
      let made = c.in_ok-sectors.ensures.collect.call.steps.steps in
      omega (arith, few, made));
  idle = c.in_ok-sectors.ensures.idle;
}

pub returns-in_err-sectors : goal.returns-in_err-sectors
returns-in_err-sectors g c =
    let state = g.R.Receipt.state in
    let old : SteppedVolume = c.args.volume.now in
    let new : SteppedVolume = c.collect.new.volume in
    let first : StoreState = g.S.Store.state c.args.store.now in
    let second : StoreState = g.S.Store.state c.collect.new.store in
    let error : OwnerError = c.in_err-sectors.field-0.0 in
    let failed = is_eio {T = Turn} (Err error) in
    let turn = c.in_err-sectors.ensures in
    let result = c.from_residual.result in
    let is = handed_on result error c.from_residual.ensures.1 in
    record {
      call =
          call_ends_none state 5 result error old new first second c.from_residual.ensures.1
          (call_fewer state 3 5 [] failed old new first second (omega arith) turn.collect.call);
      tally = no_answer result error (λ t. IsTally state (copied_in t) 0 (moment_of old first) (moment_of new second)) is;
      work = none_answered result error (work_of new.volume ≡ 0) is;
      victims = no_answer result error (λ t. NoneIfIdle t new.volume) is;
      error = λ range. (let same : error ≡ errors.Range = cc in turn.collect.error (ap Err same));
      idle = turn.idle;
    }

pub returns-in_err-help-in-Did : goal.returns-in_err-help-in-Did
returns-in_err-help-in-Did g c =
    let state = g.R.Receipt.state in
    let old : SteppedVolume = c.args.volume.now in
    let mid : SteppedVolume = c.collect.new.volume in
    let new : SteppedVolume = c.help.new.volume in
    let first : StoreState = g.S.Store.state c.args.store.now in
    let second : StoreState = g.S.Store.state c.collect.new.store in
    let third : StoreState = g.S.Store.state c.help.new.store in
    let error : OwnerError = c.in_err-help-in-Did.field-0.0 in
    let failed = is_eio {T = Bool} (Err error) in
    let turn = c.in_ok-sectors.ensures.collect in
    let helped = c.in_err-help-in-Did.ensures in
    let result = c.from_residual-in_err-help-in-Did.result in
    let is = handed_on result error c.from_residual-in_err-help-in-Did.ensures.1 in
    record {
      call =
          call_ends_none state 5 result error old new first third c.from_residual-in_err-help-in-Did.ensures.1
          (subst (λ b. IsCall state 5 [] b old new first third) (same_eio Bool Turn error)
          (call_then state 3 2 [] failed old mid new first second third turn.call helped.help));
      tally = no_answer result error (λ t. IsTally state (copied_in t) 0 (moment_of old first) (moment_of new third)) is;
      work = none_answered result error (work_of new.volume ≡ 0) is;
      victims = no_answer result error (λ t. NoneIfIdle t new.volume) is;
      error = λ range. (let same : error ≡ errors.Range = cc in helped.error (ap Err same));
      idle = helped.idle;
    }

pub returns-in_ok-help-in-Did : goal.returns-in_ok-help-in-Did
returns-in_ok-help-in-Did g c =
    let state = g.R.Receipt.state in
    let old : SteppedVolume = c.args.volume.now in
    let mid : SteppedVolume = c.collect.new.volume in
    let new : SteppedVolume = c.help.new.volume in
    let first : StoreState = g.S.Store.state c.args.store.now in
    let second : StoreState = g.S.Store.state c.collect.new.store in
    let third : StoreState = g.S.Store.state c.help.new.store in
    let plain = c.is_volume.ensures.shown.plain in
    let shows = c.is_volume.ensures.shown.shows in
    let did = subst (λ (r : Result Turn OwnerError). CollectOf state r old mid first second)
    (c.in_ok-sectors.was ∙ ap Ok c.in-Did.is) c.collect.ensures.collect in
    let turn = did.turns plain shows in
    let helped = c.in_ok-help-in-Did.ensures in
    let one = copied_work old.volume mid.volume plain (planned_copy plain) shows c.requires.work turn.2 in
    record {
      call = call_then state 3 2 [] false old mid new first second third did.call helped.help;
      tally =
          tally_before state c.in-Did.sectors 0 (moment_of old first) (moment_of mid second) (moment_of new third) did.tally
          helped.tally;
      work = subst (λ (r : Result Bool OwnerError). OnOk r (work_of new.volume ≡ 0)) c.in_ok-help-in-Did.was
          (helped_none c.help.result mid.volume new.volume one c.help.ensures.less);
      victims = (let few = few_copied plain shows.valid in let many = turn.1 in omega (arith, few, many));
      error = λ range. cc;
      idle = helped.idle;
    }

pub returns-in-Idle : goal.returns-in-Idle
returns-in-Idle g c =
    let state = g.R.Receipt.state in
    let old : SteppedVolume = c.args.volume.now in
    let new : SteppedVolume = c.collect.new.volume in
    let first : StoreState = g.S.Store.state c.args.store.now in
    let second : StoreState = g.S.Store.state c.collect.new.store in
    let plain = c.is_volume.ensures.shown.plain in
    let shows = c.is_volume.ensures.shown.shows in
    let idle = subst (λ (r : Result Turn OwnerError). CollectOf state r old new first second)
    (c.in_ok-sectors.was ∙ ap Ok c.in-Idle.is) c.collect.ensures.collect in
    let turn = idle.turns plain shows in
    let left = nothing_left old.volume c.requires.work in
    record {
      call = call_fewer state 3 5 [] false old new first second (omega arith) idle.call;
      tally = idle.tally;
      work = idle_work old.volume new.volume plain shows turn.1 ∙ c.requires.work;
      victims = idle_needs old.volume new.volume plain shows c.requires.plan left.1 turn.0 turn.1;
      error = λ range. cc;
      idle = c.in_ok-sectors.ensures.idle;
    }
