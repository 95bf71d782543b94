use Rattle.std.proofs.Common.{arith, ◌≡◌, ◌∙◌, ◌*◌, ℕ, false, [], ap, subst, Ok, Err}
use Rattle.std.specs.Prelude.{Result, IfOk}
use Rattle.lsvd_objstore.specs.Store.{StoreState}
use Rattle.vol_core.specs.Volume.{SteppedVolume}
use Rattle.volume_owner.specs.declared.collecting.Turn.{Turn}
use Rattle.volume_owner.specs.declared.error.OwnerError.{OwnerError}
use Rattle.volume_owner.specs.declared.error.OwnerError.TheVariants as errors
use Rattle.volume_owner.specs.Acts.{moment_of}
use Rattle.volume_owner.specs.Tally.{IsTally}
use Rattle.volume_owner.specs.Calls.{IsCall}
use Rattle.volume_owner.specs.Collecting.{copied_in, most_of_copies, NeedsNoCopy, NoneIfIdle}
use Rattle.volume_owner.specs.Errors.{is_eio}
use Rattle.volume_owner.specs.Helping.{work_of}
use Rattle.volume_owner.proofs.CallLemmas.{call_fewer, call_ends_none, handed_on, no_answer, none_answered, same_eio}
use Rattle.volume_owner.proofs.LoopLemmas.{copied_first, copied_more, copied_ends}
use Rattle.volume_owner.proofs.TallyLemmas.{tally_before}
use Rattle.volume_owner.proofs.collecting_all.copy_victims.Goals as goal

pub loop-init : goal.loop-init
loop-init g c = copied_first g.R.Receipt.state c.args.volume.now (g.S.Store.state c.args.store.now) c.requires.work
    c.requires.idle

pub copy_next-requires : goal.copy_next-requires
copy_next-requires g c =
    let done = c.loop.invariant in
    record {
      steps =
          (let few = c.requires.steps in
          let made = done.call.steps.steps in
          let more = c.loop-test.true in
          omega (arith, few, made, more));
      idle = done.idle;
      work = done.work;
      plan = done.tally.plan c.requires.plan;
    }

pub overflow_add-copied : goal.overflow_add-copied
overflow_add-copied g c =
    let before = c.loop.invariant.few in
    let more = c.loop-test.true in
    let few = subst (λ (r : Result Turn OwnerError). IfOk r (λ t. NoneIfIdle t c.copy_next.new.volume.volume))
    (c.in_ok-sectors.was ∙ ap Ok c.in-Did.is) c.copy_next.ensures.victims in
    omega (arith, before, more, few)

pub returns-in_err-sectors : goal.returns-in_err-sectors
returns-in_err-sectors g c =
    let state = g.R.Receipt.state in
    let old : SteppedVolume = c.args.volume.now in
    let now : SteppedVolume = c.loop.volume in
    let new : SteppedVolume = c.copy_next.new.volume in
    let first : StoreState = g.S.Store.state c.args.store.now in
    let second : StoreState = g.S.Store.state c.loop.store in
    let third : StoreState = g.S.Store.state c.copy_next.new.store in
    let error : OwnerError = c.in_err-sectors.field-0.0 in
    let failed = is_eio {T = Turn} (Err error) in
    let turn = c.in_err-sectors.ensures in
    let result = c.from_residual.result in
    let is = handed_on result error c.from_residual.ensures.1 in
    record {
      call =
          call_ends_none state most_of_copies result error old new first third c.from_residual.ensures.1
          (subst (λ b. IsCall state most_of_copies [] b old new first third) (same_eio Turn ℕ error)
          (copied_ends state c.loop.counter c.loop.copied old now new first second third c.loop.invariant failed
          c.loop-test.true turn.call));
      tally = no_answer result error (λ n. IsTally state n 0 (moment_of old first) (moment_of new third)) is;
      work = none_answered result error (work_of new.volume ≡ 0) is;
      victims = none_answered result error (NeedsNoCopy new.volume) is;
      error = λ range. (let same : error ≡ errors.Range = cc in turn.error (ap Err same));
      idle = turn.idle;
    }

pub returns-in-Idle : goal.returns-in-Idle
returns-in-Idle g c =
    let state = g.R.Receipt.state in
    let old : SteppedVolume = c.args.volume.now in
    let now : SteppedVolume = c.loop.volume in
    let new : SteppedVolume = c.copy_next.new.volume in
    let first : StoreState = g.S.Store.state c.args.store.now in
    let second : StoreState = g.S.Store.state c.loop.store in
    let third : StoreState = g.S.Store.state c.copy_next.new.store in
    let done = c.loop.invariant in
    let turn = c.in_ok-sectors.ensures in
    let is = c.in_ok-sectors.was ∙ ap Ok c.in-Idle.is in
    record {
      call = copied_ends state c.loop.counter c.loop.copied old now new first second third done false c.loop-test.true turn.call;
      tally =
          tally_before state c.loop.copied 0 (moment_of old first) (moment_of now second) (moment_of new third) done.tally
          (subst (λ (r : Result Turn OwnerError). IfOk r (λ t.
          IsTally state (copied_in t) 0 (moment_of now second) (moment_of new third))) is c.copy_next.ensures.tally);
      work = turn.work;
      victims = subst (λ (r : Result Turn OwnerError). IfOk r (λ t. NoneIfIdle t new.volume)) is c.copy_next.ensures.victims;
      error = λ range. cc;
      idle = turn.idle;
    }

pub loop-preserved : goal.loop-preserved
loop-preserved g c =
    let state = g.R.Receipt.state in
    let old : SteppedVolume = c.args.volume.now in
    let now : SteppedVolume = c.loop.volume in
    let new : SteppedVolume = c.copy_next.new.volume in
    let first : StoreState = g.S.Store.state c.args.store.now in
    let second : StoreState = g.S.Store.state c.loop.store in
    let third : StoreState = g.S.Store.state c.copy_next.new.store in
    let turn = c.in_ok-sectors.ensures in
    let is = c.in_ok-sectors.was ∙ ap Ok c.in-Did.is in
    copied_more state c.loop.counter c.loop.copied old now new first second third c.loop.invariant c.in-Did.sectors turn.call
    (subst (λ (r : Result Turn OwnerError). IfOk r (λ t.
    IsTally state (copied_in t) 0 (moment_of now second) (moment_of new third))) is c.copy_next.ensures.tally)
    (subst (λ (r : Result Turn OwnerError). IfOk r (λ t. NoneIfIdle t new.volume)) is c.copy_next.ensures.victims)
    turn.work turn.idle

pub returns : goal.returns
returns g c =
    let old : SteppedVolume = c.args.volume.now in
    let now : SteppedVolume = c.loop.volume in
    let first : StoreState = g.S.Store.state c.args.store.now in
    let second : StoreState = g.S.Store.state c.loop.store in
    let done = c.loop.invariant in
    record {
      call =
          call_fewer g.R.Receipt.state (5 * c.loop.counter) most_of_copies [] false old now first second
          (let within = c.loop.auto.counter-end in omega (arith, within)) done.call;
      tally = tt;
      work = tt;
      victims = tt;
      error = λ range. cc;
      idle = done.idle;
    }
