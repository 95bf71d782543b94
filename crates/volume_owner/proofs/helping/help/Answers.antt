use Rattle.std.proofs.Common.{arith, ◌≡◌, ◌<◌, Bool, false, [], refl, sym, ◌∙◌, ap, subst, Err}
use Rattle.std.specs.Prelude.{Result, IfOk}
use Rattle.lsvd_objstore.specs.Store.{StoreState}
use Rattle.vol_core.specs.declared.event.Event.TheVariants as asks
use Rattle.vol_core.specs.Volume.{SteppedVolume}
use Rattle.volume_owner.specs.Acts.{moment_of}
use Rattle.volume_owner.specs.Tally.{IsTally}
use Rattle.volume_owner.specs.Calls.{IsCall}
use Rattle.volume_owner.specs.Clearing.{HasAllPut}
use Rattle.volume_owner.specs.Errors.{is_eio}
use Rattle.volume_owner.specs.declared.error.OwnerError.{OwnerError}
use Rattle.volume_owner.specs.declared.error.OwnerError.TheVariants as errors
use Rattle.volume_owner.specs.Helping.{work_of, HasHelped}
use Rattle.volume_owner.proofs.ActLemmas.{step_act, step_acts}
use Rattle.volume_owner.proofs.BoundLemmas.{work_bound}
use Rattle.volume_owner.proofs.CallLemmas.{quiet_call, call_then, call_ends_none, same_eio, memory_alone, memory_no_range}
use Rattle.volume_owner.proofs.CallLemmas.{handed_on, answered, none_answered}
use Rattle.volume_owner.proofs.HelpLemmas.{take_makes, take_faults, take_awaits, take_unsealed, handed_job, taken_is}
use Rattle.volume_owner.proofs.HelpLemmas.{none_taken, helped_as}
use Rattle.volume_owner.proofs.TallyLemmas.{tally_then, quiet_tally}
use Rattle.volume_owner.proofs.VictimLemmas.{makes_no_victim, step_needs}
use Rattle.volume_owner.proofs.helping.help.Goals as goal

pub put-requires-clause-job : goal.put-requires-clause-job
put-requires-clause-job g c =
    let state = g.R.Receipt.state in
    let reply = c.step.result in
    let old : SteppedVolume = c.args.volume.now in
    let mid : SteppedVolume = c.step.new.self in
    let of = c.step.ensures in
    let taken = taken_is state reply old mid of of.was.plain of.was.shows c.in-Some.job c.requires.idle
    (handed_job reply c.in-Some.job (sym c.job_of.ensures ∙ c.in-Some.is)) in
    taken.0

pub returns-in_err-put-in-Some : goal.returns-in_err-put-in-Some
returns-in_err-put-in-Some g c =
    let state = g.R.Receipt.state in
    let reply = c.step.result in
    let old : SteppedVolume = c.args.volume.now in
    let mid : SteppedVolume = c.step.new.self in
    let of = c.step.ensures in
    let plain = of.was.plain in
    let shows = of.was.shows in
    let last : SteppedVolume = c.put.new.volume in
    let first : StoreState = g.S.Store.state c.args.store.now in
    let second : StoreState = g.S.Store.state c.put.new.store in
    let error : OwnerError = c.in_err-put-in-Some.field-0.0 in
    let failed = is_eio {T = Unit {0}} (Err error) in
    let put = c.in_err-put-in-Some.ensures in
    let is = handed_on c.from_residual.result error c.from_residual.ensures.1 in
    record {
      help =
          call_ends_none state 2 c.from_residual.result error old last first second c.from_residual.ensures.1
          (subst (λ b. IsCall state 2 [] b old last first second) (same_eio (Unit {0}) Bool error)
          (call_then state 1 1 [] failed old mid last first first second
          (quiet_call state 1 [] old mid first (step_act state asks.TakeJob reply [] old mid first of tt refl)
          (take_makes state reply old mid of plain shows) (take_faults state reply old mid of plain shows)) put.call));
      tally = none_answered c.from_residual.result error
          (IsTally state 0 0 (moment_of old first) (moment_of last second)) is;
      less =
          subst (λ (r : Result Bool OwnerError). IfOk r (λ has_helped. HasHelped has_helped old.volume last.volume)) (sym is) tt;
      put = λ awaits. none_answered c.from_residual.result error (HasAllPut last.volume) is;
      victims = λ unsealed needs.
          put.victims (step_needs state asks.TakeJob reply old mid (λ asked is. ap makes_no_victim is) of needs);
      work = work_bound old.volume plain shows c.requires.idle;
      error = λ range. (let same : error ≡ errors.Range = cc in put.error (ap Err same));
      idle = put.idle;
    }

pub returns-in_ok-put-in-Some : goal.returns-in_ok-put-in-Some
returns-in_ok-put-in-Some g c =
    let state = g.R.Receipt.state in
    let reply = c.step.result in
    let old : SteppedVolume = c.args.volume.now in
    let mid : SteppedVolume = c.step.new.self in
    let of = c.step.ensures in
    let plain = of.was.plain in
    let shows = of.was.shows in
    let last : SteppedVolume = c.put.new.volume in
    let first : StoreState = g.S.Store.state c.args.store.now in
    let second : StoreState = g.S.Store.state c.put.new.store in
    let put = c.in_ok-put-in-Some.ensures in
    let taken = taken_is state reply old mid of plain shows c.in-Some.job c.requires.idle
    (handed_job reply c.in-Some.job (sym c.job_of.ensures ∙ c.in-Some.is)) in
    record {
      help =
          call_then state 1 1 [] false old mid last first first second
          (quiet_call state 1 [] old mid first (step_act state asks.TakeJob reply [] old mid first of tt refl)
          (take_makes state reply old mid of plain shows) (take_faults state reply old mid of plain shows)) put.call;
      tally =
          tally_then state 0 0 0 0 (moment_of old first) (moment_of mid first) (moment_of last second)
          (quiet_tally state asks.TakeJob reply 0 old mid first of tt refl refl of.step.copying) put.tally;
      less = subst (λ w. work_of last.volume < w) taken.1 put.less;
      put = λ awaits. put.put (take_awaits state reply old mid of plain shows awaits);
      victims = λ unsealed needs.
          put.victims (step_needs state asks.TakeJob reply old mid (λ asked is. ap makes_no_victim is) of needs);
      work = work_bound old.volume plain shows c.requires.idle;
      error = λ range. cc;
      idle = put.idle;
    }

pub seal-requires : goal.seal-requires
seal-requires g c =
    let state = g.R.Receipt.state in
    let reply = c.step.result in
    let old : SteppedVolume = c.args.volume.now in
    let mid : SteppedVolume = c.step.new.self in
    let of = c.step.ensures in
    let left = none_taken state reply old mid of of.was.plain of.was.shows c.requires.idle
    (sym c.job_of.ensures ∙ c.in-None.is) in
    record {
      steps = omega (arith, c.requires.steps, of.count);
      idle = left.1;
      none = left.0;
    }

pub returns-in-None : goal.returns-in-None
returns-in-None g c =
    let state = g.R.Receipt.state in
    let reply = c.step.result in
    let old : SteppedVolume = c.args.volume.now in
    let mid : SteppedVolume = c.step.new.self in
    let of = c.step.ensures in
    let plain = of.was.plain in
    let shows = of.was.shows in
    let last : SteppedVolume = c.seal.new.volume in
    let first : StoreState = g.S.Store.state c.args.store.now in
    let left = none_taken state reply old mid of plain shows c.requires.idle
    (sym c.job_of.ensures ∙ c.in-None.is) in
    let sealed = c.seal.ensures in
    let no_fault = memory_alone c.seal.result sealed.error in
    record {
      help = subst (λ b. IsCall state 2 [] b old last first first) (sym no_fault)
          (call_then state 1 1 [] false old mid last first first first
          (quiet_call state 1 [] old mid first (step_act state asks.TakeJob reply [] old mid first of tt refl)
          (take_makes state reply old mid of plain shows) (take_faults state reply old mid of plain shows))
          (quiet_call state 1 [] mid last first
          (step_acts state asks.Seal [] mid last first (λ volume s. tt) sealed.step) sealed.steps sealed.faults));
      tally = answered c.seal.result (IsTally state 0 0 (moment_of old first) (moment_of last first))
          (tally_then state 0 0 0 0 (moment_of old first) (moment_of mid first) (moment_of last first)
          (quiet_tally state asks.TakeJob reply 0 old mid first of tt refl refl of.step.copying)
          (quiet_tally state asks.Seal sealed.step.reply 0 mid last first sealed.step.step tt refl refl
          sealed.step.step.step.copying));
      less = helped_as c.seal.result old.volume mid.volume last.volume left.2 sealed.less;
      put = λ awaits.
          (let one = (take_awaits state reply old mid of plain shows awaits).on_way in
          let bad : ⊥ = cc (left.0, one) in
          absurd bad);
      victims = λ unsealed needs.
          sealed.victims (take_unsealed state reply old mid of plain shows unsealed)
          (step_needs state asks.TakeJob reply old mid (λ asked is. ap makes_no_victim is) of needs);
      work = work_bound old.volume plain shows c.requires.idle;
      error = memory_no_range c.seal.result sealed.error;
      idle = sealed.idle;
    }
