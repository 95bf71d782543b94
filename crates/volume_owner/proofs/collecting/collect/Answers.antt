use Rattle.std.proofs.Common.{arith, ◌≡◌, false, [], refl, sym, ◌∙◌, ap, subst, Ok, Err}
use Rattle.std.specs.Prelude.{Some, None, Option, Result}
use Rattle.std.proofs.lemmas.Result.{IfOk-weaker}
use Rattle.lsvd_objstore.specs.Store.{StoreState}
use Rattle.gc_copier.specs.Plan.{PlanState}
use Rattle.vol_core.specs.declared.event.Event.TheVariants as asks
use Rattle.vol_core.specs.Volume.{SteppedVolume}
use Rattle.volume_owner.specs.declared.collecting.Turn.{Turn}
use Rattle.volume_owner.specs.declared.error.OwnerError.{OwnerError}
use Rattle.volume_owner.specs.declared.error.OwnerError.TheVariants as errors
use Rattle.volume_owner.specs.Acts.{moment_of}
use Rattle.volume_owner.specs.Tally.{IsTally}
use Rattle.volume_owner.specs.Collecting.{CollectOf, copied_in, most_of_turn}
use Rattle.volume_owner.specs.Errors.{is_eio}
use Rattle.volume_owner.specs.Replies.{copying_in}
use Rattle.volume_owner.proofs.ActLemmas.{step_act}
use Rattle.volume_owner.proofs.CallLemmas.{quiet_call, call_then, call_fewer}
use Rattle.volume_owner.proofs.CollectLemmas.{plan_makes, plan_faults, plans, planned_idle, copying_plan, copying_error}
use Rattle.volume_owner.proofs.CallLemmas.{handed_on}
use Rattle.volume_owner.proofs.CollectLemmas.{turn_ends, no_plan_tally, plan_tally, PlansAsPlain}
use Rattle.volume_owner.proofs.collecting.collect.Goals as goal

pub copy_planned-requires : goal.copy_planned-requires
copy_planned-requires g c =
    let state = g.R.Receipt.state in
    let reply = c.step.result in
    let old : SteppedVolume = c.args.volume.now in
    let mid : SteppedVolume = c.step.new.self in
    let of = c.step.ensures in
    record {
      steps = omega (arith, c.requires.steps, of.count);
      idle = planned_idle state reply old mid of c.requires.idle;
      planned =
          copying_plan reply c.in-Some.plan (sym c.copying_of.ensures ∙ c.in_ok-plan.was ∙ ap Ok c.in-Some.is) old.volume.plan
          mid.volume.plan
          of.step.copying;
    }

pub returns-in-Some : goal.returns-in-Some
returns-in-Some g c =
    let state = g.R.Receipt.state in
    let reply = c.step.result in
    let old : SteppedVolume = c.args.volume.now in
    let mid : SteppedVolume = c.step.new.self in
    let last : SteppedVolume = c.copy_planned.new.volume in
    let first : StoreState = g.S.Store.state c.args.store.now in
    let second : StoreState = g.S.Store.state c.copy_planned.new.store in
    let of = c.step.ensures in
    let copied = c.copy_planned.ensures in
    let failed = is_eio c.copy_planned.result in
    let is : copying_in reply ≡ Ok (Some c.in-Some.plan) = (sym c.copying_of.ensures ∙ c.in_ok-plan.was ∙ ap Ok c.in-Some.is) in
    record {
      collect = record {
        call =
            call_fewer state 3 most_of_turn [] failed old last first second (omega arith)
            (call_then state 1 2 [] failed old mid last first first second
            (quiet_call state 1 [] old mid first (step_act state asks.PlanCopy reply [] old mid first of tt refl)
            (plan_makes state reply old mid of) (plan_faults state reply old mid of)) copied.call);
        turns = λ plain shows.
            turn_ends c.copy_planned.result plain mid.volume last.volume
            (subst (λ (r : Result (Option PlanState) OwnerError). PlansAsPlain r plain mid.volume) is
            (plans state reply old mid of plain shows))
            copied.ends;
        tally = IfOk-weaker c.copy_planned.result
            (λ t. IsTally state (copied_in t) 0 (moment_of mid first) (moment_of last second))
            (λ t. IsTally state (copied_in t) 0 (moment_of old first) (moment_of last second))
            (λ t rest. plan_tally state reply old mid of (copied_in t) last first second rest copied.none) copied.tally;
        error = copied.error;
      };
      idle = copied.idle;
    }

pub returns-in-None : goal.returns-in-None
returns-in-None g c =
    let state = g.R.Receipt.state in
    let reply = c.step.result in
    let old : SteppedVolume = c.args.volume.now in
    let mid : SteppedVolume = c.step.new.self in
    let first : StoreState = g.S.Store.state c.args.store.now in
    let of = c.step.ensures in
    let is : copying_in reply ≡ Ok None = sym c.copying_of.ensures ∙ c.in_ok-plan.was ∙ ap Ok c.in-None.is in
    record {
      collect = record {
        call =
            call_fewer state 1 most_of_turn [] false old mid first first (omega arith)
            (quiet_call state 1 [] old mid first (step_act state asks.PlanCopy reply [] old mid first of tt refl)
            (plan_makes state reply old mid of) (plan_faults state reply old mid of));
        turns = λ plain shows.
            subst (λ (r : Result (Option PlanState) OwnerError). PlansAsPlain r plain mid.volume) is
            (plans state reply old mid of plain shows);
        tally = no_plan_tally state reply old mid of is first;
        error = λ range. cc;
      };
      idle = planned_idle state reply old mid of c.requires.idle;
    }

pub returns-in_err-plan : goal.returns-in_err-plan
returns-in_err-plan g c =
    let state = g.R.Receipt.state in
    let reply = c.step.result in
    let old : SteppedVolume = c.args.volume.now in
    let mid : SteppedVolume = c.step.new.self in
    let first : StoreState = g.S.Store.state c.args.store.now in
    let of = c.step.ensures in
    let error : OwnerError = c.in_err-plan.field-0.0 in
    let is : copying_in reply ≡ Err error = sym c.copying_of.ensures ∙ c.in_err-plan.was in
    let lacks : error ≡ errors.OutOfMemory = copying_error reply error is in
    let handed : c.from_residual.result ≡ Err errors.OutOfMemory =
    handed_on c.from_residual.result error c.from_residual.ensures.1 ∙ ap Err lacks in
    record {
      collect =
          subst (λ (r : Result Turn OwnerError). CollectOf state r old mid first first) (sym handed) (record {
            call =
                call_fewer state 1 most_of_turn [] false old mid first first (omega arith)
                (quiet_call state 1 [] old mid first (step_act state asks.PlanCopy reply [] old mid first of tt refl)
                (plan_makes state reply old mid of) (plan_faults state reply old mid of));
            turns = λ plain shows.
                subst (λ (r : Result (Option PlanState) OwnerError). PlansAsPlain r plain mid.volume) is
                (plans state reply old mid of plain shows);
            tally = tt;
            error = λ range. cc;
          });
      idle = planned_idle state reply old mid of c.requires.idle;
    }
