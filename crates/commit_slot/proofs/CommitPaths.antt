-- Of `commit`: what its calls make together, by how far it got.
use Rattle.std.proofs.Common.{◌≡◌, ℕ, ◌+◌, Bool, true, false, sym, ◌∙◌, ap, subst, inl, inr, length, arith}
use Rattle.std.proofs.Math.Path.{subst₂}
use Rattle.std.specs.Prelude.{Option, Some, None, IfSome, Result, Ok, Err, OnOk, OnErr, is_ok}
use Rattle.lsvd_device.specs.Device.{HoldsNow, MakesCalls}
use Rattle.lsvd_device.specs.Memory.{IsSynced}
use Rattle.lsvd_device.specs.Sequence.{MakesThosePassed}
use Rattle.lsvd_device.proofs.Together.{made_then, failed_then}
use Rattle.lsvd_device.proofs.Passed.{passed_failed}
use Rattle.commit_body.specs.declared.body.CommitBody.{CommitBody}
use Rattle.commit_body.proofs.BodyLemmas.{is_one_sector}
use Rattle.commit_slot.specs.Commits.{CommitsState, LeavesSince, LeavesNow, IsLast, IsLastOr, IsCommit, IsAsBefore, IsFinished}
use Rattle.commit_slot.specs.Commits.{IsBegun, IsMade, finished_number, finished_body, finish_cost, first_half_cost}
use Rattle.commit_slot.specs.Commits.{second_half_cost, commit_cost}
use Rattle.commit_slot.specs.LogArea.{KeepsLogAreaSince, KeepsLogArea, MakesLogAreaDurable}
use Rattle.commit_slot.specs.Sequence.{Costs, first_half_calls, finish_calls, commit_calls}
use Rattle.commit_slot.specs.Committing.{IsCommitted, FailsToCommit, IsCrashSafeCommit}
use Rattle.commit_slot.proofs.LogAreaLemmas.{stays_then, stays_keeps, stays_durable, durable_stays}
use Rattle.commit_slot.proofs.CrashSafeCommit.{committing, leaves_begun, committing_all}
use Rattle.commit_slot.proofs.CommitLemmas.{since_as, since_then, after_begin, all_calls, begun_at, fails_to_begin, fails_to_end}
use Rattle.commit_slot.proofs.CallLemmas.{passed_to_begin, all_passed, finish_costs}

-- what a commit takes
abbrev pub CommitCosts : CommitBody → Bool → CommitsState → CommitsState → Type 0
CommitCosts body is_made old new = Costs (commit_cost old.unfinished) (commit_calls old.number old.unfinished body) is_made
    old.disk new.disk

-- ---- the second half that was left failed

not_both : (number : ℕ) (unfinished : Option CommitBody) (body : CommitBody) → number ≡ finished_number number unfinished
    → unfinished ≡ Some body → ⊥
not_both number None body same is = cc
not_both number (Some more) body same is = omega (arith, same)

not_begun : (body : CommitBody) (old new : CommitsState) → IsAsBefore old new → IsBegun body old new → ⊥
not_begun body old new before begun = not_both old.number old.unfinished body (sym before.same_number ∙ begun.same_number)
    (sym before.same_unfinished ∙ begun.same_unfinished)

pub finish_fails : (body : CommitBody) (old new : CommitsState) → IsAsBefore old new
    → MakesCalls (finish_cost old.unfinished) false old.disk new.disk → FailsToCommit body old new
finish_fails body old new before calls = record {
  made = inl before;
  halves = inl (before, calls);
  durable = λ begun. absurd (not_begun body old new before begun);
}

pub finish_crash_safe : (body : CommitBody) (old new : CommitsState) → LeavesSince (IsLast old) old.disk new.disk
    → KeepsLogAreaSince old.disk.moments new.disk.moments → IsCrashSafeCommit body old new
finish_crash_safe body old new leaves stays = record {
  stands = since_as (IsLast old) (IsLastOr old body) old.disk new.disk (λ n b is. inl is) leaves;
  log_area = committing old body new.disk leaves stays;
}

pub finish_fails_costs : (body : CommitBody) (old new : CommitsState)
    → Costs (finish_cost old.unfinished) (finish_calls old.number old.unfinished) false old.disk new.disk
    → CommitCosts body false old new
finish_fails_costs body old new costs = record {
  calls = failed_then (finish_cost old.unfinished) _ old.disk new.disk costs.calls;
  performed = passed_failed (finish_calls old.number old.unfinished) _ (finish_cost old.unfinished) old.disk new.disk
      (finish_costs old.number old.unfinished) costs.calls costs.performed;
}

-- ---- it was made, and then the first half of the next commit was, or it failed

pub record IsBetween (body : CommitBody) (is_begun : Bool) (old middle next : CommitsState) : Type 0 where
  pub finished : IsFinished old middle
  pub uuid : length body.uuid ≡ 16
  pub finish_costs : Costs (finish_cost old.unfinished) (finish_calls old.number old.unfinished) true old.disk middle.disk
  pub begin_costs : Costs first_half_cost (first_half_calls middle.number body) is_begun middle.disk next.disk
  pub finish_leaves : LeavesSince (IsLast old) old.disk middle.disk
  pub begin_leaves : LeavesSince (IsCommit middle.number middle.body) middle.disk next.disk
  pub finish_log_area : KeepsLogAreaSince old.disk.moments middle.disk.moments
  pub begin_log_area : KeepsLogAreaSince middle.disk.moments next.disk.moments

leaves_last : (body : CommitBody) (is_begun : Bool) (old middle next : CommitsState) → IsBetween body is_begun old middle next
    → LeavesSince (IsLast old) old.disk next.disk
leaves_last body is_begun old middle next is = leaves_begun old middle next.disk is.finished is.finish_costs.calls.size
    is.finish_leaves is.begin_leaves

both_stay : (body : CommitBody) (is_begun : Bool) (old middle next : CommitsState) → IsBetween body is_begun old middle next
    → KeepsLogAreaSince old.disk.moments next.disk.moments
both_stay body is_begun old middle next is = stays_then old.disk.moments middle.disk.moments next.disk.moments is.finish_log_area
    is.begin_log_area

first_passed : (body : CommitBody) (is_begun : Bool) (old middle next : CommitsState) → IsBetween body is_begun old middle next
    → MakesThosePassed (first_half_calls (finished_number old.number old.unfinished) body) middle.disk next.disk
first_passed body is_begun old middle next is =
    (let P : ℕ → Type 0 = λ n. MakesThosePassed (first_half_calls n body) middle.disk next.disk in
    subst P is.finished.same_number is.begin_costs.performed)

-- it failed
pub begin_fails : (body : CommitBody) (old middle new : CommitsState) → IsAsBefore middle new
    → IsBetween body false old middle new → FailsToCommit body old new
begin_fails body old middle new before is =
    let finished : IsFinished old new = record {
      same_number = before.same_number ∙ is.finished.same_number;
      same_body = before.same_body ∙ is.finished.same_body;
      same_unfinished = before.same_unfinished ∙ is.finished.same_unfinished;
    } in
    record {
      made = inr (inl finished);
      halves = fails_to_begin body old middle new finished is.finish_costs.calls is.begin_costs.calls;
      durable = λ begun. (let e = sym finished.same_unfinished ∙ begun.same_unfinished in cc);
    }

pub begin_crash_safe : (body : CommitBody) (old middle new : CommitsState) → IsBetween body false old middle new
    → IsCrashSafeCommit body old new
begin_crash_safe body old middle new is = finish_crash_safe body old new (leaves_last body false old middle new is)
    (both_stay body false old middle new is)

pub begin_keeps : (body : CommitBody) (old middle new : CommitsState) → IsBetween body false old middle new
    → KeepsLogArea old.disk.moments new.disk.moments
begin_keeps body old middle new is = stays_keeps old.disk.moments new.disk.moments (both_stay body false old middle new is)

pub begin_fails_costs : (body : CommitBody) (old middle new : CommitsState) → IsBetween body false old middle new
    → CommitCosts body false old new
begin_fails_costs body old middle new is = record {
  calls = made_then (finish_cost old.unfinished) _ false old.disk middle.disk new.disk is.finish_costs.calls
      (failed_then first_half_cost second_half_cost middle.disk new.disk is.begin_costs.calls);
  performed = passed_to_begin old body middle.disk new.disk (is_one_sector body (finished_number old.number old.unfinished + 1)
      is.uuid) is.finish_costs.calls is.finish_costs.performed is.begin_costs.calls
      (first_passed body false old middle new is);
}

-- ---- and then its second half

-- what the second half was made of, or failed with
pub record IsEnded {T E : Type 0} (result : Result T E) (body : CommitBody) (old middle next new : CommitsState) : Type 0 where
  pub between : IsBetween body true old middle next
  pub begun : IsBegun body middle next
  pub durable : MakesLogAreaDurable middle.disk.moments next.disk.moments
  pub ok : OnOk result (IsFinished next new)
  pub err : OnErr result (IsAsBefore next new)
  pub stands : OnOk result (LeavesNow (IsCommit new.number new.body) new.disk)
  pub synced : OnOk result (IfSome next.unfinished (λ more. HoldsNow IsSynced new.disk.moments))
  pub costs : Costs (finish_cost next.unfinished) (finish_calls next.number next.unfinished) (is_ok result) next.disk new.disk
  pub leaves : LeavesSince (IsLast next) next.disk new.disk
  pub log_area : KeepsLogAreaSince next.disk.moments new.disk.moments

durable_then : (body : CommitBody) (old middle next : CommitsState) → IsBetween body true old middle next
    → MakesLogAreaDurable middle.disk.moments next.disk.moments → MakesLogAreaDurable old.disk.moments next.disk.moments
durable_then body old middle next is durable = stays_durable old.disk.moments middle.disk.moments next.disk.moments
    is.finish_log_area durable

durable_now : {T E : Type 0} (result : Result T E) (body : CommitBody) (old middle next new : CommitsState)
    → IsEnded result body old middle next new → MakesLogAreaDurable old.disk.moments new.disk.moments
durable_now result body old middle next new is =
    durable_stays old.disk.moments next.disk.moments new.disk.moments (both_stay body true old middle next is.between)
    (durable_then body old middle next is.between is.durable) is.log_area

committed_in : (body : CommitBody) (old middle next new : CommitsState) → IsFinished old middle → IsBegun body middle next
    → IsFinished next new → LeavesNow (IsCommit new.number new.body) new.disk
    → IfSome next.unfinished (λ more. HoldsNow IsSynced new.disk.moments) → MakesLogAreaDurable old.disk.moments new.disk.moments
    → IsCommitted body old new
committed_in body old middle next new finished begun ends stands synced durable =
    let at = begun_at old middle next body finished begun in
    let made : IsMade body old new = record {
      same_number = ends.same_number ∙ ap (finished_number next.number) at.2 ∙ ap (λ k. k + 1) at.0;
      same_body = ends.same_body ∙ ap (finished_body next.body) at.2;
      same_unfinished = ends.same_unfinished;
    } in
    let P : ℕ → CommitBody → Type 0 = λ n b. LeavesNow (IsCommit n b) new.disk in
    let Q : Option CommitBody → Type 0 = λ u. IfSome u (λ more. HoldsNow IsSynced new.disk.moments) in
    record {
      made = made;
      stands = subst₂ P made.same_number made.same_body stands;
      durable = durable;
      synced = subst Q at.2 synced;
    }

pub committed : {T E : Type 0} (result : Result T E) (body : CommitBody) (old middle next new : CommitsState)
    → IsEnded result body old middle next new → OnOk result (IsCommitted body old new)
committed (Ok value) body old middle next new is = committed_in body old middle next new is.between.finished is.begun is.ok
    is.stands is.synced (durable_now (Ok value) body old middle next new is)
committed (Err error) body old middle next new is = tt

pub end_fails : {T E : Type 0} (result : Result T E) (body : CommitBody) (old middle next new : CommitsState)
    → IsEnded result body old middle next new → OnErr result (FailsToCommit body old new)
end_fails (Ok value) body old middle next new is = tt
end_fails (Err error) body old middle next new is =
    let at = begun_at old middle next body is.between.finished is.begun in
    record {
      made = inr (inr (record {
        same_number = is.err.same_number ∙ at.0;
        same_body = is.err.same_body
            ∙ at.1;
        same_unfinished = is.err.same_unfinished ∙ at.2;
      }));
      halves = fails_to_end body old middle next new is.between.finished is.begun is.between.finish_costs.calls
          is.between.begin_costs.calls is.err is.costs.calls;
      durable = λ begun. durable_now (Err error) body old middle next new is;
    }

pub end_crash_safe : {T E : Type 0} (result : Result T E) (body : CommitBody) (old middle next new : CommitsState)
    → IsEnded result body old middle next new → IsCrashSafeCommit body old new
end_crash_safe result body old middle next new is =
    let first : LeavesSince (IsLast old) old.disk next.disk = leaves_last body true old middle next is.between in
    let size : next.disk.size ≡ old.disk.size = is.between.begin_costs.calls.size ∙ is.between.finish_costs.calls.size in
    record {
      stands = since_then (IsLastOr old body) old.disk next.disk new.disk size
          (since_as (IsLast old) (IsLastOr old body) old.disk next.disk (λ n b is. inl is) first)
          (since_as (IsLast next) (IsLastOr old body) next.disk new.disk (after_begin old middle next body is.between.finished
          is.begun) is.leaves);
      log_area = committing_all old middle next body new.disk is.between.finished is.begun size first
          (both_stay body true old middle next is.between)
          (durable_then body old middle next is.between is.durable) is.leaves is.log_area;
    }

pub end_keeps : {T E : Type 0} (result : Result T E) (body : CommitBody) (old middle next new : CommitsState)
    → IsEnded result body old middle next new → KeepsLogArea old.disk.moments new.disk.moments
end_keeps result body old middle next new is =
    stays_keeps old.disk.moments new.disk.moments (stays_then old.disk.moments next.disk.moments new.disk.moments
    (both_stay body true old middle next is.between) is.log_area)

pub end_costs : {T E : Type 0} (result : Result T E) (body : CommitBody) (old middle next new : CommitsState)
    → IsEnded result body old middle next new → CommitCosts body (is_ok result) old new
end_costs result body old middle next new is =
    let at = begun_at old middle next body is.between.finished is.begun in
    let P : ℕ → Option CommitBody → Type 0 = λ n u. MakesThosePassed (finish_calls n u) next.disk new.disk in
    record {
      calls = all_calls old middle next new body (is_ok result) at.2 is.between.finish_costs.calls is.between.begin_costs.calls
          is.costs.calls;
      performed = all_passed old body middle.disk next.disk new.disk
          (is_one_sector body (finished_number old.number old.unfinished + 1) is.between.uuid) is.between.finish_costs.calls
          is.between.finish_costs.performed
          is.between.begin_costs.calls (first_passed body true old middle next is.between)
          (subst₂ P at.0 at.2 is.costs.performed);
    }
