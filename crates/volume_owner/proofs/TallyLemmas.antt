-- Tallies of acts, one after the other, and of one act.
use Rattle.std.proofs.Common.{◌≡◌, ℕ, ◌+◌, Bool, false, List, [], ◌∷◌, ◌++◌, refl, ◌∙◌, ap, subst, add-zero, zero-add}
use Rattle.std.specs.Prelude.{Some, None}
use Rattle.std.specs.List.{sum_by}
use Rattle.std.proofs.lemmas.List.Sums.{sum_by-append, sum_by-cons}
use Rattle.lsvd_fault.specs.Faults.{Counts}
use Rattle.lsvd_names.specs.declared.name.ObjName.{ObjName}
use Rattle.lsvd_objstore.specs.Objects.{IsPut, IsRemoved}
use Rattle.lsvd_objstore.specs.Store.{StoreState, ReceiptState, Put, Remove, IsAskedOnce, Becomes, OnlyCounts}
use Rattle.object_uploads.specs.State.{JobState}
use Rattle.vol_core.specs.declared.event.Event.{Event}
use Rattle.vol_core.specs.declared.event.Event.TheVariants as asks
use Rattle.vol_core.specs.declared.reply.Reply.{Reply}
use Rattle.vol_core.specs.Volume.{SteppedVolume}
use Rattle.vol_core.specs.Step.{CountedStep}
use Rattle.vol_core.specs.View.{object_name_in, plan_out, removal_out}
use Rattle.volume_owner.specs.Acts.{Moment, moment_of, Act, Made, Puts, Removes, Gets, HasItsObject, IsPutAct, IsRemoveAct, IsAct}
use Rattle.volume_owner.specs.Helping.{IsTaken}
use Rattle.volume_owner.specs.Tally.{copied_by_event, copied_by_act, removed_by_event, removed_by_act, IsTally}
use Rattle.volume_owner.proofs.ActLemmas.{acts_then, has_put, put_is}
use Rattle.volume_owner.proofs.RemoveLemmas.{has_gone, removal_is}

-- ---- one after the other

sums_then : {R : Type 0} (of : Act R → ℕ) (a b : ℕ) (first second : List (Act R)) → sum_by of first ≡ a → sum_by of second ≡ b
    → sum_by of (first ++ second) ≡ a + b
sums_then of a b first second one two =
    sum_by-append of first second ∙ ap (λ n. n + sum_by of second) one ∙ ap (λ n. a + n) two

pub tally_then : {R : Type 0} (state : R → ReceiptState) (a b c d : ℕ) (old mid new : Moment) → IsTally state a b old mid
    → IsTally state c d mid new → IsTally state (a + c) (b + d) old new
tally_then state a b c d old mid new first second = record {
  acts = first.acts ++ second.acts;
  done = acts_then state first.acts second.acts old mid new first.done second.done;
  copies = sums_then copied_by_act a c first.acts second.acts first.copies second.copies;
  removals = sums_then removed_by_act b d first.acts second.acts first.removals second.removals;
  plan = λ none. second.plan (first.plan none);
}

-- before or after others that copied and removed nothing
pub tally_after : {R : Type 0} (state : R → ReceiptState) (c d : ℕ) (old mid new : Moment) → IsTally state 0 0 old mid
    → IsTally state c d mid new → IsTally state c d old new
tally_after state c d old mid new first second =
    subst (λ a. IsTally state a d old new) (zero-add c)
    (subst (λ b. IsTally state (0 + c) b old new) (zero-add d) (tally_then state 0 0 c d old mid new first second))

pub tally_before : {R : Type 0} (state : R → ReceiptState) (a b : ℕ) (old mid new : Moment) → IsTally state a b old mid
    → IsTally state 0 0 mid new → IsTally state a b old new
tally_before state a b old mid new first second =
    subst (λ c. IsTally state c b old new) (add-zero a)
    (subst (λ d. IsTally state (a + 0) d old new) (add-zero b) (tally_then state a b 0 0 old mid new first second))

-- ---- none, and one

pub no_tally : {R : Type 0} (state : R → ReceiptState) (moment : Moment) → IsTally state 0 0 moment moment
no_tally state moment = record { acts = []; done = refl; copies = refl; removals = refl; plan = λ none. none }

sum_of_one : {R : Type 0} (of : Act R → ℕ) (act : Act R) → sum_by of (act ∷ []) ≡ of act
sum_of_one of act = sum_by-cons of act [] ∙ add-zero (of act)

one_tally : {R : Type 0} (state : R → ReceiptState) (act : Act R) (copied removed : ℕ) (old new : Moment)
    → IsAct state act old new → copied_by_act act ≡ copied → removed_by_act act ≡ removed
    → (plan_out old.volume.volume ≡ None → plan_out new.volume.volume ≡ None) → IsTally state copied removed old new
one_tally state act copied removed old new is copies removals plan = record {
  acts = act ∷ [];
  done = (new, is, refl);
  copies = sum_of_one copied_by_act act ∙ copies;
  removals = sum_of_one removed_by_act act ∙ removals;
  plan = plan;
}

-- a step of the volume
pub step_tally : {R : Type 0} (state : R → ReceiptState) (event : Event R) (reply : Reply R) (copied removed : ℕ)
    (old new : SteppedVolume) (store : StoreState) → CountedStep state event reply old new
    → HasItsObject event old.volume store → copied_by_event event reply ≡ copied → removed_by_event event reply ≡ removed
    → (plan_out old.volume ≡ None → plan_out new.volume ≡ None)
    → IsTally state copied removed (moment_of old store) (moment_of new store)
step_tally state event reply copied removed old new store of object copies removals plan =
    one_tally state (Made event reply) copied removed (moment_of old store) (moment_of new store)
    (record { step = of; store = refl; object = object }) copies removals plan

-- one that seals no copy, and after which the same plan is out
pub quiet_tally : {R : Type 0} (state : R → ReceiptState) (event : Event R) (reply : Reply R) (removed : ℕ)
    (old new : SteppedVolume) (store : StoreState) → CountedStep state event reply old new
    → HasItsObject event old.volume store → copied_by_event event reply ≡ 0 → removed_by_event event reply ≡ removed
    → plan_out new.volume ≡ plan_out old.volume → IsTally state 0 removed (moment_of old store) (moment_of new store)
quiet_tally state event reply removed old new store of object copies removals same =
    step_tally state event reply 0 removed old new store of object copies removals (λ none. same ∙ none)

-- the volume stays in an act of the store
same_plan : (old new : Moment) → new.volume ≡ old.volume → plan_out old.volume.volume ≡ None → plan_out new.volume.volume ≡ None
same_plan old new same none = ap (λ (v : SteppedVolume). plan_out v.volume) same ∙ none

put_tally : {R : Type 0} (state : R → ReceiptState) (job : JobState) (failed : Bool) (old new : Moment)
    → IsPutAct job failed old new → IsTally state 0 0 old new
put_tally {R} state job failed old new is =
    let act : Act R = Puts job failed in
    one_tally state act 0 0 old new is refl refl (same_plan old new is.volume)

remove_tally : {R : Type 0} (state : R → ReceiptState) (number : ℕ) (failed : Bool) (old new : Moment)
    → IsRemoveAct number failed old new → IsTally state 0 0 old new
remove_tally {R} state number failed old new is =
    let act : Act R = Removes number failed in
    one_tally state act 0 0 old new is refl refl (same_plan old new is.volume)

pub get_tally : {R : Type 0} (state : R → ReceiptState) (failed : Bool) (volume : SteppedVolume) (first second : StoreState)
    → OnlyCounts first second → Counts failed first.faults second.faults
    → IsTally state 0 0 (moment_of volume first) (moment_of volume second)
get_tally {R} state failed volume first second only counts =
    let act : Act R = Gets failed in
    one_tally state act 0 0 (moment_of volume first) (moment_of volume second)
    (record { volume = refl; store = only; faults = counts }) refl refl (λ none. none)

-- ---- a put, and a removal, of which the volume is told

pub done_tally : {R : Type 0} (state : R → ReceiptState) (job : JobState) (reply : Reply R) (old new : SteppedVolume)
    (first second : StoreState) (receipt : R) → IsTaken job old.volume
    → Becomes (IsPut job.name job.bytes) first.objects second.objects
    → IsAskedOnce (Put job.name job.bytes) first.asked second.asked → second.faults ≡ first.faults
    → CountedStep state (asks.JobDone job receipt) reply old new
    → IsTally state 0 0 (moment_of old first) (moment_of new second)
done_tally state job reply old new first second receipt taken put asked counts of =
    tally_then state 0 0 0 0 (moment_of old first) (moment_of old second) (moment_of new second)
    (put_tally state job false (moment_of old first) (moment_of old second)
    (put_is state job job.name job.bytes reply old new first second taken refl refl false put asked counts))
    (quiet_tally state (asks.JobDone job receipt) reply 0 old new second of
    (has_put job.name (object_name_in old.volume job.name.number) job.bytes taken.named first.objects second.objects put) refl
    refl of.step.copying)

pub removed_tally : {R : Type 0} (state : R → ReceiptState) (number : ℕ) (name : ObjName) (reply : Reply R)
    (old new : SteppedVolume) (first second : StoreState) → removal_out old.volume ≡ Some number
    → name ≡ object_name_in old.volume number → IsAskedOnce (Remove name) first.asked second.asked
    → Becomes (IsRemoved name) first.objects second.objects → second.faults ≡ first.faults
    → CountedStep state (asks.RemoveDone number) reply old new
    → removed_by_event (asks.RemoveDone number) reply ≡ 1
    → IsTally state 0 1 (moment_of old first) (moment_of new second)
removed_tally state number name reply old new first second out named asked left counts of told_it =
    tally_then state 0 0 0 1 (moment_of old first) (moment_of old second) (moment_of new second)
    (remove_tally state number false (moment_of old first) (moment_of old second)
    (removal_is number name old first second out named asked false left counts))
    (quiet_tally state (asks.RemoveDone number) reply 1 old new second of
    (has_gone name (object_name_in old.volume number) named first.objects second.objects left) refl told_it of.step.copying)
