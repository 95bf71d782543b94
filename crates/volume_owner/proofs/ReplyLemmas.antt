-- Each reply of a volume to an entry: that it was entered, or another, by which it is tried again or refused.
use Rattle.std.proofs.Common.{◌≡◌, ℕ, ◌⊎◌, inl, inr, Bool, true, false, [], refl, sym, ap, subst}
use Rattle.std.specs.Prelude.{None, Result, Err, IsOkUnless}
use Rattle.lsvd_base.specs.declared.entry.Entry.{Entry}
use Rattle.vol_core.specs.declared.reply.EntryRefusal.{EntryRefusal}
use Rattle.vol_core.specs.declared.reply.EntryRefusal.TheVariants as refusals
use Rattle.vol_core.specs.declared.reply.Reply.{Reply}
use Rattle.vol_core.specs.declared.reply.Reply.TheVariants as told
use Rattle.vol_core.specs.declared.reply.SealRefusal.TheVariants as seal_refusals
use Rattle.object_uploads.specs.State.{JobState}
use Rattle.read_plan.specs.Plan.{PlanState}
use Rattle.vol_core.specs.Step.{tells_fault, lacks_memory}
use Rattle.volume_owner.specs.declared.replies.Attempt.TheVariants.{Entered, Again}
use Rattle.volume_owner.specs.Replies.{attempt_in, job_in, plan_in, count_in, seal_in, receipt_in}
use Rattle.volume_owner.specs.Errors.{is_eio}
use Rattle.volume_owner.specs.declared.error.OwnerError.{OwnerError}
use Rattle.volume_owner.specs.declared.error.OwnerError.TheVariants as errors
use Rattle.volume_owner.specs.Helping.{entered_by, attempt_failed}

-- an entry may be tried again
abbrev pub is_again : EntryRefusal → Bool
is_again (refusals.Full why) = true
is_again (refusals.NoRoom needed left) = true
is_again why = false

-- the reply tells of no entry that was entered
pub record IsOther {R : Type 0} (reply : Reply R) : Type 0 where
  pub other : (count : ℕ) → reply ≡ told.Entered count → ⊥
  pub none : (entry : Entry) → entered_by entry (attempt_in reply) ≡ []
  pub fault : attempt_failed (attempt_in reply) ≡ tells_fault reply
  pub again : (back : Entry) → attempt_in reply ≡ Again back → (why : EntryRefusal) × (reply ≡ told.NotEntered back why)
      × (is_again why ≡ true)
  pub count : (count : ℕ) → attempt_in reply ≡ Entered count → ⊥

pub reply_cases : {R : Type 0} (reply : Reply R) → ((count : ℕ) × (reply ≡ told.Entered count)) ⊎ IsOther reply
reply_cases (told.Entered n) = inl (n, refl)
reply_cases (told.NotEntered entry refusals.Range) =
    inr (record {
      other = λ count is. cc;
      none = λ entry. refl;
      fault = refl;
      again = λ back is. (let bad : ⊥ = cc in absurd bad);
      count = λ count is. cc;
    })
reply_cases (told.NotEntered entry (refusals.Full why)) =
    inr (record {
      other = λ count is. cc;
      none = λ entry. refl;
      fault = refl;
      again = λ back is. (
        refusals.Full why,
        (let same : entry ≡ back = cc in
            ap (λ (e : Entry). told.NotEntered e (refusals.Full why)) same),
        refl,
      );
      count = λ count is. cc;
    })
reply_cases (told.NotEntered entry (refusals.NoRoom needed left)) =
    inr (record {
      other = λ count is. cc;
      none = λ entry. refl;
      fault = refl;
      again = λ back is. (
        refusals.NoRoom needed left,
        (let same : entry ≡ back = cc in
            ap (λ (e : Entry). told.NotEntered e (refusals.NoRoom needed left)) same),
        refl,
      );
      count = λ count is. cc;
    })
reply_cases (told.NotEntered entry refusals.Fault) =
    inr (record {
      other = λ count is. cc;
      none = λ entry. refl;
      fault = refl;
      again = λ back is. (let bad : ⊥ = cc in absurd bad);
      count = λ count is. cc;
    })
reply_cases (told.NotEntered entry refusals.OutOfMemory) =
    inr (record {
      other = λ count is. cc;
      none = λ entry. refl;
      fault = refl;
      again = λ back is. (let bad : ⊥ = cc in absurd bad);
      count = λ count is. cc;
    })
reply_cases (told.Flushed n) =
    inr (record {
      other = λ count is. cc;
      none = λ entry. refl;
      fault = refl;
      again = λ back is. (let bad : ⊥ = cc in absurd bad);
      count = λ count is. cc;
    })
reply_cases (told.Planned plan) =
    inr (record {
      other = λ count is. cc;
      none = λ entry. refl;
      fault = refl;
      again = λ back is. (let bad : ⊥ = cc in absurd bad);
      count = λ count is. cc;
    })
reply_cases told.Released =
    inr (record {
      other = λ count is. cc;
      none = λ entry. refl;
      fault = refl;
      again = λ back is. (let bad : ⊥ = cc in absurd bad);
      count = λ count is. cc;
    })
reply_cases (told.NotReleased plan) =
    inr (record {
      other = λ count is. cc;
      none = λ entry. refl;
      fault = refl;
      again = λ back is. (let bad : ⊥ = cc in absurd bad);
      count = λ count is. cc;
    })
reply_cases (told.Sealed n) =
    inr (record {
      other = λ count is. cc;
      none = λ entry. refl;
      fault = refl;
      again = λ back is. (let bad : ⊥ = cc in absurd bad);
      count = λ count is. cc;
    })
reply_cases (told.Taken job) =
    inr (record {
      other = λ count is. cc;
      none = λ entry. refl;
      fault = refl;
      again = λ back is. (let bad : ⊥ = cc in absurd bad);
      count = λ count is. cc;
    })
reply_cases (told.Done n) =
    inr (record {
      other = λ count is. cc;
      none = λ entry. refl;
      fault = refl;
      again = λ back is. (let bad : ⊥ = cc in absurd bad);
      count = λ count is. cc;
    })
reply_cases (told.NotDone job receipt) =
    inr (record {
      other = λ count is. cc;
      none = λ entry. refl;
      fault = refl;
      again = λ back is. (let bad : ⊥ = cc in absurd bad);
      count = λ count is. cc;
    })
reply_cases told.Returned =
    inr (record {
      other = λ count is. cc;
      none = λ entry. refl;
      fault = refl;
      again = λ back is. (let bad : ⊥ = cc in absurd bad);
      count = λ count is. cc;
    })
reply_cases (told.NotReturned job) =
    inr (record {
      other = λ count is. cc;
      none = λ entry. refl;
      fault = refl;
      again = λ back is. (let bad : ⊥ = cc in absurd bad);
      count = λ count is. cc;
    })
reply_cases (told.Removing receipt) =
    inr (record {
      other = λ count is. cc;
      none = λ entry. refl;
      fault = refl;
      again = λ back is. (let bad : ⊥ = cc in absurd bad);
      count = λ count is. cc;
    })
reply_cases told.Removed =
    inr (record {
      other = λ count is. cc;
      none = λ entry. refl;
      fault = refl;
      again = λ back is. (let bad : ⊥ = cc in absurd bad);
      count = λ count is. cc;
    })
reply_cases told.GivenBack =
    inr (record {
      other = λ count is. cc;
      none = λ entry. refl;
      fault = refl;
      again = λ back is. (let bad : ⊥ = cc in absurd bad);
      count = λ count is. cc;
    })
reply_cases (told.NotGivenBack receipt) =
    inr (record {
      other = λ count is. cc;
      none = λ entry. refl;
      fault = refl;
      again = λ back is. (let bad : ⊥ = cc in absurd bad);
      count = λ count is. cc;
    })
reply_cases (told.Copying plan) =
    inr (record {
      other = λ count is. cc;
      none = λ entry. refl;
      fault = refl;
      again = λ back is. (let bad : ⊥ = cc in absurd bad);
      count = λ count is. cc;
    })
reply_cases (told.NotSealed copied why) =
    inr (record {
      other = λ count is. cc;
      none = λ entry. refl;
      fault = refl;
      again = λ back is. (let bad : ⊥ = cc in absurd bad);
      count = λ count is. cc;
    })
reply_cases told.Dropped =
    inr (record {
      other = λ count is. cc;
      none = λ entry. refl;
      fault = refl;
      again = λ back is. (let bad : ⊥ = cc in absurd bad);
      count = λ count is. cc;
    })
reply_cases (told.Told a b c d) =
    inr (record {
      other = λ count is. cc;
      none = λ entry. refl;
      fault = refl;
      again = λ back is. (let bad : ⊥ = cc in absurd bad);
      count = λ count is. cc;
    })
reply_cases told.Range =
    inr (record {
      other = λ count is. cc;
      none = λ entry. refl;
      fault = refl;
      again = λ back is. (let bad : ⊥ = cc in absurd bad);
      count = λ count is. cc;
    })
reply_cases told.Nothing =
    inr (record {
      other = λ count is. cc;
      none = λ entry. refl;
      fault = refl;
      again = λ back is. (let bad : ⊥ = cc in absurd bad);
      count = λ count is. cc;
    })
reply_cases told.Busy =
    inr (record {
      other = λ count is. cc;
      none = λ entry. refl;
      fault = refl;
      again = λ back is. (let bad : ⊥ = cc in absurd bad);
      count = λ count is. cc;
    })
reply_cases told.Fault =
    inr (record {
      other = λ count is. cc;
      none = λ entry. refl;
      fault = refl;
      again = λ back is. (let bad : ⊥ = cc in absurd bad);
      count = λ count is. cc;
    })
reply_cases told.OutOfMemory =
    inr (record {
      other = λ count is. cc;
      none = λ entry. refl;
      fault = refl;
      again = λ back is. (let bad : ⊥ = cc in absurd bad);
      count = λ count is. cc;
    })

-- ---- other replies

pub job_cases : {R : Type 0} (reply : Reply R) → ((job : JobState) × (reply ≡ told.Taken job)) ⊎ (job_in reply ≡ None)
job_cases (told.Entered n) = inr refl
job_cases (told.NotEntered entry refusals.Range) = inr refl
job_cases (told.NotEntered entry (refusals.Full why)) = inr refl
job_cases (told.NotEntered entry (refusals.NoRoom needed left)) = inr refl
job_cases (told.NotEntered entry refusals.Fault) = inr refl
job_cases (told.NotEntered entry refusals.OutOfMemory) = inr refl
job_cases (told.Flushed n) = inr refl
job_cases (told.Planned plan) = inr refl
job_cases told.Released = inr refl
job_cases (told.NotReleased plan) = inr refl
job_cases (told.Sealed n) = inr refl
job_cases (told.Taken job) = inl (job, refl)
job_cases (told.Done n) = inr refl
job_cases (told.NotDone job receipt) = inr refl
job_cases told.Returned = inr refl
job_cases (told.NotReturned job) = inr refl
job_cases (told.Removing receipt) = inr refl
job_cases told.Removed = inr refl
job_cases told.GivenBack = inr refl
job_cases (told.NotGivenBack receipt) = inr refl
job_cases (told.Copying plan) = inr refl
job_cases (told.NotSealed copied why) = inr refl
job_cases told.Dropped = inr refl
job_cases (told.Told a b c d) = inr refl
job_cases told.Range = inr refl
job_cases told.Nothing = inr refl
job_cases told.Busy = inr refl
job_cases told.Fault = inr refl
job_cases told.OutOfMemory = inr refl

pub count_cases : {R : Type 0} (reply : Reply R) → ((count : ℕ) × (reply ≡ told.Flushed count)) ⊎ (count_in reply ≡ None)
count_cases (told.Entered n) = inr refl
count_cases (told.NotEntered entry refusals.Range) = inr refl
count_cases (told.NotEntered entry (refusals.Full why)) = inr refl
count_cases (told.NotEntered entry (refusals.NoRoom needed left)) = inr refl
count_cases (told.NotEntered entry refusals.Fault) = inr refl
count_cases (told.NotEntered entry refusals.OutOfMemory) = inr refl
count_cases (told.Flushed n) = inl (n, refl)
count_cases (told.Planned plan) = inr refl
count_cases told.Released = inr refl
count_cases (told.NotReleased plan) = inr refl
count_cases (told.Sealed n) = inr refl
count_cases (told.Taken job) = inr refl
count_cases (told.Done n) = inr refl
count_cases (told.NotDone job receipt) = inr refl
count_cases told.Returned = inr refl
count_cases (told.NotReturned job) = inr refl
count_cases (told.Removing receipt) = inr refl
count_cases told.Removed = inr refl
count_cases told.GivenBack = inr refl
count_cases (told.NotGivenBack receipt) = inr refl
count_cases (told.Copying plan) = inr refl
count_cases (told.NotSealed copied why) = inr refl
count_cases told.Dropped = inr refl
count_cases (told.Told a b c d) = inr refl
count_cases told.Range = inr refl
count_cases told.Nothing = inr refl
count_cases told.Busy = inr refl
count_cases told.Fault = inr refl
count_cases told.OutOfMemory = inr refl

pub receipt_cases : {R : Type 0} (reply : Reply R)
    → ((receipt : R) × (reply ≡ told.Removing receipt)) ⊎ (receipt_in reply ≡ None)
receipt_cases (told.Entered n) = inr refl
receipt_cases (told.NotEntered entry refusals.Range) = inr refl
receipt_cases (told.NotEntered entry (refusals.Full why)) = inr refl
receipt_cases (told.NotEntered entry (refusals.NoRoom needed left)) = inr refl
receipt_cases (told.NotEntered entry refusals.Fault) = inr refl
receipt_cases (told.NotEntered entry refusals.OutOfMemory) = inr refl
receipt_cases (told.Flushed n) = inr refl
receipt_cases (told.Planned plan) = inr refl
receipt_cases told.Released = inr refl
receipt_cases (told.NotReleased plan) = inr refl
receipt_cases (told.Sealed n) = inr refl
receipt_cases (told.Taken job) = inr refl
receipt_cases (told.Done n) = inr refl
receipt_cases (told.NotDone job receipt) = inr refl
receipt_cases told.Returned = inr refl
receipt_cases (told.NotReturned job) = inr refl
receipt_cases (told.Removing receipt) = inl (receipt, refl)
receipt_cases told.Removed = inr refl
receipt_cases told.GivenBack = inr refl
receipt_cases (told.NotGivenBack receipt) = inr refl
receipt_cases (told.Copying plan) = inr refl
receipt_cases (told.NotSealed copied why) = inr refl
receipt_cases told.Dropped = inr refl
receipt_cases (told.Told a b c d) = inr refl
receipt_cases told.Range = inr refl
receipt_cases told.Nothing = inr refl
receipt_cases told.Busy = inr refl
receipt_cases told.Fault = inr refl
receipt_cases told.OutOfMemory = inr refl

pub seal_cases : {R : Type 0} (reply : Reply R)
    → ((number : ℕ) × (reply ≡ told.Sealed number)) ⊎ ((reply ≡ told.Nothing) ⊎ (seal_in reply ≡ Err errors.OutOfMemory))
seal_cases (told.Entered n) = inr (inr refl)
seal_cases (told.NotEntered entry refusals.Range) = inr (inr refl)
seal_cases (told.NotEntered entry (refusals.Full why)) = inr (inr refl)
seal_cases (told.NotEntered entry (refusals.NoRoom needed left)) = inr (inr refl)
seal_cases (told.NotEntered entry refusals.Fault) = inr (inr refl)
seal_cases (told.NotEntered entry refusals.OutOfMemory) = inr (inr refl)
seal_cases (told.Flushed n) = inr (inr refl)
seal_cases (told.Planned plan) = inr (inr refl)
seal_cases told.Released = inr (inr refl)
seal_cases (told.NotReleased plan) = inr (inr refl)
seal_cases (told.Sealed n) = inl (n, refl)
seal_cases (told.Taken job) = inr (inr refl)
seal_cases (told.Done n) = inr (inr refl)
seal_cases (told.NotDone job receipt) = inr (inr refl)
seal_cases told.Returned = inr (inr refl)
seal_cases (told.NotReturned job) = inr (inr refl)
seal_cases (told.Removing receipt) = inr (inr refl)
seal_cases told.Removed = inr (inr refl)
seal_cases told.GivenBack = inr (inr refl)
seal_cases (told.NotGivenBack receipt) = inr (inr refl)
seal_cases (told.Copying plan) = inr (inr refl)
seal_cases (told.NotSealed copied why) = inr (inr refl)
seal_cases told.Dropped = inr (inr refl)
seal_cases (told.Told a b c d) = inr (inr refl)
seal_cases told.Range = inr (inr refl)
seal_cases told.Nothing = inr (inl refl)
seal_cases told.Busy = inr (inr refl)
seal_cases told.Fault = inr (inr refl)
seal_cases told.OutOfMemory = inr (inr refl)

-- of a seal that fails memory ran out
pub seal_alone : {R : Type 0} (reply : Reply R) → IsOkUnless (seal_in reply) errors.OutOfMemory
seal_alone {R} reply =
    let Alone : Result Bool OwnerError → Type 0 = λ r. IsOkUnless r errors.OutOfMemory in
    elim (seal_cases reply) [
      | inl e ↦ subst Alone (sym (ap seal_in e.1)) tt
      | inr o ↦ elim o [
        | inl is ↦ subst Alone (sym (ap seal_in is)) tt
        | inr lacks ↦ subst Alone (sym lacks) refl
      ]
    ]

-- why there is no plan
pub record HasNoPlan {R : Type 0} (reply : Reply R) : Type 0 where
  pub error : OwnerError
  pub is : plan_in reply ≡ Err error
  pub fault : is_eio {T = ℕ} (Err error) ≡ tells_fault reply
  pub no_range : error ≡ errors.Range → ⊥

pub plan_cases : {R : Type 0} (reply : Reply R) → ((plan : PlanState) × (reply ≡ told.Planned plan)) ⊎ HasNoPlan reply
plan_cases (told.Entered n) = inr (record { error = errors.OutOfMemory; is = refl; fault = refl; no_range = λ is. cc })
plan_cases (told.NotEntered entry refusals.Range) =
    inr (record { error = errors.OutOfMemory; is = refl; fault = refl; no_range = λ is. cc })
plan_cases (told.NotEntered entry (refusals.Full why)) =
    inr (record { error = errors.OutOfMemory; is = refl; fault = refl; no_range = λ is. cc })
plan_cases (told.NotEntered entry (refusals.NoRoom needed left)) =
    inr (record { error = errors.OutOfMemory; is = refl; fault = refl; no_range = λ is. cc })
plan_cases (told.NotEntered entry refusals.Fault) =
    inr (record { error = errors.Eio; is = refl; fault = refl; no_range = λ is. cc })
plan_cases (told.NotEntered entry refusals.OutOfMemory) =
    inr (record { error = errors.OutOfMemory; is = refl; fault = refl; no_range = λ is. cc })
plan_cases (told.Flushed n) = inr (record { error = errors.OutOfMemory; is = refl; fault = refl; no_range = λ is. cc })
plan_cases (told.Planned plan) = inl (plan, refl)
plan_cases told.Released = inr (record { error = errors.OutOfMemory; is = refl; fault = refl; no_range = λ is. cc })
plan_cases (told.NotReleased plan) = inr (record { error = errors.OutOfMemory; is = refl; fault = refl; no_range = λ is. cc })
plan_cases (told.Sealed n) = inr (record { error = errors.OutOfMemory; is = refl; fault = refl; no_range = λ is. cc })
plan_cases (told.Taken job) = inr (record { error = errors.OutOfMemory; is = refl; fault = refl; no_range = λ is. cc })
plan_cases (told.Done n) = inr (record { error = errors.OutOfMemory; is = refl; fault = refl; no_range = λ is. cc })
plan_cases (told.NotDone job receipt) = inr (record { error = errors.OutOfMemory; is = refl; fault = refl; no_range = λ is. cc })
plan_cases told.Returned = inr (record { error = errors.OutOfMemory; is = refl; fault = refl; no_range = λ is. cc })
plan_cases (told.NotReturned job) = inr (record { error = errors.OutOfMemory; is = refl; fault = refl; no_range = λ is. cc })
plan_cases (told.Removing receipt) = inr (record { error = errors.OutOfMemory; is = refl; fault = refl; no_range = λ is. cc })
plan_cases told.Removed = inr (record { error = errors.OutOfMemory; is = refl; fault = refl; no_range = λ is. cc })
plan_cases told.GivenBack = inr (record { error = errors.OutOfMemory; is = refl; fault = refl; no_range = λ is. cc })
plan_cases (told.NotGivenBack receipt) = inr (record { error = errors.OutOfMemory; is = refl; fault = refl; no_range = λ is. cc })
plan_cases (told.Copying plan) = inr (record { error = errors.OutOfMemory; is = refl; fault = refl; no_range = λ is. cc })
plan_cases (told.NotSealed copied why) = inr (record { error = errors.OutOfMemory; is = refl; fault = refl; no_range = λ is. cc })
plan_cases told.Dropped = inr (record { error = errors.OutOfMemory; is = refl; fault = refl; no_range = λ is. cc })
plan_cases (told.Told a b c d) = inr (record { error = errors.OutOfMemory; is = refl; fault = refl; no_range = λ is. cc })
plan_cases told.Range = inr (record { error = errors.OutOfMemory; is = refl; fault = refl; no_range = λ is. cc })
plan_cases told.Nothing = inr (record { error = errors.OutOfMemory; is = refl; fault = refl; no_range = λ is. cc })
plan_cases told.Busy = inr (record { error = errors.OutOfMemory; is = refl; fault = refl; no_range = λ is. cc })
plan_cases told.Fault = inr (record { error = errors.Eio; is = refl; fault = refl; no_range = λ is. cc })
plan_cases told.OutOfMemory = inr (record { error = errors.OutOfMemory; is = refl; fault = refl; no_range = λ is. cc })

-- a reply that tells that memory ran out tells no fault
pub memory_is_no_fault : {R : Type 0} (reply : Reply R) → lacks_memory reply ≡ true → tells_fault reply ≡ false
memory_is_no_fault (told.Entered n) is = let bad : ⊥ = cc in absurd bad
memory_is_no_fault (told.NotEntered entry refusals.Range) is = let bad : ⊥ = cc in absurd bad
memory_is_no_fault (told.NotEntered entry (refusals.Full why)) is = let bad : ⊥ = cc in absurd bad
memory_is_no_fault (told.NotEntered entry (refusals.NoRoom needed left)) is = let bad : ⊥ = cc in absurd bad
memory_is_no_fault (told.NotEntered entry refusals.Fault) is = let bad : ⊥ = cc in absurd bad
memory_is_no_fault (told.NotEntered entry refusals.OutOfMemory) is = refl
memory_is_no_fault (told.Flushed n) is = let bad : ⊥ = cc in absurd bad
memory_is_no_fault (told.Planned plan) is = let bad : ⊥ = cc in absurd bad
memory_is_no_fault told.Released is = let bad : ⊥ = cc in absurd bad
memory_is_no_fault (told.NotReleased plan) is = let bad : ⊥ = cc in absurd bad
memory_is_no_fault (told.Sealed n) is = let bad : ⊥ = cc in absurd bad
memory_is_no_fault (told.Taken job) is = let bad : ⊥ = cc in absurd bad
memory_is_no_fault (told.Done n) is = let bad : ⊥ = cc in absurd bad
memory_is_no_fault (told.NotDone job receipt) is = let bad : ⊥ = cc in absurd bad
memory_is_no_fault told.Returned is = let bad : ⊥ = cc in absurd bad
memory_is_no_fault (told.NotReturned job) is = let bad : ⊥ = cc in absurd bad
memory_is_no_fault (told.Removing receipt) is = let bad : ⊥ = cc in absurd bad
memory_is_no_fault told.Removed is = let bad : ⊥ = cc in absurd bad
memory_is_no_fault told.GivenBack is = let bad : ⊥ = cc in absurd bad
memory_is_no_fault (told.NotGivenBack receipt) is = let bad : ⊥ = cc in absurd bad
memory_is_no_fault (told.Copying plan) is = let bad : ⊥ = cc in absurd bad
memory_is_no_fault (told.NotSealed copied seal_refusals.NotPlanned) is = let bad : ⊥ = cc in absurd bad
memory_is_no_fault (told.NotSealed copied seal_refusals.Busy) is = let bad : ⊥ = cc in absurd bad
memory_is_no_fault (told.NotSealed copied seal_refusals.OutOfMemory) is = refl
memory_is_no_fault told.Dropped is = let bad : ⊥ = cc in absurd bad
memory_is_no_fault (told.Told a b c d) is = let bad : ⊥ = cc in absurd bad
memory_is_no_fault told.Range is = let bad : ⊥ = cc in absurd bad
memory_is_no_fault told.Nothing is = let bad : ⊥ = cc in absurd bad
memory_is_no_fault told.Busy is = let bad : ⊥ = cc in absurd bad
memory_is_no_fault told.Fault is = let bad : ⊥ = cc in absurd bad
memory_is_no_fault told.OutOfMemory is = refl
