-- Acts of a call, one after the other.
use Rattle.std.proofs.Common.{◌≡◌, ℕ, Bool, true, false, List, [], ◌∷◌, ◌++◌, flat_map, append-nil, append_assoc, refl, sym, ◌∙◌}
use Rattle.std.proofs.Common.{ap}
use Rattle.std.proofs.Common.{subst}
use Rattle.std.specs.Prelude.{Option, Some, None, IfSome, Err, IsErrOf}
use Rattle.lsvd_base.specs.declared.entry.Entry.{Entry}
use Rattle.lsvd_base.specs.declared.entry.Entry.TheVariants as entries
use Rattle.lsvd_fault.specs.Faults.{Counts}
use Rattle.lsvd_names.specs.declared.name.ObjName.{ObjName}
use Rattle.lsvd_names.specs.Names.{numbered_name}
use Rattle.lsvd_objstore.specs.declared.error.StoreError.{StoreError}
use Rattle.lsvd_objstore.specs.declared.error.StoreError.TheVariants as store_errors
use Rattle.lsvd_objstore.specs.Objects.{Objects, found, IsPut, MayBePut}
use Rattle.lsvd_objstore.specs.Store.{StoreState, ReceiptState, Put, IsAskedOnce, Becomes, OnlyCounts}
use Rattle.object_uploads.specs.State.{JobState}
use Rattle.vol_core.specs.declared.event.Event.{Event}
use Rattle.vol_core.specs.declared.event.Event.TheVariants as asks
use Rattle.vol_core.specs.declared.reply.EntryRefusal.TheVariants as refusals
use Rattle.vol_core.specs.declared.reply.Reply.{Reply}
use Rattle.vol_core.specs.declared.reply.Reply.TheVariants as told
use Rattle.vol_core.specs.Volume.{VolumeState, SteppedVolume}
use Rattle.vol_core.specs.Calls.{event_of}
use Rattle.vol_core.specs.Step.{CountedStep}
use Rattle.volume_owner.specs.Acts.{Moment, moment_of, Act, Made, Puts, Gets, entered_if_told, entered_by_event, entered_by_act}
use Rattle.volume_owner.specs.Acts.{HasItsObject, PutLeaves, IsPutAct, IsAct, AreActs, IsMadeOfActs, MakesStep}
use Rattle.volume_owner.specs.Helping.{IsTaken, entered_by}
use Rattle.volume_owner.specs.Replies.{attempt_in}

-- ---- one after the other

pub acts_then : {R : Type 0} (state : R → ReceiptState) (first second : List (Act R)) (old mid new : Moment)
    → AreActs state first old mid
    → AreActs state second mid new → AreActs state (first ++ second) old new
acts_then state [] second old mid new same are = subst (λ (m : Moment). AreActs state second m new) same are
acts_then state (act ∷ first) second old mid new before are =
    (before.0, before.1, acts_then state first second before.0 mid new before.2 are)

entered_then : {R : Type 0} (first second : List (Act R))
    → flat_map entered_by_act (first ++ second) ≡ flat_map entered_by_act first ++ flat_map entered_by_act second
entered_then [] second = refl
entered_then (act ∷ first) second =
    ap (λ (es : List Entry). entered_by_act act ++ es) (entered_then first second)
    ∙ sym (append_assoc (entered_by_act act) (flat_map entered_by_act first) (flat_map entered_by_act second))

pub made_then : {R : Type 0} (state : R → ReceiptState) (xs ys : List Entry) (old mid new : Moment)
    → IsMadeOfActs state xs old mid → IsMadeOfActs state ys mid new → IsMadeOfActs state (xs ++ ys) old new
made_then state xs ys old mid new first second = record {
  acts = first.acts ++ second.acts;
  done = acts_then state first.acts second.acts old mid new first.done second.done;
  entered =
      entered_then first.acts second.acts
      ∙ ap (λ (es : List Entry). es ++ flat_map entered_by_act second.acts) first.entered
      ∙ ap (λ (es : List Entry). xs ++ es) second.entered;
}

-- ---- none, and one

pub no_acts : {R : Type 0} (state : R → ReceiptState) (moment : Moment) → IsMadeOfActs state [] moment moment
no_acts {R} state moment = record { acts = []; done = refl; entered = refl }

pub one_act : {R : Type 0} (state : R → ReceiptState) (act : Act R) (added : List Entry) (old new : Moment)
    → IsAct state act old new
    → entered_by_act act ≡ added → IsMadeOfActs state added old new
one_act state act added old new is entered = record {
  acts = act ∷ [];
  done = (new, is, refl);
  entered = append-nil (entered_by_act act) ∙ entered;
}

-- a step of the volume
pub step_act : {R : Type 0} (state : R → ReceiptState) (event : Event R) (reply : Reply R) (added : List Entry)
    (old new : SteppedVolume) (store : StoreState)
    → CountedStep state event reply old new → HasItsObject event old.volume store → entered_by_event event reply ≡ added
    → IsMadeOfActs state added (moment_of old store) (moment_of new store)
step_act state event reply added old new store of object entered =
    one_act state (Made event reply) added (moment_of old store) (moment_of new store)
    (record { step = of; store = refl; object = object }) entered

-- one that needs nothing of the store
pub step_acts : {R : Type 0} (state : R → ReceiptState) (event : Event R) (added : List Entry)
    (old new : SteppedVolume) (store : StoreState)
    → ((volume : VolumeState) (store : StoreState) → HasItsObject event volume store)
    → MakesStep state event added old new
    → IsMadeOfActs state added (moment_of old store) (moment_of new store)
step_acts state event added old new store object makes =
    step_act state event makes.reply added old new store makes.step (object old.volume store) makes.entered

-- that of an entry is so
pub entry_acts : {R : Type 0} (state : R → ReceiptState) (entry : Entry) (added : List Entry) (old new : SteppedVolume)
    (store : StoreState)
    → MakesStep state (event_of entry) added old new → IsMadeOfActs state added (moment_of old store) (moment_of new store)
entry_acts state (entries.Write lba body) added old new store makes =
    step_acts state (asks.Write lba body) added old new store (λ volume s. tt) makes
entry_acts state (entries.Zero lba sectors) added old new store makes =
    step_acts state (asks.Zero lba sectors) added old new store (λ volume s. tt) makes

-- a put, and gets
pub put_acts : {R : Type 0} (state : R → ReceiptState) (job : JobState) (failed : Bool) (old new : Moment)
    → IsPutAct job failed old new → IsMadeOfActs state [] old new
put_acts {R} state job failed old new is = (let act : Act R = Puts job failed in one_act state act [] old new is refl)

pub get_acts : {R : Type 0} (state : R → ReceiptState) (failed : Bool) (volume : SteppedVolume) (first second : StoreState)
    → OnlyCounts first second → Counts failed first.faults second.faults
    → IsMadeOfActs state [] (moment_of volume first) (moment_of volume second)
get_acts {R} state failed volume first second only counts =
    let act : Act R = Gets failed in
    one_act state act [] (moment_of volume first) (moment_of volume second)
    (record { volume = refl; store = only; faults = counts }) refl

-- ---- what an attempt enters

pub told_as_tried : {R : Type 0} (entry : Entry) (reply : Reply R) → entered_if_told entry reply ≡ entered_by entry
    (attempt_in reply)
told_as_tried entry (told.Entered count) = refl
told_as_tried entry (told.NotEntered back refusals.Range) = refl
told_as_tried entry (told.NotEntered back (refusals.Full why)) = refl
told_as_tried entry (told.NotEntered back (refusals.NoRoom needed left)) = refl
told_as_tried entry (told.NotEntered back refusals.Fault) = refl
told_as_tried entry (told.NotEntered back refusals.OutOfMemory) = refl
told_as_tried entry (told.Flushed count) = refl
told_as_tried entry (told.Planned plan) = refl
told_as_tried entry told.Released = refl
told_as_tried entry (told.NotReleased plan) = refl
told_as_tried entry (told.Sealed number) = refl
told_as_tried entry (told.Taken job) = refl
told_as_tried entry (told.Done frontier) = refl
told_as_tried entry (told.NotDone job receipt) = refl
told_as_tried entry told.Returned = refl
told_as_tried entry (told.NotReturned job) = refl
told_as_tried entry (told.Removing receipt) = refl
told_as_tried entry told.Removed = refl
told_as_tried entry told.GivenBack = refl
told_as_tried entry (told.NotGivenBack receipt) = refl
told_as_tried entry (told.Copying plan) = refl
told_as_tried entry (told.NotSealed copied why) = refl
told_as_tried entry told.Dropped = refl
told_as_tried entry (told.Told a b c d) = refl
told_as_tried entry told.Range = refl
told_as_tried entry told.Nothing = refl
told_as_tried entry told.Busy = refl
told_as_tried entry told.Fault = refl
told_as_tried entry told.OutOfMemory = refl

event_enters : {R : Type 0} (entry : Entry) (reply : Reply R)
    → entered_by_event (event_of entry) reply ≡ entered_if_told entry reply
event_enters (entries.Write lba body) reply = refl
event_enters (entries.Zero lba sectors) reply = refl

-- an attempt is one step
pub attempt_step : {R : Type 0} (state : R → ReceiptState) (entry : Entry) (reply : Reply R) (old new : SteppedVolume)
    → CountedStep state (event_of entry) reply old new
    → MakesStep state (event_of entry) (entered_by entry (attempt_in reply)) old new
attempt_step state entry reply old new of = record {
  reply = reply;
  step = of;
  entered = event_enters entry reply ∙ told_as_tried entry reply;
}

-- ---- a put and what the volume is told of it

pub has_put : (name own : ObjName) (bytes : List ℕ) → name ≡ own → (old new : Option Objects) → Becomes (IsPut name bytes) old new
    → IfSome new (λ objects. found objects own ≡ Some bytes)
has_put name own bytes same None new is = subst (λ o. IfSome o (λ objects. found objects own ≡ Some bytes)) (sym is) tt
has_put name own bytes same (Some old) new is =
    subst (λ o. IfSome o (λ objects. found objects own ≡ Some bytes)) (sym is.1) (ap (found is.0) (sym same) ∙ is.2.put)

module _ {R : Type 0} (state : R → ReceiptState) (job : JobState) (name : ObjName) (bytes : List ℕ) (reply : Reply R)
    (old new : SteppedVolume) (first second : StoreState) (taken : IsTaken job old.volume) (named : name ≡ job.name)
    (same : bytes ≡ job.bytes) where
  asked_of_job : IsAskedOnce (Put name bytes) first.asked second.asked
      → IsAskedOnce (Put job.name job.bytes) first.asked second.asked
  asked_of_job asked =
      subst (λ n. IsAskedOnce (Put n job.bytes) first.asked second.asked) named
      (subst (λ b. IsAskedOnce (Put name b) first.asked second.asked) same asked)

  left_of_job : (failed : Bool) → Becomes (PutLeaves failed name bytes) first.objects second.objects
      → Becomes (PutLeaves failed job.name job.bytes) first.objects second.objects
  left_of_job failed left =
      subst (λ n. Becomes (PutLeaves failed n job.bytes) first.objects second.objects) named
      (subst (λ b. Becomes (PutLeaves failed name b) first.objects second.objects) same left)

  pub put_is : (failed : Bool) → Becomes (PutLeaves failed name bytes) first.objects second.objects
      → IsAskedOnce (Put name bytes) first.asked second.asked → Counts failed first.faults second.faults
      → IsPutAct job failed (moment_of old first) (moment_of old second)
  put_is failed left asked counts = record {
    volume = refl;
    out = taken.out;
    named = taken.named;
    objects = left_of_job failed left;
    asked = asked_of_job asked;
    faults = counts;
  }

  the_put : (failed : Bool) → Becomes (PutLeaves failed name bytes) first.objects second.objects
      → IsAskedOnce (Put name bytes) first.asked second.asked → Counts failed first.faults second.faults
      → IsMadeOfActs state [] (moment_of old first) (moment_of old second)
  the_put failed left asked counts =
      put_acts state job failed (moment_of old first) (moment_of old second) (put_is failed left asked counts)

  -- it is done
  pub done_acts : (receipt : R) → Becomes (IsPut name bytes) first.objects second.objects
      → IsAskedOnce (Put name bytes) first.asked second.asked
      → second.faults ≡ first.faults → CountedStep state (asks.JobDone job receipt) reply old new
      → IsMadeOfActs state [] (moment_of old first) (moment_of new second)
  done_acts receipt put asked counts of =
      made_then state [] [] (moment_of old first) (moment_of old second) (moment_of new second)
      (the_put false put asked counts)
      (step_act state (asks.JobDone job receipt) reply [] old new second of
      (has_put job.name (numbered_name old.volume.objects.uploads.uuid job.name.number) job.bytes taken.named first.objects
      second.objects (left_of_job false put)) refl)

  -- it failed
  pub failed_acts : Becomes (MayBePut name bytes) first.objects second.objects
      → IsAskedOnce (Put name bytes) first.asked second.asked
      → Counts true first.faults second.faults → CountedStep state (asks.JobFailed job) reply old new
      → IsMadeOfActs state [] (moment_of old first) (moment_of new second)
  failed_acts left asked counts of =
      made_then state [] [] (moment_of old first) (moment_of old second) (moment_of new second)
      (the_put true left asked counts)
      (step_act state (asks.JobFailed job) reply [] old new second of tt refl)

-- an error that is a failure is no want of memory
pub no_want : {T : Type 0} (error : StoreError) → error ≡ store_errors.Failed
    → IsErrOf {T = T} (Err error) store_errors.OutOfMemory → ⊥
no_want error is other = cc
