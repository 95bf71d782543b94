-- Over each act of a call, and over all of them, the store of a volume goes on standing for what the volume shows.
use Rattle.std.proofs.Common.{arith, ◌≡◌, ℕ, ◌⊎◌, inl, inr, Bool, true, false, cond, not, ◌&&◌}
use Rattle.std.proofs.Common.{List, [], ◌∷◌, ◌++◌, flat_map, refl, sym, ◌∙◌, ap, subst}
use Rattle.std.specs.Prelude.{Option, Some, None, IfSome}
use Rattle.lsvd_base.specs.declared.entry.Entry.{Entry}
use Rattle.lsvd_base.specs.declared.entry.Entry.TheVariants as entries
use Rattle.lsvd_base.specs.Limits.{may_transfer}
use Rattle.lsvd_names.specs.Names.{numbered_name}
use Rattle.lsvd_device.specs.Calls.{Fuse}
use Rattle.lsvd_objstore.specs.Objects.{Objects, found, IsPut, MayBePut, IsRemoved, MayBeRemoved}
use Rattle.lsvd_objstore.specs.Store.{StoreState, ReceiptState, Becomes}
use Rattle.refine_log.specs.Fuses.{fuse_in}
use Rattle.object_recovery.specs.Checkpoints.{expected_of}
use Rattle.object_stream.specs.declared.object.CopiedSector.{CopiedSector}
use Rattle.object_uploads.specs.Order.{IsUploads}
use Rattle.object_uploads.specs.State.{JobState}
use Rattle.object_uploads.specs.Image.{TellAlike}
use Rattle.object_uploads.specs.Changes.{IsOut, IsJobOf}
use Rattle.object_uploads.proofs.UploadsKept.{frontier_below}
use Rattle.plain_disk.specs.declared.event.PlainEvent.{PlainEvent}
use Rattle.plain_disk.specs.declared.event.PlainEvent.TheVariants as events
use Rattle.plain_disk.specs.Objects.{has_unsealed, is_busy, reply_of_taken, window_after_take}
use Rattle.plain_disk.specs.Reads.{are_pinned}
use Rattle.plain_disk.specs.Collection.{planned_copy, with_plan, with_copy, after_sealed_copy}
use Rattle.plain_disk.specs.Removals.{has, to_remove, with_removal, is_out}
use Rattle.plain_disk.specs.State.{PlainState}
use Rattle.plain_disk.specs.Step.{plain_reply, plain_after}
use Rattle.refine_store.specs.Puts.{Inherits, IsObjectOf}
use Rattle.refine_store.specs.Stored.{StoreStands}
use Rattle.stopped_volume.specs.Store.{TellsBytes}
use Rattle.refine_store.proofs.JobLemmas.{job_is_object}
use Rattle.upload_window.specs.Window.{WindowState, below_open, lowest_ready}
use Rattle.vol_core.specs.declared.event.Event.{Event}
use Rattle.vol_core.specs.declared.event.Event.TheVariants as asks
use Rattle.vol_core.specs.declared.reply.Reply.{Reply}
use Rattle.vol_core.specs.declared.reply.Reply.TheVariants as told
use Rattle.vol_core.specs.Volume.{VolumeState, SteppedVolume}
use Rattle.vol_core.specs.Calls.{event_of}
use Rattle.vol_core.specs.Shows.{Shows}
use Rattle.vol_core.specs.View.{removal_out}
use Rattle.vol_core.specs.Events.{Tells, IsOfPut, IsOfDonePut}
use Rattle.vol_core.specs.Step.{passing, IsStep, IsNoStep}
use Rattle.vol_core.proofs.StepLemmas.{passing_keeps}
use Rattle.volume_owner.specs.Acts.{Moment, Act, Made, Puts, Removes, Gets, entered_if_told, entered_by_event, entered_by_act}
use Rattle.volume_owner.specs.Acts.{HasItsObject, IsStepAct, PutLeaves, RemovalLeaves, IsAct, AreActs, MayBeLeftInAct}
use Rattle.volume_owner.specs.Acts.{IsMadeOfActs}
use Rattle.volume_owner.specs.History.{GoesOn}
use Rattle.volume_owner.specs.Standing.{StandAt, HasStore, KeepsStore}
use Rattle.volume_owner.proofs.PlainLemmas.{is_quiet, quiet_goes_on, goes_on_nothing}
use Rattle.volume_owner.proofs.WindowLemmas.{ready_is_open}
use Rattle.volume_owner.proofs.TellsLemmas.{tells_taken}
use Rattle.volume_owner.proofs.ReplyLemmas.{reply_cases}
use Rattle.volume_owner.proofs.StepLemmas.{goes_on_passing, goes_on_more}
use Rattle.volume_owner.proofs.EventLeaves.{LeavesObjects, nothing_leaves, event_leaves}
use Rattle.volume_owner.proofs.EnterLemmas.{entering}
use Rattle.volume_owner.proofs.HelpLemmas.{taken_number}
use Rattle.volume_owner.proofs.ActLemmas.{told_as_tried}
use Rattle.volume_owner.proofs.MarkLemmas.{open_within}
use Rattle.volume_owner.proofs.StandLemmas.{is_described, put_stands_still, removal_stands_still}
use Rattle.volume_owner.proofs.KeepLemmas.{StepLeaves, IsObjectStep, stays, step_stands}
use Rattle.volume_owner.proofs.ChangeLemmas.{same_everywhere, begun_put_is, given_state, sealed_step, taken_step}
use Rattle.volume_owner.proofs.ChangeLemmas.{done_step, failed_step, given_out_step, removed_step}

-- ---- a step

-- what a step of a volume leaves of a plain volume that it showed
record StepKeeps (added : List Entry) (plain : PlainState) (old new : VolumeState) (store : StoreState) : Type 0 where
  after : PlainState
  shows : Shows new after
  goes : GoesOn added plain after
  leaves : LeavesObjects plain after
  step : (objects : Objects) → store.objects ≡ Some objects → IsObjectStep old.objects.uploads.uuid old objects plain after

none_told : {R : Type 0} (entry : Entry) (reply : Reply R) → ((count : ℕ) → reply ≡ told.Entered count → ⊥)
    → entered_if_told entry reply ≡ []
none_told entry reply other =
    told_as_tried entry reply ∙ elim (reply_cases reply) [
      | inl e ↦ absurd (other e.0 e.1)
      | inr o ↦ o.none entry
    ]

module _ {R : Type 0} (state : R → ReceiptState) (reply : Reply R) (old new : VolumeState) (store : StoreState)
    (plain : PlainState) (shows : Shows old plain) (alike : TellAlike true old.objects.uploads.queue) where
  abbrev uuid : List ℕ
  uuid = old.objects.uploads.uuid

  entry_keeps : (entry : Entry)
      → IsStep state (event_of entry) reply plain old new ⊎ IsNoStep state (event_of entry) reply plain old new
      → StepKeeps (entered_if_told entry reply) plain old new store
  entry_keeps entry by =
      elim (entering state entry reply plain old new shows by) [
        | inl e ↦ record {
          after = e.after;
          shows = e.shows;
          goes = subst (λ es. GoesOn es plain e.after) (sym (ap (entered_if_told entry) e.told_is)) e.goes;
          leaves = e.leaves;
          step = λ objects there. stays (same_everywhere plain e.after e.window e.given_out e.removed);
        }
        | inr o ↦ record {
          after = o.after;
          shows = o.shows;
          goes = subst (λ es. GoesOn es plain o.after) (sym (none_told entry reply o.other)) o.goes;
          leaves = o.leaves;
          step = λ objects there. stays (same_everywhere plain o.after o.window o.given_out o.removed);
        }
      ]

  none_keeps : Shows new plain → StepKeeps [] plain old new store
  none_keeps shown = record {
    after = plain;
    shows = shown;
    goes = goes_on_nothing plain;
    leaves = nothing_leaves plain;
    step = λ objects there. stays (same_everywhere plain plain refl refl refl);
  }

  -- what an event leaves of the plain volume, whose device passes some calls before it and some after
  abbrev left_by : Fuse → PlainEvent → PlainState
  left_by left event = passing (fuse_in new.log.commits.disk.budget) (plain_after event (passing left plain))

  -- an event that enters nothing
  quiet_keeps : (event : Event R) (asked : PlainEvent) (s : IsStep state event reply plain old new) → s.asked ≡ asked
      → is_quiet asked ≡ true
      → ((objects : Objects) → store.objects ≡ Some objects → IsObjectStep uuid old objects plain (left_by s.left asked))
      → StepKeeps [] plain old new store
  quiet_keeps event asked s is quiet step =
      let ready : PlainState = passing s.left plain in
      let now : Fuse = fuse_in new.log.commits.disk.budget in
      record {
        after = left_by s.left asked;
        shows = subst (λ e. Shows new (left_by s.left e)) is s.shows;
        goes = goes_on_passing [] s.left now plain (plain_after asked ready)
            (quiet_goes_on ready asked (passing_keeps s.left plain shows.valid) quiet);
        leaves = event_leaves s.left now plain asked shows.valid;
        step = step;
      }

  -- one that changes no object
  still_keeps : (event : Event R) (asked : PlainEvent) (s : IsStep state event reply plain old new) → s.asked ≡ asked
      → is_quiet asked ≡ true → (left_by s.left asked).window ≡ plain.window
      → (left_by s.left asked).given_out ≡ plain.given_out → (left_by s.left asked).removed ≡ plain.removed
      → StepKeeps [] plain old new store
  still_keeps event asked s is quiet window given_out removed =
      quiet_keeps event asked s is quiet (λ objects there. stays (same_everywhere plain (left_by s.left asked) window given_out
      removed))

  -- ---- what becomes of the objects

  either_step : (objects : Objects) (left : Fuse) (b : Bool) (x y : PlainState)
      → IsObjectStep uuid old objects plain (passing left x) → IsObjectStep uuid old objects plain (passing left y)
      → IsObjectStep uuid old objects plain (passing left (cond b x y))
  either_step objects left true x y first second = first
  either_step objects left false x y first second = second

  same_step : (objects : Objects) (after : PlainState) → after.window ≡ plain.window → after.given_out ≡ plain.given_out
      → after.removed ≡ plain.removed → IsObjectStep uuid old objects plain after
  same_step objects after window given_out removed = stays (same_everywhere plain after window given_out removed)

  look_step : (objects : Objects) (lba sectors : ℕ) (left : Fuse)
      → IsObjectStep uuid old objects plain (left_by left (events.Look lba sectors))
  look_step objects lba sectors left =
      either_step objects (fuse_in new.log.commits.disk.budget) (may_transfer plain.geometry lba sectors) _ (passing left plain)
      (same_step objects _ refl refl refl) (same_step objects _ refl refl refl)

  release_step : (objects : Objects) (numbers : List ℕ) (left : Fuse)
      → IsObjectStep uuid old objects plain (left_by left (events.Release numbers))
  release_step objects numbers left =
      either_step objects (fuse_in new.log.commits.disk.budget) (are_pinned numbers plain.pins) _ (passing left plain)
      (same_step objects _ refl refl refl) (same_step objects _ refl refl refl)

  seal_step : (objects : Objects) (left : Fuse) → IsObjectStep uuid old objects plain (left_by left events.Seal)
  seal_step objects left =
      either_step objects (fuse_in new.log.commits.disk.budget) (has_unsealed plain && not (is_busy plain)) _ (passing left plain)
      (sealed_step uuid old objects plain _ false shows.valid refl refl refl) (same_step objects _ refl refl refl)

  seal_checkpoint_step : (objects : Objects) (left : Fuse)
      → IsObjectStep uuid old objects plain (left_by left events.SealCheckpoint)
  seal_checkpoint_step objects left =
      either_step objects (fuse_in new.log.commits.disk.budget) (is_busy plain) (passing left plain) _
      (same_step objects _ refl refl refl) (sealed_step uuid old objects plain _ true shows.valid refl refl refl)

  take_step : (objects : Objects) (left : Fuse) → IsUploads old.objects.uploads → (lowest : Option ℕ)
      → lowest_ready plain.window.objects ≡ lowest → Tells state old reply (reply_of_taken lowest)
      → IsObjectStep uuid old objects plain (record (left_by left events.TakeJob) {
        window = window_after_take lowest plain.window;
      })
  take_step objects left order None is tells = same_step objects _ refl refl refl
  take_step objects left order (Some n) is tells =
      let taken = tells_taken state old reply n tells in
      let job : JobState = taken.0 in
      let number = taken_number state old (Some n) job (subst (λ r. Tells state old r (reply_of_taken (Some n))) taken.1 tells) in
      let same : job.name.number ≡ n = let e = number.0 in cc in
      let is_job : IsJobOf old.objects.uploads n job = subst (λ k. IsJobOf old.objects.uploads k job) same number.1 in
      let open_ = ready_is_open n _ plain.window.objects is in
      let within = open_within n 0 plain.window.objects plain.window.last shows.valid.window.order open_ in
      let below : below_open plain.window ≡ old.objects.uploads.queue.frontier =
      ap below_open (sym shows.objects.window) ∙ frontier_below old.objects.uploads order in
      let last : old.objects.uploads.window.last ≡ plain.window.last =
      ap (λ (w : WindowState). w.last) shows.objects.window in
      let object = job_is_object shows.data_at old.objects plain n job order shows.valid shows.objects
      (omega (arith, within.0, below)) (omega (arith, within.1, last)) alike is_job in
      taken_step uuid old objects plain _ n job.bytes refl refl refl open_ is_job.bytes
      (subst (λ count. IsObjectOf (expected_of uuid plain.geometry count) plain n job.bytes) shows.objects.ancestors
      (subst (λ g. IsObjectOf
      (expected_of uuid g old.objects.uploads.ancestors) plain n job.bytes) shows.objects.geometry object))

  done_by : (objects : Objects) (left : Fuse) (job : JobState) (receipt : ReceiptState) (put : Option ℕ)
      → IsOfDonePut old job receipt put
      → found objects (numbered_name uuid job.name.number) ≡ Some job.bytes
      → IsObjectStep uuid old objects plain (left_by left (events.JobDone put))
  done_by objects left job receipt None of there = same_step objects _ refl refl refl
  done_by objects left job receipt (Some n) of there =
      let begun = begun_put_is old plain n job.bytes shows of.1 in
      done_step uuid old objects plain _ n job.bytes shows.valid refl refl refl begun of.1.sealed
      (ap (λ k. found objects (numbered_name uuid k)) of.0 ∙ there)

  failed_by : (objects : Objects) (left : Fuse) (job : JobState) (put : Option ℕ) → IsOfPut old job put
      → IsObjectStep uuid old objects plain (left_by left (events.JobFailed put))
  failed_by objects left job None of = same_step objects _ refl refl refl
  failed_by objects left job (Some n) of =
      let begun = begun_put_is old plain n job.bytes shows of.1 in
      failed_step uuid old objects plain _ n refl refl refl begun

  take_remove_by : (objects : Objects) (left : Fuse) (out lowest : Option ℕ) → to_remove plain ≡ lowest
      → IsObjectStep uuid old objects plain
      (passing (fuse_in new.log.commits.disk.budget) (with_removal out lowest (passing left plain)))
  take_remove_by objects left None (Some n) is = given_out_step uuid old objects plain _ n shows.valid refl refl refl is
  take_remove_by objects left None None is = same_step objects _ refl refl refl
  take_remove_by objects left (Some other) lowest is = same_step objects _ refl refl refl

  remove_done_by : (objects : Objects) (left : Fuse) (number : ℕ) → found objects (numbered_name uuid number) ≡ None
      → IsObjectStep uuid old objects plain (left_by left (events.RemoveDone number))
  remove_done_by objects left number none =
      either_step objects (fuse_in new.log.commits.disk.budget) (is_out number plain.removal) _ (passing left plain)
      (removed_step uuid old objects plain _ number refl refl refl none) (same_step objects _ refl refl refl)

  remove_failed_by : (objects : Objects) (left : Fuse) (number : ℕ)
      → IsObjectStep uuid old objects plain (left_by left (events.RemoveFailed number))
  remove_failed_by objects left number =
      either_step objects (fuse_in new.log.commits.disk.budget) (is_out number plain.removal) _ (passing left plain)
      (same_step objects _ refl refl refl) (same_step objects _ refl refl refl)

  plan_by : (objects : Objects) (left : Fuse) (out : Option (List CopiedSector)) (sectors : List CopiedSector)
      → IsObjectStep uuid old objects plain
      (passing (fuse_in new.log.commits.disk.budget) (with_plan out sectors (passing left plain)))
  plan_by objects left (Some plan) sectors = same_step objects _ refl refl refl
  plan_by objects left None [] = same_step objects _ refl refl refl
  plan_by objects left None (first ∷ more) = same_step objects _ refl refl refl

  copy_by : (objects : Objects) (left : Fuse) (is_sealed : Bool) (out : Option (List CopiedSector))
      → IsObjectStep uuid old objects plain
      (passing (fuse_in new.log.commits.disk.budget) (after_sealed_copy is_sealed out (passing left plain)))
  copy_by objects left is_sealed None = same_step objects _ refl refl refl
  copy_by objects left is_sealed (Some copied) =
      either_step objects (fuse_in new.log.commits.disk.budget) is_sealed (with_copy copied (passing left plain))
      (passing left plain)
      (sealed_step uuid old objects plain _ false shows.valid refl refl refl) (same_step objects _ refl refl refl)

  -- ---- by the event

  told_of : (P : Objects → Type 0) (held : Option Objects) (objects : Objects) → IfSome held P → held ≡ Some objects → P objects
  told_of P held objects has is = subst (λ h. IfSome h P) is has

  step_by : (event : Event R) → HasItsObject event old store → IsUploads old.objects.uploads
      → IsStep state event reply plain old new ⊎ IsNoStep state event reply plain old new
      → StepKeeps (entered_by_event event reply) plain old new store
  step_by (asks.Write lba body) object order by = entry_keeps (entries.Write lba body) by
  step_by (asks.Zero lba sectors) object order by = entry_keeps (entries.Zero lba sectors) by
  step_by asks.Flush object order (inl s) = still_keeps asks.Flush events.Flush s s.asks refl refl refl refl
  step_by asks.Flush object order (inr n) = none_keeps n.shows
  step_by (asks.Look lba sectors) object order (inl s) =
      quiet_keeps (asks.Look lba sectors) (events.Look lba sectors) s s.asks refl
      (λ objects there. look_step objects lba sectors s.left)
  step_by (asks.Look lba sectors) object order (inr n) = none_keeps n.shows
  step_by (asks.Release plan) object order (inl s) =
      quiet_keeps (asks.Release plan) (events.Release plan.objects) s s.asks refl
      (λ objects there. release_step objects plan.objects s.left)
  step_by (asks.Release plan) object order (inr n) = none_keeps n.shows
  step_by asks.Seal object order (inl s) =
      quiet_keeps asks.Seal events.Seal s s.asks refl (λ objects there. seal_step objects s.left)
  step_by asks.Seal object order (inr n) = none_keeps n.shows
  step_by asks.SealCheckpoint object order (inl s) =
      quiet_keeps asks.SealCheckpoint events.SealCheckpoint s s.asks refl
      (λ objects there. seal_checkpoint_step objects s.left)
  step_by asks.SealCheckpoint object order (inr n) = none_keeps n.shows
  step_by asks.TakeJob object order (inl s) =
      let tells : Tells state old reply (reply_of_taken (lowest_ready plain.window.objects)) =
      subst (λ e. Tells state old reply (plain_reply (passing s.left plain) e)) s.asks s.tells in
      quiet_keeps asks.TakeJob events.TakeJob s s.asks refl
      (λ objects there. take_step objects s.left order (lowest_ready plain.window.objects) refl tells)
  step_by asks.TakeJob object order (inr n) = none_keeps n.shows
  step_by (asks.JobDone job receipt) object order (inl s) =
      quiet_keeps (asks.JobDone job receipt) (events.JobDone s.asks.0) s s.asks.1 refl
      (λ objects there. done_by objects s.left job (state receipt) s.asks.0 s.asks.2
      (told_of (λ o. found o (numbered_name uuid job.name.number) ≡ Some job.bytes) store.objects objects object there))
  step_by (asks.JobDone job receipt) object order (inr n) = none_keeps n.shows
  step_by (asks.JobFailed job) object order (inl s) =
      quiet_keeps (asks.JobFailed job) (events.JobFailed s.asks.0) s s.asks.1 refl
      (λ objects there. failed_by objects s.left job s.asks.0 s.asks.2)
  step_by (asks.JobFailed job) object order (inr n) = none_keeps n.shows
  step_by asks.TakeRemove object order (inl s) =
      quiet_keeps asks.TakeRemove events.TakeRemove s s.asks refl
      (λ objects there. take_remove_by objects s.left plain.removal (to_remove plain) refl)
  step_by asks.TakeRemove object order (inr n) = none_keeps n.shows
  step_by (asks.RemoveDone number) object order (inl s) =
      quiet_keeps (asks.RemoveDone number) (events.RemoveDone number) s s.asks refl
      (λ objects there. remove_done_by objects s.left number
      (told_of (λ o. found o (numbered_name uuid number) ≡ None) store.objects objects object there))
  step_by (asks.RemoveDone number) object order (inr n) = none_keeps n.shows
  step_by (asks.RemoveFailed receipt) object order (inl s) =
      quiet_keeps (asks.RemoveFailed receipt) (events.RemoveFailed s.asks.0) s s.asks.1 refl
      (λ objects there. remove_failed_by objects s.left s.asks.0)
  step_by (asks.RemoveFailed receipt) object order (inr n) = none_keeps n.shows
  step_by asks.PlanCopy object order (inl s) =
      quiet_keeps asks.PlanCopy events.PlanCopy s s.asks refl
      (λ objects there. plan_by objects s.left plain.plan (planned_copy (passing s.left plain)))
  step_by asks.PlanCopy object order (inr n) = none_keeps n.shows
  step_by (asks.SealCopy copied) object order (inl s) =
      quiet_keeps (asks.SealCopy copied) (events.SealCopy s.asks.0) s s.asks.1 refl
      (λ objects there. copy_by objects s.left (s.asks.0 && not (is_busy (passing s.left plain))) plain.plan)
  step_by (asks.SealCopy copied) object order (inr n) = none_keeps n.shows
  step_by asks.DropPlan object order (inl s) = still_keeps asks.DropPlan events.DropPlan s s.asks refl refl refl refl
  step_by asks.DropPlan object order (inr n) = none_keeps n.shows
  step_by asks.Status object order (inl s) = still_keeps asks.Status events.Status s s.asks refl refl refl refl
  step_by asks.Status object order (inr n) = none_keeps n.shows

-- ---- a store that tells what it has

some_still : (a b : Option Objects) (P Q : Objects → Type 0) → b ≡ a
    → ((objects : Objects) → a ≡ Some objects → P objects → Q objects)
    → IfSome a P → IfSome b Q
some_still None b P Q same follows has = subst (λ o. IfSome o Q) (sym same) tt
some_still (Some objects) b P Q same follows has = subst (λ o. IfSome o Q) (sym same) (follows objects refl has)

some_then : (Change : Objects → Objects → Type 0) (P : Objects → Type 0)
    → ((old new : Objects) → Change old new → P old → P new)
    → (a b : Option Objects) → Becomes Change a b → IfSome a P → IfSome b P
some_then Change P follows None b is has = subst (λ o. IfSome o P) (sym is) tt
some_then Change P follows (Some old) b is has = subst (λ o. IfSome o P) (sym is.1) (follows old is.0 is.2 has)

-- ---- an act

-- the put of an object that is out, whole or not
put_at : (epoch : ℕ) (volume : VolumeState) (plain : PlainState) (job : JobState) → Shows volume plain
    → IsOut volume.objects.uploads job.name.number job.bytes
    → job.name ≡ numbered_name volume.objects.uploads.uuid job.name.number
    → (old new : Objects) → IsPut job.name job.bytes old new
    → StoreStands volume.objects.uploads.uuid epoch plain volume.objects.uploads old
    → StoreStands volume.objects.uploads.uuid epoch plain volume.objects.uploads new
put_at epoch volume plain job shows out named old new put stands =
    let n : ℕ = job.name.number in
    let is = begun_put_is volume plain n job.bytes shows out in
    put_stands_still volume.objects.uploads.uuid epoch n job.bytes plain volume.objects.uploads old new shows.valid is.past
    is.there is.begun out.sealed (subst (λ name. IsPut name job.bytes old new) named put) stands

pub may_put_at : (epoch : ℕ) (volume : VolumeState) (plain : PlainState) (job : JobState) → Shows volume plain
    → IsOut volume.objects.uploads job.name.number job.bytes
    → job.name ≡ numbered_name volume.objects.uploads.uuid job.name.number
    → (old new : Objects) → MayBePut job.name job.bytes old new
    → StoreStands volume.objects.uploads.uuid epoch plain volume.objects.uploads old
    → StoreStands volume.objects.uploads.uuid epoch plain volume.objects.uploads new
may_put_at epoch volume plain job shows out named old new (inl same) stands =
    subst (StoreStands volume.objects.uploads.uuid epoch plain volume.objects.uploads) (sym same) stands
may_put_at epoch volume plain job shows out named old new (inr put) stands =
    put_at epoch volume plain job shows out named old new put stands

put_leaves_at : (failed : Bool) (epoch : ℕ) (volume : VolumeState) (plain : PlainState) (job : JobState) → Shows volume plain
    → IsOut volume.objects.uploads job.name.number job.bytes
    → job.name ≡ numbered_name volume.objects.uploads.uuid job.name.number
    → (old new : Objects) → PutLeaves failed job.name job.bytes old new
    → StoreStands volume.objects.uploads.uuid epoch plain volume.objects.uploads old
    → StoreStands volume.objects.uploads.uuid epoch plain volume.objects.uploads new
put_leaves_at true epoch volume plain job shows out named old new left stands =
    may_put_at epoch volume plain job shows out named old new left stands
put_leaves_at false epoch volume plain job shows out named old new put stands =
    put_at epoch volume plain job shows out named old new put stands

-- the removal of an object that is out, done or not
remove_at : (epoch : ℕ) (volume : VolumeState) (plain : PlainState) (n : ℕ) → Shows volume plain
    → removal_out volume ≡ Some n
    → (old new : Objects) → IsRemoved (numbered_name volume.objects.uploads.uuid n) old new
    → StoreStands volume.objects.uploads.uuid epoch plain volume.objects.uploads old
    → StoreStands volume.objects.uploads.uuid epoch plain volume.objects.uploads new
remove_at epoch volume plain n shows out old new removed stands =
    let given : has plain.given_out n ≡ true =
    subst (λ r. IfSome r (λ number. has plain.given_out number ≡ true)) (sym shows.table.removal ∙ out) stands.out in
    removal_stands_still volume.objects.uploads.uuid epoch n plain volume.objects.uploads old new shows.valid given
    (given_state plain n shows.valid given) removed stands

pub may_remove_at : (epoch : ℕ) (volume : VolumeState) (plain : PlainState) (n : ℕ) → Shows volume plain
    → removal_out volume ≡ Some n
    → (old new : Objects) → MayBeRemoved (numbered_name volume.objects.uploads.uuid n) old new
    → StoreStands volume.objects.uploads.uuid epoch plain volume.objects.uploads old
    → StoreStands volume.objects.uploads.uuid epoch plain volume.objects.uploads new
may_remove_at epoch volume plain n shows out old new (inl same) stands =
    subst (StoreStands volume.objects.uploads.uuid epoch plain volume.objects.uploads) (sym same) stands
may_remove_at epoch volume plain n shows out old new (inr removed) stands =
    remove_at epoch volume plain n shows out old new removed stands

removal_leaves_at : (failed : Bool) (epoch : ℕ) (volume : VolumeState) (plain : PlainState) (n : ℕ) → Shows volume plain
    → removal_out volume ≡ Some n
    → (old new : Objects) → RemovalLeaves failed (numbered_name volume.objects.uploads.uuid n) old new
    → StoreStands volume.objects.uploads.uuid epoch plain volume.objects.uploads old
    → StoreStands volume.objects.uploads.uuid epoch plain volume.objects.uploads new
removal_leaves_at true epoch volume plain n shows out old new left stands =
    may_remove_at epoch volume plain n shows out old new left stands
removal_leaves_at false epoch volume plain n shows out old new removed stands =
    remove_at epoch volume plain n shows out old new removed stands

-- an act in which the volume stays
volume_stays : (old new : Moment) → new.volume ≡ old.volume
    → ((plain : PlainState) → Shows old.volume.volume plain → (epoch : ℕ) → HasStore epoch old plain
    → IfSome new.store.objects (StandAt epoch old plain)) → KeepsStore [] old new
volume_stays old new same keeps plain shows = (
  plain,
  subst (λ (v : SteppedVolume). Shows v.volume plain) (sym same) shows,
  goes_on_nothing plain,
  λ epoch has.
      subst (λ (v : SteppedVolume). IfSome new.store.objects
      (StoreStands v.volume.objects.uploads.uuid epoch plain v.volume.objects.uploads)) (sym same)
      (keeps plain shows epoch has),
)

leaves_by : (uuid : List ℕ) (epoch : ℕ) (added : List Entry) (plain after : PlainState) (volume : VolumeState)
    (objects : Objects)
    → GoesOn added plain after → LeavesObjects plain after → StoreStands uuid epoch plain volume.objects.uploads objects
    → StepLeaves plain after
leaves_by uuid epoch added plain after volume objects goes leaves stands =
    let was = is_described uuid epoch plain volume.objects.uploads objects stands in
    record {
      geometry = ap (λ (p : PlainState). p.geometry) goes.opens;
      chain = ap (λ (p : PlainState). p.chain) goes.opens;
      opens = leaves.opens was.opens;
      inherits = λ uuid objects. subst (λ (p : PlainState). Inherits uuid p objects) (sym goes.opens);
      seals = leaves.seals was.seals;
      out = leaves.out was.out;
      held = leaves.held;
      objects = leaves.objects was.opens;
    }

step_keeps : {R : Type 0} (state : R → ReceiptState) → TellsBytes state → (event : Event R) (reply : Reply R) (old new : Moment)
    → IsStepAct state event reply old new → KeepsStore (entered_by_event event reply) old new
step_keeps state tells event reply old new is plain shows =
    let before : VolumeState = old.volume.volume in
    let now : VolumeState = new.volume.volume in
    let kept = step_by state reply before now old.store plain shows (is.step.told tells) event is.object is.step.order.uploads
    (is.step.step.step plain shows) in
    let uuid : List ℕ = before.objects.uploads.uuid in (
      kept.after,
      kept.shows,
      kept.goes,
      λ epoch has.
          some_still old.store.objects new.store.objects (StandAt epoch old plain) (StandAt epoch new kept.after)
          (ap (λ (s : StoreState). s.objects) is.store)
          (λ objects there stands.
          subst (λ u. StoreStands u epoch kept.after now.objects.uploads objects) (sym is.step.step.sizes.uuid)
          (step_stands uuid epoch plain kept.after before now objects shows kept.shows is.step.step.bytes stands
          (leaves_by uuid epoch (entered_by_event event reply) plain kept.after before objects kept.goes kept.leaves stands)
          (kept.step objects there))) has,
    )

act_keeps : {R : Type 0} (state : R → ReceiptState) → TellsBytes state → (act : Act R) (old new : Moment)
    → IsAct state act old new → KeepsStore (entered_by_act act) old new
act_keeps state tells (Made event reply) old new is = step_keeps state tells event reply old new is
act_keeps state tells (Puts job failed) old new is =
    volume_stays old new is.volume (λ plain shows epoch has.
    some_then (PutLeaves failed job.name job.bytes) (StandAt epoch old plain)
    (put_leaves_at failed epoch old.volume.volume plain job shows is.out is.named) old.store.objects new.store.objects
    is.objects has)
act_keeps state tells (Removes number failed) old new is =
    volume_stays old new is.volume (λ plain shows epoch has.
    some_then (RemovalLeaves failed (numbered_name old.volume.volume.objects.uploads.uuid number)) (StandAt epoch old plain)
    (removal_leaves_at failed epoch old.volume.volume plain number shows is.out) old.store.objects new.store.objects is.objects
    has)
act_keeps state tells (Gets failed) old new is =
    volume_stays old new is.volume (λ plain shows epoch has.
    subst (λ o. IfSome o (StandAt epoch old plain)) (sym (ap (λ (s : StoreState). s.objects) is.store)) has)

-- ---- one after the other

pub keeps_nothing : (moment : Moment) → KeepsStore [] moment moment
keeps_nothing moment plain shows = (plain, shows, goes_on_nothing plain, λ epoch has. has)

pub keeps_then : (xs ys : List Entry) (old mid new : Moment) → KeepsStore xs old mid → KeepsStore ys mid new
    → KeepsStore (xs ++ ys) old new
keeps_then xs ys old mid new first second plain shows =
    let one = first plain shows in
    let two = second one.0 one.1 in
    (two.0, two.1, goes_on_more xs ys plain one.0 two.0 one.2 two.2, λ epoch has. two.3 epoch (one.3 epoch has))

pub acts_keep_store : {R : Type 0} (state : R → ReceiptState) → TellsBytes state → (acts : List (Act R)) (old new : Moment)
    → AreActs state acts old new
    → KeepsStore (flat_map entered_by_act acts) old new
acts_keep_store state tells [] old new same = subst (KeepsStore [] old) (sym same) (keeps_nothing old)
acts_keep_store state tells (act ∷ rest) old new are =
    keeps_then (entered_by_act act) (flat_map entered_by_act rest) old are.0 new (act_keeps state tells act old are.0 are.1)
    (acts_keep_store state tells rest are.0 new are.2)

-- what was made of acts keeps it
pub made_keeps : {R : Type 0} (state : R → ReceiptState) → TellsBytes state → (added : List Entry) (old new : Moment)
    → IsMadeOfActs state added old new → KeepsStore added old new
made_keeps state tells added old new made =
    subst (λ es. KeepsStore es old new) made.entered (acts_keep_store state tells made.acts old new made.done)

-- ---- a stop

pub stops_keep_store : {R : Type 0} (state : R → ReceiptState) (act : Act R) (old new : Moment) (epoch : ℕ)
    (plain : PlainState) (objects left : Objects) → IsAct state act old new
    → Shows old.volume.volume plain → old.store.objects ≡ Some objects → MayBeLeftInAct act old.volume.volume objects left
    → StandAt epoch old plain objects → StandAt epoch old plain left
stops_keep_store state (Made event reply) old new epoch plain objects left is shows there same stands =
    subst (StandAt epoch old plain) (sym same) stands
stops_keep_store state (Puts job failed) old new epoch plain objects left is shows there may stands =
    may_put_at epoch old.volume.volume plain job shows is.out is.named objects left may stands
stops_keep_store state (Removes number failed) old new epoch plain objects left is shows there may stands =
    may_remove_at epoch old.volume.volume plain number shows is.out objects left may stands
stops_keep_store state (Gets failed) old new epoch plain objects left is shows there same stands =
    subst (StandAt epoch old plain) (sym same) stands
