-- What the steps of a help do: a put begins, is done, or fails; an object is sealed.
use Rattle.std.proofs.Common.{arith, ◌≡◌, ℕ, ◌+◌, ◌*◌, ◌-◌, ◌<◌, ◌≤◌, ◌==◌, ◌⊎◌, inl, inr}
use Rattle.std.proofs.Common.{Bool, true, false, cond, not, ◌&&◌, List}
use Rattle.std.proofs.Common.{[], ◌∷◌, ◌++◌, length, take, length-append, length-drop, refl, sym, ◌∙◌, ap, subst}
use Rattle.std.specs.Prelude.{Option, Some, None, is_some, Result, Ok, Err, IfOk, if◌then◌else◌}
use Rattle.std.specs.List.{list_any}
use Rattle.std.proofs.lemmas.Bool.Decides.{nat_tests}
use Rattle.std.proofs.lemmas.List.{take_all}
use Rattle.lsvd_base.specs.declared.entry.Entry.{Entry}
use Rattle.lsvd_fault.specs.Faults.{Counts}
use Rattle.lsvd_names.specs.Names.{numbered_name}
use Rattle.lsvd_device.specs.Calls.{Fuse}
use Rattle.lsvd_objstore.specs.Store.{ReceiptState}
use Rattle.object_stream.specs.declared.object.Content.TheVariants.{Data}
use Rattle.object_stream.specs.declared.object.CopiedSector.{CopiedSector}
use Rattle.object_stream.specs.declared.object.StreamObject.{StreamObject}
use Rattle.object_stream.specs.Stream.{end_after, end_at, last_number, GoesTo, EndsFollow}
use Rattle.object_stream.proofs.StreamLemmas.{end_in_parts}
use Rattle.upload_window.specs.declared.object.OpenObject.{OpenObject}
use Rattle.upload_window.specs.Window.{WindowState, Ascends, has_number, lowest_ready, is_started}
use Rattle.upload_window.specs.Window.{with_started, marked, acknowledged}
use Rattle.upload_window.specs.Window.{entered, below_open}
use Rattle.object_uploads.specs.State.{JobState}
use Rattle.object_uploads.specs.Changes.{IsJobOf}
use Rattle.refine_log.specs.Fuses.{fuse_in}
use Rattle.plain_disk.specs.declared.event.PlainEvent.{PlainEvent}
use Rattle.plain_disk.specs.declared.event.PlainEvent.TheVariants as events
use Rattle.plain_disk.specs.declared.event.PlainReply.{PlainReply}
use Rattle.plain_disk.specs.declared.event.PlainReply.TheVariants as replies
use Rattle.plain_disk.specs.Checkpoints.{checkpoint_at, is_started_checkpoint}
use Rattle.plain_disk.specs.State.{PlainState, stream_in, unsealed_entries}
use Rattle.plain_disk.specs.Objects.{is_under_way, is_busy, has_unsealed, end_of_next, reply_of_taken, window_after_take}
use Rattle.plain_disk.specs.Objects.{window_after_done, seal_reply, after_seal}
use Rattle.plain_disk.specs.Collection.{reply_of_plan, planned_copy}
use Rattle.plain_disk.specs.Reads.{are_pinned}
use Rattle.plain_disk.specs.Removals.{to_remove, reply_of_removal, is_out}
use Rattle.plain_disk.specs.Step.{plain_reply, plain_after}
use Rattle.plain_disk.specs.Valid.{IsPlainVolume}
use Rattle.plain_disk.proofs.EndLemmas.{ends_from}
use Rattle.plain_disk.proofs.EventLemmas.{seal_keeps}
use Rattle.vol_core.specs.declared.event.Event.{Event}
use Rattle.vol_core.specs.declared.event.Event.TheVariants as asks
use Rattle.vol_core.specs.declared.reply.Reply.{Reply}
use Rattle.vol_core.specs.declared.reply.Reply.TheVariants as told
use Rattle.vol_core.specs.Volume.{VolumeState, SteppedVolume}
use Rattle.vol_core.specs.Shows.{Shows}
use Rattle.vol_core.specs.Events.{Asks, Tells, IsOfPut, IsOfDonePut}
use Rattle.vol_core.specs.Step.{passing, IsStep, IsNoStep, lacks_memory, tells_fault, CountedStep}
use Rattle.volume_owner.specs.Owner.{IsIdle}
use Rattle.volume_owner.specs.Calls.{MakesSteps}
use Rattle.volume_owner.specs.Clearing.{HasAllPut, AwaitsCheckpoint}
use Rattle.volume_owner.specs.declared.error.OwnerError.{OwnerError}
use Rattle.volume_owner.specs.Replies.{job_in, seal_in}
use Rattle.volume_owner.specs.Helping.{work_of, HasHelped, IsTaken}
use Rattle.volume_owner.proofs.PlainLemmas.{is_quiet}
use Rattle.volume_owner.proofs.WindowLemmas.{any_started, none_is_ready, started_once, begun_alone, without_shorter, without_it}
use Rattle.volume_owner.proofs.WindowLemmas.{entered_none, ready_is_open, marked_numbers, marked_long}
use Rattle.volume_owner.proofs.TellsLemmas.{tells_taken, tells_no_fault}
use Rattle.volume_owner.proofs.ReplyLemmas.{job_cases, seal_cases, memory_is_no_fault}
use Rattle.volume_owner.proofs.PutLemmas.{all_put_shown, awaiting_plain, awaiting_shown, one_put, taken_awaits}
use Rattle.volume_owner.proofs.StepLemmas.{shown_work, shown_idle, idle_shown, plans_shown, plans_plain, quiet_makes}

-- ---- events that ask nothing of the device

-- such an event of the plain volume
abbrev pub is_silent : PlainEvent → Bool
is_silent (events.Release numbers) = true
is_silent events.Seal = true
is_silent events.SealCheckpoint = true
is_silent events.TakeRemove = true
is_silent (events.RemoveDone number) = true
is_silent (events.RemoveFailed number) = true
is_silent events.TakeJob = true
is_silent (events.JobDone job) = true
is_silent (events.JobFailed job) = true
is_silent events.PlanCopy = true
is_silent (events.SealCopy is_planned) = true
is_silent events.DropPlan = true
is_silent events.Status = true
is_silent event = false

either_reply : (b : Bool) (x y : PlainReply) → (x ≡ replies.Fault → ⊥) → (y ≡ replies.Fault → ⊥) → cond b x y ≡ replies.Fault → ⊥
either_reply true x y not_x not_y = not_x
either_reply false x y not_x not_y = not_y

taken_reply : (lowest : Option ℕ) → reply_of_taken lowest ≡ replies.Fault → ⊥
taken_reply None is = cc
taken_reply (Some number) is = cc

removal_reply : (out lowest : Option ℕ) → reply_of_removal out lowest ≡ replies.Fault → ⊥
removal_reply None (Some number) is = cc
removal_reply None None is = cc
removal_reply (Some other) lowest is = cc

planning_reply : (out : Option (List CopiedSector)) (sectors : List CopiedSector) → reply_of_plan out sectors ≡ replies.Fault → ⊥
planning_reply (Some plan) sectors is = cc
planning_reply None [] is = cc
planning_reply None (first ∷ more) is = cc

silent_reply : (plain : PlainState) (event : PlainEvent) → is_silent event ≡ true → plain_reply plain event ≡ replies.Fault → ⊥
silent_reply plain (events.Write lba body) silent is = cc
silent_reply plain (events.Zero lba sectors) silent is = cc
silent_reply plain events.Flush silent is = cc
silent_reply plain (events.Look lba sectors) silent is = cc
silent_reply plain (events.Release numbers) silent is = either_reply (are_pinned numbers plain.pins) replies.Released
    replies.Nothing (λ e. cc) (λ e. cc) is
silent_reply plain events.Seal silent is =
    either_reply (has_unsealed plain) (if is_busy plain then replies.Busy else replies.Sealed (plain.window.last + 1))
    replies.Nothing
    (either_reply (is_busy plain) replies.Busy (replies.Sealed (plain.window.last + 1)) (λ e. cc) (λ e. cc)) (λ e. cc) is
silent_reply plain events.TakeJob silent is = taken_reply (lowest_ready plain.window.objects) is
silent_reply plain (events.JobDone job) silent is =
    either_reply (is_under_way job plain.window) (replies.Done (below_open (window_after_done job plain.window))) replies.Nothing
    (λ e. cc) (λ e. cc) is
silent_reply plain (events.JobFailed job) silent is =
    either_reply (is_under_way job plain.window) replies.Returned replies.Nothing (λ e. cc) (λ e. cc) is
silent_reply plain events.SealCheckpoint silent is =
    either_reply (is_busy plain) replies.Busy (replies.Sealed (plain.window.last + 1)) (λ e. cc) (λ e. cc) is
silent_reply plain events.TakeRemove silent is = removal_reply plain.removal (to_remove plain) is
silent_reply plain (events.RemoveDone number) silent is =
    either_reply (is_out number plain.removal) replies.Removed replies.Nothing (λ e. cc) (λ e. cc) is
silent_reply plain (events.RemoveFailed number) silent is =
    either_reply (is_out number plain.removal) replies.GivenBack replies.Nothing (λ e. cc) (λ e. cc) is
silent_reply plain events.PlanCopy silent is = planning_reply plain.plan (planned_copy plain) is
silent_reply plain (events.SealCopy is_planned) silent is =
    either_reply (is_some plain.plan && is_planned)
    (if is_busy plain then replies.Busy else replies.Sealed (plain.window.last + 1))
    replies.Nothing
    (either_reply (is_busy plain) replies.Busy (replies.Sealed (plain.window.last + 1)) (λ e. cc) (λ e. cc)) (λ e. cc) is
silent_reply plain events.DropPlan silent is =
    either_reply (is_some plain.plan) replies.Dropped replies.Nothing (λ e. cc) (λ e. cc) is
silent_reply plain events.Status silent is = cc

-- no call of the device fails in it
pub silent_faults : {R : Type 0} (state : R → ReceiptState) (event : Event R) (reply : Reply R) (plain : PlainState)
    (old new : SteppedVolume)
    → ((asked : PlainEvent) → Asks state old.volume event asked → is_silent asked ≡ true) → Shows old.volume plain
    → CountedStep state event reply old new
    → new.volume.log.commits.disk.faults ≡ old.volume.log.commits.disk.faults
silent_faults state event reply plain old new silent shows of =
    let none : tells_fault reply ≡ false =
    elim (of.step.step plain shows) [
      | inl s ↦ tells_no_fault state old.volume reply (plain_reply (passing s.left plain) s.asked) s.tells
          (silent_reply (passing s.left plain) s.asked (silent s.asked s.asks))
      | inr n ↦ memory_is_no_fault reply n.lacks
    ] in
    subst (λ b. Counts b old.volume.log.commits.disk.faults new.volume.log.commits.disk.faults) none of.step.faults

-- ---- a put begins

-- what such a step leaves
record IsAfterTake {R : Type 0} (state : R → ReceiptState) (reply : Reply R) (plain : PlainState) (old new : VolumeState) :
    Type 0 where
  after : PlainState
  shows : Shows new after
  unsealed : unsealed_entries after ≡ unsealed_entries plain
  pins : after.pins ≡ plain.pins
  removal : after.removal ≡ plain.removal
  window : after.window ≡ window_after_take (lowest_ready plain.window.objects) plain.window
  tells : Tells state old reply (reply_of_taken (lowest_ready plain.window.objects))

after_take_by : {R : Type 0} (state : R → ReceiptState) (reply : Reply R) (plain : PlainState) (old new : VolumeState)
    → Shows old plain
    → IsStep state asks.TakeJob reply plain old new ⊎ IsNoStep state asks.TakeJob reply plain old new
    → IsAfterTake state reply plain old new
after_take_by state reply plain old new shows (inl s) =
    let ready : PlainState = passing s.left plain in
    let now : Fuse = fuse_in new.log.commits.disk.budget in
    record {
      after = passing now (plain_after events.TakeJob ready);
      shows = subst (λ e. Shows new (passing now (plain_after e ready))) s.asks s.shows;
      unsealed = refl;
      pins = refl;
      removal = refl;
      window = refl;
      tells = subst (λ e. Tells state old reply (plain_reply ready e)) s.asks s.tells;
    }
after_take_by state reply plain old new shows (inr n) = (let may = n.may in let bad : ⊥ = cc in absurd bad)

pub taken_number : {R : Type 0} (state : R → ReceiptState) (volume : VolumeState) (lowest : Option ℕ) (job : JobState)
    → Tells {R = R} state volume (told.Taken job) (reply_of_taken lowest)
    → (lowest ≡ Some job.name.number) × IsJobOf volume.objects.uploads job.name.number job
taken_number state volume None job tells = (let is = tells.0 in let bad : ⊥ = cc in absurd bad)
taken_number state volume (Some number) job tells = (let is = tells.0 in let same : number ≡ job.name.number = cc in
    (ap Some same, tells.1))

-- a job that a reply hands out was taken
pub handed_job : {R : Type 0} (reply : Reply R) (job : JobState) → job_in reply ≡ Some job → reply ≡ told.Taken job
handed_job reply job is =
    elim (job_cases reply) [
      | inl e ↦
          let handed = ap job_in e.1 in
          let same : e.0 ≡ job = cc in
          e.1 ∙ ap told.Taken same
      | inr none ↦ (let bad : ⊥ = cc in absurd bad)
    ]

none_lowest : {R : Type 0} (state : R → ReceiptState) (volume : VolumeState) (reply : Reply R) (lowest : Option ℕ)
    → Tells state volume reply (reply_of_taken lowest) → job_in reply ≡ None → lowest ≡ None
none_lowest state volume reply None tells none = refl
none_lowest state volume reply (Some number) tells none =
    let taken = tells_taken state volume reply number tells in
    let handed = ap job_in taken.1 in
    let bad : ⊥ = cc in
    absurd bad

module _ {R : Type 0} (state : R → ReceiptState) (reply : Reply R) (old new : SteppedVolume)
    (of : CountedStep state asks.TakeJob reply old new)
    (plain : PlainState) (shows : Shows old.volume plain) where
  taking : IsAfterTake state reply plain old.volume new.volume
  taking = after_take_by state reply plain old.volume new.volume shows (of.step.step plain shows)

  pub take_makes : MakesSteps 1 [] old new
  take_makes = quiet_makes state asks.TakeJob reply old new (λ asked is. ap is_quiet is) of

  pub take_faults : new.volume.log.commits.disk.faults ≡ old.volume.log.commits.disk.faults
  take_faults = silent_faults state asks.TakeJob reply plain old new (λ asked is. ap is_silent is) shows of

  -- what is in no object stays so
  pub take_unsealed : old.volume.objects.batch.entries ≡ [] → new.volume.objects.batch.entries ≡ []
  take_unsealed none =
      taking.shows.objects.stream.entries ∙ taking.unsealed ∙ sym shows.objects.stream.entries ∙ none

  -- a put that begins is out, alone
  pub taken_is : (job : JobState) → IsIdle old.volume → reply ≡ told.Taken job → IsTaken job new.volume
      × (work_of new.volume ≡ work_of old.volume)
  taken_is job idle is =
      let after = taking in
      let was = shown_idle old.volume plain shows idle in
      let n : ℕ = job.name.number in
      let objects : List OpenObject = plain.window.objects in
      let number = taken_number state old.volume (lowest_ready objects) job
      (subst (λ r. Tells state old.volume r (reply_of_taken (lowest_ready objects))) is after.tells) in
      let open_ : list_any (has_number n) objects ≡ true = ready_is_open n _ objects number.0 in
      let window : new.volume.objects.uploads.window ≡ marked n true plain.window =
      after.shows.objects.window ∙ after.window ∙ ap (λ lowest. window_after_take lowest plain.window) number.0 in
      let now : new.volume.objects.uploads.window.objects ≡ with_started n true objects =
      ap (λ (w : WindowState). w.objects) window in
      let old_open : list_any (has_number n) old.volume.objects.uploads.window.objects ≡ true =
      ap (λ (w : WindowState). list_any (has_number n) w.objects) shows.objects.window ∙ open_ in
      let new_open : list_any (has_number n) new.volume.objects.uploads.window.objects ≡ true =
      ap (list_any (has_number n)) now ∙ marked_numbers n n true objects ∙ open_ in
      let before = shown_work old.volume plain shows in
      let later = shown_work new.volume after.after after.shows in
      let unsealed = ap (λ (es : List Entry). length es) after.unsealed in
      let long = ap (λ (w : WindowState). length w.objects) (after.window
      ∙ ap (λ lowest. window_after_take lowest plain.window) number.0) in (
        record {
          out = record {
            started = ap (is_started n) now ∙ started_once n objects open_;
            sealed = of.step.bytes n job.bytes old_open number.1.bytes new_open;
          };
          named = number.1.named ∙ ap (λ u. numbered_name u n) (sym of.step.sizes.uuid);
          alone = ap (λ (o : List OpenObject). any_started (with_started n false o)) now ∙ begun_alone n objects was.puts;
          plans = plans_shown new.volume after.after after.shows (after.pins ∙ was.plans);
          none_out = after.shows.table.removal ∙ after.removal ∙ was.none_out;
          few = subst (λ (o : List OpenObject). length o ≤ 16) (sym now)
              (let long_now = marked_long n true objects in omega (arith, was.few, long_now));
        },
        omega (arith, before, later, unsealed, long, marked_long n true objects),
      )

  -- a checkpoint that alone is on its way is so still
  pub take_awaits : AwaitsCheckpoint old.volume → AwaitsCheckpoint new.volume
  take_awaits awaits =
      let after = taking in
      awaiting_shown new.volume after.after after.shows
      (taken_awaits (lowest_ready plain.window.objects) plain after.after after.unsealed after.window
      (awaiting_plain old.volume plain shows awaits))

  -- where none begins, none is on its way
  pub none_taken : IsIdle old.volume → job_in reply ≡ None
      → (new.volume.objects.uploads.window.objects ≡ []) × IsIdle new.volume × (work_of new.volume ≡ work_of old.volume)
  none_taken idle none =
      let after = taking in
      let was = shown_idle old.volume plain shows idle in
      let lowest : lowest_ready plain.window.objects ≡ None =
      none_lowest state old.volume reply (lowest_ready plain.window.objects) after.tells none in
      let same : after.after.window ≡ plain.window = after.window ∙ ap (λ l. window_after_take l plain.window) lowest in
      let empty : old.volume.objects.uploads.window.objects ≡ [] =
      none_is_ready 0 old.volume.objects.uploads.window.objects old.volume.objects.uploads.window.last
      (subst (λ (w : WindowState). Ascends 0 w.objects w.last) (sym shows.objects.window) shows.valid.window.order) idle.puts
      (ap (λ (w : WindowState). lowest_ready w.objects) shows.objects.window ∙ lowest) in
      let now : new.volume.objects.uploads.window ≡ old.volume.objects.uploads.window =
      after.shows.objects.window ∙ same ∙ sym shows.objects.window in
      let before = shown_work old.volume plain shows in
      let later = shown_work new.volume after.after after.shows in
      let unsealed = ap (λ (es : List Entry). length es) after.unsealed in
      let long = ap (λ (w : WindowState). length w.objects) same in (
        ap (λ (w : WindowState). w.objects) now ∙ empty,
        idle_shown new.volume after.after after.shows (record {
          puts = ap (λ (w : WindowState). any_started w.objects) same ∙ was.puts;
          plans = after.pins ∙ was.plans;
          none_out = after.removal ∙ was.none_out;
          few = subst (λ (w : WindowState). length w.objects ≤ 16) (sym same) was.few;
        }),
        omega (arith, before, later, unsealed, long),
      )

-- ---- a put is done, or failed

-- what such a step leaves; of the newest checkpoint something is said
record IsAfterPut (window : WindowState → WindowState) (IsNewest : PlainState → Type 0) (plain : PlainState) (new : VolumeState) :
    Type 0 where
  after : PlainState
  shows : Shows new after
  unsealed : unsealed_entries after ≡ unsealed_entries plain
  pins : after.pins ≡ plain.pins
  removal : after.removal ≡ plain.removal
  window_is : after.window ≡ window plain.window
  newest : IsNewest after

done_put : (volume : VolumeState) (job : JobState) (receipt : ReceiptState) (put : Option ℕ) → IsTaken job volume
    → receipt.name ≡ job.name
    → IsOfDonePut volume job receipt put → put ≡ Some job.name.number
done_put volume job receipt None taken named is = absurd (is (taken.out, named ∙ taken.named))
done_put volume job receipt (Some number) taken named is = ap Some is.0

failed_put : (volume : VolumeState) (job : JobState) (put : Option ℕ) → IsTaken job volume → IsOfPut volume job put
    → put ≡ Some job.name.number
failed_put volume job None taken is = absurd (is taken.out)
failed_put volume job (Some number) taken is = ap Some is.0

module _ {R : Type 0} (state : R → ReceiptState) (job : JobState) (receipt : R) (reply : Reply R) (old new : SteppedVolume)
    (of : CountedStep state (asks.JobDone job receipt) reply old new) (plain : PlainState) (shows : Shows old.volume plain)
    (taken : IsTaken job old.volume) (named : (state receipt).name ≡ job.name) where
  started_is : is_started job.name.number plain.window.objects ≡ true
  started_is = ap (λ (w : WindowState). is_started job.name.number w.objects) (sym shows.objects.window) ∙ taken.out.started

  -- the newest acknowledged checkpoint is this object, where it is one
  abbrev IsNewestDone : PlainState → Type 0
  IsNewestDone after =
      is_started_checkpoint job.name.number plain.window.objects ≡ true → after.checkpoint.number ≡ job.name.number

  after_done_by : IsStep state (asks.JobDone job receipt) reply plain old.volume new.volume
      ⊎ IsNoStep state (asks.JobDone job receipt) reply plain old.volume new.volume
      → IsAfterPut (acknowledged job.name.number) IsNewestDone plain new.volume
  after_done_by (inl s) =
      let ready : PlainState = passing s.left plain in
      let now : Fuse = fuse_in new.volume.log.commits.disk.budget in
      let n : ℕ = job.name.number in
      let put = done_put old.volume job (state receipt) s.asks.0 taken named s.asks.2 in
      let asked : s.asked ≡ events.JobDone (Some n) = s.asks.1 ∙ ap events.JobDone put in
      record {
        after = passing now (plain_after (events.JobDone (Some n)) ready);
        shows = subst (λ e. Shows new.volume (passing now (plain_after e ready))) asked s.shows;
        unsealed = refl;
        pins = refl;
        removal = refl;
        window_is = ap (λ (b : Bool). if b then acknowledged n plain.window else plain.window) started_is;
        newest = λ is. ap (λ (b : Bool). (if b then checkpoint_at n ready else ready.checkpoint).number) is;
      }
  after_done_by (inr n) = (let may = n.may in let bad : ⊥ = cc in absurd bad)

  pub done_makes : MakesSteps 1 [] old new
  done_makes = quiet_makes state (asks.JobDone job receipt) reply old new (λ asked is. ap is_quiet is.1) of

  pub done_faults : new.volume.log.commits.disk.faults ≡ old.volume.log.commits.disk.faults
  done_faults = silent_faults state (asks.JobDone job receipt) reply plain old new (λ asked is. ap is_silent is.1) shows of

  pub done_leaves : IsIdle new.volume × (work_of new.volume < work_of old.volume)
  done_leaves =
      let after = after_done_by (of.step.step plain shows) in
      let n : ℕ = job.name.number in
      let objects : List OpenObject = plain.window.objects in
      let alone : any_started (with_started n false objects) ≡ false =
      ap (λ (w : WindowState). any_started (with_started n false w.objects)) (sym shows.objects.window) ∙ taken.alone in
      let no_pins_ : plain.pins ≡ [] = plans_plain old.volume plain shows taken.plans in
      let none_out : plain.removal ≡ None = sym shows.table.removal ∙ taken.none_out in
      let few : length objects ≤ 16 = subst (λ (w : WindowState). length w.objects ≤ 16) shows.objects.window taken.few in
      let before = shown_work old.volume plain shows in
      let later = shown_work new.volume after.after after.shows in
      let unsealed = ap (λ (es : List Entry). length es) after.unsealed in
      let long = ap (λ (w : WindowState). length w.objects) after.window_is in
      let shorter = without_shorter n objects started_is in (
        idle_shown new.volume after.after after.shows (record {
          puts = ap (λ (w : WindowState). any_started w.objects) after.window_is ∙ without_it n objects alone;
          plans = after.pins ∙ no_pins_;
          none_out = after.removal ∙ none_out;
          few = omega (arith, few, long, shorter);
        }),
        omega (arith, before, later, unsealed, long, shorter),
      )

  -- all is put, where a checkpoint alone was on its way
  pub done_puts : AwaitsCheckpoint old.volume → HasAllPut new.volume
  done_puts awaited =
      let after = after_done_by (of.step.step plain shows) in
      let awaits = awaiting_plain old.volume plain shows awaited in
      let one = one_put job.name.number awaits.object plain.window.objects awaits.on_way awaits.is_checkpoint started_is in
      all_put_shown new.volume after.after after.shows (record {
        unsealed = after.unsealed ∙ awaits.unsealed;
        on_way = ap (λ (w : WindowState). w.objects) after.window_is ∙ one.none;
        checkpoint =
            after.newest one.is_checkpoint ∙ sym one.number ∙ awaits.number
            ∙ ap (λ (w : WindowState). w.last) (sym after.window_is);
      })

module _ {R : Type 0} (state : R → ReceiptState) (job : JobState) (reply : Reply R) (old new : SteppedVolume)
    (of : CountedStep state (asks.JobFailed job) reply old new) (plain : PlainState) (shows : Shows old.volume plain)
    (taken : IsTaken job old.volume) where
  was_started_is : is_started job.name.number plain.window.objects ≡ true
  was_started_is = ap (λ (w : WindowState). is_started job.name.number w.objects) (sym shows.objects.window) ∙ taken.out.started

  after_failed_by : IsStep state (asks.JobFailed job) reply plain old.volume new.volume
      ⊎ IsNoStep state (asks.JobFailed job) reply plain old.volume new.volume
      → IsAfterPut (marked job.name.number false) (λ after. Unit {0}) plain new.volume
  after_failed_by (inl s) =
      let ready : PlainState = passing s.left plain in
      let now : Fuse = fuse_in new.volume.log.commits.disk.budget in
      let n : ℕ = job.name.number in
      let put = failed_put old.volume job s.asks.0 taken s.asks.2 in
      let asked : s.asked ≡ events.JobFailed (Some n) = s.asks.1 ∙ ap events.JobFailed put in
      record {
        after = passing now (plain_after (events.JobFailed (Some n)) ready);
        shows = subst (λ e. Shows new.volume (passing now (plain_after e ready))) asked s.shows;
        unsealed = refl;
        pins = refl;
        removal = refl;
        window_is = ap (λ (b : Bool). if b then marked n false plain.window else plain.window) was_started_is;
        newest = tt;
      }
  after_failed_by (inr n) = (let may = n.may in let bad : ⊥ = cc in absurd bad)

  pub failed_makes : MakesSteps 1 [] old new
  failed_makes = quiet_makes state (asks.JobFailed job) reply old new (λ asked is. ap is_quiet is.1) of

  pub failed_faults : new.volume.log.commits.disk.faults ≡ old.volume.log.commits.disk.faults
  failed_faults = silent_faults state (asks.JobFailed job) reply plain old new (λ asked is. ap is_silent is.1) shows of

  pub failed_idle : IsIdle new.volume
  failed_idle =
      let after = after_failed_by (of.step.step plain shows) in
      let n : ℕ = job.name.number in
      let alone : any_started (with_started n false plain.window.objects) ≡ false =
      ap (λ (w : WindowState). any_started (with_started n false w.objects)) (sym shows.objects.window) ∙ taken.alone in
      idle_shown new.volume after.after after.shows (record {
        puts = ap (λ (w : WindowState). any_started w.objects) after.window_is ∙ alone;
        plans = after.pins ∙ plans_plain old.volume plain shows taken.plans;
        none_out = after.removal ∙ sym shows.table.removal ∙ taken.none_out;
        few =
            (let same = ap (λ (w : WindowState). length w.objects) after.window_is in
            let long = marked_long n false plain.window.objects in
            let few : length plain.window.objects ≤ 16 =
            subst (λ (w : WindowState). length w.objects ≤ 16) shows.objects.window taken.few in
            omega (arith, same, long, few));
      })

-- ---- a seal

-- the last of some objects goes on from the others
last_goes : (end : ℕ) (objects : List StreamObject) (object : StreamObject) → EndsFollow end (objects ++ object ∷ [])
    → GoesTo object.content (end_after end objects) object.end
last_goes end [] object follow = follow.0
last_goes end (first ∷ objects) object follow = last_goes first.end objects object follow.1

abbrev object_of_next : PlainState → StreamObject
object_of_next plain = record { content = Data; end = end_of_next plain }

abbrev with_sealed : PlainState → PlainState
with_sealed plain = record plain {
  objects = plain.objects ++ object_of_next plain ∷ [];
  window = entered (plain.window.last + 1) false plain.window;
}

-- fewer entries are in no object
fewer_unsealed : (plain : PlainState) → IsPlainVolume plain → IsPlainVolume (with_sealed plain)
    → length (unsealed_entries (with_sealed plain)) < length (unsealed_entries plain)
fewer_unsealed plain valid after =
    let object : StreamObject = object_of_next plain in
    let objects : List StreamObject = plain.objects ++ object ∷ [] in
    let goes : end_after plain.end plain.objects < object.end = last_goes plain.end plain.objects object after.stream.ends in
    let more = length-append plain.objects (object ∷ []) in
    let whole : take (last_number (stream_in plain) - plain.number) plain.objects ≡ plain.objects =
    take_all (last_number (stream_in plain) - plain.number) plain.objects (omega arith) in
    let ends : end_at (stream_in plain) (last_number (stream_in plain)) ≡ end_after plain.end plain.objects =
    ap (end_after plain.end) whole in
    let all : take (last_number (stream_in (with_sealed plain)) - plain.number) objects ≡ objects =
    take_all (last_number (stream_in (with_sealed plain)) - plain.number) objects (omega arith) in
    let last_end : end_at (stream_in (with_sealed plain)) (last_number (stream_in (with_sealed plain))) ≡ object.end =
    ap (end_after plain.end) all ∙ end_in_parts plain.end plain.objects (object ∷ []) in
    let before = length-drop (end_at (stream_in plain) (last_number (stream_in plain)) - plain.end) plain.entries in
    let later = length-drop (end_at (stream_in (with_sealed plain)) (last_number (stream_in (with_sealed plain))) - plain.end)
    plain.entries in
    let within = after.stream.within in
    let from = ends_from plain (last_number (stream_in plain)) valid in
    omega (arith, goes, ends, last_end, before, later, within, from)

-- what such a step leaves, where nothing is on its way
record IsAfterSeal {R : Type 0} (reply : Reply R) (plain : PlainState) (new : VolumeState) : Type 0 where
  after : PlainState
  shows : Shows new after
  pins : after.pins ≡ plain.pins
  removal : after.removal ≡ plain.removal
  idle : any_started after.window.objects ≡ false
  few : length after.window.objects ≤ 16
  less : (number : ℕ) → reply ≡ told.Sealed number
      → 2 * length (unsealed_entries after) + length after.window.objects < 2 * length (unsealed_entries plain)
  none : reply ≡ told.Nothing → (length (unsealed_entries plain) ≡ 0)
      × (2 * length (unsealed_entries after) + length after.window.objects ≡ 0)

seal_by : {R : Type 0} (state : R → ReceiptState) (volume : VolumeState) (reply : Reply R) (plain : PlainState)
    (new : VolumeState) (left now : Fuse)
    (has busy : Bool) (number : ℕ) → IsPlainVolume plain → has_unsealed plain ≡ has → is_busy plain ≡ busy
    → plain.window.objects ≡ []
    → Tells state volume reply (if has then (if busy then replies.Busy else replies.Sealed number) else replies.Nothing)
    → Shows new (passing now (cond (has && not busy) (with_sealed (passing left plain)) (passing left plain)))
    → IsPlainVolume (cond (has && not busy) (with_sealed plain) plain)
    → IsAfterSeal reply plain new
seal_by state volume reply plain new left now true false number valid has_is busy_is none tells shows after =
    let few = fewer_unsealed plain valid after in
    let opened : OpenObject = record {
      number = plain.window.last + 1;
      is_checkpoint = false;
      is_started =
          false;
      was_started = false;
    } in
    let long = length-append plain.window.objects (opened ∷ []) in
    let empty = ap (λ (o : List OpenObject). length o) none in
    record {
      after = passing now (with_sealed (passing left plain));
      shows = shows;
      pins = refl;
      removal = refl;
      idle = entered_none plain.window.objects opened (ap any_started none) refl;
      few = omega (arith, long, empty);
      less = λ sealed is. omega (arith, few, long, empty);
      none = λ is. (let told_it = subst (λ r. Tells state volume r (replies.Sealed number)) is tells in let bad : ⊥ = cc in
          absurd bad);
    }
seal_by state volume reply plain new left now true true number valid has_is busy_is none tells shows after =
    let empty = ap (λ (o : List OpenObject). length o == 16) none in let bad : ⊥ = cc in absurd bad
seal_by state volume reply plain new left now false busy number valid has_is busy_is none tells shows after =
    let nothing : length (unsealed_entries plain) ≡ 0 = grind (arith, nat_tests) in
    let empty = ap (λ (o : List OpenObject). length o) none in
    record {
      after = passing now (passing left plain);
      shows = shows;
      pins = refl;
      removal = refl;
      idle = ap any_started none;
      few = omega (arith, empty);
      less = λ sealed is. (let told_it = subst (λ r. Tells state volume r replies.Nothing) is tells in let bad : ⊥ = cc in
          absurd bad);
      none = λ is. (nothing, omega (arith, nothing, empty));
    }

pub sealed_lacks : (R : Type 0) (number : ℕ) → lacks_memory {R = R} (told.Sealed number) ≡ true → ⊥
sealed_lacks R number lacks = cc

pub nothing_lacks : (R : Type 0) → lacks_memory {R = R} told.Nothing ≡ true → ⊥
nothing_lacks R lacks = cc

module _ {R : Type 0} (state : R → ReceiptState) (reply : Reply R) (old new : SteppedVolume)
    (of : CountedStep state asks.Seal reply old new)
    (plain : PlainState) (shows : Shows old.volume plain) where
  pub seal_makes : MakesSteps 1 [] old new
  seal_makes = quiet_makes state asks.Seal reply old new (λ asked is. ap is_quiet is) of

  pub seal_faults : new.volume.log.commits.disk.faults ≡ old.volume.log.commits.disk.faults
  seal_faults = silent_faults state asks.Seal reply plain old new (λ asked is. ap is_silent is) shows of

  sealing : plain.window.objects ≡ []
      → IsStep state asks.Seal reply plain old.volume new.volume ⊎ IsNoStep state asks.Seal reply plain old.volume new.volume
      → IsAfterSeal reply plain new.volume
  sealing none (inl s) =
      let ready : PlainState = passing s.left plain in
      let now : Fuse = fuse_in new.volume.log.commits.disk.budget in
      let shown : Shows new.volume (passing now (after_seal ready)) =
      subst (λ e. Shows new.volume (passing now (plain_after e ready))) s.asks s.shows in
      let tells : Tells state old.volume reply (seal_reply ready) =
      subst (λ e. Tells state old.volume reply (plain_reply ready e)) s.asks s.tells in
      seal_by state old.volume reply plain new.volume s.left now (has_unsealed plain) (is_busy plain) (plain.window.last + 1)
      shows.valid refl refl none
      tells shown (seal_keeps plain shows.valid)
  sealing none (inr n) = record {
    after = plain;
    shows = n.shows;
    pins = refl;
    removal = refl;
    idle = ap any_started none;
    few = (let empty = ap (λ (o : List OpenObject). length o) none in omega (arith, empty));
    less = λ number is. absurd (sealed_lacks R number (subst (λ r. lacks_memory r ≡ true) is n.lacks));
    none = λ is. absurd (nothing_lacks R (subst (λ r. lacks_memory r ≡ true) is n.lacks));
  }

  pub sealed_leaves : IsIdle old.volume → old.volume.objects.uploads.window.objects ≡ []
      → IsIdle new.volume × IfOk (seal_in reply) (λ has_sealed. HasHelped has_sealed old.volume new.volume)
  sealed_leaves idle none =
      let was = shown_idle old.volume plain shows idle in
      let empty : plain.window.objects ≡ [] = ap (λ (w : WindowState). w.objects) (sym shows.objects.window) ∙ none in
      let after = sealing empty (of.step.step plain shows) in
      let before = shown_work old.volume plain shows in
      let later = shown_work new.volume after.after after.shows in
      let no_objects = ap (λ (o : List OpenObject). length o) empty in
      let Helps : Result Bool OwnerError → Type 0 = λ r. IfOk r (λ has_sealed. HasHelped has_sealed old.volume new.volume) in (
        idle_shown new.volume after.after after.shows (record {
          puts = after.idle;
          plans = after.pins ∙ was.plans;
          none_out = after.removal ∙ was.none_out;
          few = after.few;
        }),
        elim (seal_cases reply) [
          | inl e ↦
              let less = after.less e.0 e.1 in
              let lower : work_of new.volume < work_of old.volume = omega (arith, before, later, no_objects, less) in
              subst Helps (sym (ap seal_in e.1)) lower
          | inr o ↦ elim o [
            | inl is ↦
                let left = after.none is in
                let old_none : work_of old.volume ≡ 0 = omega (arith, before, no_objects, left.0) in
                let new_none : work_of new.volume ≡ 0 = omega (arith, later, left.1) in
                subst Helps (sym (ap seal_in is)) (old_none, new_none)
            | inr lacks ↦ subst Helps (sym lacks) tt
          ]
        ],
      )

-- a help after a step that left as much
pub helped_as : (result : Result Bool OwnerError) (old mid new : VolumeState) → work_of mid ≡ work_of old
    → IfOk result (λ has_helped. HasHelped has_helped mid new) → IfOk result (λ has_helped. HasHelped has_helped old new)
helped_as (Ok true) old mid new same less = subst (λ w. work_of new < w) same less
helped_as (Ok false) old mid new same none = (sym same ∙ none.0, none.1)
helped_as (Err error) old mid new same is = is
