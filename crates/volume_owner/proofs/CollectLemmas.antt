-- What the steps of a turn of a collection do: a copy is planned, what was copied is sealed, a plan is given up.
use Rattle.std.proofs.Common.{arith, ◌≡◌, ℕ, ◌+◌, ◌≤◌, ◌⊎◌, inl, inr, Bool, true, false, not, ◌&&◌, List, [], ◌∷◌}
use Rattle.std.proofs.Common.{length, length-append, refl, sym, ◌∙◌, ap, subst, zero-add}
use Rattle.std.specs.Prelude.{Option, Some, None, is_some, Result, Ok, Err, IfOk, IsOkUnless, if◌then◌else◌, nat_lt}
use Rattle.std.specs.List.{sum_by}
use Rattle.std.proofs.lemmas.List.Sums.{sum_by-cons}
use Rattle.std.proofs.lemmas.Result.{IfOk-weaker}
use Rattle.std.proofs.lemmas.Bool.Decides.{nat_tests}
use Rattle.lsvd_device.specs.Calls.{Fuse}
use Rattle.lsvd_fault.specs.Faults.{Counts}
use Rattle.lsvd_objstore.specs.Store.{StoreState, ReceiptState, OnlyCounts, Becomes}
use Rattle.gc_copier.specs.declared.error.CopyError.{CopyError}
use Rattle.gc_copier.specs.declared.error.CopyError.TheVariants as copy_errors
use Rattle.gc_copier.specs.Plan.{PlanState, sectors_of}
use Rattle.gc_copier.specs.Copying.{CopiedState, IsCopyOf, has_failed}
use Rattle.object_stream.specs.declared.object.CopiedSector.{CopiedSector}
use Rattle.object_uploads.specs.State.{QueueState}
use Rattle.upload_window.specs.declared.object.OpenObject.{OpenObject}
use Rattle.upload_window.specs.Window.{WindowState}
use Rattle.plain_disk.specs.declared.event.PlainReply.{PlainReply}
use Rattle.plain_disk.specs.declared.event.PlainReply.TheVariants as replies
use Rattle.plain_disk.specs.State.{PlainState}
use Rattle.plain_disk.specs.Objects.{is_busy}
use Rattle.plain_disk.specs.Collection.{planned_copy, reply_of_plan, with_plan, with_copy, after_sealed_copy, after_drop_plan}
use Rattle.plain_disk.specs.Step.{plain_reply, plain_after}
use Rattle.refine_log.specs.Fuses.{fuse_in}
use Rattle.refine_objects.specs.Plan.{ShowsPlan}
use Rattle.vol_core.specs.declared.event.Event.TheVariants as asks
use Rattle.vol_core.specs.declared.reply.Reply.{Reply}
use Rattle.vol_core.specs.declared.reply.Reply.TheVariants as told
use Rattle.vol_core.specs.declared.reply.SealRefusal.{SealRefusal}
use Rattle.vol_core.specs.declared.reply.SealRefusal.TheVariants as seal_refusals
use Rattle.vol_core.specs.Volume.{VolumeState, SteppedVolume}
use Rattle.vol_core.specs.Shows.{Shows}
use Rattle.vol_core.specs.Events.{Tells, TellsSealRefusal, IsPlanned, IsOfPlan}
use Rattle.vol_core.specs.Step.{passing, IsStep, IsNoStep, lacks_memory, CountedStep, ChangesPlan, HandsBack}
use Rattle.volume_owner.specs.declared.collecting.Turn.{Turn}
use Rattle.volume_owner.specs.declared.collecting.Turn.TheVariants.{Did, Idle}
use Rattle.volume_owner.specs.declared.error.OwnerError.{OwnerError}
use Rattle.volume_owner.specs.declared.error.OwnerError.TheVariants as errors
use Rattle.volume_owner.specs.Owner.{IsIdle}
use Rattle.volume_owner.specs.Acts.{moment_of, Act, Made, IsMadeOfActs}
use Rattle.volume_owner.specs.Tally.{copied_if_told, copied_by_act, removed_by_act, IsTally}
use Rattle.volume_owner.specs.Calls.{MakesSteps, IsCall, CountsEitherFault, KeepsOtherNames}
use Rattle.volume_owner.specs.Collecting.{may_collect, ShowsAfter, CollectsAsPlain, GivesUp, SealsAsPlain, EndsPlan, copied_in}
use Rattle.volume_owner.specs.Errors.{is_eio, of_copy}
use Rattle.volume_owner.specs.Replies.{copying_in, turn_in}
use Rattle.volume_owner.proofs.ActLemmas.{made_then, get_acts}
use Rattle.volume_owner.proofs.CallLemmas.{becomes_same, store_counts}
use Rattle.volume_owner.proofs.HelpLemmas.{is_silent, silent_faults}
use Rattle.volume_owner.proofs.PlainLemmas.{is_quiet}
use Rattle.volume_owner.proofs.StepLemmas.{shown_idle, idle_shown, quiet_makes}
use Rattle.volume_owner.proofs.TallyLemmas.{step_tally, quiet_tally, tally_before}
use Rattle.volume_owner.proofs.TellsLemmas.{tells_copying}
use Rattle.volume_owner.proofs.VictimLemmas.{plan_plain}
use Rattle.volume_owner.proofs.WindowLemmas.{any_started, entered_none}

-- ---- what a volume shows

-- a volume shows the plain volume whose device passes just the calls that its own does
pub shows_after : (volume : VolumeState) (plain : PlainState) → Shows volume plain → ShowsAfter volume plain
shows_after volume plain shows = subst (λ left. Shows volume (passing left plain)) shows.fuse shows

-- what a step leaves, of what an owner counts on
record LeavesIdle (plain : PlainState) (new : VolumeState) : Type 0 where
  after : PlainState
  shows : Shows new after
  pins : after.pins ≡ plain.pins
  removal : after.removal ≡ plain.removal
  puts : any_started plain.window.objects ≡ false → any_started after.window.objects ≡ false
  few : length plain.window.objects ≤ 16 → length after.window.objects ≤ 16

leaves_same : (plain : PlainState) (new : VolumeState) (after : PlainState) → Shows new after → after.pins ≡ plain.pins
    → after.removal ≡ plain.removal → after.window ≡ plain.window → LeavesIdle plain new
leaves_same plain new after shows pins removal window = record {
  after = after;
  shows = shows;
  pins = pins;
  removal = removal;
  puts = λ none. ap (λ (w : WindowState). any_started w.objects) window ∙ none;
  few = λ few. subst (λ (w : WindowState). length w.objects ≤ 16) (sym window) few;
}

leaves_idle : (old new : VolumeState) (plain : PlainState) → Shows old plain → IsIdle old → LeavesIdle plain new → IsIdle new
leaves_idle old new plain shows idle leaves =
    let was = shown_idle old plain shows idle in
    idle_shown new leaves.after leaves.shows (record {
      puts = leaves.puts was.puts;
      plans = leaves.pins ∙ was.plans;
      none_out = leaves.removal ∙ was.none_out;
      few = leaves.few was.few;
    })

-- ---- a plan is given up

module _ {R : Type 0} (state : R → ReceiptState) (reply : Reply R) (old new : SteppedVolume)
    (of : CountedStep state asks.DropPlan reply old new) where
  pub drop_makes : MakesSteps 1 [] old new
  drop_makes = quiet_makes state asks.DropPlan reply old new (λ asked is. ap is_quiet is) of

  pub drop_faults : new.volume.log.commits.disk.faults ≡ old.volume.log.commits.disk.faults
  drop_faults =
      silent_faults state asks.DropPlan reply of.was.plain old new (λ asked is. ap is_silent is) of.was.shows of

  dropping : (plain : PlainState)
      → IsStep state asks.DropPlan reply plain old.volume new.volume
      ⊎ IsNoStep state asks.DropPlan reply plain old.volume new.volume
      → ShowsAfter new.volume (after_drop_plan plain)
  dropping plain (inl s) =
      let now : Fuse = fuse_in new.volume.log.commits.disk.budget in
      subst (λ e. Shows new.volume (passing now (plain_after e (passing s.left plain)))) s.asks s.shows
  dropping plain (inr n) = (let may = n.may in let bad : ⊥ = cc in absurd bad)

  pub drop_gives_up : GivesUp old.volume new.volume
  drop_gives_up plain shows = dropping plain (of.step.step plain shows)

  pub drop_none : new.volume.plan ≡ None
  drop_none =
      let shown = drop_gives_up of.was.plain of.was.shows in
      plan_plain new.volume.objects.uploads.queue new.volume.plan _ refl shown.plan

  pub drop_tally : (store : StoreState) → IsTally state 0 0 (moment_of old store) (moment_of new store)
  drop_tally store = step_tally state asks.DropPlan reply 0 0 old new store of tt refl refl (λ was. drop_none)

  pub dropped_idle : IsIdle old.volume → IsIdle new.volume
  dropped_idle idle =
      let was = of.was.plain in
      leaves_idle old.volume new.volume was of.was.shows idle
      (leaves_same was new.volume _ (drop_gives_up was of.was.shows) refl refl refl)

-- a plain volume of which no plan is out stays as it is
none_again : (plain : PlainState) → plain.plan ≡ None → after_drop_plan plain ≡ plain
none_again plain none = ap (λ (p : Option (List CopiedSector)). record plain { plan = p }) (sym none)

-- ---- a copy is planned

abbrev has_work : (out : Option (List CopiedSector)) (is_full : Bool) (sectors : List CopiedSector) → Bool
has_work out is_full sectors = not (is_some out) && not is_full && nat_lt 0 (length sectors)

-- a plan was made, which takes these sectors
pub record PlansCopy (plain : PlainState) (new : VolumeState) : Type 0 where
  pub none : plain.plan ≡ None
  pub first : CopiedSector
  pub more : List CopiedSector
  pub planned : planned_copy plain ≡ first ∷ more
  pub shows : ShowsAfter new (record plain { plan = Some (first ∷ more) })

abbrev pub PlansAsPlain : Result (Option PlanState) OwnerError → PlainState → (new : VolumeState) → Type 0
PlansAsPlain (Ok (Some plan)) plain new = PlansCopy plain new
PlansAsPlain (Ok None) plain new = (may_collect plain ≡ false) × ShowsAfter new plain
PlansAsPlain (Err error) plain new = ShowsAfter new plain

-- a reply hands a plan out or none
copying_cases : {R : Type 0} (reply : Reply R)
    → ((plan : PlanState) × (reply ≡ told.Copying plan))
    ⊎ (copying_in reply ≡ Ok None) ⊎ (copying_in reply ≡ Err errors.OutOfMemory)
copying_cases (told.Copying plan) = inl (plan, refl)
copying_cases told.Nothing = inr (inl refl)
copying_cases told.Busy = inr (inl refl)
copying_cases reply = inr (inr refl)

copying_lacks : {R : Type 0} (reply : Reply R) → lacks_memory reply ≡ true → copying_in reply ≡ Err errors.OutOfMemory
copying_lacks (told.Copying plan) lacks = (let bad : ⊥ = cc in absurd bad)
copying_lacks told.Nothing lacks = (let bad : ⊥ = cc in absurd bad)
copying_lacks told.Busy lacks = (let bad : ⊥ = cc in absurd bad)
copying_lacks reply lacks = refl

pub copying_error : {R : Type 0} (reply : Reply R) (error : OwnerError) → copying_in reply ≡ Err error
    → error ≡ errors.OutOfMemory
copying_error reply error is =
    elim (copying_cases reply) [
      | inl e ↦ (let both = sym (ap copying_in e.1) ∙ is in let bad : ⊥ = cc in absurd bad)
      | inr (inl e) ↦ (let both = sym e ∙ is in let bad : ⊥ = cc in absurd bad)
      | inr (inr e) ↦ (let both = sym e ∙ is in cc)
    ]

pub copying_plan : {R : Type 0} (reply : Reply R) (plan : PlanState) → copying_in reply ≡ Ok (Some plan)
    → (was out : Option PlanState) → ChangesPlan {R = R} asks.PlanCopy reply was out → out ≡ Some plan
copying_plan {R} reply plan is was out changes =
    elim (copying_cases reply) [
      | inl e ↦ (
          let both : Ok (Some e.0) ≡ Ok (Some plan) = sym (ap copying_in e.1) ∙ is in
          let same : e.0 ≡ plan = cc in
          subst (λ (r : Reply R). ChangesPlan asks.PlanCopy r was out) e.1 changes ∙ ap Some same
          )
      | inr (inl e) ↦ (let both = sym e ∙ is in let bad : ⊥ = cc in absurd bad)
      | inr (inr e) ↦ (let both = sym e ∙ is in let bad : ⊥ = cc in absurd bad)
    ]

-- a reply that hands none out leaves the plan that is out
plan_stays : {R : Type 0} (reply : Reply R) → copying_in reply ≡ Ok None → (was out : Option PlanState)
    → ChangesPlan {R = R} asks.PlanCopy reply was out → out ≡ was
plan_stays (told.Copying plan) is was out changes = (let bad : ⊥ = cc in absurd bad)
plan_stays reply is was out changes = changes

-- a reply that hands out none leaves the plain volume as it was
no_copying : {R : Type 0} (reply : Reply R) (plain : PlainState) (new : VolumeState)
    → ((plan : PlanState) → reply ≡ told.Copying plan → ⊥)
    → may_collect plain ≡ false → ShowsAfter new plain → PlansAsPlain (copying_in reply) plain new
no_copying reply plain new none idle shows =
    elim (copying_cases reply) [
      | inl e ↦ absurd (none e.0 e.1)
      | inr (inl e) ↦ subst (λ r. PlansAsPlain r plain new) (sym e) (idle, shows)
      | inr (inr e) ↦ subst (λ r. PlansAsPlain r plain new) (sym e) shows
    ]

no_sectors : (is_full : Bool) → has_work None is_full [] ≡ false
no_sectors true = refl
no_sectors false = refl

some_sectors : (first : CopiedSector) (more : List CopiedSector) (is_full : Bool)
    → has_work None is_full (first ∷ more) ≡ not is_full
some_sectors first more true = refl
some_sectors first more false = grind (arith, nat_tests)

module _ {R : Type 0} (state : R → ReceiptState) (reply : Reply R) (volume : VolumeState) where
  tells_no_copy : (answer : PlainReply) → ((sectors : List CopiedSector) → answer ≡ replies.Copying sectors → ⊥)
      → Tells state volume reply answer → (plan : PlanState) → reply ≡ told.Copying plan → ⊥
  tells_no_copy answer other tells plan is =
      let told_it = subst (λ r. Tells state volume r answer) is tells in other told_it.0 told_it.1

  planning : (plain : PlainState) (new : VolumeState) (left now : Fuse) (out : Option (List CopiedSector))
      (sectors : List CopiedSector) → plain.plan ≡ out → planned_copy plain ≡ sectors
      → now ≡ fuse_in new.log.commits.disk.budget
      → Tells state volume reply (reply_of_plan out sectors)
      → Shows new (passing now (with_plan out sectors (passing left plain)))
      → PlansAsPlain (copying_in reply) plain new
  planning plain new left now (Some plan) sectors out_is planned_is now_is tells shows =
      no_copying reply plain new (tells_no_copy replies.Busy (λ s is. cc) tells)
      (ap (λ p. has_work p (is_busy plain) (planned_copy plain)) out_is)
      (subst (λ f. Shows new (passing f plain)) now_is shows)
  planning plain new left now None [] out_is planned_is now_is tells shows =
      no_copying reply plain new (tells_no_copy replies.Nothing (λ s is. cc) tells)
      (ap (λ p. has_work p (is_busy plain) (planned_copy plain)) out_is
      ∙ ap (has_work None (is_busy plain)) planned_is ∙ no_sectors (is_busy plain))
      (subst (λ f. Shows new (passing f plain)) now_is shows)
  planning plain new left now None (first ∷ more) out_is planned_is now_is tells shows =
      let is = tells_copying state volume reply (first ∷ more) tells in
      subst (λ (r : Reply R). PlansAsPlain (copying_in r) plain new) (sym is.1) (record {
        none = out_is;
        first = first;
        more = more;
        planned = planned_is;
        shows = subst (λ f. Shows new (passing f (record plain { plan = Some (first ∷ more) }))) now_is shows;
      })

module _ {R : Type 0} (state : R → ReceiptState) (reply : Reply R) (old new : SteppedVolume)
    (of : CountedStep state asks.PlanCopy reply old new) where
  pub plan_makes : MakesSteps 1 [] old new
  plan_makes = quiet_makes state asks.PlanCopy reply old new (λ asked is. ap is_quiet is) of

  pub plan_faults : new.volume.log.commits.disk.faults ≡ old.volume.log.commits.disk.faults
  plan_faults =
      silent_faults state asks.PlanCopy reply of.was.plain old new (λ asked is. ap is_silent is) of.was.shows of

  planned_by : (plain : PlainState)
      → IsStep state asks.PlanCopy reply plain old.volume new.volume
      ⊎ IsNoStep state asks.PlanCopy reply plain old.volume new.volume
      → PlansAsPlain (copying_in reply) plain new.volume
  planned_by plain (inl s) =
      let ready : PlainState = passing s.left plain in
      let now : Fuse = fuse_in new.volume.log.commits.disk.budget in
      planning state reply old.volume plain new.volume s.left now plain.plan (planned_copy plain) refl refl refl
      (subst (λ e. Tells state old.volume reply (plain_reply ready e)) s.asks s.tells)
      (subst (λ e. Shows new.volume (passing now (plain_after e ready))) s.asks s.shows)
  planned_by plain (inr n) =
      subst (λ r. PlansAsPlain r plain new.volume) (sym (copying_lacks reply n.lacks)) (shows_after new.volume plain n.shows)

  pub plans : (plain : PlainState) → Shows old.volume plain → PlansAsPlain (copying_in reply) plain new.volume
  plans plain shows = planned_by plain (of.step.step plain shows)

  -- none is out after it, where none was and none is handed out
  pub no_plan_tally : copying_in reply ≡ Ok None → (store : StoreState)
      → IsTally state 0 0 (moment_of old store) (moment_of new store)
  no_plan_tally is store =
      quiet_tally state asks.PlanCopy reply 0 old new store of tt refl refl
      (plan_stays reply is old.volume.plan new.volume.plan of.step.copying)

  -- or what comes after it ends the plan
  pub plan_tally : (copied : ℕ) (last : SteppedVolume) (first second : StoreState)
      → IsTally state copied 0 (moment_of new first) (moment_of last second) → last.volume.plan ≡ None
      → IsTally state copied 0 (moment_of old first) (moment_of last second)
  plan_tally copied last first second rest none =
      let act : Act R = Made asks.PlanCopy reply in
      record {
        acts = act ∷ rest.acts;
        done = (moment_of new first, record { step = of; store = refl; object = tt }, rest.done);
        copies = sum_by-cons copied_by_act act rest.acts ∙ zero-add (sum_by copied_by_act rest.acts) ∙ rest.copies;
        removals = sum_by-cons removed_by_act act rest.acts ∙ zero-add (sum_by removed_by_act rest.acts) ∙ rest.removals;
        plan = λ was. none;
      }

  left_idle : (copying : Result (Option PlanState) OwnerError) (plain : PlainState) → PlansAsPlain copying plain new.volume
      → LeavesIdle plain new.volume
  left_idle (Ok (Some plan)) plain made = leaves_same plain new.volume _ made.shows refl refl refl
  left_idle (Ok None) plain made = leaves_same plain new.volume _ made.1 refl refl refl
  left_idle (Err error) plain made = leaves_same plain new.volume _ made refl refl refl

  pub planned_idle : IsIdle old.volume → IsIdle new.volume
  planned_idle idle =
      let was = of.was.plain in
      leaves_idle old.volume new.volume was of.was.shows idle (left_idle (copying_in reply) was (plans was of.was.shows))

-- ---- what was copied is sealed

-- the plan that is out is the plain volume's
out_shown : (queue : QueueState) (out : Option PlanState) (copied : CopiedState) (plain : PlainState) → IsPlanned out copied
    → ShowsPlan queue out plain
    → (sectors : List CopiedSector) × (plain.plan ≡ Some sectors) × (sectors_of copied.rows ≡ length sectors)
out_shown queue None copied plain planned shows = absurd planned
out_shown queue (Some plan) copied plain planned shows = (shows.0, shows.1, ap sectors_of planned.0 ∙ shows.2.count)

-- a copy by a plan is of it
pub is_planned : (out : Option PlanState) (plan : PlanState) (copied : CopiedState) → out ≡ Some plan → IsCopyOf plan copied
    → IsPlanned out copied
is_planned out plan copied is of = subst (λ o. IsPlanned o copied) (sym is) (of.rows, of.sources)

-- what a seal of what was copied leaves: the copy is sealed, or nothing has changed
abbrev pub TriesSeal : Result Turn OwnerError → PlainState → (new : VolumeState) → Type 0
TriesSeal (Ok (Did count)) plain new =
    (is_busy plain ≡ false)
    × ((sectors : List CopiedSector) → plain.plan ≡ Some sectors
    → (count ≡ length sectors) × ShowsAfter new (with_copy sectors plain))
TriesSeal (Ok Idle) plain new = (is_busy plain ≡ true) × ShowsAfter new plain
TriesSeal (Err error) plain new = ShowsAfter new plain

abbrev sealed_reply : (out : Option (List CopiedSector)) (is_planned is_full : Bool) (number : ℕ) → PlainReply
sealed_reply out is_planned is_full number =
    if is_some out && is_planned then (if is_full then replies.Busy else replies.Sealed number) else replies.Nothing

refusal_not_sealed : (why : SealRefusal) (number : ℕ) → TellsSealRefusal why (replies.Sealed number) → ⊥
refusal_not_sealed seal_refusals.NotPlanned number tells = cc
refusal_not_sealed seal_refusals.Busy number tells = cc
refusal_not_sealed seal_refusals.OutOfMemory number tells = tells

module _ {R : Type 0} (state : R → ReceiptState) (copied : CopiedState) (volume : VolumeState) (plain : PlainState)
    (new : VolumeState) (sectors : List CopiedSector) (out_is : plain.plan ≡ Some sectors) (count : ℕ)
    (count_is : count ≡ length sectors) where
  did_seal : (left : Fuse) → is_busy plain ≡ false → ShowsAfter new (with_copy sectors (passing left plain))
      → TriesSeal (Ok (Did count)) plain new
  did_seal left free shows = (
    free,
    λ others is. (
        let both : Some sectors ≡ Some others = sym out_is ∙ is in
        let same : sectors ≡ others = cc in (
          count_is ∙ ap (λ (s : List CopiedSector). length s) same,
          subst (λ s. ShowsAfter new (with_copy s plain)) same shows,
        )
        ),
  )

  refused_seal : (why : SealRefusal) (back : CopiedState) (number : ℕ) (is_full : Bool) → is_busy plain ≡ is_full
      → TellsSealRefusal why (sealed_reply (Some sectors) true is_full number) → ShowsAfter new plain
      → TriesSeal (turn_in {R = R} count (told.NotSealed back why)) plain new
  refused_seal seal_refusals.NotPlanned back number true full tells shows = (let bad : ⊥ = cc in absurd bad)
  refused_seal seal_refusals.NotPlanned back number false full tells shows = (let bad : ⊥ = cc in absurd bad)
  refused_seal seal_refusals.Busy back number true full tells shows = (full, shows)
  refused_seal seal_refusals.Busy back number false full tells shows = (let bad : ⊥ = cc in absurd bad)
  refused_seal seal_refusals.OutOfMemory back number is_full full tells shows = absurd tells

  sealing : (reply : Reply R) (left now : Fuse) (is_full : Bool) → is_busy plain ≡ is_full
      → now ≡ fuse_in new.log.commits.disk.budget
      → HandsBack (asks.SealCopy copied) reply
      → Tells state volume reply (sealed_reply (Some sectors) true is_full (plain.window.last + 1))
      → Shows new (passing now (after_sealed_copy (true && not is_full) (Some sectors) (passing left plain)))
      → TriesSeal (turn_in count reply) plain new
  sealing (told.Sealed number) left now true full now_is back tells shows = (let bad : ⊥ = cc in absurd bad)
  sealing (told.Sealed number) left now false full now_is back tells shows =
      did_seal left full (subst (λ f. Shows new (passing f (with_copy sectors (passing left plain)))) now_is shows)
  sealing (told.NotSealed given why) left now true full now_is back tells shows =
      refused_seal why given (plain.window.last + 1) true full tells (subst (λ f. Shows new (passing f plain)) now_is shows)
  sealing (told.NotSealed given why) left now false full now_is back tells shows =
      absurd (refusal_not_sealed why (plain.window.last + 1) tells)
  sealing reply left now is_full full now_is back tells shows = absurd back

  lacking : (reply : Reply R) → HandsBack (asks.SealCopy copied) reply → lacks_memory reply ≡ true → ShowsAfter new plain
      → TriesSeal (turn_in count reply) plain new
  lacking (told.Sealed number) back lacks shows = (let bad : ⊥ = cc in absurd bad)
  lacking (told.NotSealed given seal_refusals.NotPlanned) back lacks shows = (let bad : ⊥ = cc in absurd bad)
  lacking (told.NotSealed given seal_refusals.Busy) back lacks shows = (let bad : ⊥ = cc in absurd bad)
  lacking (told.NotSealed given seal_refusals.OutOfMemory) back lacks shows = shows
  lacking reply back lacks shows = absurd back

-- how many sectors were copied is what the turn tells
copied_told : {R : Type 0} (copied : CopiedState) (reply : Reply R)
    → IfOk (turn_in (sectors_of copied.rows) reply) (λ turn. copied_if_told copied reply ≡ copied_in turn)
copied_told copied (told.Sealed number) = refl
copied_told copied (told.NotSealed back seal_refusals.NotPlanned) = refl
copied_told copied (told.NotSealed back seal_refusals.Busy) = refl
copied_told copied reply = tt

module _ {R : Type 0} (state : R → ReceiptState) (copied : CopiedState) (reply : Reply R) (old new : SteppedVolume)
    (of : CountedStep state (asks.SealCopy copied) reply old new) where
  pub copy_makes : MakesSteps 1 [] old new
  copy_makes = quiet_makes state (asks.SealCopy copied) reply old new (λ asked is. ap is_quiet is.1) of

  pub copy_faults : new.volume.log.commits.disk.faults ≡ old.volume.log.commits.disk.faults
  copy_faults =
      silent_faults state (asks.SealCopy copied) reply of.was.plain old new (λ asked is. ap is_silent is.1) of.was.shows of

  planned_truly : (is_planned : Bool) → IsOfPlan old.volume copied is_planned → IsPlanned old.volume.plan copied
      → is_planned ≡ true
  planned_truly true of_plan planned = refl
  planned_truly false of_plan planned = absurd (of_plan planned)

  abbrev turn : Result Turn OwnerError
  turn = turn_in (sectors_of copied.rows) reply

  copied_by : (plain : PlainState) (sectors : List CopiedSector) → plain.plan ≡ Some sectors
      → sectors_of copied.rows ≡ length sectors
      → IsPlanned old.volume.plan copied
      → IsStep state (asks.SealCopy copied) reply plain old.volume new.volume
      ⊎ IsNoStep state (asks.SealCopy copied) reply plain old.volume new.volume
      → TriesSeal turn plain new.volume
  copied_by plain sectors out_is count_is planned (inl s) =
      let ready : PlainState = passing s.left plain in
      let now : Fuse = fuse_in new.volume.log.commits.disk.budget in
      let truly = planned_truly s.asks.0 s.asks.2 planned in
      let tells = subst (λ e. Tells state old.volume reply (plain_reply ready e)) s.asks.1 s.tells in
      let shows = subst (λ e. Shows new.volume (passing now (plain_after e ready))) s.asks.1 s.shows in
      sealing state copied old.volume plain new.volume sectors out_is (sectors_of copied.rows) count_is reply s.left now
      (is_busy plain) refl refl of.step.back
      (subst (λ o. Tells state old.volume reply (sealed_reply o true (is_busy plain) (plain.window.last + 1))) out_is
      (subst (λ b. Tells state old.volume reply (sealed_reply plain.plan b (is_busy plain) (plain.window.last + 1))) truly tells))
      (subst (λ o. Shows new.volume (passing now (after_sealed_copy (true && not (is_busy plain)) o ready))) out_is
      (subst (λ b. Shows new.volume (passing now (after_sealed_copy (b && not (is_busy plain)) plain.plan ready))) truly shows))
  copied_by plain sectors out_is count_is planned (inr n) =
      lacking state copied old.volume plain new.volume sectors out_is (sectors_of copied.rows) count_is reply of.step.back n.lacks
      (shows_after new.volume plain n.shows)

  pub seals : IsPlanned old.volume.plan copied → (plain : PlainState) → Shows old.volume plain
      → TriesSeal turn plain new.volume
  seals planned plain shows =
      let out = out_shown old.volume.objects.uploads.queue old.volume.plan copied plain planned shows.plan in
      copied_by plain out.0 out.1 out.2 planned (of.step.step plain shows)

  tried_idle : (turn : Result Turn OwnerError) (plain : PlainState) (sectors : List CopiedSector) → plain.plan ≡ Some sectors
      → TriesSeal turn plain new.volume → LeavesIdle plain new.volume
  tried_idle (Ok (Did count)) plain sectors out_is tried =
      let opened : OpenObject = record {
        number = plain.window.last + 1;
        is_checkpoint = false;
        is_started = false;
        was_started = false;
      } in
      let long = length-append plain.window.objects (opened ∷ []) in
      let free = tried.0 in
      record {
        after = _;
        shows = (tried.1 sectors out_is).1;
        pins = refl;
        removal = refl;
        puts = λ none. entered_none plain.window.objects opened none refl;
        few = λ few. (
            let room : length plain.window.objects ≤ 15 = grind (arith, nat_tests) in
            omega (arith, long, room)
            );
      }
  tried_idle (Ok Idle) plain sectors out_is tried = leaves_same plain new.volume _ tried.1 refl refl refl
  tried_idle (Err error) plain sectors out_is tried = leaves_same plain new.volume _ tried refl refl refl

  pub tried_leaves : IsPlanned old.volume.plan copied → IsIdle old.volume → IsIdle new.volume
  tried_leaves planned idle =
      let was = of.was.plain in
      let out = out_shown old.volume.objects.uploads.queue old.volume.plan copied was planned of.was.shows.plan in
      leaves_idle old.volume new.volume was of.was.shows idle
      (tried_idle turn was out.0 out.1 (seals planned was of.was.shows))

  sealed_plan : (reply : Reply R) (was out : Option PlanState) → ChangesPlan {R = R} (asks.SealCopy copied) reply was out
      → was ≡ None → out ≡ None
  sealed_plan (told.Sealed number) was out changes none = changes
  sealed_plan reply was out changes none = changes ∙ none

  -- how many sectors it copied is told
  pub seal_tally : (last : SteppedVolume)
      → ((store : StoreState) → IsTally state 0 0 (moment_of new store) (moment_of last store))
      → IfOk turn (λ t. (store : StoreState) → IsTally state (copied_in t) 0 (moment_of old store) (moment_of last store))
  seal_tally last gave =
      IfOk-weaker turn (λ t. copied_if_told copied reply ≡ copied_in t)
      (λ t. (store : StoreState) → IsTally state (copied_in t) 0 (moment_of old store) (moment_of last store))
      (λ t is store.
      tally_before state (copied_in t) 0 (moment_of old store) (moment_of new store) (moment_of last store)
      (step_tally state (asks.SealCopy copied) reply (copied_in t) 0 old new store of tt is refl
      (sealed_plan reply old.volume.plan new.volume.plan of.step.copying)) (gave store))
      (copied_told copied reply)

pub turn_lacks : {R : Type 0} (sectors : ℕ) (reply : Reply R) → IsOkUnless (turn_in sectors reply) errors.OutOfMemory
turn_lacks sectors (told.Sealed number) = tt
turn_lacks sectors (told.NotSealed copied seal_refusals.NotPlanned) = tt
turn_lacks sectors (told.NotSealed copied seal_refusals.Busy) = tt
turn_lacks sectors reply = refl

-- whatever came of it, a plan that is out is given up
pub given_up : (turn : Result Turn OwnerError) (plain : PlainState) (mid new : VolumeState) → TriesSeal turn plain mid
    → GivesUp mid new
    → SealsAsPlain turn plain new
given_up (Ok (Did count)) plain mid new tried gives = (
  tried.0,
  λ sectors is. (let sealed = tried.1 sectors is in (sealed.0, gives _ sealed.1)),
)
given_up (Ok Idle) plain mid new tried gives = (tried.0, gives _ tried.1)
given_up (Err error) plain mid new tried gives = gives _ tried

-- ---- a turn

has_work_now : (plain : PlainState) (first : CopiedSector) (more : List CopiedSector) (is_full : Bool) → plain.plan ≡ None
    → is_busy plain ≡ is_full
    → planned_copy plain ≡ first ∷ more → may_collect plain ≡ not is_full
has_work_now plain first more is_full none full planned =
    ap (λ p. has_work p (is_busy plain) (planned_copy plain)) none
    ∙ ap (λ b. has_work None b (planned_copy plain)) full ∙ ap (has_work None is_full) planned ∙ some_sectors first more is_full

ended : (turn : Result Turn OwnerError) (plain : PlainState) (left : Fuse) (first : CopiedSector) (more : List CopiedSector)
    (new : VolumeState) → plain.plan ≡ None → planned_copy plain ≡ first ∷ more
    → SealsAsPlain turn (passing left (record plain { plan = Some (first ∷ more) })) new
    → CollectsAsPlain turn plain new
ended (Ok (Did count)) plain left first more new none planned ends =
    let sealed = ends.1 (first ∷ more) refl in (
      has_work_now plain first more false none ends.0 planned,
      sealed.0 ∙ ap (λ (s : List CopiedSector). length s) (sym planned),
      subst (λ s. ShowsAfter new (with_copy s plain)) (sym planned) sealed.1,
    )
ended (Ok Idle) plain left first more new none planned ends = (
  has_work_now plain first more true none ends.0 planned,
  subst (ShowsAfter new) (none_again plain none) ends.1,
)
ended (Err error) plain left first more new none planned ends = subst (ShowsAfter new) (none_again plain none) ends

-- a plan was made, and ended
pub turn_ends : (turn : Result Turn OwnerError) (plain : PlainState) (mid new : VolumeState) → PlansCopy plain mid
    → EndsPlan turn mid new
    → CollectsAsPlain turn plain new
turn_ends turn plain mid new made ends =
    ended turn plain (fuse_in mid.log.commits.disk.budget) made.first made.more new made.none made.planned (ends _ made.shows)

-- ---- the reading

pub got_then : {R : Type 0} (state : R → ReceiptState) (most : ℕ) (failed : Bool) (old new : SteppedVolume)
    (first second : StoreState) → OnlyCounts first second → Counts failed first.faults second.faults
    → IsMadeOfActs state [] (moment_of old second) (moment_of new second) → MakesSteps most [] old new
    → new.volume.log.commits.disk.faults ≡ old.volume.log.commits.disk.faults
    → IsCall state most [] failed old new first second
got_then state most failed old new first second only counts acts makes same =
    let uuid : List ℕ = old.volume.objects.uploads.uuid in
    let disk : ℕ = old.volume.log.commits.disk.faults in
    let objects : second.objects ≡ first.objects = ap (λ (s : StoreState). s.objects) only in
    record {
      acts =
          made_then state [] [] (moment_of old first) (moment_of old second) (moment_of new second)
          (get_acts state failed old first second only counts) acts;
      steps = makes;
      store = subst (λ o. Becomes (KeepsOtherNames uuid) first.objects o) (sym objects) (becomes_same uuid first.objects);
      faults = subst (λ d. CountsEitherFault failed disk d first.faults second.faults) (sym same)
          (store_counts failed disk first.faults second.faults counts);
    }

-- the error that tells one of a copy tells a fault just where that does
pub copy_eio : (T C : Type 0) (error : CopyError) → is_eio {T = T} (Err (of_copy error)) ≡ has_failed {T = C} (Err error)
copy_eio T C (copy_errors.Failed number) = refl
copy_eio T C copy_errors.OutOfMemory = refl

pub copy_no_range : (error : CopyError) → of_copy error ≡ errors.Range → ⊥
copy_no_range (copy_errors.Failed number) is = cc
copy_no_range copy_errors.OutOfMemory is = cc
