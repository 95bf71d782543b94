-- A copy is planned, sealed or given up, and the rig shows what that makes of the plain volume.
use Rattle.std.proofs.Common.{◌≡◌, ℕ, ◌+◌, ◌⊎◌, Bool, true, false, not, ◌&&◌, List, [], ◌∷◌, refl, sym, ◌∙◌, ap, subst}
use Rattle.std.proofs.Common.{inl, inr, arith}
use Rattle.std.specs.Prelude.{Option, Some, None, Result, Ok, Err, IfOk}
use Rattle.std.specs.declared.alloc.AllocError.{AllocError}
use Rattle.lsvd_objstore.specs.Memory.{Kept, told_receipt}
use Rattle.batcher.specs.declared.full.Full.TheVariants as full
use Rattle.gc_copier.specs.Plan.{PlanState, sectors_of}
use Rattle.gc_copier.specs.Copying.{CopiedState}
use Rattle.object_stream.specs.declared.object.CopiedSector.{CopiedSector}
use Rattle.plain_disk.specs.declared.event.PlainEvent.{PlainEvent}
use Rattle.plain_disk.specs.declared.event.PlainEvent.TheVariants as events
use Rattle.plain_disk.specs.declared.event.PlainReply.TheVariants as replies
use Rattle.plain_disk.specs.State.{PlainState}
use Rattle.plain_disk.specs.Objects.{is_busy}
use Rattle.plain_disk.specs.Collection.{planned_copy, reply_of_plan, with_plan, after_sealed_copy}
use Rattle.plain_disk.specs.Step.{plain_reply, plain_after}
use Rattle.vol_core.specs.declared.event.Event.{Event}
use Rattle.vol_core.specs.declared.event.Event.TheVariants.{PlanCopy, SealCopy, DropPlan}
use Rattle.vol_core.specs.declared.reply.EntryRefusal.{EntryRefusal}
use Rattle.vol_core.specs.declared.reply.EntryRefusal.TheVariants as refusals
use Rattle.vol_core.specs.declared.reply.SealRefusal.{SealRefusal}
use Rattle.vol_core.specs.declared.reply.SealRefusal.TheVariants as seal_refusals
use Rattle.vol_core.specs.declared.reply.Reply.{Reply}
use Rattle.vol_core.specs.declared.reply.Reply.TheVariants as told
use Rattle.vol_core.specs.Volume.{VolumeState, SteppedVolume}
use Rattle.vol_core.specs.Events.{Asks, Tells, TellsRefusal, TellsSealRefusal, IsPlanned, IsOfPlan}
use Rattle.vol_core.specs.Step.{CountedStep, ChangesPlan, HandsBack, lacks_memory, may_lack_memory}
use Rattle.replay_rig.specs.declared.answer.Answer.{Answer}
use Rattle.replay_rig.specs.declared.answer.Answer.TheVariants as answers
use Rattle.replay_rig.specs.Answers.{SaysReply, SaysCounts}
use Rattle.replay_rig.specs.Steps.{AnswersEvent}
use Rattle.replay_rig.specs.Rig.{RigState, rig_of, IsYoung, ShowsPlain}
use Rattle.replay_rig.proofs.PlainLemmas.{is_no_removal, event_keeps_removals}
use Rattle.replay_rig.proofs.Says.{IsCountReply, says_reply, lacks_unsaid, copy_counts, drop_counts}
use Rattle.replay_rig.proofs.Stepped.{ShowsVolume, volume_shown, HasRoomForEvent, step_of_plain, KeepsUnderWay, same_under_way}
use Rattle.replay_rig.proofs.Stepped.{goes_on, goes_on_with}
use Rattle.replay_rig.proofs.Rooms.{no_step_rig}
use Rattle.replay_rig.proofs.Windows.{entered_keeps}
use Rattle.replay_rig.proofs.Removing.{no_room_asked}
use Rattle.replay_rig.proofs.Copies.{none_out}

-- ---- a step

-- the rig a line later, with this volume
abbrev after_step : RigState → SteppedVolume → RigState
after_step old volume = rig_of volume old.objects old.puts old.is_stopping (old.lines + 1)

-- the step is that of the plain volume which is asked for
record Collects (reply : Reply Kept) (asked : PlainEvent) (old : RigState) (volume : SteppedVolume) (plain : PlainState) :
    Type 0 where
  tells : Tells told_receipt old.volume.volume reply (plain_reply plain asked)
  now : ShowsPlain (after_step old volume) (plain_after asked plain)

-- memory ran out, and the rig shows what it showed
record CollectsNot (event : Event Kept) (reply : Reply Kept) (old : RigState) (volume : SteppedVolume) (plain : PlainState) :
    Type 0 where
  may : may_lack_memory event ≡ true
  lacks : lacks_memory reply ≡ true
  now : ShowsPlain (after_step old volume) plain

collects : (event : Event Kept) (reply : Reply Kept) (asked : PlainEvent) (old : RigState) (volume : SteppedVolume)
    (plain : PlainState)
    → HasRoomForEvent event old.volume.volume
    → ((other : PlainEvent) → Asks told_receipt old.volume.volume event other → other ≡ asked)
    → KeepsUnderWay plain.window (plain_after asked plain).window → is_no_removal asked ≡ true
    → CountedStep told_receipt event reply old.volume volume → ShowsPlain old plain
    → Collects reply asked old volume plain ⊎ CollectsNot event reply old volume plain
collects event reply asked old volume plain room one keeps no_removal of h =
    elim (step_of_plain h.epoch event reply plain old.volume volume (volume_shown old plain h) room of) [
      | inl s ↦
          let same : s.asked ≡ asked = one s.asked s.asks in
          inl (record {
            tells = subst (λ e. Tells told_receipt old.volume.volume reply (plain_reply plain e)) same s.tells;
            now = goes_on old volume event reply asked plain h of
                (subst (λ e. ShowsVolume h.epoch volume.volume (plain_after e plain)) same s.now) keeps
                (event_keeps_removals plain asked no_removal);
          })
      | inr n ↦ inr (record { may = n.may; lacks = n.lacks; now = no_step_rig old volume plain event reply h of n.now })
    ]

-- ---- a plan

plan_windows : (plain : PlainState) (out : Option (List CopiedSector)) (sectors : List CopiedSector)
    → KeepsUnderWay plain.window (with_plan out sectors plain).window
plan_windows plain (Some plan) sectors = same_under_way plain.window
plan_windows plain None [] = same_under_way plain.window
plan_windows plain None (first ∷ more) = same_under_way plain.window

plans : (old : RigState) (volume : SteppedVolume) (reply : Reply Kept) (plain : PlainState)
    → CountedStep told_receipt PlanCopy reply old.volume volume → ShowsPlain old plain
    → Collects reply events.PlanCopy old volume plain ⊎ CollectsNot PlanCopy reply old volume plain
plans old volume reply plain of h =
    collects PlanCopy reply events.PlanCopy old volume plain
    (no_room_asked old.volume.volume.log.commits.disk.budget h.pending.told) (λ other asks. asks)
    (plan_windows plain plain.plan (planned_copy plain)) refl of h

pub plan_shows : (old : RigState) (volume : SteppedVolume) (reply : Reply Kept) (plain : PlainState)
    → CountedStep told_receipt PlanCopy reply old.volume volume → ShowsPlain old plain
    → (now : PlainState) × ShowsPlain (rig_of volume old.objects old.puts old.is_stopping (old.lines + 1)) now
plan_shows old volume reply plain of h =
    elim (plans old volume reply plain of h) [
      | inl s ↦ (plain_after events.PlanCopy plain, s.now)
      | inr n ↦ (plain, n.now)
    ]

-- ---- no plan

refusal_no_copy : (why : EntryRefusal) (sectors : List CopiedSector) → TellsRefusal why (replies.Copying sectors) → ⊥
refusal_no_copy refusals.Range sectors tells = cc
refusal_no_copy (refusals.Full (full.Sectors count)) sectors tells = cc
refusal_no_copy (refusals.Full (full.Entries count)) sectors tells = cc
refusal_no_copy (refusals.NoRoom lacking left) sectors tells = cc
refusal_no_copy refusals.Fault sectors tells = cc
refusal_no_copy refusals.OutOfMemory sectors tells = tells

unsealed_no_copy : (why : SealRefusal) (sectors : List CopiedSector) → TellsSealRefusal why (replies.Copying sectors) → ⊥
unsealed_no_copy seal_refusals.NotPlanned sectors tells = cc
unsealed_no_copy seal_refusals.Busy sectors tells = cc
unsealed_no_copy seal_refusals.OutOfMemory sectors tells = tells

-- a reply that is no plan tells none
no_copy_told : (volume : VolumeState) (reply : Reply Kept) (sectors : List CopiedSector)
    → ((plan : PlanState) → reply ≡ told.Copying plan → ⊥)
    → Tells told_receipt volume reply (replies.Copying sectors) → ⊥
no_copy_told volume (told.Entered count) sectors none tells = cc
no_copy_told volume (told.NotEntered entry why) sectors none tells = refusal_no_copy why sectors tells
no_copy_told volume (told.Flushed count) sectors none tells = cc
no_copy_told volume (told.Planned plan) sectors none tells = (let is = tells.1 in cc)
no_copy_told volume told.Released sectors none tells = cc
no_copy_told volume (told.NotReleased plan) sectors none tells = cc
no_copy_told volume (told.Sealed number) sectors none tells = cc
no_copy_told volume (told.Taken job) sectors none tells = (let is = tells.0 in cc)
no_copy_told volume (told.Done frontier) sectors none tells = cc
no_copy_told volume (told.NotDone job receipt) sectors none tells = cc
no_copy_told volume told.Returned sectors none tells = cc
no_copy_told volume (told.NotReturned job) sectors none tells = cc
no_copy_told volume (told.Removing receipt) sectors none tells = (let is = tells.0 in cc)
no_copy_told volume told.Removed sectors none tells = cc
no_copy_told volume told.GivenBack sectors none tells = cc
no_copy_told volume (told.NotGivenBack receipt) sectors none tells = cc
no_copy_told volume (told.Copying plan) sectors none tells = none plan refl
no_copy_told volume (told.NotSealed copied why) sectors none tells = unsealed_no_copy why sectors tells
no_copy_told volume told.Dropped sectors none tells = cc
no_copy_told volume (told.Told writes sealed frontier checkpoint) sectors none tells = cc
no_copy_told volume told.Range sectors none tells = cc
no_copy_told volume told.Nothing sectors none tells = cc
no_copy_told volume told.Busy sectors none tells = cc
no_copy_told volume told.Fault sectors none tells = cc
no_copy_told volume told.OutOfMemory sectors none tells = tells

-- then the plain volume answers by counts
plan_counts : (volume : VolumeState) (reply : Reply Kept) (out : Option (List CopiedSector)) (sectors : List CopiedSector)
    → ((plan : PlanState) → reply ≡ told.Copying plan → ⊥) → Tells told_receipt volume reply (reply_of_plan out sectors)
    → IsCountReply (reply_of_plan out sectors)
plan_counts volume reply (Some plan) sectors none tells = tt
plan_counts volume reply None [] none tells = tt
plan_counts volume reply None (first ∷ more) none tells = absurd (no_copy_told volume reply (first ∷ more) none tells)

pub plan_refused : (old : RigState) (volume : SteppedVolume) (reply : Reply Kept) (result : Result Answer AllocError)
    → ((plan : PlanState) → reply ≡ told.Copying plan → ⊥) → CountedStep told_receipt PlanCopy reply old.volume volume
    → IfOk result (SaysCounts reply)
    → IfOk result (λ answer. AnswersEvent events.PlanCopy answer old
    (rig_of volume old.objects old.puts old.is_stopping (old.lines + 1)))
plan_refused old volume reply (Err error) none of says = tt
plan_refused old volume reply (Ok answer) none of says = record {
  by = λ plain h.
      elim (plans old volume reply plain of h) [
        | inl s ↦ (
          says_reply old.volume.volume reply (plain_reply plain events.PlanCopy) answer s.tells
              (plan_counts old.volume.volume reply plain.plan (planned_copy plain) none s.tells) says,
          s.now,
        )
        | inr n ↦ absurd (lacks_unsaid reply answer n.lacks says)
      ];
}

-- and the plan that is out stays
pub plan_stays : (reply : Reply Kept) (was out : Option PlanState) → ((plan : PlanState) → reply ≡ told.Copying plan → ⊥)
    → ChangesPlan PlanCopy reply was out → out ≡ was
plan_stays (told.Copying plan) was out none changes = absurd (none plan refl)
plan_stays reply was out none changes = changes

-- ---- what is planned is copied

pub plan_copied : (old : RigState) (volume : SteppedVolume) (plan : PlanState) (count : ℕ) → count ≡ sectors_of plan.rows
    → CountedStep told_receipt PlanCopy (told.Copying plan) old.volume volume
    → AnswersEvent events.PlanCopy (answers.Copied count) old
    (rig_of volume old.objects old.puts old.is_stopping (old.lines + 1))
plan_copied old volume plan count is of = record {
  by = λ plain h.
      elim (plans old volume (told.Copying plan) plain of h) [
        | inl s ↦
            let tells = s.tells in (
              subst (λ r. SaysReply r (answers.Copied count)) (sym tells.1) (ap answers.Copied (is ∙ tells.2.count)),
              s.now,
            )
        | inr n ↦ absurd (let e = n.lacks in cc)
      ];
}

-- ---- a plan is given up

drops : (old : RigState) (volume : SteppedVolume) (reply : Reply Kept) (plain : PlainState)
    → CountedStep told_receipt DropPlan reply old.volume volume → ShowsPlain old plain
    → Collects reply events.DropPlan old volume plain
drops old volume reply plain of h =
    elim (collects DropPlan reply events.DropPlan old volume plain
    (no_room_asked old.volume.volume.log.commits.disk.budget h.pending.told) (λ other asks. asks)
    (same_under_way plain.window) refl of h) [
      | inl s ↦ s
      | inr n ↦ absurd (let e = n.may in cc)
    ]

-- a rig shows a plain volume without a plan
pub record ShowsNoPlan (rig : RigState) : Type 0 where
  pub plain : PlainState
  pub shows : ShowsPlain rig plain
  pub none : rig.volume.volume.plan ≡ None

without_plan : (rig : RigState) (plain : PlainState) → ShowsPlain rig plain → plain.plan ≡ None → ShowsNoPlan rig
without_plan rig plain h none = record {
  plain = plain;
  shows = h;
  none = none_out rig.volume.volume.objects.uploads.queue rig.volume.volume.plan plain h.shows.plan none;
}

pub drop_shows : (old : RigState) (volume : SteppedVolume) (reply : Reply Kept) (plain : PlainState)
    → CountedStep told_receipt DropPlan reply old.volume volume → ShowsPlain old plain
    → ShowsNoPlan (rig_of volume old.objects old.puts old.is_stopping (old.lines + 1))
drop_shows old volume reply plain of h =
    without_plan (after_step old volume) (plain_after events.DropPlan plain) (drops old volume reply plain of h).now refl

pub drop_answers : (old : RigState) (volume : SteppedVolume) (reply : Reply Kept) (result : Result Answer AllocError)
    → CountedStep told_receipt DropPlan reply old.volume volume → IfOk result (SaysCounts reply)
    → IfOk result (λ answer. AnswersEvent events.DropPlan answer old
    (rig_of volume old.objects old.puts old.is_stopping (old.lines + 1)))
drop_answers old volume reply (Err error) of says = tt
drop_answers old volume reply (Ok answer) of says = record {
  by = λ plain h.
      let s = drops old volume reply plain of h in (
        says_reply old.volume.volume reply (plain_reply plain events.DropPlan) answer s.tells (drop_counts plain) says,
        s.now,
      );
}

-- it is given up in the line of another step
given_up : (old : RigState) (middle volume : SteppedVolume) (event : Event Kept) (first reply : Reply Kept)
    (plain between : PlainState)
    → ShowsPlain old plain → CountedStep told_receipt event first old.volume middle → ShowsPlain (after_step old middle) between
    → CountedStep told_receipt DropPlan reply middle volume → ShowsNoPlan (after_step old volume)
given_up old middle volume event first reply plain between h of shown back =
    let next : PlainState = record between { plan = None } in
    let young : IsYoung (after_step old volume) next = record {
      entries = shown.young.entries;
      objects = shown.young.objects;
      commits = omega (arith, h.young.commits, of.step.numbers.commits, back.step.numbers.commits);
      steps = omega (arith, h.young.steps, of.count, back.count);
    } in
    elim (step_of_plain shown.epoch DropPlan reply between middle volume (volume_shown (after_step old middle) between shown)
    (no_room_asked middle.volume.log.commits.disk.budget shown.pending.told) back) [
      | inl s ↦
          without_plan (after_step old volume) next
          (goes_on_with (after_step old middle) volume (old.lines + 1) DropPlan reply events.DropPlan between shown back
          (subst (λ e. ShowsVolume shown.epoch volume.volume (plain_after e between)) s.asks s.now)
          (same_under_way between.window) (event_keeps_removals between events.DropPlan refl) (omega arith) young) refl
      | inr n ↦ absurd (let e = n.may in cc)
    ]

-- no plan was out before one that was planned
no_plan_before : (out : Option (List CopiedSector)) (sectors taken : List CopiedSector)
    → reply_of_plan out sectors ≡ replies.Copying taken → out ≡ None
no_plan_before None sectors taken is = refl
no_plan_before (Some plan) sectors taken is = absurd cc

pub none_before : (old : RigState) (volume : SteppedVolume) (plan : PlanState) (plain : PlainState)
    → CountedStep told_receipt PlanCopy (told.Copying plan) old.volume volume → ShowsPlain old plain
    → old.volume.volume.plan ≡ None
none_before old volume plan plain of h =
    elim (plans old volume (told.Copying plan) plain of h) [
      | inl s ↦
          let tells = s.tells in
          none_out old.volume.volume.objects.uploads.queue old.volume.volume.plan plain h.shows.plan
          (no_plan_before plain.plan (planned_copy plain) tells.0 tells.1)
      | inr n ↦ absurd (let e = n.lacks in cc)
    ]

-- the copy failed, and the plan that was made for it is given up
pub copy_given_up : (old : RigState) (middle volume : SteppedVolume) (plan : PlanState) (reply : Reply Kept) (plain : PlainState)
    → CountedStep told_receipt PlanCopy (told.Copying plan) old.volume middle
    → CountedStep told_receipt DropPlan reply middle volume → ShowsPlain old plain
    → ShowsNoPlan (rig_of volume old.objects old.puts old.is_stopping (old.lines + 1))
copy_given_up old middle volume plan reply plain of back h =
    let (between, shown) = plan_shows old middle (told.Copying plan) plain of h in
    given_up old middle volume PlanCopy (told.Copying plan) reply plain between h of shown back

-- ---- what was copied is sealed

copy_windows : (plain : PlainState) (is_sealed : Bool) (out : Option (List CopiedSector))
    → KeepsUnderWay plain.window (after_sealed_copy is_sealed out plain).window
copy_windows plain is_sealed None = same_under_way plain.window
copy_windows plain true (Some plan) = entered_keeps false plain.window
copy_windows plain false (Some plan) = same_under_way plain.window

-- the copy that is sealed is the one of the plan that is out
its_copy : (volume : VolumeState) (copied : CopiedState) (other : PlainEvent) (is_planned : Bool) → IsPlanned volume.plan copied
    → other ≡ events.SealCopy is_planned → IsOfPlan volume copied is_planned → other ≡ events.SealCopy true
its_copy volume copied other true planned is of = is
its_copy volume copied other false planned is of = absurd (of planned)

seals : (old : RigState) (volume : SteppedVolume) (copied : CopiedState) (reply : Reply Kept) (plain : PlainState)
    → IsPlanned old.volume.volume.plan copied → CountedStep told_receipt (SealCopy copied) reply old.volume volume
    → ShowsPlain old plain
    → Collects reply (events.SealCopy true) old volume plain ⊎ CollectsNot (SealCopy copied) reply old volume plain
seals old volume copied reply plain planned of h =
    collects (SealCopy copied) reply (events.SealCopy true) old volume plain
    (no_room_asked old.volume.volume.log.commits.disk.budget h.pending.told)
    (λ other asks. its_copy old.volume.volume copied other asks.0 planned asks.1 asks.2)
    (copy_windows plain (true && not (is_busy plain)) plain.plan) refl of h

pub seal_shows : (old : RigState) (volume : SteppedVolume) (copied : CopiedState) (reply : Reply Kept) (plain : PlainState)
    → IsPlanned old.volume.volume.plan copied → CountedStep told_receipt (SealCopy copied) reply old.volume volume
    → ShowsPlain old plain
    → (now : PlainState) × ShowsPlain (rig_of volume old.objects old.puts old.is_stopping (old.lines + 1)) now
seal_shows old volume copied reply plain planned of h =
    elim (seals old volume copied reply plain planned of h) [
      | inl s ↦ (plain_after (events.SealCopy true) plain, s.now)
      | inr n ↦ (plain, n.now)
    ]

pub seal_answers : (old : RigState) (volume : SteppedVolume) (copied : CopiedState) (reply : Reply Kept)
    (result : Result Answer AllocError)
    → IsPlanned old.volume.volume.plan copied → CountedStep told_receipt (SealCopy copied) reply old.volume volume
    → IfOk result (SaysCounts reply)
    → IfOk result (λ answer. AnswersEvent (events.SealCopy true) answer old
    (rig_of volume old.objects old.puts old.is_stopping (old.lines + 1)))
seal_answers old volume copied reply (Err error) planned of says = tt
seal_answers old volume copied reply (Ok answer) planned of says = record {
  by = λ plain h.
      elim (seals old volume copied reply plain planned of h) [
        | inl s ↦ (
          says_reply old.volume.volume reply (plain_reply plain (events.SealCopy true)) answer s.tells (copy_counts plain true)
              says,
          s.now,
        )
        | inr n ↦ absurd (lacks_unsaid reply answer n.lacks says)
      ];
}

-- no other reply comes
pub sealed_or_refused : (copied : CopiedState) (reply : Reply Kept) → HandsBack (SealCopy copied) reply
    → ((number : ℕ) → reply ≡ told.Sealed number → ⊥)
    → ((back : CopiedState) (why : SealRefusal) → reply ≡ told.NotSealed back why → ⊥)
    → ⊥
sealed_or_refused copied (told.Sealed number) hands sealed refused = sealed number refl
sealed_or_refused copied (told.NotSealed back why) hands sealed refused = refused back why refl
sealed_or_refused copied reply hands sealed refused = hands
