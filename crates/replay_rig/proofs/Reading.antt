-- A read of a rig: it looks, fetches what the plan gives, and gives the plan back.
use Rattle.std.proofs.Common.{◌≡◌, ℕ, ◌+◌, ◌≤◌, Bool, true, false, cond, List, [], ◌∷◌, ◌++◌, refl, sym, ◌∙◌, ap}
use Rattle.std.proofs.Common.{subst, inl, inr, arith}
use Rattle.std.specs.Prelude.{Option, Some, None, is_some, IsTrue, IfSome, Result, Ok, Err, IfOk, if◌then◌else◌}
use Rattle.std.specs.Global.{Vec}
use Rattle.std.specs.declared.alloc.AllocError.{AllocError}
use Rattle.lsvd_base.specs.declared.entry.Entry.{Entry}
use Rattle.lsvd_base.specs.Limits.{may_transfer}
use Rattle.lsvd_device.specs.Calls.{Budget}
use Rattle.lsvd_device.specs.Medium.{Medium}
use Rattle.lsvd_device.specs.Memory.{HasRoom}
use Rattle.lsvd_device.specs.Stop.{HasNow}
use Rattle.lsvd_objstore.specs.Memory.{Kept, told_receipt}
use Rattle.cache_log.specs.declared.row.Row.{Row}
use Rattle.cache_log.specs.Committed.{IsOnDisk}
use Rattle.cache_log.specs.Log.{LogState, entries_in}
use Rattle.plain_disk.specs.declared.event.PlainEvent.{PlainEvent}
use Rattle.plain_disk.specs.declared.event.PlainEvent.TheVariants as events
use Rattle.plain_disk.specs.declared.event.PlainReply.{PlainReply}
use Rattle.plain_disk.specs.declared.event.PlainReply.TheVariants as replies
use Rattle.plain_disk.specs.declared.event.PlannedRead.{PlannedRead}
use Rattle.plain_disk.specs.Cache.{PlainCache, after_reads}
use Rattle.plain_disk.specs.State.{PlainState}
use Rattle.plain_disk.specs.Reads.{objects_read, look_calls, passes_look, planned_read, are_pinned, without_pins}
use Rattle.plain_disk.specs.Step.{plain_reply, plain_after}
use Rattle.refine_log.proofs.Asked.{pending_count}
use Rattle.transcript.specs.Answers.{released_by}
use Rattle.read_plan.specs.Plan.{PlanState, Gives, GivesNoOther}
use Rattle.vol_core.specs.declared.event.Event.TheVariants.{Look, Release}
use Rattle.vol_core.specs.declared.reply.EntryRefusal.{EntryRefusal}
use Rattle.vol_core.specs.declared.reply.EntryRefusal.TheVariants as refusals
use Rattle.vol_core.specs.declared.reply.SealRefusal.{SealRefusal}
use Rattle.vol_core.specs.declared.reply.SealRefusal.TheVariants as seal_refusals
use Rattle.vol_core.specs.declared.reply.Reply.{Reply}
use Rattle.vol_core.specs.declared.reply.Reply.TheVariants as told
use Rattle.vol_core.specs.Events.{TellsRead, Tells, TellsRefusal, TellsSealRefusal}
use Rattle.vol_core.specs.Volume.{VolumeState, SteppedVolume}
use Rattle.batcher.specs.declared.full.Full.TheVariants as full
use Rattle.vol_core.specs.Step.{CountedStep}
use Rattle.replay_rig.specs.declared.answer.Answer.{Answer}
use Rattle.replay_rig.specs.declared.answer.Answer.TheVariants as answers
use Rattle.replay_rig.specs.Answers.{SaysReply, SaysCounts}
use Rattle.replay_rig.specs.Steps.{AnswersRead}
use Rattle.replay_rig.specs.Rig.{RigState, rig_of, IsYoung, ShowsPlain}
use Rattle.replay_rig.proofs.PlainLemmas.{is_no_removal, event_keeps_removals}
use Rattle.replay_rig.proofs.Says.{IsCountReply, says_reply, lacks_unsaid}
use Rattle.replay_rig.proofs.Stepped.{ShowsVolume, volume_shown, step_of_plain, KeepsUnderWay, same_under_way}
use Rattle.replay_rig.proofs.Stepped.{goes_on, goes_on_with}
use Rattle.replay_rig.proofs.Rooms.{no_step_rig}

-- ---- what a read leaves of the plain volume

-- it has another cache and other pins, and is as it was otherwise
record IsReadOnly (old new : PlainState) : Type 0 where
  cache : PlainCache
  pins : List ℕ
  is : new ≡ record old { cache = cache; pins = pins }

either_read : (plain : PlainState) (b : Bool) (x y : PlainState) → IsReadOnly plain x → IsReadOnly plain y
    → IsReadOnly plain (cond b x y)
either_read plain true x y read other = read
either_read plain false x y read other = other

same_read : (plain : PlainState) → IsReadOnly plain plain
same_read plain = record { cache = plain.cache; pins = plain.pins; is = refl }

look_reads : (plain : PlainState) (lba sectors : ℕ) → IsReadOnly plain (plain_after (events.Look lba sectors) plain)
look_reads plain lba sectors =
    let read : PlainCache = after_reads (look_calls plain lba sectors) plain.cache in
    let pins : List ℕ = cond (passes_look plain lba sectors) (plain.pins ++ objects_read plain lba sectors) plain.pins in
    either_read plain (may_transfer plain.geometry lba sectors) (record plain { cache = read; pins = pins }) plain
    (record { cache = read; pins = pins; is = refl }) (same_read plain)

release_reads : (plain : PlainState) (numbers : List ℕ) → IsReadOnly plain (plain_after (events.Release numbers) plain)
release_reads plain numbers =
    let pins : List ℕ = without_pins numbers plain.pins in
    either_read plain (are_pinned numbers plain.pins) (record plain { pins = pins }) plain
    (record { cache = plain.cache; pins = pins; is = refl }) (same_read plain)

then_reads : (old middle new : PlainState) → IsReadOnly old middle → IsReadOnly middle new → IsReadOnly old new
then_reads old middle new first second =
    record {
      cache = second.cache;
      pins = second.pins;
      is = second.is
          ∙ ap (λ (p : PlainState). record p { cache = second.cache; pins = second.pins }) first.is;
    }

-- no object is under way that was not, and a rig is young a line and two steps later
windows_stay : (old new : PlainState) → IsReadOnly old new → KeepsUnderWay old.window new.window
windows_stay old new read = subst (λ (p : PlainState). KeepsUnderWay old.window p.window) (sym read.is)
    (same_under_way old.window)

young_after_read : (old : RigState) (volume : SteppedVolume) (plain next : PlainState) → IsReadOnly plain next
    → volume.steps ≤ old.volume.steps + 2 → volume.volume.log.commits.number ≤ old.volume.volume.log.commits.number + 4
    → IsYoung old plain → IsYoung (rig_of volume old.objects old.puts old.is_stopping (old.lines + 1)) next
young_after_read old volume plain next read steps commits young =
    subst (λ p. IsYoung (rig_of volume old.objects old.puts old.is_stopping (old.lines + 1)) p) (sym read.is)
    (record {
      entries = omega (arith, young.entries);
      objects = omega (arith, young.objects);
      commits = omega (arith, young.commits, commits);
      steps = omega (arith, young.steps, steps);
    })

-- ---- a step that makes no calls of its own on the device

no_room_needed : (budget : Option Budget) → IsTrue (is_some budget) → HasRoom 0 0 budget
no_room_needed None is = cc
no_room_needed (Some budget) is = (omega arith, omega arith)

-- ---- a look

-- the rig a line later, where the volume looked as the plain one does
looked_rig : (lba sectors : ℕ) (old : RigState) (volume : SteppedVolume) (plain : PlainState) (reply : Reply Kept)
    (asked : PlainEvent)
    → (h : ShowsPlain old plain) → CountedStep told_receipt (Look lba sectors) reply old.volume volume → asked
    ≡ events.Look lba sectors
    → ShowsVolume h.epoch volume.volume (plain_after asked plain)
    → ShowsPlain (rig_of volume old.objects old.puts old.is_stopping (old.lines + 1)) (plain_after asked plain)
looked_rig lba sectors old volume plain reply asked h of is now =
    let keeps : KeepsUnderWay plain.window (plain_after asked plain).window =
    subst (λ e. KeepsUnderWay plain.window (plain_after e plain).window) (sym is)
    (windows_stay plain (plain_after (events.Look lba sectors) plain) (look_reads plain lba sectors)) in
    goes_on old volume (Look lba sectors) reply asked plain h of now keeps
    (event_keeps_removals plain asked (ap is_no_removal is))

pub look_shows : (lba sectors : ℕ) (old : RigState) (volume : SteppedVolume) (plain : PlainState) (reply : Reply Kept)
    → ShowsPlain old plain
    → CountedStep told_receipt (Look lba sectors) reply old.volume volume
    → (now : PlainState) × ShowsPlain (rig_of volume old.objects old.puts old.is_stopping (old.lines + 1)) now
look_shows lba sectors old volume plain reply h of =
    elim (step_of_plain h.epoch (Look lba sectors) reply plain old.volume volume (volume_shown old plain h)
    (no_room_needed old.volume.volume.log.commits.disk.budget h.pending.told) of) [
      | inl s ↦ (plain_after s.asked plain, looked_rig lba sectors old volume plain reply s.asked h of s.asks s.now)
      | inr n ↦ (plain, no_step_rig old volume plain (Look lba sectors) reply h of n.now)
    ]

-- ---- a look without a plan

refusal_no_plan : (why : EntryRefusal) (read : PlannedRead) → TellsRefusal why (replies.Planned read) → ⊥
refusal_no_plan refusals.Range read tells = cc
refusal_no_plan (refusals.Full (full.Sectors sectors)) read tells = cc
refusal_no_plan (refusals.Full (full.Entries count)) read tells = cc
refusal_no_plan (refusals.NoRoom lacking left) read tells = cc
refusal_no_plan refusals.Fault read tells = cc
refusal_no_plan refusals.OutOfMemory read tells = tells

unsealed_no_plan : (why : SealRefusal) (read : PlannedRead) → TellsSealRefusal why (replies.Planned read) → ⊥
unsealed_no_plan seal_refusals.NotPlanned read tells = cc
unsealed_no_plan seal_refusals.Busy read tells = cc
unsealed_no_plan seal_refusals.OutOfMemory read tells = tells

-- a reply that is no plan tells none
no_plan_told : (volume : VolumeState) (reply : Reply Kept) (read : PlannedRead)
    → ((plan : PlanState) → reply ≡ told.Planned plan → ⊥)
    → Tells told_receipt volume reply (replies.Planned read) → ⊥
no_plan_told volume (told.Entered count) read none tells = cc
no_plan_told volume (told.NotEntered entry why) read none tells = refusal_no_plan why read tells
no_plan_told volume (told.Flushed count) read none tells = cc
no_plan_told volume (told.Planned plan) read none tells = none plan refl
no_plan_told volume told.Released read none tells = cc
no_plan_told volume (told.NotReleased plan) read none tells = cc
no_plan_told volume (told.Sealed number) read none tells = cc
no_plan_told volume (told.Taken job) read none tells = (let is = tells.0 in cc)
no_plan_told volume (told.Done frontier) read none tells = cc
no_plan_told volume (told.NotDone job receipt) read none tells = cc
no_plan_told volume told.Returned read none tells = cc
no_plan_told volume (told.NotReturned job) read none tells = cc
no_plan_told volume (told.Removing receipt) read none tells = (let is = tells.0 in cc)
no_plan_told volume told.Removed read none tells = cc
no_plan_told volume told.GivenBack read none tells = cc
no_plan_told volume (told.NotGivenBack receipt) read none tells = cc
no_plan_told volume (told.Copying plan) read none tells = (let is = tells.1 in cc)
no_plan_told volume (told.NotSealed copied why) read none tells = unsealed_no_plan why read tells
no_plan_told volume told.Dropped read none tells = cc
no_plan_told volume (told.Told writes sealed frontier checkpoint) read none tells = cc
no_plan_told volume told.Range read none tells = cc
no_plan_told volume told.Nothing read none tells = cc
no_plan_told volume told.Busy read none tells = cc
no_plan_told volume told.Fault read none tells = cc
no_plan_told volume told.OutOfMemory read none tells = tells

-- then the plain volume plans none either, and has nothing to be given back
record PlansNone (reply : PlainReply) : Type 0 where
  counts : IsCountReply reply
  stays : (plain : PlainState) → released_by reply plain ≡ plain

plans_none : (volume : VolumeState) (reply : Reply Kept) (read : PlannedRead) (may passes : Bool)
    → ((plan : PlanState) → reply ≡ told.Planned plan → ⊥)
    → Tells told_receipt volume reply (if may then (if passes then replies.Planned read else replies.Fault) else replies.Range)
    → PlansNone (if may then (if passes then replies.Planned read else replies.Fault) else replies.Range)
plans_none volume reply read true true none tells = absurd (no_plan_told volume reply read none tells)
plans_none volume reply read true false none tells = record { counts = tt; stays = λ plain. refl }
plans_none volume reply read false passes none tells = record { counts = tt; stays = λ plain. refl }

pub read_refused : (lba sectors : ℕ) (old : RigState) (volume : SteppedVolume) (reply : Reply Kept)
    (result : Result Answer AllocError)
    → ((plan : PlanState) → reply ≡ told.Planned plan → ⊥) → CountedStep told_receipt (Look lba sectors) reply old.volume volume
    → IfOk result (SaysCounts reply)
    → IfOk result (λ answer. AnswersRead lba sectors answer old
    (rig_of volume old.objects old.puts old.is_stopping (old.lines + 1)))
read_refused lba sectors old volume reply (Err error) none of says = tt
read_refused lba sectors old volume reply (Ok answer) none of says = record {
  by = λ plain h.
      let rig : RigState = rig_of volume old.objects old.puts old.is_stopping (old.lines + 1) in
      let event : PlainEvent = events.Look lba sectors in
      elim (step_of_plain h.epoch (Look lba sectors) reply plain old.volume volume (volume_shown old plain h)
      (no_room_needed old.volume.volume.log.commits.disk.budget h.pending.told) of) [
        | inl s ↦
            let tells = subst (λ e. Tells told_receipt old.volume.volume reply (plain_reply plain e)) s.asks s.tells in
            let plans = plans_none old.volume.volume reply (planned_read plain lba sectors)
            (may_transfer plain.geometry lba sectors) (passes_look plain lba sectors) none tells in
            let shown = subst (λ e. ShowsPlain rig (plain_after e plain)) s.asks
            (looked_rig lba sectors old volume plain reply s.asked h of s.asks s.now) in (
              says_reply old.volume.volume reply (plain_reply plain event) answer tells plans.counts says,
              subst (ShowsPlain rig) (sym (plans.stays (plain_after event plain))) shown,
            )
        | inr n ↦ absurd (lacks_unsaid reply answer n.lacks says)
      ];
}

-- ---- a look with a plan, which is given back

-- what the plain volume answers, and the rig after the look
record IsPlanned (lba sectors : ℕ) (plan : PlanState) (old : RigState) (middle : SteppedVolume) (plain : PlainState) :
    Type 0 where
  read : PlannedRead
  is : plain_reply plain (events.Look lba sectors) ≡ replies.Planned read
  tells : TellsRead old.volume.volume plan read
  now : ShowsPlain (rig_of middle old.objects old.puts old.is_stopping (old.lines + 1))
      (plain_after (events.Look lba sectors) plain)

is_planned : (lba sectors : ℕ) (old : RigState) (middle : SteppedVolume) (plain : PlainState) (plan : PlanState)
    → ShowsPlain old plain
    → CountedStep told_receipt (Look lba sectors) (told.Planned plan) old.volume middle
    → IsPlanned lba sectors plan old middle plain
is_planned lba sectors old middle plain plan h of =
    let rig : RigState = rig_of middle old.objects old.puts old.is_stopping (old.lines + 1) in
    elim (step_of_plain h.epoch (Look lba sectors) (told.Planned plan) plain old.volume middle (volume_shown old plain h)
    (no_room_needed old.volume.volume.log.commits.disk.budget h.pending.told) of) [
      | inl s ↦
          let tells = subst (λ e. Tells told_receipt old.volume.volume (told.Planned plan) (plain_reply plain e))
          s.asks s.tells in
          record {
            read = tells.0;
            is = tells.1;
            tells = tells.2;
            now = subst (λ e. ShowsPlain rig (plain_after e plain)) s.asks
                (looked_rig lba sectors old middle plain (told.Planned plan) s.asked h of s.asks s.now);
          }
      | inr n ↦ absurd (let e = n.lacks in cc)
    ]

-- and after it was given back
given_back : (lba sectors : ℕ) (old : RigState) (middle volume : SteppedVolume) (plain : PlainState) (made plan : PlanState)
    (reply : Reply Kept)
    → ShowsPlain old plain → CountedStep told_receipt (Look lba sectors) (told.Planned made) old.volume middle
    → CountedStep told_receipt (Release plan) reply middle volume
    → ShowsPlain (rig_of middle old.objects old.puts old.is_stopping (old.lines + 1))
    (plain_after (events.Look lba sectors) plain)
    → ShowsPlain (rig_of volume old.objects old.puts old.is_stopping (old.lines + 1))
    (plain_after (events.Release plan.objects) (plain_after (events.Look lba sectors) plain))
given_back lba sectors old middle volume plain made plan reply h of back shown =
    let looked : PlainState = plain_after (events.Look lba sectors) plain in
    let next : PlainState = plain_after (events.Release plan.objects) looked in
    let between : RigState = rig_of middle old.objects old.puts old.is_stopping (old.lines + 1) in
    let released = release_reads looked plan.objects in
    let young = young_after_read old volume plain next (then_reads plain looked next (look_reads plain lba sectors) released)
    (omega (arith, of.count, back.count)) (omega (arith, of.step.numbers.commits, back.step.numbers.commits)) h.young in
    elim (step_of_plain shown.epoch (Release plan) reply looked middle volume (volume_shown between looked shown)
    (no_room_needed middle.volume.log.commits.disk.budget shown.pending.told) back) [
      | inl s ↦
          goes_on_with between volume (old.lines + 1) (Release plan) reply (events.Release plan.objects) looked shown back
          (subst (λ e. ShowsVolume shown.epoch volume.volume (plain_after e looked)) s.asks s.now)
          (windows_stay looked next released) (event_keeps_removals looked (events.Release plan.objects) refl) (omega arith) young
      | inr n ↦ absurd (let e = n.may in cc)
    ]

pub read_shows : (lba sectors : ℕ) (old : RigState) (middle volume : SteppedVolume) (plain : PlainState) (made plan : PlanState)
    (reply : Reply Kept)
    → ShowsPlain old plain → CountedStep told_receipt (Look lba sectors) (told.Planned made) old.volume middle
    → CountedStep told_receipt (Release plan) reply middle volume
    → (now : PlainState) × ShowsPlain (rig_of volume old.objects old.puts old.is_stopping (old.lines + 1)) now
read_shows lba sectors old middle volume plain made plan reply h of back =
    let planned = is_planned lba sectors old middle plain made h of in (
      plain_after (events.Release plan.objects) (plain_after (events.Look lba sectors) plain),
      given_back lba sectors old middle volume plain made plan reply h of back planned.now,
    )

-- ---- the bytes of a plan

-- what is told of a log on a disk that tells what it holds
told_here : (G : Type 0) (P : Medium → Type 0) (rows : List Row) (moments : List Medium) (entries : Option (List Entry))
    → entries ≡ entries_in rows moments → HasNow P moments → IfSome entries (λ list. G) → G
told_here G P rows [] entries is has known = absurd has
told_here G P rows (now ∷ past) entries is has known = subst (λ e. IfSome e (λ list. G)) is known

-- the plan that is given back has the objects of the one that was made
pub read_planned : (lba sectors : ℕ) (old : RigState) (middle volume : SteppedVolume) (made plan : PlanState) (reply : Reply Kept)
    (held : Vec ℕ) → plan.objects ≡ made.objects
    → IsOnDisk old.volume.volume.log → CountedStep told_receipt (Look lba sectors) (told.Planned made) old.volume middle
    → CountedStep told_receipt (Release plan) reply middle volume → GivesNoOther made held.items
    → AnswersRead lba sectors (answers.Sectors held) old (rig_of volume old.objects old.puts old.is_stopping (old.lines + 1))
read_planned lba sectors old middle volume made plan reply held same on_disk of back only = record {
  by = λ plain h.
      let log : LogState = old.volume.volume.log in
      let rig : RigState = rig_of volume old.objects old.puts old.is_stopping (old.lines + 1) in
      let event : PlainEvent = events.Look lba sectors in
      let planned = is_planned lba sectors old middle plain made h of in
      let bytes : List ℕ = planned.read.data in
      let looked : PlainState = plain_after event plain in
      let gives = told_here (Gives made bytes) _ log.rows log.commits.disk.moments log.entries on_disk.entries
      (pending_count log plain.cache h.pending) planned.tells.gives in (
        subst (λ r. SaysReply r (answers.Sectors held)) (sym planned.is) (held, refl, sym (only bytes gives)),
        subst (λ r. ShowsPlain rig (released_by r looked)) (sym planned.is)
            (subst (λ objects. ShowsPlain rig (plain_after (events.Release objects) looked)) (same ∙ planned.tells.objects)
            (given_back lba sectors old middle volume plain made plan reply h of back planned.now)),
      );
}
