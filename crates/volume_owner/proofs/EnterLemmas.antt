-- What an attempt to enter an entry does.
use Rattle.std.proofs.Common.{arith, ◌≡◌, ℕ, zero, suc, ◌+◌, ◌<◌, ◌≤◌, ◌⊎◌, inl, inr, Bool, true, false, cond, List, [], ◌∷◌}
use Rattle.std.proofs.Common.{◌++◌, length, length-append, refl, sym, ◌∙◌, ap, subst}
use Rattle.lsvd_base.specs.declared.entry.Entry.{Entry}
use Rattle.lsvd_base.specs.declared.entry.Entry.TheVariants as entries
use Rattle.lsvd_base.specs.Range.{is_in_range}
use Rattle.lsvd_device.specs.Calls.{Fuse}
use Rattle.lsvd_objstore.specs.Store.{ReceiptState}
use Rattle.batcher.specs.declared.full.Full.TheVariants as full
use Rattle.upload_window.specs.Window.{WindowState}
use Rattle.plain_disk.specs.declared.event.PlainEvent.{PlainEvent}
use Rattle.plain_disk.specs.declared.event.PlainEvent.TheVariants as events
use Rattle.plain_disk.specs.declared.event.PlainReply.{PlainReply}
use Rattle.plain_disk.specs.declared.event.PlainReply.TheVariants as replies
use Rattle.plain_disk.specs.State.{PlainState, history_length, unsealed_entries}
use Rattle.plain_disk.specs.Entries.{enter_reply, after_entering}
use Rattle.plain_disk.specs.Step.{plain_reply, plain_after}
use Rattle.plain_disk.specs.Valid.{IsPlainVolume}
use Rattle.refine_log.specs.Fuses.{fuse_in}
use Rattle.vol_core.specs.declared.reply.EntryRefusal.{EntryRefusal}
use Rattle.vol_core.specs.declared.reply.EntryRefusal.TheVariants as refusals
use Rattle.vol_core.specs.declared.reply.Reply.{Reply}
use Rattle.vol_core.specs.declared.reply.Reply.TheVariants as told
use Rattle.vol_core.specs.Volume.{VolumeState, SteppedVolume}
use Rattle.vol_core.specs.Shows.{Shows}
use Rattle.vol_core.specs.Calls.{event_of}
use Rattle.vol_core.specs.Events.{Asks, Tells, TellsRefusal}
use Rattle.vol_core.specs.Step.{passing, IsStep, IsNoStep, lacks_memory, tells_fault, HandsBack, CountedStep}
use Rattle.vol_core.proofs.StepLemmas.{passing_keeps}
use Rattle.volume_owner.specs.Owner.{IsIdle}
use Rattle.volume_owner.specs.History.{GoesOn}
use Rattle.volume_owner.specs.Calls.{IsLengthOf, MakesSteps}
use Rattle.volume_owner.specs.declared.replies.Attempt.{Attempt}
use Rattle.volume_owner.specs.declared.replies.Attempt.TheVariants as attempts
use Rattle.volume_owner.specs.Replies.{attempt_in}
use Rattle.volume_owner.specs.Helping.{work_of, entered_by, attempt_failed, MayTryAgain}
use Rattle.volume_owner.proofs.PlainLemmas.{is_entered, entered_if, entering_goes_on, goes_on_nothing}
use Rattle.volume_owner.proofs.EntryLemmas.{entered_is_answered, answered_is_entered, nothing_left}
use Rattle.volume_owner.proofs.ReplyLemmas.{is_again, reply_cases}
use Rattle.volume_owner.proofs.TellsLemmas.{tells_entered}
use Rattle.volume_owner.proofs.WindowLemmas.{any_started}
use Rattle.volume_owner.proofs.EventLeaves.{LeavesObjects, nothing_leaves, event_leaves}
use Rattle.volume_owner.proofs.StepLemmas.{goes_on_passing, shown_work, length_is, IsIdlePlain, shown_idle, idle_shown}

-- ---- what is told

-- a reply that tells that memory ran out tells no entry
not_both : {R : Type 0} (reply : Reply R) (count : ℕ) → lacks_memory reply ≡ true → reply ≡ told.Entered count → ⊥
not_both reply count lacks is = (let e = ap lacks_memory is in cc)

-- ---- the plain volume's event

abbrev asked_of : Entry → PlainEvent
asked_of (entries.Write lba body) = events.Write lba body
asked_of (entries.Zero lba sectors) = events.Zero lba sectors

asks_entry : {R : Type 0} (state : R → ReceiptState) (volume : VolumeState) (entry : Entry) (asked : PlainEvent)
    → Asks state volume (event_of entry) asked → asked ≡ asked_of entry
asks_entry state volume (entries.Write lba body) asked asks = asks
asks_entry state volume (entries.Zero lba sectors) asked asks = asks

reply_of_entry : (plain : PlainState) (entry : Entry) → plain_reply plain (asked_of entry) ≡ enter_reply plain entry
reply_of_entry plain (entries.Write lba body) = refl
reply_of_entry plain (entries.Zero lba sectors) = refl

after_entry : (plain : PlainState) (entry : Entry) → plain_after (asked_of entry) plain ≡ after_entering entry plain
after_entry plain (entries.Write lba body) = refl
after_entry plain (entries.Zero lba sectors) = refl

-- ---- the step

-- the entry was entered, and the reply tells the length of the history
pub record IsIn {R : Type 0} (entry : Entry) (reply : Reply R) (plain : PlainState) (new : VolumeState) : Type 0 where
  pub told_is : reply ≡ told.Entered (history_length plain + 1)
  pub after : PlainState
  pub shows : Shows new after
  pub goes : GoesOn (entry ∷ []) plain after
  pub window : after.window ≡ plain.window
  pub pins : after.pins ≡ plain.pins
  pub removal : after.removal ≡ plain.removal
  pub given_out : after.given_out ≡ plain.given_out
  pub removed : after.removed ≡ plain.removed
  pub leaves : LeavesObjects plain after

-- it was not: the volume has the same entries and objects, and the reply tells why
pub record IsOut {R : Type 0} (state : R → ReceiptState) (entry : Entry) (reply : Reply R) (plain : PlainState)
    (old new : VolumeState) : Type 0 where
  pub other : (count : ℕ) → reply ≡ told.Entered count → ⊥
  pub after : PlainState
  pub shows : Shows new after
  pub goes : GoesOn [] plain after
  pub unsealed : unsealed_entries after ≡ unsealed_entries plain
  pub window : after.window ≡ plain.window
  pub pins : after.pins ≡ plain.pins
  pub removal : after.removal ≡ plain.removal
  pub given_out : after.given_out ≡ plain.given_out
  pub removed : after.removed ≡ plain.removed
  pub leaves : LeavesObjects plain after
  pub why : ((left : Fuse) × Tells state old reply (enter_reply (passing left plain) entry)) ⊎ (lacks_memory reply ≡ true)

entry_leaves : (plain : PlainState) (entry : Entry) (left now : Fuse) → IsPlainVolume plain
    → LeavesObjects plain (passing now (after_entering entry (passing left plain)))
entry_leaves plain entry left now valid =
    subst (λ (p : PlainState). LeavesObjects plain (passing now p)) (after_entry (passing left plain) entry)
    (event_leaves left now plain (asked_of entry) valid)

entering_by : {R : Type 0} (state : R → ReceiptState) (entry : Entry) (reply : Reply R) (plain : PlainState)
    (old new : VolumeState)
    (left now : Fuse) (is_in : Bool) → Shows old plain → is_entered (passing left plain) entry ≡ is_in
    → Tells state old reply (enter_reply (passing left plain) entry)
    → Shows new (passing now (after_entering entry (passing left plain)))
    → IsIn entry reply plain new ⊎ IsOut state entry reply plain old new
entering_by state entry reply plain old new left now true shows is tells now_shows =
    let ready : PlainState = passing left plain in
    let goes = entering_goes_on ready entry (asked_of entry) (after_entry ready entry) (passing_keeps left plain shows.valid) in
    inl (record {
      told_is = tells_entered state old reply (history_length plain + 1)
          (subst (Tells state old reply) (entered_is_answered ready entry is) tells);
      after = passing now (after_entering entry ready);
      shows = now_shows;
      goes = goes_on_passing (entry ∷ []) left now plain (after_entering entry ready)
          (subst (λ b. GoesOn (entered_if b entry) ready (after_entering entry ready)) is goes);
      window = refl;
      pins = refl;
      removal = refl;
      given_out = refl;
      removed = refl;
      leaves = entry_leaves plain entry left now shows.valid;
    })
entering_by state entry reply plain old new left now false shows is tells now_shows =
    let ready : PlainState = passing left plain in
    let goes = entering_goes_on ready entry (asked_of entry) (after_entry ready entry) (passing_keeps left plain shows.valid) in
    let none = subst (λ b. GoesOn (entered_if b entry) ready (after_entering entry ready)) is goes in
    let same : (after_entering entry ready).entries ≡ plain.entries =
    ap (λ (b : Bool). cond b (plain.entries ++ entry ∷ []) plain.entries) is in
    inr (record {
      other = λ count told_it.
          let replied = subst (λ r. Tells state old r (enter_reply ready entry)) told_it tells in
          let entered = (answered_is_entered ready entry count replied).0 in
          cc;
      after = passing now (after_entering entry ready);
      shows = now_shows;
      goes = goes_on_passing [] left now plain (after_entering entry ready) none;
      unsealed = ap (λ (es : List Entry). unsealed_entries (record plain { entries = es })) same;
      window = refl;
      pins = refl;
      removal = refl;
      given_out = refl;
      removed = refl;
      leaves = entry_leaves plain entry left now shows.valid;
      why = inl (left, tells);
    })

pub entering : {R : Type 0} (state : R → ReceiptState) (entry : Entry) (reply : Reply R) (plain : PlainState)
    (old new : VolumeState)
    → Shows old plain → IsStep state (event_of entry) reply plain old new ⊎ IsNoStep state (event_of entry) reply plain old new
    → IsIn entry reply plain new ⊎ IsOut state entry reply plain old new
entering state entry reply plain old new shows (inl s) =
    let ready : PlainState = passing s.left plain in
    let asked = asks_entry state old entry s.asked s.asks in
    let tells : Tells state old reply (enter_reply ready entry) =
    subst (Tells state old reply) (ap (plain_reply ready) asked ∙ reply_of_entry ready entry) s.tells in
    let after : plain_after s.asked ready ≡ after_entering entry ready = ap (λ e. plain_after e ready) asked
    ∙ after_entry ready entry in
    let now : Fuse = fuse_in new.log.commits.disk.budget in
    entering_by state entry reply plain old new s.left now (is_entered ready entry) shows refl tells
    (subst (λ (p : PlainState). Shows new (passing now p)) after s.shows)
entering state entry reply plain old new shows (inr n) = inr (record {
  other = λ count is. not_both reply count n.lacks is;
  after = plain;
  shows = n.shows;
  goes = goes_on_nothing plain;
  unsealed = refl;
  window = refl;
  pins = refl;
  removal = refl;
  given_out = refl;
  removed = refl;
  leaves = nothing_leaves plain;
  why = inr n.lacks;
})

-- ---- the attempt

still_idle : (plain after : PlainState) → after.window ≡ plain.window → after.pins ≡ plain.pins
    → after.removal ≡ plain.removal → IsIdlePlain plain → IsIdlePlain after
still_idle plain after window pins removal idle = record {
  puts = ap (λ (w : WindowState). any_started w.objects) window ∙ idle.puts;
  plans = pins ∙ idle.plans;
  none_out = removal ∙ idle.none_out;
  few = subst (λ (w : WindowState). length w.objects ≤ 16) (sym window) idle.few;
}

none_or_some : (n : ℕ) → (n ≡ 0) ⊎ (0 < n)
none_or_some zero = inl refl
none_or_some (suc n) = inr (omega arith)

again_is_other : (R : Type 0) (back : Entry) (why : EntryRefusal) → is_again why ≡ true
    → lacks_memory {R = R} (told.NotEntered back why) ≡ true → ⊥
again_is_other R back refusals.Range again lacks = cc
again_is_other R back (refusals.Full why) again lacks = cc
again_is_other R back (refusals.NoRoom needed left) again lacks = cc
again_is_other R back refusals.Fault again lacks = cc
again_is_other R back refusals.OutOfMemory again lacks = cc

again_tells : (why : EntryRefusal) (reply : PlainReply) (count : ℕ) → is_again why ≡ true → TellsRefusal why reply
    → (reply ≡ replies.Entered count) ⊎ (reply ≡ replies.Fault) → ⊥
again_tells refusals.Range reply count again tells is = cc
again_tells (refusals.Full (full.Sectors sectors)) reply count again tells (inl is) = cc
again_tells (refusals.Full (full.Sectors sectors)) reply count again tells (inr is) = cc
again_tells (refusals.Full (full.Entries entries)) reply count again tells (inl is) = cc
again_tells (refusals.Full (full.Entries entries)) reply count again tells (inr is) = cc
again_tells (refusals.NoRoom needed left) reply count again tells (inl is) = cc
again_tells (refusals.NoRoom needed left) reply count again tells (inr is) = cc
again_tells refusals.Fault reply count again tells is = cc
again_tells refusals.OutOfMemory reply count again tells is = tells

module _ {R : Type 0} (state : R → ReceiptState) (entry : Entry) (reply : Reply R) (old new : SteppedVolume)
    (of : CountedStep state (event_of entry) reply old new) where
  -- an entry that is told to be entered is
  pub entered_makes : (count : ℕ) → reply ≡ told.Entered count → MakesSteps 1 (entry ∷ []) old new
  entered_makes count is = record {
    adds = λ plain shows.
        elim (entering state entry reply plain old.volume new.volume shows (of.step.step plain shows)) [
          | inl e ↦ (e.after, e.shows, e.goes)
          | inr o ↦ absurd (o.other count is)
        ];
    sizes = of.step.sizes;
    own = λ owner own. (of.step.stops owner own).own;
    steps = omega (arith, of.count);
  }

  pub entered_length : (count : ℕ) (plain : PlainState) → Shows old.volume plain → reply ≡ told.Entered count
      → IsLengthOf count new.volume
  entered_length count plain shows is =
      elim (entering state entry reply plain old.volume new.volume shows (of.step.step plain shows)) [
        | inl e ↦
            let told_it = e.told_is in
            let count_is : count ≡ history_length plain + 1 = cc in
            let longer = ap history_length e.goes.opens in
            let more = length-append plain.entries (entry ∷ []) in
            length_is count new.volume e.after e.shows (omega (arith, count_is, longer, more))
        | inr o ↦ absurd (o.other count is)
      ]

  -- one that is not told so is not entered
  pub refused_makes : ((count : ℕ) → reply ≡ told.Entered count → ⊥) → MakesSteps 1 [] old new
  refused_makes other = record {
    adds = λ plain shows.
        elim (entering state entry reply plain old.volume new.volume shows (of.step.step plain shows)) [
          | inl e ↦ absurd (other (history_length plain + 1) e.told_is)
          | inr o ↦ (o.after, o.shows, o.goes)
        ];
    sizes = of.step.sizes;
    own = λ owner own. (of.step.stops owner own).own;
    steps = omega (arith, of.count);
  }

  -- either way the volume is idle still
  pub entering_idle : (plain : PlainState) → Shows old.volume plain → IsIdle old.volume → IsIdle new.volume
  entering_idle plain shows idle =
      let was = shown_idle old.volume plain shows idle in
      elim (entering state entry reply plain old.volume new.volume shows (of.step.step plain shows)) [
        | inl e ↦ idle_shown new.volume e.after e.shows (still_idle plain e.after e.window e.pins e.removal was)
        | inr o ↦ idle_shown new.volume o.after o.shows (still_idle plain o.after o.window o.pins o.removal was)
      ]

  -- one that may be tried again leaves what is left to help with, and there is some
  pub again_work : (plain : PlainState) (back : Entry) (why : EntryRefusal) → Shows old.volume plain
      → is_in_range old.volume.objects.batch.geometry entry ≡ true
      → reply ≡ told.NotEntered back why → is_again why ≡ true → (0 < work_of new.volume)
      × (work_of new.volume ≡ work_of old.volume)
  again_work plain back why shows inside is again =
      let was = shown_work old.volume plain shows in
      elim (entering state entry reply plain old.volume new.volume shows (of.step.step plain shows)) [
        | inl e ↦ (let told_it = e.told_is in let bad : ⊥ = cc in absurd bad)
        | inr o ↦
            let now = shown_work new.volume o.after o.shows in
            let unsealed = ap (λ (es : List Entry). length es) o.unsealed in
            let window = ap (λ (w : WindowState). length w.objects) o.window in
            let same : work_of new.volume ≡ work_of old.volume = omega (arith, was, now, unsealed, window) in
            elim (none_or_some (work_of old.volume)) [
              | inr some ↦ (omega (arith, some, same), same)
              | inl none ↦ elim o.why [
                | inr lacks ↦ absurd (again_is_other R back why again (subst (λ r. lacks_memory r ≡ true) is lacks))
                | inl tells ↦
                    let ready : PlainState = passing tells.0 plain in
                    let range : is_in_range ready.geometry entry ≡ true =
                    ap (λ g. is_in_range g entry) (sym shows.objects.geometry) ∙ inside in
                    let left = nothing_left ready entry (passing_keeps tells.0 plain shows.valid) range (omega (arith, none, was))
                    (omega (arith, none, was)) in
                    let told_it = subst (λ r. Tells state old.volume r (enter_reply ready entry)) is tells.1 in
                    absurd (again_tells why (enter_reply ready entry) (history_length ready + 1) again told_it left)
              ]
            ]
      ]

  -- ---- by what the attempt answers

  pub attempt_makes : MakesSteps 1 (entered_by entry (attempt_in reply)) old new
  attempt_makes =
      elim (reply_cases reply) [
        | inl e ↦ subst (λ (r : Reply R). MakesSteps 1 (entered_by entry (attempt_in r)) old new) (sym e.1)
            (entered_makes e.0 e.1)
        | inr o ↦ subst (λ es. MakesSteps 1 es old new) (sym (o.none entry)) (refused_makes o.other)
      ]

  pub attempt_counts : (plain : PlainState) → Shows old.volume plain → (count : ℕ) → attempt_in reply ≡ attempts.Entered count
      → IsLengthOf count new.volume
  attempt_counts plain shows count is =
      elim (reply_cases reply) [
        | inl e ↦
            let tried = ap attempt_in e.1 in
            let same : e.0 ≡ count = cc in
            entered_length count plain shows (e.1 ∙ ap told.Entered same)
        | inr o ↦ absurd (o.count count is)
      ]

  back_is : (entry back : Entry) (why : EntryRefusal) → HandsBack (event_of {R = R} entry) (told.NotEntered back why)
      → back ≡ entry
  back_is (entries.Write lba body) back why hands = hands
  back_is (entries.Zero lba sectors) back why hands = hands

  again_hands : (back : Entry) (plain : PlainState) → Shows old.volume plain
      → is_in_range old.volume.objects.batch.geometry entry ≡ true
      → HandsBack (event_of entry) reply → attempt_in reply ≡ attempts.Again back
      → MayTryAgain entry (attempts.Again back) old.volume new.volume
  again_hands back plain shows inside hands is =
      elim (reply_cases reply) [
        | inl e ↦ (let tried = ap attempt_in e.1 in let bad : ⊥ = cc in absurd bad)
        | inr o ↦
            let (why, told_it, again) = o.again back is in
            let same = back_is entry back why (subst (λ (r : Reply R). HandsBack (event_of entry) r) told_it hands) in
            let work = again_work plain back why shows inside told_it again in
            (same, work.0, work.1)
      ]

  hands_by : (attempt : Attempt) (plain : PlainState) → Shows old.volume plain
      → is_in_range old.volume.objects.batch.geometry entry ≡ true
      → HandsBack (event_of entry) reply → attempt_in reply ≡ attempt → MayTryAgain entry attempt old.volume new.volume
  hands_by (attempts.Again back) plain shows inside hands is = again_hands back plain shows inside hands is
  hands_by (attempts.Entered count) plain shows inside hands is = tt
  hands_by attempts.Failed plain shows inside hands is = tt
  hands_by attempts.OutOfMemory plain shows inside hands is = tt

  pub attempt_hands : (plain : PlainState) → Shows old.volume plain → is_in_range old.volume.objects.batch.geometry entry ≡ true
      → HandsBack (event_of entry) reply → MayTryAgain entry (attempt_in reply) old.volume new.volume
  attempt_hands plain shows inside hands = hands_by (attempt_in reply) plain shows inside hands refl

pub attempt_fault : {R : Type 0} (reply : Reply R) → attempt_failed (attempt_in reply) ≡ tells_fault reply
attempt_fault reply =
    elim (reply_cases reply) [
      | inl e ↦ ap (λ r. attempt_failed (attempt_in r)) e.1 ∙ sym (ap tells_fault e.1)
      | inr o ↦ o.fault
    ]
