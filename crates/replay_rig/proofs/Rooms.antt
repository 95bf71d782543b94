-- A volume, on whose device room was made, shows what it showed, and answers an event.
use Rattle.std.proofs.Common.{◌≡◌, ℕ, ◌+◌, ◌*◌, ◌≤◌, ◌⊎◌, true, refl, sym, ◌∙◌, ap, subst, inl, inr, arith}
use Rattle.std.specs.Prelude.{Result, Ok, Err, IfOk}
use Rattle.std.specs.List.{AllByRecursion}
use Rattle.std.specs.declared.alloc.AllocError.{AllocError}
use Rattle.lsvd_device.specs.Device.{DiskState}
use Rattle.lsvd_objstore.specs.Memory.{Kept, told_receipt}
use Rattle.cache_log.specs.Log.{LogState}
use Rattle.plain_disk.specs.declared.event.PlainEvent.{PlainEvent}
use Rattle.plain_disk.specs.State.{PlainState}
use Rattle.plain_disk.specs.Step.{plain_reply, plain_after}
use Rattle.refine_log.specs.Pending.{ShowsPending}
use Rattle.refine_log.proofs.PendingShown.{still_shows_pending}
use Rattle.vol_core.specs.declared.event.Event.{Event}
use Rattle.vol_core.specs.declared.reply.Reply.{Reply}
use Rattle.vol_core.specs.Volume.{VolumeState, SteppedVolume, with_budget_of}
use Rattle.vol_core.specs.Step.{HasBytesOf, CountedStep}
use Rattle.vol_core.specs.Events.{Asks}
use Rattle.vol_core.specs.Stops.{HasOwnCommits}
use Rattle.replay_rig.specs.declared.answer.Answer.{Answer}
use Rattle.replay_rig.specs.Answers.{SaysReply, SaysCounts}
use Rattle.replay_rig.specs.Steps.{is_counted, AnswersEvent, AnswersAsked, IsUntouched}
use Rattle.replay_rig.specs.Rig.{RigState, rig_of, script_uuid, owner_at, ShowsPlain}
use Rattle.replay_rig.proofs.Says.{says_reply, lacks_unsaid, counted_asks, counted_reply}
use Rattle.replay_rig.proofs.Stepped.{ShowsVolume, volume_shown, HasRoomForEvent, step_of_plain, bytes_kept}
use Rattle.replay_rig.proofs.Stepped.{on_its_way, goes_on}
use Rattle.replay_rig.proofs.Windows.{quiet_windows, quiet_removals}

-- ---- a volume that only has more room

pub untouched_volume : (epoch : ℕ) (old new : SteppedVolume) (plain : PlainState) → ShowsVolume epoch old.volume plain
    → IsUntouched old new
    → ShowsVolume epoch new.volume plain
untouched_volume epoch old new plain h of =
    let disk : DiskState = new.volume.log.commits.disk in
    let log : LogState = (with_budget_of disk old.volume).log in
    record {
      shows = of.shows plain h.shows;
      pending = subst (λ (v : VolumeState). ShowsPending v.log plain.cache) (sym of.volume)
          (still_shows_pending old.volume.log log plain.cache plain.cache h.pending
          (record { same_number = refl; same_body = refl; same_unfinished = refl }) refl
          (of.told h.pending.told) (λ spent. of.fuse ∙ spent) refl);
      own = subst (HasOwnCommits (owner_at epoch)) (sym of.volume)
          (record { last = h.own.last; unfinished = h.own.unfinished; in_range = h.own.in_range });
      uuid_is = subst (λ (v : VolumeState). v.objects.uploads.uuid ≡ script_uuid) (sym of.volume) h.uuid_is;
    }

-- the rig, after some lines more
pub untouched_rig : (old : RigState) (volume : SteppedVolume) (lines : ℕ) (plain : PlainState) → old.lines ≤ lines
    → ShowsPlain old plain
    → IsUntouched old.volume volume → ShowsPlain (rig_of volume old.objects old.puts old.is_stopping lines) plain
untouched_rig old volume lines plain later h of =
    let now = untouched_volume h.epoch old.volume volume plain (volume_shown old plain h) of in
    let commits = ap (λ (v : VolumeState). v.log.commits.number) of.volume in
    record {
      shows = now.shows;
      pending = now.pending;
      epoch = h.epoch;
      own = now.own;
      described = h.described;
      inherits = h.inherits;
      begun = omega (arith, h.begun, later);
      uuid_is = now.uuid_is;
      opens = h.opens;
      seals = h.seals;
      stopping = h.stopping;
      puts = h.puts;
      put_objects = h.put_objects;
      bytes = subst (λ v. AllByRecursion (λ put. HasBytesOf v put.number put.bytes) old.puts) (sym of.volume) h.bytes;
      stored = h.stored;
      unheld = h.unheld;
      holds = h.holds;
      removes = h.removes;
      young = record {
        entries = omega (arith, h.young.entries, later);
        objects = omega (arith, h.young.objects, later);
        commits = omega (arith, h.young.commits, commits, later);
        steps = omega (arith, h.young.steps, of.steps, later);
      };
    }

-- the same rig some lines later
pub later_rig : (old : RigState) (lines : ℕ) (plain : PlainState) → old.lines ≤ lines → ShowsPlain old plain
    → ShowsPlain (rig_of old.volume old.objects old.puts old.is_stopping lines) plain
later_rig old lines plain later h = record {
  shows = h.shows;
  pending = h.pending;
  epoch = h.epoch;
  own = h.own;
  described = h.described;
  inherits = h.inherits;
  begun = omega (arith, h.begun, later);
  uuid_is = h.uuid_is;
  opens = h.opens;
  seals = h.seals;
  stopping = h.stopping;
  puts = h.puts;
  put_objects = h.put_objects;
  bytes = h.bytes;
  stored = h.stored;
  unheld = h.unheld;
  holds = h.holds;
  removes = h.removes;
  young = record {
    entries = omega (arith, h.young.entries, later);
    objects = omega (arith, h.young.objects, later);
    commits = omega (arith, h.young.commits, later);
    steps = omega (arith, h.young.steps, later);
  };
}

-- where memory ran out in a step, the rig shows what it showed, a line later
pub no_step_rig : (old : RigState) (volume : SteppedVolume) (plain : PlainState) (event : Event Kept) (reply : Reply Kept)
    → (h : ShowsPlain old plain)
    → CountedStep told_receipt event reply old.volume volume → ShowsVolume h.epoch volume.volume plain
    → ShowsPlain (rig_of volume old.objects old.puts old.is_stopping (old.lines + 1)) plain
no_step_rig old volume plain event reply h of now = record {
  shows = now.shows;
  pending = now.pending;
  epoch = h.epoch;
  own = now.own;
  described = h.described;
  inherits = h.inherits;
  begun = omega (arith, h.begun);
  uuid_is = now.uuid_is;
  opens = h.opens;
  seals = h.seals;
  stopping = h.stopping;
  puts = h.puts;
  put_objects = h.put_objects;
  bytes = bytes_kept old.volume.volume volume.volume old.puts of.step.bytes
      (on_its_way old.volume.volume plain old.puts h.shows h.puts)
      (on_its_way volume.volume plain old.puts now.shows h.puts) h.bytes;
  stored = h.stored;
  unheld = h.unheld;
  holds = h.holds;
  removes = h.removes;
  young = record {
    entries = omega (arith, h.young.entries);
    objects = omega (arith, h.young.objects);
    commits = omega (arith, h.young.commits, of.step.numbers.commits);
    steps = omega (arith, h.young.steps, of.count);
  };
}

-- a rig has made two steps a line at most
pub few_steps : (old : RigState) (plain : PlainState) → ShowsPlain old plain → old.volume.steps ≤ 2 * old.lines
few_steps old plain h = h.young.steps

-- ---- an event that hands out counts

-- the rig after the step, and what its reply tells
pub record CountsOn (event : Event Kept) (reply : Reply Kept) (old : RigState) (middle volume : SteppedVolume)
    (plain : PlainState) : Type 0 where
  pub asked : PlainEvent
  pub asks : Asks told_receipt old.volume.volume event asked
  pub says : (answer : Answer) → SaysCounts reply answer → SaysReply (plain_reply plain asked) answer
  pub now : ShowsPlain (rig_of volume old.objects old.puts old.is_stopping (old.lines + 1)) (plain_after asked plain)

pub counts_on : (event : Event Kept) (reply : Reply Kept) (old : RigState) (middle volume : SteppedVolume) (plain : PlainState)
    → is_counted event ≡ true → IsUntouched old.volume middle → HasRoomForEvent event middle.volume
    → CountedStep told_receipt event reply middle volume
    → ShowsPlain old plain
    → CountsOn event reply old middle volume plain
    ⊎ (ShowsPlain (rig_of volume old.objects old.puts old.is_stopping (old.lines + 1)) plain
    × ((answer : Answer) → SaysCounts reply answer → ⊥))
counts_on event reply old middle volume plain is of room steps h =
    let ready : RigState = rig_of middle old.objects old.puts old.is_stopping old.lines in
    let before : ShowsPlain ready plain = untouched_rig old middle old.lines plain (omega arith) h of in
    elim (step_of_plain before.epoch event reply plain middle volume (volume_shown ready plain before) room steps) [
      | inl s ↦ inl (record {
        asked = s.asked;
        asks = counted_asks event s.asked middle.volume old.volume.volume is s.asks;
        says = λ answer says. says_reply middle.volume reply (plain_reply plain s.asked) answer s.tells
            (counted_reply event s.asked middle.volume plain is s.asks) says;
        now = goes_on ready volume event reply s.asked plain before steps s.now
            (quiet_windows event s.asked middle.volume plain is s.asks h.shows.valid)
            (quiet_removals event s.asked middle.volume plain is s.asks);
      })
      | inr n ↦ inr (
        no_step_rig ready volume plain event reply before steps n.now,
        λ answer says. lacks_unsaid reply answer
            n.lacks says,
      )
    ]

-- the rig shows some plain volume then
pub counted_shows : (event : Event Kept) (reply : Reply Kept) (old : RigState) (middle volume : SteppedVolume)
    (plain : PlainState)
    → is_counted event ≡ true → IsUntouched old.volume middle → HasRoomForEvent event middle.volume
    → CountedStep told_receipt event reply middle volume
    → ShowsPlain old plain → (now : PlainState)
    × ShowsPlain (rig_of volume old.objects old.puts old.is_stopping (old.lines + 1)) now
counted_shows event reply old middle volume plain is of room steps h =
    elim (counts_on event reply old middle volume plain is of room steps h) [
      | inl s ↦ (plain_after s.asked plain, s.now)
      | inr n ↦ (plain, n.0)
    ]

-- and the answer says what the plain volume replies
pub counted_answers : (event : Event Kept) (reply : Reply Kept) (old : RigState) (middle volume : SteppedVolume)
    (result : Result Answer AllocError)
    → is_counted event ≡ true → IsUntouched old.volume middle → HasRoomForEvent event middle.volume
    → CountedStep told_receipt event reply middle volume
    → IfOk result (SaysCounts reply)
    → IfOk result (λ answer. AnswersAsked event answer old (rig_of volume old.objects old.puts old.is_stopping (old.lines + 1)))
counted_answers event reply old middle volume (Err error) is of room steps says = tt
counted_answers event reply old middle volume (Ok answer) is of room steps says = record {
  by = λ plain h.
      elim (counts_on event reply old middle volume plain is of room steps h) [
        | inl s ↦ (s.asked, s.asks, s.says answer says, s.now)
        | inr n ↦ absurd (n.1 answer says)
      ];
}

-- what such an event answers, by the plain event that it asks for
pub answers_event : (event : Event Kept) (asked : PlainEvent) (old new : RigState) (result : Result Answer AllocError)
    → ((other : PlainEvent) → Asks told_receipt old.volume.volume event other → other ≡ asked)
    → IfOk result (λ answer. AnswersAsked event answer old new) → IfOk result (λ answer. AnswersEvent asked answer old new)
answers_event event asked old new (Err error) one h = tt
answers_event event asked old new (Ok answer) one h = record {
  by = λ plain shows.
      let (other, asks, says, now) = h.by plain shows in
      subst (λ e. SaysReply (plain_reply plain e) answer × ShowsPlain new (plain_after e plain)) (one other asks) (says, now);
}
