-- A volume of a churn stays one: its device is not told to stop, so that it passes each call, and its sizes stay. And each
-- generated command is allowed, and its letters fit.
use Rattle.std.proofs.Common.{◌≡◌, ℕ, ◌+◌, ◌*◌, ◌==◌, ◌&&◌, ◌||◌, nat_eq, nat_lt, Bool, true, false, cond, not, List, [], ◌∷◌}
use Rattle.std.proofs.Common.{◌++◌, replicate, refl, sym, ◌∙◌, ap, subst}
use Rattle.std.specs.Prelude.{Option, Some, None, is_some, option_map, find}
use Rattle.std.proofs.Math.Bool.{or-true}
use Rattle.std.proofs.lemmas.Bool.{eq-eqb}
use Rattle.lsvd_base.specs.Limits.{may_transfer}
use Rattle.lsvd_base.specs.declared.entry.Entry.{Entry}
use Rattle.lsvd_base.specs.declared.entry.Entry.TheVariants as entries
use Rattle.lsvd_device.specs.Calls.{fuse_after}
use Rattle.object_stream.specs.declared.object.Content.TheVariants.{Data, Checkpoint}
use Rattle.object_stream.specs.declared.object.CopiedSector.{CopiedSector}
use Rattle.object_stream.specs.Stream.{end_at, last_number}
use Rattle.upload_window.specs.declared.object.OpenObject.{OpenObject}
use Rattle.upload_window.specs.Window.{entered, has_number, is_started}
use Rattle.plain_disk.specs.declared.event.PlainEvent.{PlainEvent}
use Rattle.plain_disk.specs.declared.event.PlainEvent.TheVariants as events
use Rattle.plain_disk.specs.declared.event.PlainReply.{PlainReply}
use Rattle.plain_disk.specs.declared.event.PlainReply.TheVariants.{Planned, Removing}
use Rattle.plain_disk.specs.declared.log.PlainCommit.{PlainCommit}
use Rattle.plain_disk.specs.Log.{commit_from}
use Rattle.plain_disk.specs.Cache.{PlainCache, after_reads, after_finishing, after_halves, cache_after_entry, cache_after_commit}
use Rattle.plain_disk.specs.State.{PlainState, stream_in, frontier_end}
use Rattle.plain_disk.specs.Entries.{batch_refusal, cache_after, cache_for, comes_to_log, commits_for_room}
use Rattle.plain_disk.specs.Objects.{is_busy, has_unsealed, end_of_next}
use Rattle.plain_disk.specs.Reads.{look_calls, passes_look, objects_read, are_pinned, without_pins}
use Rattle.plain_disk.specs.Removals.{to_remove, with_removal, is_out}
use Rattle.plain_disk.specs.Collection.{planned_copy, with_plan, with_copy, after_sealed_copy}
use Rattle.plain_disk.specs.Step.{plain_reply, plain_after}
use Rattle.plain_disk.proofs.EventLemmas.{either_state}
use Rattle.plain_disk.proofs.OpeningLemmas.{event_by}
use Rattle.replay_script.specs.declared.command.Command.{Command}
use Rattle.replay_script.specs.declared.command.Command.TheVariants as commands
use Rattle.transcript.specs.declared.reason.LineReason.{LineReason}
use Rattle.transcript.specs.declared.reason.LineReason.TheVariants.{UnknownCommand, WordCount, Form, NotAllowed, Letters, TooLong}
use Rattle.transcript.specs.Answers.{State, Answers, IsAllowed, FitsLetters, released_by, removed_by}
use Rattle.churn_script.specs.Draws.{after_draw, command_drawn, crash_drawn, end_of_put, kind_drawn, step_of_copy}
use Rattle.replay_rig.specs.Puts.{lowest_started}
use Rattle.vol_replay.specs.Lines.{IsUnfit}
use Rattle.vol_replay.specs.Churn.{next_command}
use Rattle.vol_replay.specs.Steps.{IsChurned}

-- ---- a device that passes each call

-- a device that was not told to stop
abbrev IsUnstopped : PlainCache → Type 0
IsUnstopped cache = cache.left ≡ None

-- the same cache, whose device was not
abbrev unstopped : PlainCache → PlainCache
unstopped cache = record cache { left = None }

-- what holds of that holds of a cache whose device was not
as_unstopped : (P : PlainCache → Type 0) (cache : PlainCache) → IsUnstopped cache → P (unstopped cache) → P cache
as_unstopped P cache none holds = subst (λ left. P (record cache { left = left })) (sym none) holds

either_cache : (b : Bool) (x y : PlainCache) → IsUnstopped x → IsUnstopped y → IsUnstopped (cond b x y)
either_cache true x y left right = left
either_cache false x y left right = right

halves_pass : (seq : ℕ) (unfinished : Option PlainCommit) (cache : PlainCache)
    → IsUnstopped (after_halves (commit_from seq (after_finishing unfinished (unstopped cache)).log)
    (after_finishing unfinished (unstopped cache)))
halves_pass seq None cache = refl
halves_pass seq (Some commit) cache = refl

commit_passes : (seq : ℕ) (cache : PlainCache) → IsUnstopped cache → IsUnstopped (cache_after_commit seq cache)
commit_passes seq cache none =
    as_unstopped (λ c. IsUnstopped (cache_after_commit seq c)) cache none (halves_pass seq cache.log.unfinished cache)

entry_passes : (entry : Entry) (cache : PlainCache) → IsUnstopped cache → IsUnstopped (cache_after_entry entry cache)
entry_passes entry cache none = as_unstopped (λ c. IsUnstopped (cache_after_entry entry c)) cache none refl

entering_passes : (entry : Entry) (plain : PlainState) → IsUnstopped plain.cache → IsUnstopped (cache_after plain entry)
entering_passes entry plain none =
    let ready : PlainCache = cache_for plain entry in
    let passed : IsUnstopped ready =
    either_cache (commits_for_room plain entry) (cache_after_commit (frontier_end plain) plain.cache) plain.cache
    (commit_passes (frontier_end plain) plain.cache none) none in
    either_cache (is_some (batch_refusal plain entry)) plain.cache (cond (comes_to_log plain entry)
    (cache_after_entry entry ready) ready) none
    (either_cache (comes_to_log plain entry) (cache_after_entry entry ready) ready (entry_passes entry ready passed) passed)

-- ---- events

-- the device of a plain volume was not told to stop
abbrev StaysUp : PlainState → Type 0
StaysUp plain = IsUnstopped plain.cache

removal_by : (out lowest : Option ℕ) (plain : PlainState) → StaysUp plain → StaysUp (with_removal out lowest plain)
removal_by (Some other) lowest plain none = none
removal_by None None plain none = none
removal_by None (Some number) plain none = none

planned_by : (out : Option (List CopiedSector)) (sectors : List CopiedSector) (plain : PlainState) → StaysUp plain
    → StaysUp (with_plan out sectors plain)
planned_by (Some plan) sectors plain none = none
planned_by None [] plain none = none
planned_by None (first ∷ more) plain none = none

copied_by : (is_sealed : Bool) (out : Option (List CopiedSector)) (plain : PlainState) → StaysUp plain
    → StaysUp (after_sealed_copy is_sealed out plain)
copied_by is_sealed None plain none = none
copied_by is_sealed (Some plan) plain none = either_state StaysUp is_sealed (with_copy plan plain) plain none none

event_passes : (plain : PlainState) (event : PlainEvent) → StaysUp plain → StaysUp (plain_after event plain)
event_passes plain (events.Write lba body) none = entering_passes (entries.Write lba body) plain none
event_passes plain (events.Zero lba sectors) none = entering_passes (entries.Zero lba sectors) plain none
event_passes plain events.Flush none = commit_passes (frontier_end plain) plain.cache none
event_passes plain (events.Look lba sectors) none =
    let read : PlainState = record plain {
      cache = after_reads (look_calls plain lba sectors) plain.cache;
      pins = cond (passes_look plain lba sectors) (plain.pins ++ objects_read plain lba sectors) plain.pins;
    } in
    either_state StaysUp (may_transfer plain.geometry lba sectors) read plain
    (ap (λ left. fuse_after left (look_calls plain lba sectors)) none) none
event_passes plain (events.Release numbers) none =
    let released : PlainState = record plain { pins = without_pins numbers plain.pins } in
    either_state StaysUp (are_pinned numbers plain.pins) released plain none none
event_passes plain events.Seal none =
    let sealed : PlainState = record plain {
      objects = plain.objects ++ record { content = Data; end = end_of_next plain } ∷ [];
      window = entered (plain.window.last + 1) false plain.window;
    } in
    either_state StaysUp (has_unsealed plain && not (is_busy plain)) sealed plain none none
event_passes plain events.TakeJob none = none
event_passes plain (events.JobDone job) none = none
event_passes plain (events.JobFailed job) none = none
event_passes plain events.SealCheckpoint none =
    let sealed : PlainState = record plain {
      objects =
          plain.objects
          ++ record { content = Checkpoint; end = end_at (stream_in plain) (last_number (stream_in plain)) } ∷ [];
      window = entered (plain.window.last + 1) true plain.window;
    } in
    either_state StaysUp (is_busy plain) plain sealed none none
event_passes plain events.TakeRemove none = removal_by plain.removal (to_remove plain) plain none
event_passes plain (events.RemoveDone number) none =
    let removed : PlainState = record plain { removed = plain.removed ++ number ∷ []; removal = None } in
    either_state StaysUp (is_out number plain.removal) removed plain none none
event_passes plain (events.RemoveFailed number) none =
    let failed : PlainState = record plain { removal = None } in
    either_state StaysUp (is_out number plain.removal) failed plain none none
event_passes plain events.PlanCopy none = planned_by plain.plan (planned_copy plain) plain none
event_passes plain (events.SealCopy is_planned) none = copied_by (is_planned && not (is_busy plain)) plain.plan plain none
event_passes plain events.DropPlan none = none
event_passes plain events.Status none = none

event_churned : (plain : PlainState) (event : PlainEvent) → IsChurned plain → IsChurned (plain_after event plain)
event_churned plain event h = record {
  geometry =
      event_by (λ now. now.geometry ≡ plain.geometry) plain (λ other. refl) (λ number started other. refl) event ∙ h.geometry;
  unstopped = event_passes plain event h.unstopped;
}

-- ---- answers

next_is : (next made : PlainState) → Some next ≡ Some made → IsChurned made → IsChurned next
next_is next made same h = (let is : next ≡ made = cc in subst IsChurned (sym is) h)

released_churned : (reply : PlainReply) (plain : PlainState) → IsChurned plain → IsChurned (released_by reply plain)
released_churned (Planned read) plain h = event_churned plain (events.Release read.objects) h
released_churned reply plain h = h

pub read_churned : (lba sectors : ℕ) (plain : PlainState) → IsChurned plain
    → IsChurned (released_by (plain_reply plain (events.Look lba sectors)) (plain_after (events.Look lba sectors) plain))
read_churned lba sectors plain h =
    released_churned (plain_reply plain (events.Look lba sectors)) _ (event_churned plain (events.Look lba sectors) h)

removed_churned : (reply : PlainReply) (plain : PlainState) → IsChurned plain → IsChurned (removed_by reply plain)
removed_churned (Removing number) plain h = event_churned plain (events.RemoveDone number) h
removed_churned reply plain h = h

-- a command leaves such a volume
abbrev LeavesChurned : PlainState → Command → Type 0
LeavesChurned plain command = (text : List ℕ) (next : PlainState) → Answers (Some plain) command text (Some next) → IsChurned next

-- ---- commands

-- it holds of each command that may be drawn
module _ (P : Command → Type 0) where
  either_command : (b : Bool) (x y : Command) → P x → P y → P (cond b x y)
  either_command true x y left right = left
  either_command false x y left right = right

  each_drawn : (lowest : Option ℕ) (has_plan : Bool) (state : ℕ)
      → ((lba sectors byte : ℕ) → P (commands.Write lba sectors byte))
      → ((lba sectors : ℕ) → P (commands.Zero lba sectors))
      → ((lba sectors : ℕ) → P (commands.Read lba sectors))
      → P commands.Seal → P commands.TakeJob → P (end_of_put lowest) → P commands.SealCheckpoint → P (step_of_copy has_plan)
      → P commands.Remove → P crash_drawn → P commands.Flush → P (command_drawn lowest has_plan state)
  each_drawn lowest has_plan state write zero read seal take done checkpoint copy remove crash flush =
      let kind : ℕ = kind_drawn state in
      let more : ℕ = after_draw state in
      either_command (nat_lt kind 5) _ _ (write _ _ _)
      (either_command (kind == 5) _ _ (zero _ _)
      (either_command (nat_lt kind 8) _ _ (read _ _)
      (either_command (kind == 8) _ _ seal
      (either_command (kind == 9) _ _ take
      (either_command (kind == 10) _ _ done
      (either_command (kind == 11) _ _ checkpoint
      (either_command (kind == 12) _ _ copy
      (either_command (kind == 13) _ _ remove
      (either_command (kind == 14) _ _ crash flush)))))))))

put_churned : (plain : PlainState) (lowest : Option ℕ) → IsChurned plain → LeavesChurned plain (end_of_put lowest)
put_churned plain None h text next answers = next_is next _ answers.1 h
put_churned plain (Some number) h text next answers =
    next_is next _ answers.1.1 (event_churned plain (events.JobDone (Some number)) h)

copy_churned : (plain : PlainState) (has_plan : Bool) → IsChurned plain → LeavesChurned plain (step_of_copy has_plan)
copy_churned plain true h text next answers =
    next_is next _ answers.1.1 (event_churned plain (events.SealCopy true) h)
copy_churned plain false h text next answers = next_is next _ answers.1 (event_churned plain events.PlanCopy h)

pub next_churned : (plain : PlainState) (draws : ℕ) → IsChurned plain → LeavesChurned plain (next_command plain draws)
next_churned plain draws h =
    each_drawn (LeavesChurned plain) (lowest_started plain.window.objects) (is_some plain.plan) draws
    (λ lba sectors byte text next answers.
    next_is next _ answers.1 (event_churned plain (events.Write lba (replicate (512 * sectors) byte)) h))
    (λ lba sectors text next answers. next_is next _ answers.1 (event_churned plain (events.Zero lba sectors) h))
    (λ lba sectors text next answers. next_is next _ answers.1 (read_churned lba sectors plain h))
    (λ text next answers. next_is next _ answers.1 (event_churned plain events.Seal h))
    (λ text next answers. next_is next _ answers.1 (event_churned plain events.TakeJob h))
    (put_churned plain (lowest_started plain.window.objects) h)
    (λ text next answers. next_is next _ answers.1 (event_churned plain events.SealCheckpoint h))
    (copy_churned plain (is_some plain.plan) h)
    (λ text next answers. next_is next _ answers.1
    (removed_churned (plain_reply plain events.TakeRemove) _ (event_churned plain events.TakeRemove h)))
    (λ text next answers. next_is next _ answers.1.1 (record { geometry = h.geometry; unstopped = refl }))
    (λ text next answers. next_is next _ answers.1 (event_churned plain events.Flush h))

-- ---- what is allowed

-- the command is allowed, and its letters fit
abbrev IsFit : State → Command → Type 0
IsFit state command = IsAllowed state command × FitsLetters state command

fit_not_unfit : (state : State) (command : Command) (reason : LineReason) → IsFit state command → IsUnfit state command reason
    → ⊥
fit_not_unfit state command UnknownCommand fit unfit = unfit
fit_not_unfit state command WordCount fit unfit = unfit
fit_not_unfit state command Form fit unfit = unfit
fit_not_unfit state command NotAllowed fit unfit = unfit fit.0
fit_not_unfit state command Letters fit unfit = unfit.1 fit.1
fit_not_unfit state command TooLong fit unfit = unfit

-- the lowest that is started is started
lowest_is_started : (number : ℕ) (objects : List OpenObject) → lowest_started objects ≡ Some number
    → is_started number objects ≡ true
lowest_is_started number [] is = cc
lowest_is_started number (object ∷ objects) is =
    let rest = lowest_is_started number objects in
    elim object.is_started as (λ b. option_map (λ (o : OpenObject). o.number)
    (cond b (Some object) (find (λ (o : OpenObject). o.is_started) objects)) ≡ Some number
    → ((has_number number object && b) || is_started number objects) ≡ true) [
      | true ↦ λ first.
          let same : object.number ≡ number = cc in
          let here : nat_eq object.number number ≡ true = eq-eqb object.number number same in
          rw here refl
      | false ↦ λ later. (let there = rest later in rw there (or-true (has_number number object && false)))
    ] is

put_fits : (plain : PlainState) (lowest : Option ℕ) → lowest_started plain.window.objects ≡ lowest
    → IsFit (Some plain) (end_of_put lowest)
put_fits plain None is = (tt, tt)
put_fits plain (Some number) is = (lowest_is_started number plain.window.objects is, tt)

copy_fits : (plain : PlainState) (has_plan : Bool) → is_some plain.plan ≡ has_plan → IsFit (Some plain) (step_of_copy has_plan)
copy_fits plain true is = (is, tt)
copy_fits plain false is = (tt, tt)

-- the next command is never refused
pub never_unfit : (plain : PlainState) (draws : ℕ) (reason : LineReason)
    → IsUnfit (Some plain) (next_command plain draws) reason → ⊥
never_unfit plain draws reason =
    fit_not_unfit (Some plain) (next_command plain draws) reason
    (each_drawn (IsFit (Some plain)) (lowest_started plain.window.objects) (is_some plain.plan) draws
    (λ lba sectors byte. (tt, tt)) (λ lba sectors. (tt, tt)) (λ lba sectors. (tt, tt)) (tt, tt) (tt, tt)
    (put_fits plain (lowest_started plain.window.objects) refl) (tt, tt) (copy_fits plain (is_some plain.plan) refl) (tt, tt)
    (tt, (refl, refl)) (tt, tt))
