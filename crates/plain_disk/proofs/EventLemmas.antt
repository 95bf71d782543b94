-- A plain volume that was created is one, and each event keeps one.
use Rattle.std.proofs.Common.{arith, ℕ, zero, suc, ◌+◌, ◌-◌, ◌^◌, ◌<◌, ◌≤◌, ◌≡◌, Bool, true, false, cond, not, ◌&&◌, ◌||◌, IsTrue}
use Rattle.std.proofs.Common.{Option, Some, None, is_some, unwrap_or, option_map, eqb, nat_lt, nat_le, find, List, [], ◌∷◌, ◌++◌}
use Rattle.std.proofs.Common.{length, take}
use Rattle.std.proofs.Common.{length-append, length-drop, refl, sym, ◌∙◌, ap, subst}
use Rattle.std.proofs.lemmas.Bool.Decides.{nat_tests}
use Rattle.std.proofs.lemmas.Grind.{common_steps}
use Rattle.std.proofs.lemmas.List.{length-replicate, take-append-le, take_all}
use Rattle.std.proofs.lemmas.List.Elements.{All-nil, All-cons, All-append, All-head, All-tail, All-push, All-weaker}
use Rattle.std.specs.List.{All, list_any, range_with_len, refill}
use Rattle.lsvd_base.specs.declared.geometry.Geometry.{Geometry}
use Rattle.lsvd_base.specs.declared.entry.Entry.{Entry}
use Rattle.lsvd_base.specs.declared.entry.Entry.TheVariants as entries
use Rattle.lsvd_base.specs.Limits.{is_within_limits}
use Rattle.lsvd_base.specs.Image.{zero_sector}
use Rattle.lsvd_base.specs.Range.{is_in_range}
use Rattle.batcher.specs.Batch.{fullness_of_first}
use Rattle.log_room.specs.Room.{need, free, record_sectors}
use Rattle.object_stream.specs.declared.object.CopiedSector.{CopiedSector}
use Rattle.object_stream.specs.declared.object.Content.TheVariants.{Data, Copy, Checkpoint}
use Rattle.object_stream.specs.declared.object.StreamObject.{StreamObject}
use Rattle.object_stream.specs.Stream.{after_objects, objects_to, end_after, end_at, last_number, GoesTo, EndsFollow}
use Rattle.object_stream.proofs.StreamLemmas.{end_in_parts, follow_first}
use Rattle.upload_window.specs.declared.object.OpenObject.{OpenObject}
use Rattle.upload_window.specs.Window.{WindowState, Ascends, IsWindow, has_number, below_lowest, below_open, entered, marked}
use Rattle.upload_window.specs.Window.{acknowledged, with_started, without, is_started, is_ready}
use Rattle.upload_window.proofs.Starts.{window_entered, window_marked, window_without}
use Rattle.plain_disk.specs.declared.cache.PendingWrite.{PendingWrite}
use Rattle.plain_disk.specs.declared.event.PlainEvent.TheVariants.{Write, Zero, Flush, Look, Release, Seal, TakeJob, JobDone}
use Rattle.plain_disk.specs.declared.event.PlainEvent.TheVariants.{JobFailed, SealCheckpoint, TakeRemove}
use Rattle.plain_disk.specs.declared.event.PlainEvent.TheVariants.{RemoveDone, RemoveFailed, PlanCopy, SealCopy, DropPlan}
use Rattle.plain_disk.specs.declared.event.PlainEvent.TheVariants.{Status}
use Rattle.plain_disk.specs.declared.event.PlainReply.{PlainReply}
use Rattle.plain_disk.specs.Log.{room_in, with_record}
use Rattle.plain_disk.specs.Cache.{PlainCache, after_reads, after_writes, writes_of, passes_entry, cache_after_commit}
use Rattle.plain_disk.specs.State.{PlainState, PlainCheckpoint, created_volume, stream_in, history_length, frontier_of}
use Rattle.plain_disk.specs.State.{frontier_end, unsealed_entries}
use Rattle.plain_disk.specs.Checkpoints.{checkpoint_at, is_started_checkpoint}
use Rattle.plain_disk.specs.Collection.{planned_copy, with_plan, with_copy, after_sealed_copy}
use Rattle.plain_disk.specs.Removals.{has, is_removable, to_remove, with_removal, after_take_remove, is_out, after_remove_done}
use Rattle.plain_disk.specs.Removals.{after_remove_failed}
use Rattle.plain_disk.specs.Entries.{batch_refusal, has_room_for, commits_for_room, cache_for, commits_are_made, comes_to_log}
use Rattle.plain_disk.specs.Entries.{after_entering, after_flush}
use Rattle.plain_disk.specs.Reads.{look_calls, passes_look, objects_read, after_look, are_pinned, without_pins}
use Rattle.plain_disk.specs.Reads.{after_plan_release}
use Rattle.plain_disk.specs.Objects.{sealed_count, is_busy, has_unsealed, end_of_next, after_seal, after_seal_checkpoint}
use Rattle.plain_disk.specs.Objects.{window_after_take, after_take, after_done, after_failed}
use Rattle.plain_disk.specs.Valid.{IsUnneeded, IsPlainCheckpoint, BeginsAfterLower, IsPlainLog, IsPlainVolume}
use Rattle.plain_disk.specs.Valid.{IsKeptByHold, CreatedIsPlainVolume, EventsKeepPlainVolume}
use Rattle.plain_disk.proofs.EndLemmas.{ends_grow, below_from, frontier_is_sealed, ends_within, ends_from, frontier_ends}
use Rattle.plain_disk.proofs.FoldLemmas.{owners_of_first}
use Rattle.plain_disk.proofs.CheckpointLemmas.{any_weaker, both_true, Begins, started_is_lowest, later_is}
use Rattle.plain_disk.proofs.CheckpointLemmas.{same_checkpoint, removable_is_unneeded, removable_is_not_held}
use Rattle.plain_disk.proofs.CheckpointLemmas.{none_of_both}
use Rattle.plain_disk.proofs.CommitLemmas.{log_with_later_end, record_keeps, IsLogOf, either, commit_keeps}

-- ---- created

pub log_has_sectors : (g : Geometry) → IsTrue (is_within_limits g) → (0 < g.log) × (g.log ≤ 2 ^ 31)
log_has_sectors g h = grind (arith, nat_tests)

-- it maps nothing
created_checkpoint : (g : Geometry) → IsPlainCheckpoint (stream_in (created_volume g)) 1 [] (created_volume g).checkpoint
created_checkpoint g = record {
  numbered = omega arith;
  reached = omega arith;
  holds = λ from k. refl;
  still = λ before number k early owns. let bad : ⊥ = cc in absurd bad;
  unneeded = All-nil (IsUnneeded (created_volume g).checkpoint);
}

pub created_is : CreatedIsPlainVolume
created_is g limits =
    let size = log_has_sectors g limits in
    record {
      limits = limits;
      sectors = length-replicate g.sectors zero_sector;
      owned = omega arith;
      payloads = omega arith;
      in_range = All-nil (λ entry. is_in_range g entry ≡ true);
      stream = record { ends = tt; within = omega arith };
      window = record { order = omega arith; starts = All-nil (λ object. IsTrue object.is_started → IsTrue object.was_started) };
      last = omega arith;
      opened = omega arith;
      begun = All-nil (λ object. IsTrue (object.was_started && object.is_checkpoint) → object.number ≤ 1 + 1);
      checkpoint = created_checkpoint g;
      held = All-nil (IsKeptByHold 1 []);
      log = record {
        counted = omega arith;
        room = record { limit = size.1; head = size.0; used = omega arith };
        last = record { order = omega arith; tail = omega arith; head = omega arith; place = size.0 };
        unfinished = tt;
      };
      size = refl;
    }

-- ---- the cache changes

log_of : (state : PlainState) → IsPlainVolume state → IsLogOf state.geometry.log (frontier_end state) (history_length state)
    state.cache.log
log_of state h = (h.size, h.log)

-- with a cache that has a log of the same entries, and any pins
cache_keeps : (state : PlainState) (cache : PlainCache) (pins : List ℕ) → IsPlainVolume state
    → IsLogOf state.geometry.log (frontier_end state) (history_length state) cache.log
    → IsPlainVolume (record state { cache = cache; pins = pins })
cache_keeps state cache pins h log = record {
  limits = h.limits;
  sectors = h.sectors;
  owned = h.owned;
  payloads = h.payloads;
  in_range = h.in_range;
  stream = h.stream;
  window = h.window;
  last = h.last;
  opened = h.opened;
  begun = h.begun;
  checkpoint = h.checkpoint;
  held = h.held;
  log = log.1;
  size = log.0;
}

pub flush_keeps : (state : PlainState) → IsPlainVolume state → IsPlainVolume (after_flush state)
flush_keeps state h =
    cache_keeps state (cache_after_commit (frontier_end state) state.cache) state.pins h
    (commit_keeps state.geometry.log (frontier_end state) (history_length state) state.cache (frontier_ends state h)
    (log_of state h))

pub either_state : (P : PlainState → Type 0) (b : Bool) (x y : PlainState) → P x → P y → P (cond b x y)
either_state P true x y is other = is
either_state P false x y is other = other

pub look_keeps : (state : PlainState) (lba sectors : ℕ) → IsPlainVolume state → IsPlainVolume (after_look lba sectors state)
look_keeps state lba sectors h =
    let calls = look_calls state lba sectors in
    let cache : PlainCache = after_reads calls state.cache in
    let pins : List ℕ = cond (passes_look state lba sectors) (state.pins ++ objects_read state lba sectors) state.pins in
    either_state IsPlainVolume _ (record state { cache = cache; pins = pins }) state
    (cache_keeps state cache pins h (log_of state h)) h

pub release_keeps : (state : PlainState) (numbers : List ℕ) → IsPlainVolume state
    → IsPlainVolume (after_plan_release numbers state)
release_keeps state numbers h =
    let pins = without_pins numbers state.pins in
    either_state IsPlainVolume (are_pinned numbers state.pins) (record state { pins = pins }) state
    (cache_keeps state state.cache pins h (log_of state h)) h

-- ---- an entry

-- with one entry more, whose record the log has
entry_keeps : (state : PlainState) (cache : PlainCache) (entry : Entry) → IsPlainVolume state
    → is_in_range state.geometry entry ≡ true
    → IsLogOf state.geometry.log (frontier_end state) (history_length state + 1) cache.log
    → IsPlainVolume (record state { cache = cache; entries = state.entries ++ entry ∷ [] })
entry_keeps state cache entry h range log =
    let P : Entry → Type 0 = λ e. is_in_range state.geometry e ≡ true in
    let more = length-append state.entries (entry ∷ []) in
    let count : state.end + length (state.entries ++ entry ∷ []) ≡ history_length state + 1 = omega arith in
    let within = h.stream.within in
    let number = state.checkpoint.number in
    let sealed : number ≤ last_number (stream_in state) = omega (arith, h.checkpoint.reached, frontier_is_sealed state h) in
    let owned = owners_of_first state.number state.end state.entries (entry ∷ []) (stream_in state).opening
    (objects_to (stream_in state) number) (follow_first state.end (number - state.number) state.objects h.stream.ends)
    (ends_within state number h sealed) in
    record {
      limits = h.limits;
      sectors = h.sectors;
      owned = h.owned;
      payloads = h.payloads;
      in_range = All-append P state.entries (entry ∷ []) h.in_range (All-cons P entry [] range (All-nil P));
      stream = record { ends = h.stream.ends; within = omega arith };
      window = h.window;
      last = h.last;
      opened = h.opened;
      begun = h.begun;
      checkpoint = same_checkpoint (stream_in state) (state.entries ++ entry ∷ []) state.objects (frontier_of state)
          (frontier_of state) state.given_out state.checkpoint h.checkpoint (omega arith) owned;
      held = h.held;
      log = subst (λ n. IsPlainLog (frontier_end state) n cache.log) (sym count) log.1;
      size = log.0;
    }

-- what an entry leaves, by what was refused, came to the log, and passed
entered_keeps : (state : PlainState) (entry : Entry) (ready : PlainCache) (writes : List PendingWrite)
    (refused comes passed : Bool)
    → IsPlainVolume state → (comes ≡ true → (refused ≡ false) × (is_in_range state.geometry entry ≡ true)
    × (need (room_in ready.log) (record_sectors entry) ≤ free (room_in ready.log)))
    → IsLogOf state.geometry.log (frontier_end state) (history_length state) ready.log
    → IsPlainVolume (record state {
      cache = cond refused state.cache (cond comes
          (cond passed (record (after_writes writes ready) { log = with_record ready.log entry }) (after_writes writes ready))
          ready);
      entries = cond (comes && passed) (state.entries ++ entry ∷ []) state.entries;
    })
entered_keeps state entry ready writes true true passed h may log = let not_so = (may refl).0 in let bad : ⊥ = cc in absurd bad
entered_keeps state entry ready writes true false passed h may log = h
entered_keeps state entry ready writes false false passed h may log = cache_keeps state ready state.pins h log
entered_keeps state entry ready writes false true false h may log = cache_keeps state (after_writes writes ready) state.pins h log
entered_keeps state entry ready writes false true true h may log =
    let has = may refl in
    entry_keeps state (record (after_writes writes ready) { log = with_record ready.log entry }) entry h has.1
    (log.0, record_keeps (frontier_end state) (history_length state) ready.log entry log.1 has.2)

comes_by : (refused made room : Bool) → (not refused && made && room) ≡ true → (refused ≡ false) × (room ≡ true)
comes_by true made room h = let bad : ⊥ = cc in absurd bad
comes_by false true room h = (refl, h)
comes_by false false room h = let bad : ⊥ = cc in absurd bad

range_by : (b : Bool) (full : Option PlainReply) (reply : PlainReply) → is_some (cond b full (Some reply)) ≡ false → b ≡ true
range_by true full reply h = refl
range_by false full reply h = let bad : ⊥ = cc in absurd bad

room_by : (a b : ℕ) → nat_le a b ≡ true → a ≤ b
room_by a b h = grind (arith, nat_tests)

pub entering_keeps : (state : PlainState) (entry : Entry) → IsPlainVolume state → IsPlainVolume (after_entering entry state)
entering_keeps state entry h =
    let ready : PlainCache = cache_for state entry in
    let refused : Bool = is_some (batch_refusal state entry) in
    let log : IsLogOf state.geometry.log (frontier_end state) (history_length state) ready.log =
    either (λ c. IsLogOf state.geometry.log (frontier_end state) (history_length state) c.log) (commits_for_room state entry)
    (cache_after_commit (frontier_end state) state.cache) state.cache
    (commit_keeps state.geometry.log (frontier_end state) (history_length state) state.cache (frontier_ends state h)
    (log_of state h))
    (log_of state h) in
    entered_keeps state entry ready (writes_of ready.log entry) refused (comes_to_log state entry) (passes_entry ready entry) h
    (λ comes.
    let parts = comes_by refused (commits_are_made state entry) (has_room_for ready entry) comes in (
      parts.0,
      range_by (is_in_range state.geometry entry) _ _ parts.0,
      room_by (need (room_in ready.log) (record_sectors entry))
          (free (room_in ready.log)) parts.1,
    ))
    log

-- ---- the window changes

-- what holds keep is not past a later frontier either
held_later : (frontier later : ℕ) (given_out held : List ℕ) → frontier ≤ later
    → All (IsKeptByHold frontier given_out) held → All (IsKeptByHold later given_out) held
held_later frontier later given_out held from =
    All-weaker (IsKeptByHold frontier given_out) (IsKeptByHold later given_out)
    (λ number kept. record { acknowledged = omega (arith, from, kept.acknowledged); kept = kept.kept }) held

window_keeps : (state : PlainState) (window : WindowState) (checkpoint : PlainCheckpoint) → IsPlainVolume state → IsWindow window
    → BeginsAfterLower window → window.last ≡ state.window.last → frontier_of state ≤ below_open window
    → IsPlainCheckpoint (stream_in state) (below_open window) state.given_out checkpoint
    → IsPlainVolume (record state { window = window; checkpoint = checkpoint })
window_keeps state window checkpoint h is begun last from newest =
    let end : frontier_end state ≤ end_at (stream_in state) (below_open window) =
    ends_grow (stream_in state) (frontier_of state) (below_open window) h.stream.ends from in
    record {
      limits = h.limits;
      sectors = h.sectors;
      owned = h.owned;
      payloads = h.payloads;
      in_range = h.in_range;
      stream = h.stream;
      window = is;
      last = last ∙ h.last;
      opened = omega (arith, h.opened);
      begun = begun;
      checkpoint = newest;
      held = held_later (frontier_of state) (below_open window) state.given_out state.held from h.held;
      log = log_with_later_end (frontier_end state) (end_at (stream_in state) (below_open window)) (history_length state)
          state.cache.log end h.log;
      size = h.size;
    }

-- the newest acknowledged checkpoint is so still where the frontier is not before the one that there was
still_acknowledged : (state : PlainState) (frontier : ℕ) → IsPlainVolume state → frontier_of state ≤ frontier
    → IsPlainCheckpoint (stream_in state) frontier state.given_out state.checkpoint
still_acknowledged state frontier h from =
    same_checkpoint (stream_in state) state.entries state.objects (frontier_of state) frontier state.given_out state.checkpoint
    h.checkpoint from refl

-- a mark leaves the frontier, and an object that is acknowledged does not lower it
below_marked : (number : ℕ) (started : Bool) (objects : List OpenObject) (last : ℕ)
    → below_lowest (with_started number started objects) last ≡ below_lowest objects last
below_marked number started [] last = refl
below_marked number started (object ∷ objects) last =
    elim (has_number number object) as (λ b.
    below_lowest (cond b (record object { is_started = started; was_started = object.was_started || started } ∷ objects)
    (object ∷ with_started number started objects)) last ≡ object.number - 1) [
      | true ↦ refl
      | false ↦ refl
    ]

below_without : (low number : ℕ) (objects : List OpenObject) (last : ℕ) → Ascends low objects last
    → below_lowest objects last ≤ below_lowest (without number objects) last
below_without low number [] last order = omega arith
below_without low number (object ∷ objects) last order =
    elim (has_number number object) as (λ b. object.number - 1 ≤ below_lowest
    (cond b objects (object ∷ without number objects)) last) [
      | true ↦ omega (arith, below_from object.number objects last order.1)
      | false ↦ omega arith
    ]

marked_long : (number : ℕ) (started : Bool) (objects : List OpenObject) → length (with_started number started objects)
    ≡ length objects
marked_long number started [] = refl
marked_long number started (object ∷ objects) =
    elim (has_number number object) as (λ b.
    length (cond b (record object { is_started = started; was_started = object.was_started || started } ∷ objects)
    (object ∷ with_started number started objects)) ≡ suc (length objects)) [
      | true ↦ refl
      | false ↦ ap suc (marked_long number started objects)
    ]

-- all elements of a list were written
refilled : (xs ws : List OpenObject) → length ws ≡ length xs → refill (length xs) xs ws ≡ ws
refilled xs ws same = grind (arith, common_steps)

marked_is : (number : ℕ) (started : Bool) (window : WindowState) → IsWindow window → IsWindow (marked number started window)
marked_is number started window is =
    let new = with_started number started window.objects in
    let long = marked_long number started window.objects in
    subst (λ objects. IsWindow (record { last = window.last; objects = objects })) (refilled window.objects new long)
    (window_marked number started window.objects window.objects new window.last refl long refl is)

mark_keeps : (state : PlainState) (number : ℕ) (started : Bool) → IsPlainVolume state
    → All (Begins (frontier_of state)) (with_started number started state.window.objects)
    → IsPlainVolume (record state { window = marked number started state.window })
mark_keeps state number started h begun =
    let same = below_marked number started state.window.objects state.window.last in
    window_keeps state (marked number started state.window) state.checkpoint h (marked_is number started state.window h.window)
    (subst (λ f. All (Begins f) (with_started number started state.window.objects)) (sym same) begun) refl
    (omega (arith, same)) (still_acknowledged state (below_open (marked number started state.window)) h (omega (arith, same)))

-- ---- a put begins

its_number : (n : ℕ) → eqb n n ≡ true
its_number n = grind (arith, nat_tests)

other_number : (a b : ℕ) → a < b → eqb a b ≡ false
other_number a b below = grind (arith, nat_tests)

not_lower : (a b : ℕ) → nat_lt a b ≡ false → b ≤ a
not_lower a b is = grind (arith, nat_tests)

-- what is found passes the test, and is past what all are past
found_passes : (test : OpenObject → Bool) (low : ℕ) (objects : List OpenObject) (last : ℕ) (object : OpenObject)
    → Ascends low objects last → find test objects ≡ Some object → (test object ≡ true) × (low < object.number)
found_passes test low [] last object order is = let bad : ⊥ = cc in absurd bad
found_passes test low (first ∷ objects) last object order is =
    elim (test first) as (λ b. test first ≡ b → cond b (Some first) (find test objects) ≡ Some object
    → (test object ≡ true) × (low < object.number)) [
      | true ↦ λ here same. (let e : first ≡ object = cc in
          (subst (λ (o : OpenObject). test o ≡ true) e here, subst (λ (o : OpenObject). low < o.number) e order.0))
      | false ↦ λ here later.
          (let rest = found_passes test first.number objects last object order.1 later in
          (rest.0, omega (arith, order.0, rest.1)))
    ] refl is

-- the object that is found begins
begun_found : (frontier : ℕ) (test : OpenObject → Bool) (low : ℕ) (objects : List OpenObject) (last : ℕ) (object : OpenObject)
    → Ascends low objects last → find test objects ≡ Some object
    → (object.is_checkpoint ≡ true → object.number ≤ frontier + 1) → All (Begins frontier) objects
    → All (Begins frontier) (with_started object.number true objects)
begun_found frontier test low [] last object order is lowest all = all
begun_found frontier test low (first ∷ objects) last object order is lowest all =
    let P = Begins frontier in
    let n = object.number in
    let begun : OpenObject = record first { is_started = true; was_started = first.was_started || true } in
    elim (test first) as (λ b. test first ≡ b → cond b (Some first) (find test objects) ≡ Some object
    → All P (cond (eqb first.number n) (begun ∷ objects) (first ∷ with_started n true objects))) [
      | true ↦ λ here same.
          (let e : first ≡ object = cc in
          let number_is : first.number ≡ n = ap (λ (o : OpenObject). o.number) e in
          let itself : eqb first.number n ≡ true = ap (λ k. eqb k n) number_is ∙ its_number n in
          rw itself (All-cons P begun objects
          (λ starts. let checkpoint = (both_true (first.was_started || true) first.is_checkpoint starts).1 in
          subst (λ k. k ≤ frontier + 1) (sym number_is)
          (lowest (ap (λ (o : OpenObject). o.is_checkpoint) (sym e) ∙ checkpoint)))
          (All-tail P first objects all)))
      | false ↦ λ here later.
          (let past = (found_passes test first.number objects last object order.1 later).1 in
          let not_it = other_number first.number n past in
          rw not_it (All-cons P first (with_started n true objects) (All-head P first objects all)
          (begun_found frontier test first.number objects last object order.1 later lowest (All-tail P first objects all))))
    ] refl is

-- of a checkpoint that is ready no lower number is open
ready_is_lowest : (objects : List OpenObject) (last : ℕ) (first : OpenObject) (object : OpenObject)
    → is_ready (first ∷ objects) object ≡ true → object.is_checkpoint ≡ true
    → object.number ≤ below_lowest (first ∷ objects) last + 1
ready_is_lowest objects last first object ready checkpoint =
    let lower = nat_lt first.number object.number in
    let others = list_any (λ other. nat_lt other.number object.number) objects in
    let may = (both_true (not object.is_started) (not object.is_checkpoint || not (lower || others)) ready).1 in
    elim lower as (λ b. lower ≡ b → (not object.is_checkpoint || not (b || others)) ≡ true
    → object.number ≤ first.number - 1 + 1) [
      | true ↦ λ here says.
          (let no : false ≡ true = ap (λ b. not b || false) (sym checkpoint) ∙ says in
          let bad : ⊥ = cc in absurd bad)
      | false ↦ λ here says. omega (arith, not_lower first.number object.number here)
    ] refl may

lowest_of_ready : (objects : List OpenObject) (last : ℕ) (object : OpenObject) → Ascends 0 objects last
    → find (is_ready objects) objects ≡ Some object → object.is_checkpoint ≡ true
    → object.number ≤ below_lowest objects last + 1
lowest_of_ready [] last object order is checkpoint = let bad : ⊥ = cc in absurd bad
lowest_of_ready (first ∷ objects) last object order is checkpoint =
    ready_is_lowest objects last first object
    (found_passes (is_ready (first ∷ objects)) 0 (first ∷ objects) last object order is).0 checkpoint

taken_keeps : (state : PlainState) (found : Option OpenObject)
    → find (is_ready state.window.objects) state.window.objects ≡ found → IsPlainVolume state
    → IsPlainVolume (record state { window = window_after_take (option_map (λ object. object.number) found) state.window })
taken_keeps state None is h = h
taken_keeps state (Some object) is h =
    let objects = state.window.objects in
    mark_keeps state object.number true h
    (begun_found (frontier_of state) (is_ready objects) 0 objects state.window.last object h.window.order is
    (lowest_of_ready objects state.window.last object h.window.order is) h.begun)

pub take_keeps : (state : PlainState) → IsPlainVolume state → IsPlainVolume (after_take state)
take_keeps state h = taken_keeps state (find (is_ready state.window.objects) state.window.objects) refl h

-- ---- a put fails

begun_again : (frontier number : ℕ) (objects : List OpenObject) → All (Begins frontier) objects
    → All (Begins frontier) (with_started number false objects)
begun_again frontier number [] all = all
begun_again frontier number (object ∷ objects) all =
    let P = Begins frontier in
    let ready : OpenObject = record object { is_started = false; was_started = object.was_started || false } in
    let was : (b : Bool) → (b || false) ≡ b = λ b. elim b as (λ c. (c || false) ≡ c) [ true ↦ refl | false ↦ refl ] in
    elim (has_number number object) as (λ b. All P (cond b (ready ∷ objects) (object ∷ with_started number false objects))) [
      | true ↦ All-cons P ready objects (λ starts. All-head P object objects all
          (ap (λ b. b && object.is_checkpoint) (sym (was object.was_started)) ∙ starts)) (All-tail P object objects all)
      | false ↦ All-cons P object (with_started number false objects) (All-head P object objects all)
          (begun_again frontier number objects (All-tail P object objects all))
    ]

failed_by : (state : PlainState) (number : ℕ) (b : Bool) → IsPlainVolume state
    → IsPlainVolume (record state { window = cond b (marked number false state.window) state.window })
failed_by state number false h = h
failed_by state number true h =
    mark_keeps state number false h (begun_again (frontier_of state) number state.window.objects h.begun)

pub failed_keeps : (state : PlainState) (job : Option ℕ) → IsPlainVolume state → IsPlainVolume (after_failed job state)
failed_keeps state None h = h
failed_keeps state (Some number) h = failed_by state number (is_started number state.window.objects) h

-- ---- a put is done

begun_without : (frontier later number : ℕ) (objects : List OpenObject) → frontier ≤ later → All (Begins frontier) objects
    → All (Begins later) (without number objects)
begun_without frontier later number [] from all = All-nil (Begins later)
begun_without frontier later number (object ∷ objects) from all =
    let P = Begins frontier in
    let Q = Begins later in
    let weaker : (o : OpenObject) → P o → Q o = λ o is starts. (let most = is starts in omega arith) in
    elim (has_number number object) as (λ b. All Q (cond b objects (object ∷ without number objects))) [
      | true ↦ All-weaker P Q weaker objects (All-tail P object objects all)
      | false ↦ All-cons Q object (without number objects) (weaker object (All-head P object objects all))
          (begun_without frontier later number objects from (All-tail P object objects all))
    ]

acknowledged_keeps : (state : PlainState) (number : ℕ) (checkpoint : PlainCheckpoint) → IsPlainVolume state
    → IsPlainCheckpoint (stream_in state) (below_open (acknowledged number state.window)) state.given_out checkpoint
    → IsPlainVolume (record state { window = acknowledged number state.window; checkpoint = checkpoint })
acknowledged_keeps state number checkpoint h newest =
    let from = below_without 0 number state.window.objects state.window.last h.window.order in
    window_keeps state (acknowledged number state.window) checkpoint h
    (window_without number state.window.objects state.window.last h.window)
    (begun_without (frontier_of state) (below_open (acknowledged number state.window)) number state.window.objects from h.begun)
    refl from newest

-- where the lowest open object is acknowledged, so is each up to it
reaches_lowest : (number : ℕ) (objects : List OpenObject) (last : ℕ) → Ascends 0 objects last
    → number ≤ last → number ≡ below_lowest objects last + 1 → number ≤ below_lowest (without number objects) last
reaches_lowest number [] last order sealed is = absurd (omega arith)
reaches_lowest number (object ∷ objects) last order sealed is =
    let lowest : number ≡ object.number - 1 + 1 = is in
    let some : 0 < object.number = order.0 in
    let same : object.number ≡ number = omega arith in
    let itself : eqb object.number number ≡ true = ap (λ k. eqb k number) same ∙ its_number number in
    let rest : object.number ≤ below_lowest objects last = below_from object.number objects last order.1 in
    let reached : number ≤ below_lowest objects last = omega arith in
    subst (λ b. number ≤ below_lowest (cond b objects (object ∷ without number objects)) last) (sym itself) reached

done_by : (state : PlainState) (number : ℕ) (started checkpoint : Bool) → is_started number state.window.objects ≡ started
    → is_started_checkpoint number state.window.objects ≡ checkpoint → IsPlainVolume state
    → IsPlainVolume (record state {
      window = cond started (acknowledged number state.window) state.window;
      checkpoint = cond checkpoint (checkpoint_at number state) state.checkpoint;
    })
done_by state number false false is newest h = h
done_by state number true false is newest h =
    acknowledged_keeps state number state.checkpoint h
    (still_acknowledged state (below_open (acknowledged number state.window)) h
    (below_without 0 number state.window.objects state.window.last h.window.order))
done_by state number false true is newest h =
    let started : is_started number state.window.objects ≡ true =
    any_weaker (λ o. has_number number o && o.is_started && o.is_checkpoint)
    (λ o. has_number number o && o.is_started)
    (λ o tested. (both_true (has_number number o && o.is_started) o.is_checkpoint tested).0) state.window.objects newest in
    let no : false ≡ true = sym is ∙ started in
    let bad : ⊥ = cc in absurd bad
done_by state number true true is newest h =
    let lowest = started_is_lowest state number h newest in
    acknowledged_keeps state number (checkpoint_at number state) h
    (later_is state number (below_open (acknowledged number state.window)) h (omega (arith, lowest.0))
    (reaches_lowest number state.window.objects state.window.last h.window.order lowest.1 lowest.0))

pub done_keeps : (state : PlainState) (job : Option ℕ) → IsPlainVolume state → IsPlainVolume (after_done job state)
done_keeps state None h = h
done_keeps state (Some number) h =
    done_by state number (is_started number state.window.objects) (is_started_checkpoint number state.window.objects) refl refl h

-- ---- a seal

-- an object takes at least one entry, and no more than there are
found_by : (test : ℕ → Bool) (from count n : ℕ) → find test (range_with_len from count) ≡ Some n → (test n ≡ true) × (from ≤ n)
    × (n < from + count)
found_by test from zero n h = let bad : ⊥ = cc in absurd bad
found_by test from (suc count) n h =
    elim (test from) as (λ b. test from ≡ b → cond b (Some from) (find test (range_with_len (from + 1) count)) ≡ Some n
    → (test n ≡ true) × (from ≤ n) × (n < from + suc count)) [
      | true ↦ λ is same. (let e : from ≡ n = cc in (subst (λ k. test k ≡ true) e is, omega arith, omega arith))
      | false ↦ λ is later. (let rest = found_by test (from + 1) count n later in
          (rest.0, omega (arith, rest.1), omega (arith, rest.2)))
    ] refl h

none_is_not_full : (g : Geometry) (entries : List Entry) → IsTrue (is_within_limits g)
    → is_some (fullness_of_first g.batch entries 0) ≡ false
none_is_not_full g entries h = grind (arith, nat_tests)

count_by_found : (g : Geometry) (entries : List Entry) (found : Option ℕ) → IsTrue (is_within_limits g) → 0 < length entries
    → find (λ n. is_some (fullness_of_first g.batch entries n)) (range_with_len 0 (length entries)) ≡ found
    → (0 < unwrap_or found (length entries)) × (unwrap_or found (length entries) ≤ length entries)
count_by_found g entries None limits some is = (some, omega arith)
count_by_found g entries (Some n) limits some is =
    let at = found_by (λ n. is_some (fullness_of_first g.batch entries n)) 0 (length entries) n is in
    let not_first : n ≡ 0 → ⊥ = λ first. (let e = none_is_not_full g entries limits in let full =
    subst (λ k. is_some (fullness_of_first g.batch entries k) ≡ true) first at.0 in cc) in
    (omega arith, omega (arith, at.2))

sealed_some : (state : PlainState) → IsPlainVolume state → has_unsealed state ≡ true
    → (0 < sealed_count state.geometry.batch (unsealed_entries state))
    × (sealed_count state.geometry.batch (unsealed_entries state) ≤ length (unsealed_entries state))
sealed_some state h has =
    let some : 0 < length (unsealed_entries state) = grind (arith, nat_tests) in
    count_by_found state.geometry (unsealed_entries state) _ h.limits some refl

-- one more object after others
follow_push : (end : ℕ) (objects : List StreamObject) (object : StreamObject) → EndsFollow end objects
    → GoesTo object.content (end_after end objects) object.end → EndsFollow end (objects ++ object ∷ [])
follow_push end [] object h goes = (goes, tt)
follow_push end (first ∷ objects) object h goes = (h.0, follow_push first.end objects object h.1 goes)

below_entered : (objects : List OpenObject) (last : ℕ) (object : OpenObject) → object.number ≡ last + 1
    → below_lowest (objects ++ object ∷ []) object.number ≡ below_lowest objects last
below_entered [] last object is = omega arith
below_entered (first ∷ objects) last object is = refl

next_window : (window : WindowState) (is_checkpoint : Bool) → IsWindow window
    → IsWindow (entered (window.last + 1) is_checkpoint window)
next_window window is_checkpoint is =
    window_entered window.objects window.last (record {
      number = window.last + 1;
      is_checkpoint = is_checkpoint;
      is_started = false;
      was_started = false;
    })
    (omega arith) refl is

-- an object more, which goes on from the last end and has no entry that there is not
sealed_keeps : (state : PlainState) (object : StreamObject) (is_checkpoint : Bool) → IsPlainVolume state
    → GoesTo object.content (end_at (stream_in state) (last_number (stream_in state))) object.end
    → object.end ≤ history_length state
    → IsPlainVolume (record state {
      objects = state.objects ++ object ∷ [];
      window = entered (state.window.last + 1) is_checkpoint state.window;
    })
sealed_keeps state object is_checkpoint h goes inside =
    let opened : OpenObject = record {
      number = state.window.last + 1;
      is_checkpoint = is_checkpoint;
      is_started = false;
      was_started = false;
    } in
    let whole : take (last_number (stream_in state) - state.number) state.objects ≡ state.objects =
    take_all (last_number (stream_in state) - state.number) state.objects (omega arith) in
    let ends : end_at (stream_in state) (last_number (stream_in state)) ≡ end_after state.end state.objects =
    ap (end_after state.end) whole in
    let more = length-append state.objects (object ∷ []) in
    let objects = state.objects ++ object ∷ [] in
    let all : take (state.number + length objects - state.number) objects ≡ objects =
    take_all (state.number + length objects - state.number) objects (omega arith) in
    let last_end : end_after state.end (take (state.number + length objects - state.number) objects) ≡ object.end =
    ap (end_after state.end) all ∙ end_in_parts state.end state.objects (object ∷ []) in
    let below : below_lowest (state.window.objects ++ opened ∷ []) (state.window.last + 1) ≡ frontier_of state =
    below_entered state.window.objects state.window.last opened refl in
    let sealed = frontier_is_sealed state h in
    let front : take (frontier_of state - state.number) objects ≡ take (frontier_of state - state.number) state.objects =
    take-append-le (frontier_of state - state.number) state.objects (object ∷ []) (omega arith) in
    let end : end_after state.end (take (below_lowest (state.window.objects ++ opened ∷ []) (state.window.last + 1)
    - state.number) objects) ≡ frontier_end state =
    ap (λ n. end_after state.end (take (n - state.number) objects)) below ∙ ap (end_after state.end) front in
    let number = state.checkpoint.number in
    let reached = h.checkpoint.reached in
    let before : take (number - state.number) objects ≡ take (number - state.number) state.objects =
    take-append-le (number - state.number) state.objects (object ∷ []) (omega arith) in
    let owned = ap (λ (list : List StreamObject). after_objects state.number state.end state.entries (stream_in state).opening
    list) before in
    record {
      limits = h.limits;
      sectors = h.sectors;
      owned = h.owned;
      payloads = h.payloads;
      in_range = h.in_range;
      stream = record {
        ends = follow_push state.end state.objects object h.stream.ends
            (subst (λ e. GoesTo object.content e object.end) ends goes);
        within = omega (arith, last_end, inside);
      };
      window = next_window state.window is_checkpoint h.window;
      last = omega (arith, h.last);
      opened = omega (arith, h.opened);
      begun = subst (λ f. All (Begins f) (state.window.objects ++ opened ∷ [])) (sym below)
          (All-push (Begins (frontier_of state)) state.window.objects opened h.begun
          (λ starts. let bad : ⊥ = cc in absurd bad));
      checkpoint = same_checkpoint (stream_in state) state.entries objects (frontier_of state)
          (below_lowest (state.window.objects ++ opened ∷ []) (state.window.last + 1)) state.given_out state.checkpoint
          h.checkpoint (omega (arith, below)) owned;
      held = held_later (frontier_of state) (below_lowest (state.window.objects ++ opened ∷ []) (state.window.last + 1))
          state.given_out state.held (omega (arith, below)) h.held;
      log = subst (λ n. IsPlainLog n (history_length state) state.cache.log) (sym end) h.log;
      size = h.size;
    }

sealed_by : (state : PlainState) (has busy : Bool) → has_unsealed state ≡ has → IsPlainVolume state
    → IsPlainVolume (cond (has && not busy) (record state {
      objects = state.objects ++ record { content = Data; end = end_of_next state } ∷ [];
      window = entered (state.window.last + 1) false state.window;
    }) state)
sealed_by state false busy is h = h
sealed_by state true true is h = h
sealed_by state true false is h =
    let count = sealed_some state h is in
    let unsealed_long = length-drop (end_at (stream_in state) (last_number (stream_in state)) - state.end) state.entries in
    let within = h.stream.within in
    let from = ends_from state (last_number (stream_in state)) h in
    sealed_keeps state (record { content = Data; end = end_of_next state }) false h (omega (arith, count.0))
    (omega (arith, count.1))

pub seal_keeps : (state : PlainState) → IsPlainVolume state → IsPlainVolume (after_seal state)
seal_keeps state h = sealed_by state (has_unsealed state) (is_busy state) refl h

pub seal_checkpoint_keeps : (state : PlainState) → IsPlainVolume state → IsPlainVolume (after_seal_checkpoint state)
seal_checkpoint_keeps state h =
    let object : StreamObject = record { content = Checkpoint; end = end_at (stream_in state) (last_number (stream_in state)) } in
    either_state IsPlainVolume (is_busy state) state (record state {
      objects = state.objects ++ object ∷ [];
      window = entered (state.window.last + 1) true state.window;
    }) h (sealed_keeps state object true h refl (omega (arith, h.stream.within)))

-- ---- a removal

apart_too : (a b : ℕ) → eqb b a ≡ false → eqb a b ≡ false
apart_too a b is = grind (arith, nat_tests)

-- what holds keep is not given out with one that no hold keeps
given_with_other : (given_out : List ℕ) (number other : ℕ) → eqb other number ≡ false → has given_out other ≡ false
    → has (given_out ++ number ∷ []) other ≡ false
given_with_other [] number other apart none = ap (λ b. b || false) (apart_too number other apart)
given_with_other (first ∷ rest) number other apart none =
    elim (eqb first other) as (λ b. (b || has rest other) ≡ false → (b || has (rest ++ number ∷ []) other) ≡ false) [
      | true ↦ λ bad. bad
      | false ↦ given_with_other rest number other apart
    ] none

held_kept : (frontier : ℕ) (given_out : List ℕ) (number : ℕ) (held : List ℕ) → has held number ≡ false
    → All (IsKeptByHold frontier given_out) held → All (IsKeptByHold frontier (given_out ++ number ∷ [])) held
held_kept frontier given_out number [] none all = All-nil (IsKeptByHold frontier (given_out ++ number ∷ []))
held_kept frontier given_out number (first ∷ rest) none all =
    let P = IsKeptByHold frontier given_out in
    let kept = All-head P first rest all in
    let parts = none_of_both (eqb first number) (has rest number) none in
    All-cons (IsKeptByHold frontier (given_out ++ number ∷ [])) first rest (record {
      acknowledged = kept.acknowledged;
      kept = given_with_other given_out number first parts.0 kept.kept;
    })
    (held_kept frontier given_out number rest parts.1 (All-tail P first rest all))

removals_keep : (state : PlainState) (removed given_out : List ℕ) (removal : Option ℕ) → IsPlainVolume state
    → All (IsUnneeded state.checkpoint) given_out
    → All (IsKeptByHold (frontier_of state) given_out) state.held
    → IsPlainVolume (record state { removed = removed; given_out = given_out; removal = removal })
removals_keep state removed given_out removal h unneeded held = record {
  limits = h.limits;
  sectors = h.sectors;
  owned = h.owned;
  payloads = h.payloads;
  in_range = h.in_range;
  stream = h.stream;
  window = h.window;
  last = h.last;
  opened = h.opened;
  begun = h.begun;
  checkpoint = record {
    numbered = h.checkpoint.numbered;
    reached = h.checkpoint.reached;
    holds = h.checkpoint.holds;
    still = h.checkpoint.still;
    unneeded = unneeded;
  };
  held = held;
  log = h.log;
  size = h.size;
}

removing_keeps : (state : PlainState) (out lowest : Option ℕ) → to_remove state ≡ lowest → IsPlainVolume state
    → IsPlainVolume (with_removal out lowest state)
removing_keeps state (Some other) lowest is h = h
removing_keeps state None None is h = h
removing_keeps state None (Some number) is h =
    removals_keep state state.removed (state.given_out ++ number ∷ []) (Some number) h
    (All-push (IsUnneeded state.checkpoint) state.given_out number h.checkpoint.unneeded
    (removable_is_unneeded state number (found_by (is_removable state) 1 (state.checkpoint.number - 1) number is).0))
    (held_kept (frontier_of state) state.given_out number state.held
    (removable_is_not_held state number (found_by (is_removable state) 1 (state.checkpoint.number - 1) number is).0) h.held)

pub take_remove_keeps : (state : PlainState) → IsPlainVolume state → IsPlainVolume (after_take_remove state)
take_remove_keeps state h = removing_keeps state state.removal (to_remove state) refl h

pub remove_done_keeps : (state : PlainState) (number : ℕ) → IsPlainVolume state → IsPlainVolume (after_remove_done number state)
remove_done_keeps state number h =
    either_state IsPlainVolume (is_out number state.removal)
    (record state { removed = state.removed ++ number ∷ []; removal = None }) state
    (removals_keep state (state.removed ++ number ∷ []) state.given_out None h h.checkpoint.unneeded h.held) h

pub remove_failed_keeps : (state : PlainState) (number : ℕ) → IsPlainVolume state
    → IsPlainVolume (after_remove_failed number state)
remove_failed_keeps state number h =
    either_state IsPlainVolume (is_out number state.removal) (record state { removal = None }) state
    (removals_keep state state.removed state.given_out None h h.checkpoint.unneeded h.held) h

-- ---- a copy

-- the plan of a copy is no part of what holds
pub plans_keep : (state : PlainState) (plan : Option (List CopiedSector)) → IsPlainVolume state
    → IsPlainVolume (record state { plan = plan })
plans_keep state plan h = record {
  limits = h.limits;
  sectors = h.sectors;
  owned = h.owned;
  payloads = h.payloads;
  in_range = h.in_range;
  stream = h.stream;
  window = h.window;
  last = h.last;
  opened = h.opened;
  begun = h.begun;
  checkpoint = h.checkpoint;
  held = h.held;
  log = h.log;
  size = h.size;
}

planning_keeps : (state : PlainState) (out : Option (List CopiedSector)) (sectors : List CopiedSector) → IsPlainVolume state
    → IsPlainVolume (with_plan out sectors state)
planning_keeps state (Some plan) sectors h = h
planning_keeps state None [] h = h
planning_keeps state None (first ∷ more) h = plans_keep state (Some (first ∷ more)) h

-- a copy repeats the last end
copy_keeps : (state : PlainState) (is_sealed : Bool) (out : Option (List CopiedSector)) → IsPlainVolume state
    → IsPlainVolume (after_sealed_copy is_sealed out state)
copy_keeps state is_sealed None h = h
copy_keeps state is_sealed (Some plan) h =
    let object : StreamObject = record { content = Copy plan; end = end_at (stream_in state) (last_number (stream_in state)) } in
    let unplanned : PlainState = record state { plan = None } in
    either_state IsPlainVolume is_sealed (with_copy plan state) state
    (sealed_keeps unplanned object false (plans_keep state None h) refl (omega (arith, h.stream.within))) h

-- ---- each event

pub events_keep : EventsKeepPlainVolume
events_keep state (Write lba body) h = entering_keeps state (entries.Write lba body) h
events_keep state (Zero lba sectors) h = entering_keeps state (entries.Zero lba sectors) h
events_keep state Flush h = flush_keeps state h
events_keep state (Look lba sectors) h = look_keeps state lba sectors h
events_keep state (Release numbers) h = release_keeps state numbers h
events_keep state Seal h = seal_keeps state h
events_keep state TakeJob h = take_keeps state h
events_keep state (JobDone job) h = done_keeps state job h
events_keep state (JobFailed job) h = failed_keeps state job h
events_keep state SealCheckpoint h = seal_checkpoint_keeps state h
events_keep state TakeRemove h = take_remove_keeps state h
events_keep state (RemoveDone number) h = remove_done_keeps state number h
events_keep state (RemoveFailed number) h = remove_failed_keeps state number h
events_keep state PlanCopy h = planning_keeps state state.plan (planned_copy state) h
events_keep state (SealCopy is_planned) h = copy_keeps state (is_planned && not (is_busy state)) state.plan h
events_keep state DropPlan h = plans_keep state None h
events_keep state Status h = h
