-- What is committed in the plain volume: all entries by a flush that is acknowledged and by a mount, and by no event fewer than
-- before.
use Rattle.std.proofs.Common.{arith, ℕ, ◌+◌, ◌-◌, ◌≤◌, ◌≡◌, Bool, true, false, cond, ◌&&◌, not, nat_le, Option, Some, None}
use Rattle.std.proofs.Common.{is_some, IfSome, List, [], ◌∷◌, ◌++◌, append-nil, refl, sym, ◌∙◌, ap, subst}
use Rattle.std.proofs.lemmas.Bool.Decides.{nat_tests}
use Rattle.lsvd_base.specs.declared.entry.Entry.{Entry}
use Rattle.lsvd_base.specs.declared.entry.Entry.TheVariants as entries
use Rattle.lsvd_base.specs.Limits.{may_transfer}
use Rattle.lsvd_device.specs.Calls.{Fuse, passes, fuse_after}
use Rattle.object_stream.specs.declared.object.CopiedSector.{CopiedSector}
use Rattle.object_stream.specs.declared.object.Content.TheVariants.{Data, Checkpoint}
use Rattle.object_stream.specs.Stream.{end_at, last_number}
use Rattle.upload_window.specs.Window.{entered}
use Rattle.plain_disk.specs.declared.log.PlainCommit.{PlainCommit}
use Rattle.plain_disk.specs.declared.cache.PendingWrite.{PendingWrite}
use Rattle.plain_disk.specs.declared.cache.PendingWrite.TheVariants.{Body, ClosedGate, OpenedGate}
use Rattle.plain_disk.specs.declared.event.PlainEvent.{PlainEvent}
use Rattle.plain_disk.specs.declared.event.PlainEvent.TheVariants.{Write, Zero, Flush, Look, Release, Seal, TakeJob, JobDone}
use Rattle.plain_disk.specs.declared.event.PlainEvent.TheVariants.{JobFailed, SealCheckpoint, TakeRemove}
use Rattle.plain_disk.specs.declared.event.PlainEvent.TheVariants.{RemoveDone, RemoveFailed, PlanCopy, SealCopy, DropPlan}
use Rattle.plain_disk.specs.declared.event.PlainEvent.TheVariants.{Status}
use Rattle.plain_disk.specs.declared.event.PlainReply.TheVariants as replies
use Rattle.plain_disk.specs.Log.{PlainLog, with_record, commit_from, with_commit}
use Rattle.plain_disk.specs.Cache.{PlainCache, after_reads, after_writes, writes_of, passes_entry, after_sync_of}
use Rattle.plain_disk.specs.Cache.{after_first_half, after_second_half, after_finishing, commit_calls_after, passes_commit}
use Rattle.plain_disk.specs.Cache.{after_halves, cache_after_commit}
use Rattle.plain_disk.specs.State.{PlainState, stream_in, history_length, frontier_end}
use Rattle.plain_disk.specs.Removals.{to_remove, with_removal, is_out}
use Rattle.plain_disk.specs.Entries.{batch_refusal, commits_for_room, cache_for, comes_to_log, cache_after}
use Rattle.plain_disk.specs.Reads.{look_calls, passes_look, objects_read, are_pinned, without_pins}
use Rattle.plain_disk.specs.Objects.{is_busy, has_unsealed, end_of_next}
use Rattle.plain_disk.specs.Collection.{planned_copy, with_plan, with_copy, after_sealed_copy}
use Rattle.plain_disk.specs.Step.{plain_after}
use Rattle.plain_disk.specs.Valid.{IsLaterCommit, IsPlainVolume, FlushCommitsEntries, EventsKeepCommitted}
use Rattle.plain_disk.proofs.EndLemmas.{frontier_ends}
use Rattle.plain_disk.proofs.CommitLemmas.{IsLogOf, either, synced_log, finishing_keeps}

-- ---- a commit that the device passes is made

fuse_parts : (fuse : Fuse) (first second : ℕ) → passes fuse (first + second) ≡ true
    → (passes fuse first ≡ true) × (passes (fuse_after fuse first) second ≡ true)
fuse_parts None first second h = (refl, refl)
fuse_parts (Some left) first second h =
    let one : nat_le first left ≡ true = grind (arith, nat_tests) in
    let other : nat_le second (left - first) ≡ true = grind (arith, nat_tests) in
    (one, other)

first_passed : (commit : PlainCommit) (cache : PlainCache) → passes cache.left 3 ≡ true
    → after_first_half commit cache
    ≡ record cache { left = fuse_after cache.left 3; pending = []; log = record cache.log { unfinished = Some commit } }
first_passed commit cache h =
    let made : PlainCache = record cache { left = fuse_after cache.left 3; pending = [] } in
    let not_made : PlainCache = after_writes (Body ∷ ClosedGate ∷ []) cache in
    ap (λ (b : Bool). cond b (record (cond b made not_made) { log = record cache.log { unfinished = Some commit } })
    (cond b made not_made)) h

second_passed : (commit : PlainCommit) (cache : PlainCache) → passes cache.left 2 ≡ true
    → after_second_half commit cache ≡ record cache {
      left = fuse_after cache.left 2;
      pending = [];
      log = with_commit commit cache.log;
    }
second_passed commit cache h =
    let made : PlainCache = record cache { left = fuse_after cache.left 2; pending = [] } in
    let not_made : PlainCache = after_writes (OpenedGate ∷ []) cache in
    ap (λ (b : Bool). cond b (record (cond b made not_made) { log = with_commit commit cache.log }) (cond b made not_made)) h

halves_passed : (commit : PlainCommit) (cache : PlainCache) → passes cache.left 5 ≡ true
    → (after_halves commit cache).log.last ≡ commit
halves_passed commit cache h =
    let parts = fuse_parts cache.left 3 2 h in
    let half : PlainCache = record cache {
      left = fuse_after cache.left 3;
      pending = [];
      log =
          record cache.log { unfinished = Some commit };
    } in
    ap (λ (c : PlainCache). (after_second_half commit c).log.last) (first_passed commit cache parts.0)
    ∙ ap (λ (c : PlainCache). c.log.last) (second_passed commit half parts.1)

ready_passes : (unfinished : Option PlainCommit) (cache : PlainCache) → passes cache.left (commit_calls_after unfinished) ≡ true
    → passes (after_finishing unfinished cache).left 5 ≡ true
ready_passes None cache h = h
ready_passes (Some commit) cache h =
    let parts = fuse_parts cache.left 2 5 h in
    ap (λ (c : PlainCache). passes c.left 5) (second_passed commit cache parts.0) ∙ parts.1

commit_is_made : (size end count : ℕ) (cache : PlainCache) → end ≤ count → IsLogOf size end count cache.log
    → passes_commit cache ≡ true
    → (cache_after_commit end cache).log.last.head.seq ≡ count
commit_is_made size end count cache inside h passed =
    let ready : PlainCache = after_finishing cache.log.unfinished cache in
    let is : IsLogOf size end count ready.log = finishing_keeps size end count cache.log.unfinished cache inside h
    h.1.unfinished in
    let counted = is.1.counted in
    ap (λ (c : PlainCommit). c.head.seq) (halves_passed (commit_from end ready.log) ready
    (ready_passes cache.log.unfinished cache passed))
    ∙ omega arith

flushed_by : (passed : Bool) (count n : ℕ) → cond passed (replies.Flushed count) replies.Fault ≡ replies.Flushed n
    → (passed ≡ true) × (n ≡ count)
flushed_by true count n h = (refl, cc)
flushed_by false count n h = let bad : ⊥ = cc in absurd bad

pub flush_commits : FlushCommitsEntries
flush_commits state count h replied =
    let parts = flushed_by (passes_commit state.cache) (history_length state) count replied in (
      parts.1,
      commit_is_made state.geometry.log (frontier_end state) (history_length state) state.cache (frontier_ends state h)
          (h.size, h.log) parts.0,
    )

-- ---- no event commits fewer

-- as many are committed at least
abbrev HasCommitted : ℕ → PlainCache → Type 0
HasCommitted n cache = n ≤ cache.log.last.head.seq

synced_has : (n : ℕ) (writes : List PendingWrite) (cache : PlainCache) → HasCommitted n cache
    → HasCommitted n (after_sync_of writes cache)
synced_has n writes cache h = subst (λ (l : PlainLog). n ≤ l.last.head.seq) (sym (synced_log writes cache)) h

first_half_has : (n : ℕ) (commit : PlainCommit) (cache : PlainCache) → HasCommitted n cache
    → HasCommitted n (after_first_half commit cache)
first_half_has n commit cache h =
    let synced : PlainCache = after_sync_of (Body ∷ ClosedGate ∷ []) cache in
    either (HasCommitted n) (passes cache.left 3) (record synced { log = record cache.log { unfinished = Some commit } }) synced h
    (synced_has n (Body ∷ ClosedGate ∷ []) cache h)

second_half_has : (n : ℕ) (commit : PlainCommit) (cache : PlainCache) → HasCommitted n cache → n ≤ commit.head.seq
    → HasCommitted n (after_second_half commit cache)
second_half_has n commit cache h later =
    let synced : PlainCache = after_sync_of (OpenedGate ∷ []) cache in
    either (HasCommitted n) (passes cache.left 2) (record synced { log = with_commit commit cache.log }) synced later
    (synced_has n (OpenedGate ∷ []) cache h)

finishing_has : (n size end count : ℕ) (unfinished : Option PlainCommit) (cache : PlainCache) → HasCommitted n cache
    → IfSome unfinished (IsLaterCommit size end count cache.log.last) → HasCommitted n (after_finishing unfinished cache)
finishing_has n size end count None cache h later = h
finishing_has n size end count (Some commit) cache h later = second_half_has n commit cache h (omega (arith, later.head))

commit_has : (n size end count : ℕ) (cache : PlainCache) → end ≤ count → IsLogOf size end count cache.log → HasCommitted n cache
    → HasCommitted n (cache_after_commit end cache)
commit_has n size end count cache inside is h =
    let ready : PlainCache = after_finishing cache.log.unfinished cache in
    let log : IsLogOf size end count ready.log = finishing_keeps size end count cache.log.unfinished cache inside is
    is.1.unfinished in
    let commit : PlainCommit = commit_from end ready.log in
    let has : HasCommitted n ready = finishing_has n cache.log.size end count cache.log.unfinished cache h is.1.unfinished in
    let counted = log.1.counted in
    let head = log.1.last.head in
    second_half_has n commit (after_first_half commit ready) (first_half_has n commit ready has) (omega arith)

flush_has : (state : PlainState) → IsPlainVolume state
    → HasCommitted state.cache.log.last.head.seq (cache_after_commit (frontier_end state) state.cache)
flush_has state h =
    commit_has state.cache.log.last.head.seq state.geometry.log (frontier_end state) (history_length state) state.cache
    (frontier_ends state h) (h.size, h.log) (omega arith)

entering_has : (state : PlainState) (entry : Entry) → IsPlainVolume state
    → HasCommitted state.cache.log.last.head.seq (cache_after state entry)
entering_has state entry h =
    let P : PlainCache → Type 0 = HasCommitted state.cache.log.last.head.seq in
    let same : P state.cache = omega arith in
    let ready : PlainCache = cache_for state entry in
    let is : P ready = either P (commits_for_room state entry) (cache_after_commit (frontier_end state) state.cache) state.cache
    (flush_has state h) same in
    let written : PlainCache = after_writes (writes_of ready.log entry) ready in
    let with_it : PlainCache = record written { log = with_record ready.log entry } in
    either P (is_some (batch_refusal state entry)) state.cache
    (cond (comes_to_log state entry) (cond (passes_entry ready entry) with_it written) ready) same
    (either P (comes_to_log state entry) (cond (passes_entry ready entry) with_it written) ready
    (either P (passes_entry ready entry) with_it written is is) is)

-- ---- and each keeps the entries

-- as many are committed at least, and the entries go on
abbrev GoesOn : PlainState → PlainState → Type 0
GoesOn state next =
    (state.cache.log.last.head.seq ≤ next.cache.log.last.head.seq)
    × ((more : List Entry) × (next.entries ≡ state.entries ++ more))

same_entries : (state : PlainState) → (more : List Entry) × (state.entries ≡ state.entries ++ more)
same_entries state = ([], sym (append-nil state.entries))

stays : (state : PlainState) → GoesOn state state
stays state = (omega arith, same_entries state)

either_goes_on : (state : PlainState) (b : Bool) (x y : PlainState) → GoesOn state x → GoesOn state y → GoesOn state (cond b x y)
either_goes_on state true x y h other = h
either_goes_on state false x y other h = h

taken_or_not : (entries : List Entry) (entry : Entry) (is_taken : Bool)
    → (more : List Entry) × (cond is_taken (entries ++ entry ∷ []) entries ≡ entries ++ more)
taken_or_not entries entry true = (entry ∷ [], refl)
taken_or_not entries entry false = ([], sym (append-nil entries))

entering_goes_on : (state : PlainState) (entry : Entry) (is_taken : Bool) → IsPlainVolume state
    → GoesOn state (record state {
      cache = cache_after state entry;
      entries = cond is_taken (state.entries ++ entry ∷ [])
          state.entries;
    })
entering_goes_on state entry is_taken h = (entering_has state entry h, taken_or_not state.entries entry is_taken)

removing_goes_on : (state : PlainState) (out lowest : Option ℕ) → GoesOn state (with_removal out lowest state)
removing_goes_on state None None = stays state
removing_goes_on state None (Some number) = stays state
removing_goes_on state (Some other) lowest = stays state

planning_goes_on : (state : PlainState) (out : Option (List CopiedSector)) (sectors : List CopiedSector)
    → GoesOn state (with_plan out sectors state)
planning_goes_on state (Some plan) sectors = stays state
planning_goes_on state None [] = stays state
planning_goes_on state None (first ∷ more) = stays state

copy_goes_on : (state : PlainState) (is_sealed : Bool) (out : Option (List CopiedSector))
    → GoesOn state (after_sealed_copy is_sealed out state)
copy_goes_on state is_sealed None = stays state
copy_goes_on state is_sealed (Some plan) =
    either_goes_on state is_sealed (with_copy plan state) state (stays state) (stays state)

goes_on : (state : PlainState) (event : PlainEvent) → IsPlainVolume state → GoesOn state (plain_after event state)
goes_on state (Write lba body) h =
    let entry : Entry = entries.Write lba body in
    entering_goes_on state entry (comes_to_log state entry && passes_entry (cache_for state entry) entry) h
goes_on state (Zero lba sectors) h =
    let entry : Entry = entries.Zero lba sectors in
    entering_goes_on state entry (comes_to_log state entry && passes_entry (cache_for state entry) entry) h
goes_on state Flush h = (flush_has state h, same_entries state)
goes_on state (Look lba sectors) h =
    either_goes_on state (may_transfer state.geometry lba sectors)
    (record state {
      cache = after_reads (look_calls state lba sectors) state.cache;
      pins = cond (passes_look state lba sectors) (state.pins ++ objects_read state lba sectors) state.pins;
    })
    state (stays state) (stays state)
goes_on state (Release numbers) h =
    either_goes_on state (are_pinned numbers state.pins) (record state { pins = without_pins numbers state.pins }) state
    (stays state) (stays state)
goes_on state Seal h =
    either_goes_on state (has_unsealed state && not (is_busy state))
    (record state {
      objects = state.objects ++ record { content = Data; end = end_of_next state } ∷ [];
      window = entered (state.window.last + 1) false state.window;
    })
    state (stays state) (stays state)
goes_on state TakeJob h = stays state
goes_on state (JobDone job) h = stays state
goes_on state (JobFailed job) h = stays state
goes_on state SealCheckpoint h =
    either_goes_on state (is_busy state) state (record state {
      objects =
          state.objects
          ++ record { content = Checkpoint; end = end_at (stream_in state) (last_number (stream_in state)) } ∷ [];
      window = entered (state.window.last + 1) true state.window;
    })
    (stays state) (stays state)
goes_on state TakeRemove h = removing_goes_on state state.removal (to_remove state)
goes_on state (RemoveDone number) h =
    either_goes_on state (is_out number state.removal)
    (record state { removed = state.removed ++ number ∷ []; removal = None }) state (stays state) (stays state)
goes_on state (RemoveFailed number) h =
    either_goes_on state (is_out number state.removal) (record state { removal = None }) state (stays state) (stays state)
goes_on state PlanCopy h = planning_goes_on state state.plan (planned_copy state)
goes_on state (SealCopy is_planned) h = copy_goes_on state (is_planned && not (is_busy state)) state.plan
goes_on state DropPlan h = stays state
goes_on state Status h = stays state

pub events_keep_committed : EventsKeepCommitted
events_keep_committed state event h = goes_on state event h
