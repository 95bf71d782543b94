-- What an entry answers and leaves in the plain volume, by what is known of its log.
use Rattle.std.proofs.Common.{◌≡◌, ℕ, ◌+◌, Bool, true, false, not, ◌&&◌, ◌||◌, if◌then◌else◌, List, [], ◌∷◌, ◌++◌, length, refl}
use Rattle.std.proofs.Common.{◌∙◌, ap}
use Rattle.std.specs.Prelude.{Some, None, is_some, unwrap_or}
use Rattle.lsvd_base.specs.declared.entry.Entry.{Entry}
use Rattle.lsvd_device.specs.Calls.{Fuse, fuse_after}
use Rattle.log_room.specs.Room.{need, free, record_sectors}
use Rattle.plain_disk.specs.declared.event.PlainReply.{PlainReply}
use Rattle.plain_disk.specs.declared.event.PlainReply.TheVariants.{Entered, NoRoom, Fault}
use Rattle.plain_disk.specs.Log.{PlainLog, room_in, with_record}
use Rattle.plain_disk.specs.Cache.{PlainCache, writes_of, after_writes, passes_entry, passes_commit, cache_after_entry}
use Rattle.plain_disk.specs.Cache.{cache_after_commit}
use Rattle.plain_disk.specs.State.{PlainState, history_length, frontier_end}
use Rattle.plain_disk.specs.Entries.{batch_refusal, has_room_for, commits_for_room, commits_are_made, cache_for, comes_to_log}
use Rattle.plain_disk.specs.Entries.{room_reply, enter_reply, after_entering}
use Rattle.plain_disk.specs.Step.{is_refusal}

-- an entry answers this, and leaves this log, these calls and these entries
pub record EntersPlain (state : PlainState) (entry : Entry) (reply : PlainReply) (log : PlainLog) (left : Fuse)
    (entries : List Entry) : Type 0 where
  pub reply_is : enter_reply state entry ≡ reply
  pub log_is : (after_entering entry state).cache.log ≡ log
  pub left_is : (after_entering entry state).cache.left ≡ left
  pub entries_are : (after_entering entry state).entries ≡ entries

-- ---- by cases

-- the cache that is left: the entry is refused, or comes to the log, and its writes pass
abbrev cache_by_case : (is_refused comes passes : Bool) (before ready : PlainCache) → Entry → PlainCache
cache_by_case is_refused comes passes before ready entry =
    if is_refused then before else
    (if comes then
    (let written : PlainCache =
    after_writes (writes_of ready.log entry) ready in if passes then record written { log = with_record ready.log entry }
    else written)
    else ready)

abbrev entries_by_case : (comes passes : Bool) → List Entry → Entry → List Entry
entries_by_case comes passes entries entry = if comes && passes then entries ++ entry ∷ [] else entries

abbrev reply_by_case : (made room passes : Bool) → (no_room entered : PlainReply) → PlainReply
reply_by_case made room passes no_room entered =
    if not made then Fault else (if not room then no_room else (if passes then entered else Fault))

-- how want of room in a cache is told
abbrev pub no_room_in : PlainCache → Entry → PlainReply
no_room_in ready entry = NoRoom (need (room_in ready.log) (record_sectors entry)) (free (room_in ready.log))

-- ---- refused by the batch

pub refused_cache : (state : PlainState) (entry : Entry) (reply : PlainReply) → batch_refusal state entry ≡ Some reply
    → (after_entering entry state).cache ≡ state.cache
refused_cache state entry reply is =
    let ready : PlainCache = cache_for state entry in
    ap (λ r. cache_by_case (is_some r) (not (is_some r) && commits_are_made state entry && has_room_for ready entry)
    (passes_entry ready entry) state.cache ready entry) is

pub batch_refuses : (state : PlainState) (entry : Entry) (reply : PlainReply) → batch_refusal state entry ≡ Some reply
    → EntersPlain state entry reply state.cache.log state.cache.left state.entries
batch_refuses state entry reply is =
    let ready : PlainCache = cache_for state entry in
    let cache = refused_cache state entry reply is in
    record {
      reply_is = ap (λ r. unwrap_or r (room_reply state ready entry)) is;
      log_is = ap (λ c. c.log) cache;
      left_is = ap (λ c. c.left) cache;
      entries_are = ap (λ r. entries_by_case (not (is_some r) && commits_are_made state entry && has_room_for ready entry)
          (passes_entry ready entry) state.entries entry) is;
    }

-- ---- taken by the batch

-- the batch takes the entry, and the cache that it comes to is this one, where the commit for room was made or not
pub record ComesToCache (state : PlainState) (entry : Entry) (ready : PlainCache) (made : Bool) : Type 0 where
  pub taken : batch_refusal state entry ≡ None
  pub ready_is : cache_for state entry ≡ ready
  pub made_is : commits_are_made state entry ≡ made

module _ (state : PlainState) (entry : Entry) (ready : PlainCache) (made room passes : Bool)
    (comes : ComesToCache state entry ready made)
    (has : has_room_for ready entry ≡ room) (passed : passes_entry ready entry ≡ passes) where
  reply_by : enter_reply state entry ≡ reply_by_case made room passes (no_room_in ready entry)
      (Entered (history_length state + 1))
  reply_by =
      ap (λ r. unwrap_or r (room_reply state (cache_for state entry) entry)) comes.taken
      ∙ ap (λ c. room_reply state c entry) comes.ready_is
      ∙ ap (λ b. reply_by_case b (has_room_for ready entry) (passes_entry ready entry) (no_room_in ready entry)
      (Entered (history_length state + 1))) comes.made_is
      ∙ ap (λ b. reply_by_case made b (passes_entry ready entry) (no_room_in ready entry) (Entered (history_length state + 1)))
      has
      ∙ ap (λ b. reply_by_case made room b (no_room_in ready entry) (Entered (history_length state + 1))) passed

  comes_by : comes_to_log state entry ≡ (made && room)
  comes_by =
      ap (λ r. not (is_some r) && commits_are_made state entry && has_room_for (cache_for state entry) entry) comes.taken
      ∙ ap (λ c. commits_are_made state entry && has_room_for c entry) comes.ready_is
      ∙ ap (λ b. b && has_room_for ready entry) comes.made_is
      ∙ ap (λ b. made && b) has

  passes_by : passes_entry (cache_for state entry) entry ≡ passes
  passes_by = ap (λ c. passes_entry c entry) comes.ready_is ∙ passed

  cache_by : (after_entering entry state).cache ≡ cache_by_case false (made && room) passes state.cache ready entry
  cache_by =
      ap (λ r. cache_by_case (is_some r) (comes_to_log state entry) (passes_entry (cache_for state entry) entry) state.cache
      (cache_for state entry) entry) comes.taken
      ∙ ap (λ b. cache_by_case false b (passes_entry (cache_for state entry) entry) state.cache (cache_for state entry) entry)
      comes_by
      ∙ ap (λ b. cache_by_case false (made && room) b state.cache (cache_for state entry) entry) passes_by
      ∙ ap (λ c. cache_by_case false (made && room) passes state.cache c entry) comes.ready_is

  entries_by : (after_entering entry state).entries ≡ entries_by_case (made && room) passes state.entries entry
  entries_by =
      ap (λ b. entries_by_case b (passes_entry (cache_for state entry) entry) state.entries entry) comes_by
      ∙ ap (λ b. entries_by_case (made && room) b state.entries entry) passes_by

-- the commit for room failed
pub commit_failed : (state : PlainState) (entry : Entry) (ready : PlainCache) → ComesToCache state entry ready false
    → EntersPlain state entry Fault ready.log ready.left state.entries
commit_failed state entry ready comes =
    let room : Bool = has_room_for ready entry in
    let passes : Bool = passes_entry ready entry in
    let cache = cache_by state entry ready false room passes comes refl refl in
    record {
      reply_is = reply_by state entry ready false room passes comes refl refl;
      log_is = ap (λ c. c.log) cache;
      left_is = ap (λ c. c.left) cache;
      entries_are = entries_by state entry ready false room passes comes refl refl;
    }

-- there is no room for the entry's record
pub has_no_room : (state : PlainState) (entry : Entry) (ready : PlainCache) → ComesToCache state entry ready true
    → has_room_for ready entry ≡ false
    → EntersPlain state entry (no_room_in ready entry) ready.log ready.left state.entries
has_no_room state entry ready comes none =
    let passes : Bool = passes_entry ready entry in
    let cache = cache_by state entry ready true false passes comes none refl in
    record {
      reply_is = reply_by state entry ready true false passes comes none refl;
      log_is = ap (λ c. c.log) cache;
      left_is = ap (λ c. c.left) cache;
      entries_are = entries_by state entry ready true false passes comes none refl;
    }

-- its writes do not pass
pub write_failed : (state : PlainState) (entry : Entry) (ready : PlainCache) → ComesToCache state entry ready true
    → has_room_for ready entry ≡ true
    → passes_entry ready entry ≡ false
    → EntersPlain state entry Fault ready.log (fuse_after ready.left (length (writes_of ready.log entry))) state.entries
write_failed state entry ready comes has stopped =
    let cache = cache_by state entry ready true true false comes has stopped in
    record {
      reply_is = reply_by state entry ready true true false comes has stopped;
      log_is = ap (λ c. c.log) cache;
      left_is = ap (λ c. c.left) cache;
      entries_are = entries_by state entry ready true true false comes has stopped;
    }

-- and they pass
pub entry_taken : (state : PlainState) (entry : Entry) (ready : PlainCache) → ComesToCache state entry ready true
    → has_room_for ready entry ≡ true
    → passes_entry ready entry ≡ true
    → EntersPlain state entry (Entered (history_length state + 1)) (with_record ready.log entry)
    (fuse_after ready.left (length (writes_of ready.log entry)))
    (state.entries ++ entry ∷ [])
entry_taken state entry ready comes has passed =
    let cache = cache_by state entry ready true true true comes has passed in
    record {
      reply_is = reply_by state entry ready true true true comes has passed;
      log_is = ap (λ c. c.log) cache;
      left_is = ap (λ c. c.left) cache;
      entries_are = entries_by state entry ready true true true comes has passed;
    }

-- memory or not, an entry that the batch takes is not refused
pub entry_is_taken : (state : PlainState) (entry : Entry) → batch_refusal state entry ≡ None
    → is_refusal (enter_reply state entry) ≡ false
entry_is_taken state entry taken =
    let ready : PlainCache = cache_for state entry in
    ap (λ r. is_refusal (unwrap_or r (room_reply state ready entry))) taken
    ∙ by_case (commits_are_made state entry) (has_room_for ready entry) (passes_entry ready entry) ready entry
    (history_length state + 1)
  where
    by_case : (made room passes : Bool) (ready : PlainCache) (entry : Entry) (count : ℕ)
        → is_refusal (reply_by_case made room passes (no_room_in ready entry) (Entered count)) ≡ false
    by_case false room passes ready entry count = refl
    by_case true false passes ready entry count = refl
    by_case true true false ready entry count = refl
    by_case true true true ready entry count = refl

-- ---- the cache that is left

pub failed_cache : (state : PlainState) (entry : Entry) (ready : PlainCache) → ComesToCache state entry ready false
    → (after_entering entry state).cache ≡ ready
failed_cache state entry ready comes =
    cache_by state entry ready false (has_room_for ready entry) (passes_entry ready entry) comes refl refl

pub full_cache : (state : PlainState) (entry : Entry) (ready : PlainCache) → ComesToCache state entry ready true
    → has_room_for ready entry ≡ false
    → (after_entering entry state).cache ≡ ready
full_cache state entry ready comes none = cache_by state entry ready true false (passes_entry ready entry) comes none refl

pub entered_cache : (state : PlainState) (entry : Entry) (ready : PlainCache) → ComesToCache state entry ready true
    → has_room_for ready entry ≡ true
    → (after_entering entry state).cache ≡ cache_after_entry entry ready
entered_cache state entry ready comes has = cache_by state entry ready true true (passes_entry ready entry) comes has refl

-- ---- the cache that it comes to

-- where it has room, or a commit would release no records
pub comes_at_once : (state : PlainState) (entry : Entry) → batch_refusal state entry ≡ None → commits_for_room state entry ≡ false
    → ComesToCache state entry state.cache true
comes_at_once state entry taken none = record {
  taken = taken;
  ready_is = ap (λ b. if b then cache_after_commit (frontier_end state) state.cache else state.cache) none;
  made_is = ap (λ b. not b || passes_commit state.cache) none;
}

pub comes_after_commit : (state : PlainState) (entry : Entry) (made : Bool) → batch_refusal state entry ≡ None
    → commits_for_room state entry ≡ true
    → passes_commit state.cache ≡ made
    → ComesToCache state entry (cache_after_commit (frontier_end state) state.cache) made
comes_after_commit state entry made taken first passed = record {
  taken = taken;
  ready_is = ap (λ b. if b then cache_after_commit (frontier_end state) state.cache else state.cache) first;
  made_is = ap (λ b. not b || passes_commit state.cache) first ∙ passed;
}
