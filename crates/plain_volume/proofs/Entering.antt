-- What an entry answers and leaves, by whether its record was written.
use Rattle.std.proofs.Common.{◌≡◌, ℕ, ◌+◌, Bool, true, false, not, ◌&&◌, ◌||◌, if◌then◌else◌, Option, Some, None, is_some}
use Rattle.std.proofs.Common.{unwrap_or, List, [], ◌∷◌, ◌++◌, refl, sym, ap, ◌∙◌}
use Rattle.lsvd_base.specs.declared.entry.Entry.{Entry}
use Rattle.log_room.specs.Room.{need, free, record_sectors}
use Rattle.plain_disk.specs.declared.event.PlainReply.{PlainReply}
use Rattle.plain_disk.specs.declared.event.PlainReply.TheVariants.{Entered, NoRoom, Fault}
use Rattle.plain_disk.specs.Log.{room_in}
use Rattle.plain_disk.specs.Cache.{PlainCache, passes_entry, cache_after_entry, passes_commit}
use Rattle.plain_disk.specs.State.{PlainState, history_length, frontier_end, unsealed_entries}
use Rattle.plain_disk.specs.Entries.{has_room_for, batch_refusal, batch_refusal_of, commits_for_room, commits_are_made, cache_for}
use Rattle.plain_disk.specs.Entries.{room_reply}
use Rattle.plain_disk.specs.Entries.{enter_reply, after_entering}
use Rattle.plain_volume.specs.Fields.{record_refusal, cache_with_record}

-- A commit comes first or not, and is made or not; then there is room or not, and the record's writes pass or not.
abbrev refusal_of : (first made room passes : Bool) → (no_room : PlainReply) → Option PlainReply
refusal_of first made room passes no_room =
    if first && not made then Some Fault else (if not room then Some no_room else (if passes then None else Some Fault))

abbrev answer_of : (first made room passes : Bool) → (no_room entered : PlainReply) → PlainReply
answer_of first made room passes no_room entered =
    if not (not first || made) then Fault else (if not room then no_room else (if passes then entered else Fault))

refused_by : (first made room passes : Bool) (no_room entered reply : PlainReply) → refusal_of first made room passes no_room
    ≡ Some reply
    → reply ≡ answer_of first made room passes no_room entered
refused_by true false room passes no_room entered reply is = cc
refused_by true true false passes no_room entered reply is = cc
refused_by true true true true no_room entered reply is = cc
refused_by true true true false no_room entered reply is = cc
refused_by false made false passes no_room entered reply is = cc
refused_by false made true true no_room entered reply is = cc
refused_by false made true false no_room entered reply is = cc

taken_by : (first made room passes : Bool) (no_room entered : PlainReply) → refusal_of first made room passes no_room ≡ None
    → entered ≡ answer_of first made room passes no_room entered
taken_by true false room passes no_room entered is = cc
taken_by true true false passes no_room entered is = cc
taken_by true true true true no_room entered is = refl
taken_by true true true false no_room entered is = cc
taken_by false made false passes no_room entered is = cc
taken_by false made true true no_room entered is = refl
taken_by false made true false no_room entered is = cc

cache_by : (first made room : Bool) (ready written : PlainCache)
    → (if (first && not made) || not room then ready else written)
    ≡ (if not false && (not first || made) && room then written else ready)
cache_by true false true ready written = refl
cache_by true false false ready written = refl
cache_by true true true ready written = refl
cache_by true true false ready written = refl
cache_by false made true ready written = refl
cache_by false made false ready written = refl

refused_keeps : (first made room passes : Bool) (no_room reply : PlainReply) (entries longer : List Entry)
    → refusal_of first made room passes no_room ≡ Some reply
    → entries ≡ (if (not false && (not first || made) && room) && passes then longer else entries)
refused_keeps true false true passes no_room reply entries longer is = refl
refused_keeps true false false passes no_room reply entries longer is = refl
refused_keeps true true true true no_room reply entries longer is = cc
refused_keeps true true true false no_room reply entries longer is = refl
refused_keeps true true false passes no_room reply entries longer is = refl
refused_keeps false made true true no_room reply entries longer is = cc
refused_keeps false made true false no_room reply entries longer is = refl
refused_keeps false made false passes no_room reply entries longer is = refl

taken_adds : (first made room passes : Bool) (no_room : PlainReply) (entries longer : List Entry)
    → refusal_of first made room passes no_room ≡ None
    → longer ≡ (if (not false && (not first || made) && room) && passes then longer else entries)
taken_adds true false true passes no_room entries longer is = cc
taken_adds true false false passes no_room entries longer is = cc
taken_adds true true true true no_room entries longer is = refl
taken_adds true true true false no_room entries longer is = cc
taken_adds true true false passes no_room entries longer is = cc
taken_adds false made true true no_room entries longer is = refl
taken_adds false made true false no_room entries longer is = cc
taken_adds false made false passes no_room entries longer is = cc

-- ---- of a volume

abbrev no_room_for : PlainCache → Entry → PlainReply
no_room_for ready entry = NoRoom (need (room_in ready.log) (record_sectors entry)) (free (room_in ready.log))

pub enter_refused : (state : PlainState) (entry : Entry) (reply : PlainReply) → batch_refusal state entry ≡ None
    → record_refusal state.cache (frontier_end state) entry ≡ Some reply → reply ≡ enter_reply state entry
enter_refused state entry reply none is =
    let ready : PlainCache = cache_for state entry in
    refused_by (commits_for_room state entry) (passes_commit state.cache) (has_room_for ready entry) (passes_entry ready entry)
    (no_room_for ready entry) (Entered (history_length state + 1)) reply is
    ∙ sym (ap (λ refusal. unwrap_or refusal (room_reply state ready entry)) none)

pub enter_taken : (state : PlainState) (entry : Entry) → batch_refusal state entry ≡ None
    → record_refusal state.cache (frontier_end state) entry ≡ None → Entered (history_length state + 1) ≡ enter_reply state entry
enter_taken state entry none is =
    let ready : PlainCache = cache_for state entry in
    taken_by (commits_for_room state entry) (passes_commit state.cache) (has_room_for ready entry) (passes_entry ready entry)
    (no_room_for ready entry) (Entered (history_length state + 1)) is
    ∙ sym (ap (λ refusal. unwrap_or refusal (room_reply state ready entry)) none)

-- what is left, by why the batch refuses it
abbrev left_by : PlainState → Entry → Option PlainReply → PlainState
left_by state entry refusal = record state {
  cache =
      if is_some refusal then state.cache else
      (if not (is_some refusal) && commits_are_made state entry && has_room_for (cache_for state entry) entry
      then cache_after_entry entry (cache_for state entry) else cache_for state entry);
  entries =
      if (not (is_some refusal) && commits_are_made state entry && has_room_for (cache_for state entry) entry)
      && passes_entry (cache_for state entry) entry then state.entries ++ entry ∷ [] else state.entries;
}

with_parts : (state : PlainState) (c d : PlainCache) (xs ys : List Entry) → c ≡ d → xs ≡ ys
    → (let old : PlainState = record state { cache = c; entries = xs } in old) ≡ (let new : PlainState =
    record state { cache = d; entries = ys } in new)
with_parts state c d xs ys same_cache same_entries =
    ap (λ (x : PlainCache). let s : PlainState = record state { cache = x; entries = xs } in s) same_cache
    ∙ ap (λ (x : List Entry). let s : PlainState = record state { cache = d; entries = x } in s) same_entries

pub refused_leaves : (state : PlainState) (entry : Entry) (reply : PlainReply) (cache : PlainCache) (entries : List Entry)
    → batch_refusal state entry ≡ None → record_refusal state.cache (frontier_end state) entry ≡ Some reply
    → cache ≡ cache_with_record state.cache (frontier_end state) entry → entries ≡ state.entries
    → (let new : PlainState = record state { cache = cache; entries = entries } in new) ≡ after_entering entry state
refused_leaves state entry reply cache entries none is written same =
    let ready : PlainCache = cache_for state entry in
    let first = commits_for_room state entry in
    let made = passes_commit state.cache in
    let room = has_room_for ready entry in
    with_parts state _ _ _ _
    (written ∙ cache_by first made room ready (cache_after_entry entry ready))
    (same ∙ refused_keeps first made room (passes_entry ready entry) (no_room_for ready entry) reply state.entries
    (state.entries ++ entry ∷ []) is)
    ∙ sym (ap (left_by state entry) none)

pub taken_leaves : (state : PlainState) (entry : Entry) (cache : PlainCache) (entries : List Entry)
    → batch_refusal state entry ≡ None → record_refusal state.cache (frontier_end state) entry ≡ None
    → cache ≡ cache_with_record state.cache (frontier_end state) entry → entries ≡ state.entries ++ entry ∷ []
    → (let new : PlainState = record state { cache = cache; entries = entries } in new) ≡ after_entering entry state
taken_leaves state entry cache entries none is written longer =
    let ready : PlainCache = cache_for state entry in
    let first = commits_for_room state entry in
    let made = passes_commit state.cache in
    let room = has_room_for ready entry in
    with_parts state _ _ _ _
    (written ∙ cache_by first made room ready (cache_after_entry entry ready))
    (longer ∙ taken_adds first made room (passes_entry ready entry) (no_room_for ready entry) state.entries
    (state.entries ++ entry ∷ []) is)
    ∙ sym (ap (left_by state entry) none)

-- what is known once a record was to be written
pub record IsWritten (state : PlainState) (entry : Entry) (refusal : Option PlainReply) (cache : PlainCache) : Type 0 where
  pub none : batch_refusal state entry ≡ None
  pub refused : refusal ≡ record_refusal state.cache (frontier_end state) entry
  pub written : cache ≡ cache_with_record state.cache (frontier_end state) entry

pub written_is : (state now : PlainState) (entry : Entry) (unsealed : List Entry) (copied cache : PlainCache) (end : ℕ)
    (refusal : Option PlainReply)
    → state ≡ now → unsealed ≡ unsealed_entries state → batch_refusal_of state.geometry unsealed entry ≡ None
    → copied ≡ state.cache → end ≡ frontier_end now → refusal ≡ record_refusal copied end entry
    → cache ≡ cache_with_record copied end entry
    → IsWritten state entry refusal cache
written_is state now entry unsealed copied cache end refusal sees listed none same ends refuses writes =
    let at : end ≡ frontier_end state = ends ∙ sym (ap frontier_end sees) in
    record {
      none = sym (ap (λ (l : List Entry). batch_refusal_of state.geometry l entry) listed) ∙ none;
      refused =
          refuses ∙ ap (λ (k : PlainCache). record_refusal k end entry) same
          ∙ ap (λ (n : ℕ). record_refusal state.cache n entry) at;
      written =
          writes ∙ ap (λ (k : PlainCache). cache_with_record k end entry) same
          ∙ ap (λ (n : ℕ). cache_with_record state.cache n entry) at;
    }
