-- Contract: what a write or a zeroing of the plain volume answers and leaves, and a flush.
use Rattle.std.specs.Prelude.{◌+◌, Option, Some, is_some, unwrap_or, option_map, Bool, not, ◌&&◌, ◌||◌, nat_lt, nat_le}
use Rattle.std.specs.Prelude.{List, [], ◌∷◌, ◌++◌, length, if◌then◌else◌}
use Rattle.std.specs.List.{sum_by}
use Rattle.lsvd_base.specs.declared.entry.Entry.{Entry}
use Rattle.lsvd_base.specs.declared.geometry.Geometry.{Geometry}
use Rattle.lsvd_base.specs.Range.{is_in_range}
use Rattle.batcher.specs.Batch.{data_sectors, fullness}
use Rattle.batcher.specs.declared.full.Full.{Full}
use Rattle.batcher.specs.declared.full.Full.TheVariants as full
use Rattle.log_room.specs.Room.{need, free, record_sectors}
use Rattle.plain_disk.specs.declared.event.PlainReply.{PlainReply}
use Rattle.plain_disk.specs.declared.event.PlainReply.TheVariants.{Entered, Flushed, BatchFull, EntriesFull, NoRoom, Range, Fault}
use Rattle.plain_disk.specs.Log.{room_in}
use Rattle.plain_disk.specs.Cache.{PlainCache, passes_entry, cache_after_entry, passes_commit, cache_after_commit}
use Rattle.plain_disk.specs.State.{PlainState, history_length, frontier_end, unsealed_entries}

-- ---- a flush

-- a flush is a commit, whose tail is at the frontier's end
abbrev pub after_flush : PlainState → PlainState
after_flush state = record state { cache = cache_after_commit (frontier_end state) state.cache }

abbrev pub flush_reply : PlainState → PlainReply
flush_reply state = if passes_commit state.cache then Flushed (history_length state) else Fault

-- ---- an entry

-- how a full batch is told
abbrev pub reply_of_full : Full → PlainReply
reply_of_full (full.Sectors sectors) = BatchFull sectors
reply_of_full (full.Entries count) = EntriesFull count

-- why a volume with these unsealed entries does not take an entry, whatever room its log has: the entry is out of range, or the
-- batch is full
abbrev pub batch_refusal_of : Geometry → (unsealed : List Entry) → Entry → Option PlainReply
batch_refusal_of geometry unsealed entry =
    if is_in_range geometry entry
    then option_map reply_of_full (fullness geometry.batch (sum_by data_sectors unsealed) (length unsealed))
    else Some Range

abbrev pub batch_refusal : PlainState → Entry → Option PlainReply
batch_refusal state entry = batch_refusal_of state.geometry (unsealed_entries state) entry

-- the log has room for the entry's record
abbrev pub has_room_for : PlainCache → Entry → Bool
has_room_for cache entry = nat_le (need (room_in cache.log) (record_sectors entry)) (free (room_in cache.log))

-- a commit would release records, since the frontier's end is past its tail, and the entry has no room without it
abbrev pub commits_for_room : PlainState → Entry → Bool
commits_for_room state entry =
    not (has_room_for state.cache entry) && nat_lt state.cache.log.last.tail.seq (frontier_end state)

-- the cache that the entry comes to: where it has no room a commit was made for it, if that releases any
abbrev pub cache_for : PlainState → Entry → PlainCache
cache_for state entry =
    if commits_for_room state entry then cache_after_commit (frontier_end state) state.cache else state.cache

-- the commit for room, if there was to be one, was made
abbrev pub commits_are_made : PlainState → Entry → Bool
commits_are_made state entry = not (commits_for_room state entry) || passes_commit state.cache

-- what an entry answers that the batch takes
abbrev pub room_reply : PlainState → (ready : PlainCache) → Entry → PlainReply
room_reply state ready entry =
    if not (commits_are_made state entry) then Fault else
    (if not (has_room_for ready entry) then NoRoom (need (room_in ready.log) (record_sectors entry))
    (free (room_in ready.log)) else
    (if passes_entry ready entry then Entered (history_length state + 1) else Fault))

abbrev pub enter_reply : PlainState → Entry → PlainReply
enter_reply state entry = unwrap_or (batch_refusal state entry) (room_reply state (cache_for state entry) entry)

-- the entry comes to the log
abbrev pub comes_to_log : PlainState → Entry → Bool
comes_to_log state entry =
    not (is_some (batch_refusal state entry)) && commits_are_made state entry && has_room_for (cache_for state entry) entry

-- the cache after an entry
abbrev pub cache_after : PlainState → Entry → PlainCache
cache_after state entry =
    if is_some (batch_refusal state entry) then state.cache else
    (if comes_to_log state entry then cache_after_entry entry (cache_for state entry) else cache_for state entry)

-- what an entry leaves: one that is taken is the next of the history
abbrev pub after_entering : Entry → PlainState → PlainState
after_entering entry state = record state {
  cache = cache_after state entry;
  entries =
      if comes_to_log state entry && passes_entry (cache_for state entry) entry then state.entries ++ entry ∷ [] else
      state.entries;
}
