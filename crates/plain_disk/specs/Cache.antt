-- Contract: the cache device of the plain volume, which may stop: its calls, the writes since the last sync, and the two halves
-- of a commit.
use Rattle.std.specs.Prelude.{ℕ, ◌+◌, ◌==◌, Option, Some, None, Bool, true, false, List, [], ◌∷◌, ◌++◌, length, take}
use Rattle.std.specs.Prelude.{if◌then◌else◌}
use Rattle.lsvd_base.specs.declared.entry.Entry.{Entry}
use Rattle.log_room.specs.Room.{record_sectors, pad_before}
use Rattle.lsvd_device.specs.Calls.{Fuse, passes, fuse_after}
use Rattle.lsvd_device.specs.Sequence.{passed_of}
use Rattle.lsvd_device.specs.declared.fate.Fate.{Fate}
use Rattle.lsvd_device.specs.declared.fate.Fate.TheVariants.{Kept}
use Rattle.plain_disk.specs.declared.cache.PendingWrite.{PendingWrite}
use Rattle.plain_disk.specs.declared.cache.PendingWrite.TheVariants.{Pad, Record, Body, ClosedGate, OpenedGate}
use Rattle.plain_disk.specs.declared.log.PlainCommit.{PlainCommit}
use Rattle.plain_disk.specs.Log.{PlainLog, next_seq, room_in, with_record, commit_from, with_commit}

-- The cache: its log, the calls that its device still passes where it was told to stop, and the writes since the last sync, in
-- their order.
pub record PlainCache : Type 0 where
  pub log : PlainLog
  pub left : Fuse
  pub pending : List PendingWrite

-- a cache with this log whose device fails no call, and on which nothing is pending
abbrev pub cache_with : PlainLog → PlainCache
cache_with log = record { log = log; left = None; pending = [] }

-- ---- calls

-- the cache after N reads were asked for
abbrev pub after_reads : (calls : ℕ) → PlainCache → PlainCache
after_reads calls cache = record cache { left = fuse_after cache.left calls }

-- and after writes were: those that the device passed are pending
abbrev pub after_writes : List PendingWrite → PlainCache → PlainCache
after_writes writes cache = record cache {
  left = fuse_after cache.left (length writes);
  pending = cache.pending ++ take (passed_of cache.left (length writes)) writes;
}

-- and after writes and a sync, which makes them durable
abbrev pub after_sync_of : List PendingWrite → PlainCache → PlainCache
after_sync_of writes cache =
    if passes cache.left (length writes + 1) then record cache { left = fuse_after cache.left (length writes + 1); pending = [] }
    else after_writes writes cache

-- ---- an entry

-- the writes of an entry, which have the next seq: that of its record, and that of a pad before it where one is needed
abbrev pub writes_of : PlainLog → Entry → List PendingWrite
writes_of log entry =
    if pad_before (room_in log) (record_sectors entry) == 0 then Record (next_seq log) ∷ []
    else Pad (next_seq log) ∷ Record (next_seq log) ∷ []

-- the device passes them
abbrev pub passes_entry : PlainCache → Entry → Bool
passes_entry cache entry = passes cache.left (length (writes_of cache.log entry))

-- the cache after an entry, which has its record in the log if the device passed its writes
abbrev pub cache_after_entry : Entry → PlainCache → PlainCache
cache_after_entry entry cache =
    let written : PlainCache = after_writes (writes_of cache.log entry) cache in
    if passes_entry cache entry then record written { log = with_record cache.log entry } else written

-- ---- a commit

-- the first half of a commit writes its body, closes the next gate, and syncs
abbrev pub after_first_half : PlainCommit → PlainCache → PlainCache
after_first_half commit cache =
    let synced : PlainCache = after_sync_of (Body ∷ ClosedGate ∷ []) cache in
    if passes cache.left 3 then record synced { log = record cache.log { unfinished = Some commit } } else synced

-- the second half opens its own gate, and syncs; then it is made
abbrev pub after_second_half : PlainCommit → PlainCache → PlainCache
after_second_half commit cache =
    let synced : PlainCache = after_sync_of (OpenedGate ∷ []) cache in
    if passes cache.left 2 then record synced { log = with_commit commit cache.log } else synced

-- a commit that is unfinished is finished first
abbrev pub after_finishing : Option PlainCommit → PlainCache → PlainCache
after_finishing None cache = cache
after_finishing (Some commit) cache = after_second_half commit cache

-- the calls of a commit, and before it of the second half of an unfinished one
abbrev pub commit_calls_after : Option PlainCommit → ℕ
commit_calls_after None = 5
commit_calls_after (Some commit) = 7

-- the device passes the calls of a commit
abbrev pub passes_commit : PlainCache → Bool
passes_commit cache = passes cache.left (commit_calls_after cache.log.unfinished)

-- both halves of a commit: what the device does not pass changes nothing
abbrev pub after_halves : PlainCommit → PlainCache → PlainCache
after_halves commit cache = after_second_half commit (after_first_half commit cache)

-- a commit of all entries whose tail is at the entry with this seq
abbrev pub cache_after_commit : (seq : ℕ) → PlainCache → PlainCache
cache_after_commit seq cache =
    let ready : PlainCache = after_finishing cache.log.unfinished cache in
    after_halves (commit_from seq ready.log) ready

-- ---- a stop

-- of the writes since the last sync, those that are kept; the opening of a gate is among them
abbrev pub keeps_opened_gate : List PendingWrite → (kept : List Bool) → Bool
keeps_opened_gate (OpenedGate ∷ writes) (true ∷ kept) = true
keeps_opened_gate (write ∷ writes) (is_kept ∷ kept) = keeps_opened_gate writes kept
keeps_opened_gate writes kept = false

-- a write that was not synced is kept
abbrev pub is_kept : Fate → Bool
is_kept Kept = true
is_kept fate = false

-- the commit that a stop leaves: the last one, or the unfinished one where the opening of its gate is kept
abbrev pub commit_or : Option PlainCommit → PlainCommit → PlainCommit
commit_or None last = last
commit_or (Some commit) last = commit

abbrev pub kept_commit : (kept : List Bool) → PlainCache → PlainCommit
kept_commit kept cache = if keeps_opened_gate cache.pending kept then commit_or cache.log.unfinished cache.log.last else
    cache.log.last
