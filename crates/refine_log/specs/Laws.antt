-- Contract: each call of the log does what the plain volume's log does.
use Rattle.std.specs.Prelude.{◌≡◌, ℕ, ◌<◌, ◌≤◌, Bool, true, false, List, length}
use Rattle.lsvd_base.specs.declared.entry.Entry.{Entry}
use Rattle.lsvd_device.specs.Calls.{Fuse, Cost, passes, fuse_after}
use Rattle.lsvd_device.specs.Device.{DiskState}
use Rattle.lsvd_device.specs.Memory.{HasRoom}
use Rattle.log_room.specs.Room.{max_log, record_sectors}
use Rattle.commit_slot.specs.Commits.{IsAsBefore, IsMade, commit_cost}
use Rattle.commit_slot.specs.Committing.{FailsToCommit}
use Rattle.commit_slot.specs.Sequence.{Costs, commit_calls}
use Rattle.cache_log.specs.Log.{LogState, next_seq, append_cost, IsTrimmed, IsAppended, CostsAppend, HasSameEntries}
use Rattle.cache_log.specs.Committed.{body_of, HasSameList, IsReleased, IsFormattedLog}
use Rattle.plain_disk.specs.Log.{PlainLog, empty_from, with_record, record_of_next}
use Rattle.plain_disk.specs.Cache.{PlainCache, writes_of, commit_calls_after, passes_commit, cache_after_commit}
use Rattle.refine_log.specs.Shows.{ShowsLog}
use Rattle.refine_log.specs.Fuses.{fuse_in, LetsCommit}

-- ---- the list

-- a log that was just formatted shows an empty one
abbrev pub FormattedShowsEmpty : Type 0
FormattedShowsEmpty =
    (uuid : List ℕ) (epoch first : ℕ) (old : DiskState) (log : LogState) → 0 < log.room.log → log.room.log ≤ max_log
    → IsFormattedLog uuid epoch first old log → ShowsLog log (empty_from log.room.log first)

-- a log shows what it showed while calls fail, and while entries are dropped from its list, up to the next one
abbrev pub SameShowsSame : Type 0
SameShowsSame =
    (old new : LogState) (plain : PlainLog) → ShowsLog old plain → HasSameEntries old new → IsAsBefore old.commits new.commits
    → ShowsLog new plain

abbrev pub TrimmedShowsSame : Type 0
TrimmedShowsSame =
    (old new : LogState) (plain : PlainLog) (seq : ℕ) → ShowsLog old plain → seq ≤ next_seq old → IsTrimmed seq old new
    → ShowsLog new plain

-- an entry that was appended has the record of the next one, where it had room
abbrev pub AppendedShowsRecord : Type 0
AppendedShowsRecord =
    (old new : LogState) (plain : PlainLog) (entry : Entry) (at : ℕ)
    → ShowsLog old plain → IsAppended entry at old new → IsAsBefore old.commits new.commits
    → ShowsLog new (with_record plain entry) × (at ≡ (record_of_next plain entry).at)

-- ---- commits

-- A commit, that was made or failed, does what a commit of the plain cache does whose fuse lets it get as far.
abbrev pub CommitShowsCommit : Type 0
CommitShowsCommit =
    (old new : LogState) (cache : PlainCache) (is_made : Bool)
    → ShowsLog old cache.log → HasSameList old new → IsReleased old new
    → (is_made ≡ true → IsMade (body_of old) old.commits new.commits)
    → LetsCommit cache.left is_made (body_of old) old.commits new.commits
    → ShowsLog new (cache_after_commit old.first cache).log × (passes_commit cache ≡ is_made)

-- ---- fuses

-- A fuse is the disk's own, where it is told and the disk has room for the calls, and so it is after them.
abbrev pub IsToldFuse : Fuse → Cost → (old new : DiskState) → Type 0
IsToldFuse fuse cost old new =
    HasRoom cost.changes cost.bytes old.budget → (fuse ≡ fuse_in old.budget) × (fuse_in new.budget ≡ fuse_after fuse cost.calls)

-- some fuse lets a commit get as far as it got
pub record HasFuse (old new : LogState) (is_made : Bool) : Type 0 where
  pub fuse : Fuse
  pub lets : LetsCommit fuse is_made (body_of old) old.commits new.commits
  pub told : IsToldFuse fuse (commit_cost old.commits.unfinished) old.commits.disk new.commits.disk

-- what is told of the calls of a commit
abbrev pub CostsCommit : (is_made : Bool) → (old new : LogState) → Type 0
CostsCommit is_made old new =
    Costs (commit_cost old.commits.unfinished) (commit_calls old.commits.number old.commits.unfinished (body_of old)) is_made
    old.commits.disk new.commits.disk

-- a commit that was made has one, and so has one that failed
abbrev pub MadeCommitHasFuse : Type 0
MadeCommitHasFuse = (old new : LogState) → CostsCommit true old new → HasFuse old new true

abbrev pub FailedCommitHasFuse : Type 0
FailedCommitHasFuse =
    (old new : LogState) → CostsCommit false old new → FailsToCommit (body_of old) old.commits new.commits → HasFuse old new false

-- some fuse passes the writes of an entry exactly where they were made
pub record HasFuseForEntry (old new : LogState) (plain : PlainLog) (entry : Entry) (are_made : Bool) : Type 0 where
  pub fuse : Fuse
  pub lets : passes fuse (length (writes_of plain entry)) ≡ are_made
  pub told : IsToldFuse fuse (append_cost old.room (record_sectors entry)) old.commits.disk new.commits.disk
  pub count : length (writes_of plain entry) ≡ (append_cost old.room (record_sectors entry)).calls

-- so it is of each entry whose writes were made, or one of which failed
abbrev pub EntryHasFuse : Type 0
EntryHasFuse =
    (old new : LogState) (plain : PlainLog) (entry : Entry) (seq : ℕ) (are_made : Bool)
    → ShowsLog old plain → CostsAppend old.room entry seq are_made old.commits.disk new.commits.disk
    → HasFuseForEntry old new plain entry are_made

-- a commit of the plain cache takes its calls, also where it fails
abbrev pub PlainCommitTakesCalls : Type 0
PlainCommitTakesCalls =
    (seq : ℕ) (cache : PlainCache) → (cache_after_commit seq cache).left ≡ fuse_after cache.left
    (commit_calls_after cache.log.unfinished)
