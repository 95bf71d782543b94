-- Contract: each call of the log, on a device that fails by its fuse alone, leaves the pending writes that it leaves of the plain
-- cache.
use Rattle.std.specs.Prelude.{◌≡◌, ℕ, Bool, true, false, Some, None, is_some, IsTrue, []}
use Rattle.lsvd_base.specs.declared.entry.Entry.{Entry}
use Rattle.lsvd_device.specs.Calls.{Cost}
use Rattle.lsvd_device.specs.Device.{DiskState}
use Rattle.lsvd_device.specs.Memory.{HasRoom, IsSynced}
use Rattle.lsvd_device.specs.Stop.{HasNow}
use Rattle.log_room.specs.Room.{record_sectors}
use Rattle.commit_slot.specs.Commits.{IsAsBefore, IsMade, commit_cost}
use Rattle.commit_slot.specs.Committing.{FailsToCommit}
use Rattle.cache_log.specs.Log.{LogState, next_seq, append_cost, CostsAppend}
use Rattle.cache_log.specs.Committed.{body_of, IsOnDisk}
use Rattle.plain_disk.specs.Cache.{PlainCache, cache_after_entry, cache_after_commit}
use Rattle.refine_log.specs.Shows.{ShowsLog}
use Rattle.refine_log.specs.Fuses.{fuse_in}
use Rattle.refine_log.specs.Laws.{CostsCommit}
use Rattle.refine_log.specs.Pending.{ShowsPending}

-- the cache passes the calls that the disk does, which has room for calls of this cost
pub record CanTake (cost : Cost) (disk : DiskState) (cache : PlainCache) : Type 0 where
  pub left : cache.left ≡ fuse_in disk.budget
  pub room : HasRoom cost.changes cost.bytes disk.budget

-- nothing is pending on a disk that was just synced, where no commit is unfinished
abbrev pub SyncedShowsPending : Type 0
SyncedShowsPending =
    (log : LogState) (cache : PlainCache)
    → IsTrue (is_some log.commits.disk.budget) → HasNow IsSynced log.commits.disk.moments → log.commits.unfinished ≡ None
    → cache.pending ≡ []
    → ShowsPending log cache

-- the pending writes stay while calls change none, as reads do, or a trim, or lending of the device
abbrev pub StillShowsPending : Type 0
StillShowsPending =
    (old new : LogState) (cache after : PlainCache) → ShowsPending old cache → IsAsBefore old.commits new.commits
    → new.commits.disk.moments ≡ old.commits.disk.moments → IsTrue (is_some new.commits.disk.budget)
    → (fuse_in old.commits.disk.budget ≡ Some 0 → fuse_in new.commits.disk.budget ≡ Some 0) → after.pending ≡ cache.pending
    → ShowsPending new after

-- an entry that was appended, or whose writes failed by the fuse, leaves pending what it leaves of the plain cache
abbrev pub EntryShowsPending : Type 0
EntryShowsPending =
    (old new : LogState) (cache : PlainCache) (entry : Entry) (are_made : Bool)
    → ShowsPending old cache → ShowsLog old cache.log → IsAsBefore old.commits new.commits
    → CanTake (append_cost old.room (record_sectors entry)) old.commits.disk cache
    → CostsAppend old.room entry (next_seq old) are_made old.commits.disk new.commits.disk
    → ShowsPending new (cache_after_entry entry cache)

-- and so does a commit that was made, or that failed by the fuse
abbrev pub CommitShowsPending : Type 0
CommitShowsPending =
    (seq : ℕ) (old new : LogState) (cache : PlainCache)
    → ShowsPending old cache → ShowsLog old cache.log → IsOnDisk old
    → CanTake (commit_cost old.commits.unfinished) old.commits.disk cache
    → CostsCommit true old new → IsMade (body_of old) old.commits new.commits
    → ShowsPending new (cache_after_commit seq cache)

abbrev pub FailedCommitShowsPending : Type 0
FailedCommitShowsPending =
    (seq : ℕ) (old new : LogState) (cache : PlainCache)
    → ShowsPending old cache → ShowsLog old cache.log → IsOnDisk old
    → CanTake (commit_cost old.commits.unfinished) old.commits.disk cache
    → CostsCommit false old new → FailsToCommit (body_of old) old.commits new.commits
    → ShowsPending new (cache_after_commit seq cache)
