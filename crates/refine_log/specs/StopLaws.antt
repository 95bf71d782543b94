-- Contract: what a stop leaves of the cache reads as, and what each call of the log keeps.
use Rattle.std.specs.Prelude.{◌≡◌, ℕ, ◌≤◌, ◌⊎◌, true, List, length}
use Rattle.lsvd_base.specs.declared.entry.Entry.{Entry}
use Rattle.lsvd_base.specs.declared.geometry.Geometry.{Geometry}
use Rattle.lsvd_base.specs.Range.{is_in_range}
use Rattle.lsvd_device.specs.Device.{DiskState, IsDisk}
use Rattle.commit_slot.specs.Commits.{IsAsBefore, IsLast, IsLastOr, IsMade, IsMadeInPart}
use Rattle.cache_log.specs.Rows.{byte_of}
use Rattle.cache_log.specs.Log.{LogState, IsTrimmed, IsAppended, HasSameEntries}
use Rattle.cache_log.specs.Committed.{body_of, LeavesEntriesSince, IsOnDisk, IsReleased, IsFormattedLog}
use Rattle.plain_disk.specs.declared.log.PlainCommit.{PlainCommit}
use Rattle.plain_disk.specs.State.{PlainState, frontier_end}
use Rattle.plain_disk.specs.Valid.{IsPlainVolume}
use Rattle.refine_log.specs.Shows.{ShowsLog}
use Rattle.refine_log.specs.Logged.{HasLoggedEntries}
use Rattle.stopped_volume.specs.Device.{CacheOwner, DeviceStandsFor}
use Rattle.refine_log.specs.Stops.{HasCommitted, IsFoundCommit, IsFoundOrNext, entries_past, HasCommit, StopKeepsNow}
use Rattle.refine_log.specs.Stops.{StopKeepsSince}

-- ---- stops

-- what the log on the cache has of a plain volume that it shows, for stops of its device
pub record ShowsStops (owner : CacheOwner) (data_at : ℕ → ℕ) (log : LogState) (plain : PlainState) : Type 0 where
  pub valid : IsPlainVolume plain
  pub log_is : ShowsLog log plain.cache.log
  pub logged : HasLoggedEntries data_at log plain
  pub committed : HasCommitted owner plain.geometry log
  pub on_disk : IsOnDisk log

-- a stop now leaves the last commit or the unfinished one
abbrev pub NowKeeps : Type 0
NowKeeps =
    (owner : CacheOwner) (data_at : ℕ → ℕ) (log : LogState) (plain : PlainState) → ShowsStops owner data_at log plain
    → StopKeepsNow owner log plain (λ found. IsFoundCommit found plain.cache.log)

-- and so does one at each moment since, while the device leaves these
abbrev pub SinceKeeps : Type 0
SinceKeeps =
    (owner : CacheOwner) (data_at : ℕ → ℕ) (log : LogState) (plain : PlainState) (new : DiskState)
    → ShowsStops owner data_at log plain
    → IsDisk new → LeavesEntriesSince log (IsLast log.commits) new
    → StopKeepsSince owner log plain (λ found. IsFoundCommit found plain.cache.log) new

-- While all entries are committed, of a list that begins at the frontier's end, a stop leaves one of these or that commit.
abbrev pub CommittingKeeps : Type 0
CommittingKeeps =
    (owner : CacheOwner) (data_at : ℕ → ℕ) (log : LogState) (plain : PlainState) (new : DiskState)
    → ShowsStops owner data_at log plain → log.first ≡ frontier_end plain
    → IsDisk new → LeavesEntriesSince log (IsLastOr log.commits (body_of log)) new
    → StopKeepsSince owner log plain (IsFoundOrNext plain) new

-- A device that reads as a commit, and has the whole log, stands for the plain volume's entries up to the commit's head.
abbrev pub CommitStandsFor : Type 0
CommitStandsFor =
    (owner : CacheOwner) (plain : PlainState) (found : PlainCommit) (count : ℕ) (left : List ℕ)
    → HasCommit owner plain found count left → byte_of plain.geometry.log ≤ length left
    → DeviceStandsFor owner plain.geometry left count (entries_past plain count found.head.seq)

-- ---- calls of the log

-- a log that was just formatted has commits of its owner alone, and no entry
abbrev pub FormattedHasCommitted : Type 0
FormattedHasCommitted =
    (owner : CacheOwner) (first : ℕ) (geometry : Geometry) (old : DiskState) (log : LogState)
    → IsFormattedLog owner.uuid owner.epoch first old log → HasCommitted owner geometry log

-- so it stays while calls fail, and while entries are dropped from its list
abbrev pub SameHasCommitted : Type 0
SameHasCommitted =
    (owner : CacheOwner) (geometry : Geometry) (old new : LogState)
    → HasCommitted owner geometry old → HasSameEntries old new → IsAsBefore old.commits new.commits
    → HasCommitted owner geometry new

abbrev pub TrimmedHasCommitted : Type 0
TrimmedHasCommitted =
    (owner : CacheOwner) (geometry : Geometry) (old new : LogState) (seq : ℕ)
    → HasCommitted owner geometry old → IsTrimmed seq old new → HasCommitted owner geometry new

-- when an entry in range is appended
abbrev pub AppendedHasCommitted : Type 0
AppendedHasCommitted =
    (owner : CacheOwner) (geometry : Geometry) (old new : LogState) (entry : Entry) (at : ℕ)
    → HasCommitted owner geometry old → is_in_range geometry entry ≡ true → IsAppended entry at old new
    → IsAsBefore old.commits new.commits
    → HasCommitted owner geometry new

-- and when all entries are committed, or that fails
abbrev pub CommitHasCommitted : Type 0
CommitHasCommitted =
    (owner : CacheOwner) (geometry : Geometry) (old new : LogState)
    → HasCommitted owner geometry old → IsReleased old new
    → IsMade (body_of old) old.commits new.commits ⊎ IsMadeInPart (body_of old) old.commits new.commits
    → HasCommitted owner geometry new
