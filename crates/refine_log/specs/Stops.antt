-- Contract: what a stop leaves of the cache reads as a commit of a plain volume's log, with the volume's entries.
use Rattle.std.specs.Prelude.{◌≡◌, ℕ, ◌-◌, ◌≤◌, ◌⊎◌, Some, OnSome, IfSome, List, max, take, drop, map}
use Rattle.lsvd_base.specs.declared.entry.Entry.{Entry}
use Rattle.lsvd_base.specs.declared.geometry.Geometry.{Geometry}
use Rattle.lsvd_device.specs.Medium.{Medium, MayLeave}
use Rattle.lsvd_device.specs.Device.{HoldsSince, DiskState, HoldsNow}
use Rattle.commit_body.specs.declared.body.CommitBody.{CommitBody}
use Rattle.commit_slot.specs.Commits.{ReadsSettled}
use Rattle.cache_log.specs.declared.row.Row.{Row}
use Rattle.cache_log.specs.Rows.{entry_of}
use Rattle.cache_log.specs.Log.{LogState}
use Rattle.cache_log.specs.Opening.{AreRecordsInRange}
use Rattle.plain_disk.specs.declared.log.PlainCommit.{PlainCommit}
use Rattle.plain_disk.specs.Log.{PlainLog, commit_from, past_pad, held_from}
use Rattle.plain_disk.specs.Sectors.{AllInRange}
use Rattle.plain_disk.specs.State.{PlainState, frontier_end}
use Rattle.refine_log.specs.Shows.{commit_of, records_of_rows}
use Rattle.stopped_volume.specs.Device.{CacheOwner, owner_of}

-- ---- the commits of a log

-- The last commit of a log, and one that is unfinished, are of this volume and this epoch, and each entry whose record the log
-- has is in range, where the disk tells it.
pub record HasCommitted (owner : CacheOwner) (geometry : Geometry) (log : LogState) : Type 0 where
  pub last : owner_of log.commits.body ≡ owner
  pub unfinished : IfSome log.commits.unfinished (λ body. owner_of body ≡ owner)
  pub in_range : IfSome log.all (AllInRange geometry)

-- the last commit of a plain volume's log, or the unfinished one
abbrev pub IsFoundCommit : (found : PlainCommit) → PlainLog → Type 0
IsFoundCommit found log = (found ≡ log.last) ⊎ (Some found ≡ log.unfinished)

-- the commit of all entries that a plain volume makes next, with its tail at the frontier's end
abbrev pub next_commit : PlainState → PlainCommit
next_commit plain = commit_from (frontier_end plain) plain.cache.log

-- one of these three
abbrev pub IsFoundOrNext : PlainState → (found : PlainCommit) → Type 0
IsFoundOrNext plain found = IsFoundCommit found plain.cache.log ⊎ (found ≡ next_commit plain)

-- ---- what bytes read as

-- the entries of a volume past the first N of its history up to a head, which are none where the head is among the first N
abbrev pub entries_past : PlainState → (count head : ℕ) → List Entry
entries_past plain count head = drop (count - plain.end) (take (max count head - plain.end) plain.entries)

-- The bytes of a device read as a commit of a plain volume's log, which names this owner. From its tail up to its head they have
-- the plain log's records, each where that has it, and those past the first N entries of the history, among which the tail is,
-- are of the plain volume's entries.
pub record HasCommit (owner : CacheOwner) (plain : PlainState) (found : PlainCommit) (count : ℕ) (left : List ℕ) : Type 0 where
  pub number : ℕ
  pub body : CommitBody
  pub is_of : owner_of body ≡ owner
  pub commit : commit_of body ≡ found
  pub slots : ReadsSettled plain.geometry.log left body number
  pub rows : List Row
  pub records : AreRecordsInRange plain.geometry body rows left
  pub placed : records_of_rows plain.geometry.log body.tail.position rows ≡ past_pad body.tail.position
      (held_from found plain.cache.log).records
  pub tail : body.tail.seq ≤ count
  pub entries : drop (count - body.tail.seq) (map (entry_of left) rows) ≡ entries_past plain count body.head.seq

-- ---- what a stop keeps

-- Whatever a stop leaves of a medium reads as a commit with P of a plain volume's log, wherever a mount finds that the objects
-- end, from the frontier's end on.
abbrev pub StopKeeps : CacheOwner → PlainState → (PlainCommit → Type 0) → Medium → Type 0
StopKeeps owner plain P medium =
    (left : List ℕ) → MayLeave medium left
    → (found : PlainCommit) × P found × ((count : ℕ) → frontier_end plain ≤ count → HasCommit owner plain found count left)

-- so it is now of the disk of a log
abbrev pub StopKeepsNow : CacheOwner → LogState → PlainState → (PlainCommit → Type 0) → Type 0
StopKeepsNow owner log plain P = HoldsNow (StopKeeps owner plain P) log.commits.disk.moments

-- and at each moment since the log was as it is here, where its entries are told
abbrev pub StopKeepsSince : CacheOwner → LogState → PlainState → (PlainCommit → Type 0) → DiskState → Type 0
StopKeepsSince owner log plain P new = OnSome log.all (HoldsSince (StopKeeps owner plain P) log.commits.disk.moments new.moments)
