-- Contract: what a stop leaves of a log, which is the entries of a commit, and what formatting a log and committing its
-- entries promises.
use Rattle.std.specs.Prelude.{◌≡◌, ℕ, ◌+◌, None, IfSome, List, [], ◌∷◌, map}
use Rattle.std.specs.Option.{option_map}
use Rattle.lsvd_base.specs.declared.entry.Entry.{Entry}
use Rattle.lsvd_device.specs.Medium.{Medium, MayLeave}
use Rattle.lsvd_device.specs.Memory.{IsSynced}
use Rattle.lsvd_device.specs.Device.{HoldsSince, DiskState, HoldsNow}
use Rattle.commit_body.specs.declared.body.CommitBody.{CommitBody}
use Rattle.commit_slot.specs.Slots.{log_of}
use Rattle.commit_slot.specs.Commits.{IsAt, IsAsBefore, IsCommit, IsLast, ReadsSettled, finished_number}
use Rattle.commit_slot.specs.Committing.{IsCommitted}
use Rattle.commit_slot.specs.OnDisk.{AreOnDisk}
use Rattle.log_room.specs.Room.{room_of, empty_log, distance}
use Rattle.cache_log.specs.declared.row.Row.{Row}
use Rattle.cache_log.specs.Rows.{entry_of, end_of_rows, AreNumbered, since, entries_since, between, entries_between}
use Rattle.cache_log.specs.Log.{LogState, all_rows, next_seq, entries_in}
use Rattle.cache_log.specs.Opening.{AreRecords}

-- ---- what a stop leaves

-- a device's bytes have these entries between a commit's tail and head
abbrev pub HasRecords : (log : ℕ) → CommitBody → List Entry → List ℕ → Type 0
HasRecords log body list bytes = (rows : List Row) × AreRecords log body rows bytes × (list ≡ map (entry_of bytes) rows)

-- whatever a stop leaves reads as a commit with P, its other slots as between two commits, and has the entries of that
-- commit's seqs: these rows are all that the log has, and these their entries
abbrev pub LeavesEntries : (log : ℕ) → List Row → List Entry → (ℕ → CommitBody → Type 0) → Medium → Type 0
LeavesEntries log rows list P medium =
    (left : List ℕ) → MayLeave medium left
    → (number : ℕ) × (body : CommitBody) × P number body × ReadsSettled log left body number
    × HasRecords log body (entries_between body rows list) left

-- whatever a stop leaves has the entries of the last commit and of one that is unfinished
abbrev pub HoldsCommitted : LogState → List Entry → Medium → Type 0
HoldsCommitted log list medium =
    (left : List ℕ) → MayLeave medium left → (number : ℕ) (body : CommitBody) → IsLast log.commits number body
    → HasRecords log.room.log body (entries_between body (all_rows log) list) left

-- where the entries are told, a stop leaves so at each moment since the log was as it is here
abbrev pub LeavesEntriesSince : LogState → (ℕ → CommitBody → Type 0) → DiskState → Type 0
LeavesEntriesSince log P new = IfSome log.all (λ list. HoldsSince (LeavesEntries log.room.log (all_rows log) list P)
    log.commits.disk.moments new.moments)

-- and so it does now
abbrev pub LeavesEntriesNow : LogState → (ℕ → CommitBody → Type 0) → Type 0
LeavesEntriesNow log P = IfSome log.all (λ list. HoldsNow (LeavesEntries log.room.log (all_rows log) list P)
    log.commits.disk.moments)

abbrev pub HoldsCommittedNow : LogState → Type 0
HoldsCommittedNow log = IfSome log.all (λ list. HoldsNow (HoldsCommitted log list) log.commits.disk.moments)

-- ---- what every log promises

-- the body of a commit of all entries of a log
abbrev pub body_of : LogState → CommitBody
body_of log = record log.commits.body {
  tail = record { position = log.start; seq = log.first };
  head = record { position = log.room.head; seq = next_seq log };
}

-- the sectors from one on to the head of a log, where these are all its records
abbrev pub sectors_from : (log from head : ℕ) → List Row → ℕ
sectors_from log from head [] = 0
sectors_from log from head (row ∷ rows) = distance log from head

-- the records of a commit, among those of a log, end where its head stands
abbrev pub EndsAtHead : LogState → CommitBody → Type 0
EndsAtHead log body = end_of_rows log.room.log body.tail.position (between body (all_rows log)) ≡ body.head.position

-- The log fills the device past the slots, and a stop now leaves the entries of the last commit or of the unfinished one.
-- The sectors in use are those from the tail of the last commit made to the head.
pub record IsOnDisk (log : LogState) : Type 0 where
  pub commits : AreOnDisk log.commits
  pub sectors : log.room.log ≡ log_of log.commits.disk.size
  pub used : log.room.used ≡ sectors_from log.room.log log.commits.body.tail.position log.room.head (all_rows log)
  pub numbered : AreNumbered log.first log.rows
  -- where the last commit begins with the list's first entry, no record is held, and if its tail is the log's beginning, so is
  -- that of the next one
  pub held : log.first ≡ log.commits.body.tail.seq → log.held ≡ []
  pub start : log.commits.body.tail ≡ record { position = 0; seq = log.first } → log.start ≡ 0
  -- the records of the last commit, and of an unfinished one, end where its head stands
  pub ends : EndsAtHead log log.commits.body × IfSome log.commits.unfinished (EndsAtHead log)
  pub all : log.all ≡ entries_in (all_rows log) log.commits.disk.moments
  pub entries : log.entries ≡ entries_in log.rows log.commits.disk.moments
  pub stands : LeavesEntriesNow log (IsLast log.commits)
  pub holds : HoldsCommittedNow log

-- ---- formatting

-- the body of the first commit of a volume with this uuid and epoch: its log is empty, and its first entry will have a seq
abbrev pub first_body : (uuid : List ℕ) → (epoch first : ℕ) → CommitBody
first_body uuid epoch first = record {
  uuid = uuid;
  epoch = epoch;
  tail = record { position = 0; seq = first };
  head = record { position = 0; seq = first };
}

-- the log has no entry, its first one will have this seq, and the first commit is made, which each stop leaves
pub record IsFormattedLog (uuid : List ℕ) (epoch first_seq : ℕ) (old : DiskState) (log : LogState) : Type 0 where
  pub room : log.room ≡ empty_log (log_of old.size)
  pub held : log.held ≡ []
  pub start : log.start ≡ 0
  pub first : log.first ≡ first_seq
  pub rows : log.rows ≡ []
  pub all : log.all ≡ log.entries
  pub entries : log.entries ≡ entries_in [] log.commits.disk.moments
  pub commits : IsAt 0 (first_body uuid epoch first_seq) None log.commits
  pub stands : LeavesEntriesNow log (IsCommit 0 (first_body uuid epoch first_seq))
  pub synced : HoldsNow IsSynced log.commits.disk.moments

-- ---- appending and committing

-- the commits are as before, and at each moment since a stop leaves one of them with its entries
pub record KeepsCommits (old new : LogState) : Type 0 where
  pub commits : IsAsBefore old.commits new.commits
  pub stands : LeavesEntriesSince old (IsLast old.commits) new.commits.disk

-- the list is as before
pub record HasSameList (old new : LogState) : Type 0 where
  pub entries : new.entries ≡ old.entries
  pub rows : new.rows ≡ old.rows
  pub start : new.start ≡ old.start
  pub first : new.first ≡ old.first

-- The records before the tail of the last commit made are held no more, and the sectors from there to the head are in use.
pub record IsReleased (old new : LogState) : Type 0 where
  pub held : new.held ≡ since new.commits.body.tail.seq old.held
  pub all : new.all ≡ option_map (entries_since new.commits.body.tail.seq (all_rows old)) old.all
  pub room : new.room ≡ room_of old.room.log old.room.head (sectors_from old.room.log new.commits.body.tail.position old.room.head
      (all_rows new))

-- all entries are committed, and each stop leaves them
pub record IsCommittedLog (old new : LogState) : Type 0 where
  pub commits : IsCommitted (body_of old) old.commits new.commits
  pub stands : LeavesEntriesNow new (IsCommit (finished_number old.commits.number old.commits.unfinished + 1) (body_of old))
