-- Contract: which records a log is opened with, from a commit's tail up to its head, and why it is not opened.
use Rattle.std.specs.Prelude.{◌≡◌, ℕ, ◌+◌, ◌-◌, ◌*◌, ◌<◌, ◌≤◌, ◌⊎◌, ◌==◌, ◌&&◌, nat_lt, if◌then◌else◌, IsTrue, IfSome, Bool, true}
use Rattle.std.specs.Prelude.{List, [], length}
use Rattle.std.specs.List.{AllByRecursion}
use Rattle.lsvd_base.specs.declared.geometry.Geometry.{Geometry}
use Rattle.lsvd_base.specs.Limits.{covers, may_transfer}
use Rattle.lsvd_base.specs.Range.{is_in_range}
use Rattle.lsvd_device.specs.Medium.{Medium}
use Rattle.lsvd_device.specs.Device.{HoldsNow}
use Rattle.log_room.specs.Room.{room_of, distance}
use Rattle.log_record.specs.declared.head.Head.TheVariants as heads
use Rattle.log_record.specs.declared.head.Place.{Place}
use Rattle.log_record.specs.declared.reason.Reason.{Reason}
use Rattle.log_record.specs.Grammar.{IsHeader}
use Rattle.log_record.specs.Tests.{IsRefusedAs}
use Rattle.commit_body.specs.declared.body.CommitBody.{CommitBody}
use Rattle.commit_slot.specs.Commits.{CommitsState}
use Rattle.cache_log.specs.declared.error.OpenError.{OpenError}
use Rattle.cache_log.specs.declared.error.OpenError.TheVariants as open_errors
use Rattle.cache_log.specs.declared.row.Row.{Row}
use Rattle.cache_log.specs.declared.row.Row.TheVariants.{Write, Zero}
use Rattle.cache_log.specs.Rows.{log_sectors, AreNumbered, Follow, end_of_rows, HaveRecords}
use Rattle.cache_log.specs.Reads.{headers_of_rows, pieces_in, MakesReads, AreReadOnly}
use Rattle.cache_log.specs.Log.{LogState, entries_in}

-- ---- what is read

-- the records from a commit's tail up to its head, one after the other, pads between, in at most the log's sectors
pub record AreRecords (log : ℕ) (body : CommitBody) (rows : List Row) (bytes : List ℕ) : Type 0 where
  pub used : ℕ
  pub most : used ≤ log
  pub follow : Follow log body.tail.position used rows
  pub end : end_of_rows log body.tail.position rows ≡ body.head.position
  pub numbered : AreNumbered body.tail.seq rows
  pub seqs : body.tail.seq + length rows ≡ body.head.seq
  pub records : HaveRecords log body.tail.position body.tail.seq rows bytes

-- a volume takes the entry whose record stands there
abbrev pub is_row_in_range : Geometry → Row → Bool
is_row_in_range geometry (Write seq at lba sectors) = may_transfer geometry lba sectors
is_row_in_range geometry (Zero seq at lba sectors) = nat_lt 0 sectors && covers geometry lba sectors

abbrev pub AreRowsInRange : Geometry → List Row → Type 0
AreRowsInRange geometry rows = AllByRecursion (λ row. IsTrue (is_row_in_range geometry row)) rows

-- the records that are read of a log: all are in range
pub record AreRecordsInRange (geometry : Geometry) (body : CommitBody) (rows : List Row) (bytes : List ℕ) : Type 0 where
  pub records : AreRecords geometry.log body rows bytes
  pub in_range : AreRowsInRange geometry rows

-- the sectors from a commit's tail on to its head: none where it has no records
abbrev pub sectors_between : (log : ℕ) → CommitBody → ℕ
sectors_between log body = if body.tail.seq == body.head.seq then 0 else distance log body.tail.position body.head.position

-- rows that stand from a commit's tail up to its head
pub record AreRowsOfLog (geometry : Geometry) (body : CommitBody) (rows : List Row) : Type 0 where
  pub follow : Follow geometry.log body.tail.position (sectors_between geometry.log body) rows
  pub end : end_of_rows geometry.log body.tail.position rows ≡ body.head.position
  pub numbered : AreNumbered body.tail.seq rows
  pub seqs : body.tail.seq + length rows ≡ body.head.seq
  pub in_range : AreRowsInRange geometry rows

-- ---- what an opened log is

-- the entries that a commit has between its tail and its head
abbrev pub entry_count : CommitBody → ℕ
entry_count body = body.head.seq - body.tail.seq

-- The log has the records from the last commit's tail up to its head. At most as many reads were made as these and the pads
-- between them have headers, and no more than their sectors have pieces.
pub record IsOpenedLog (geometry : Geometry) (commits : CommitsState) (log : LogState) : Type 0 where
  pub room : log.room ≡ room_of geometry.log commits.body.head.position (sectors_between geometry.log commits.body)
  pub held : log.held ≡ []
  pub start : log.start ≡ commits.body.tail.position
  pub first : log.first ≡ commits.body.tail.seq
  pub rows : AreRowsOfLog geometry commits.body log.rows
  pub entries : log.entries ≡ entries_in log.rows commits.disk.moments
  pub all : log.all ≡ log.entries
  pub records : HoldsNow (λ now. AreRecordsInRange geometry commits.body log.rows now.bytes) commits.disk.moments
  pub in_range : IfSome log.entries (AllByRecursion (λ entry. IsTrue (is_in_range geometry entry)))
  pub only : AreReadOnly (2 * entry_count commits.body) true commits log.commits
  pub reads : MakesReads (headers_of_rows geometry.log commits.body.tail.position log.rows) true commits.disk log.commits.disk
  pub pieces : MakesReads (pieces_in (sectors_between geometry.log commits.body)) true commits.disk log.commits.disk

-- ---- why a log is not opened

-- the place after the pad at a place, which is the log's beginning
abbrev pub after_pad : (log : ℕ) → Place → Place
after_pad log place = record place { position = 0; to_head = place.to_head - (log - place.position) }

-- the header at a place is refused for this reason, or a pad's stands there and the one after it is
abbrev pub IsRefusedAt : Geometry → Place → (seq : ℕ) → List ℕ → Reason → Type 0
IsRefusedAt geometry place seq bytes reason =
    IsRefusedAs (log_sectors place.position 1 bytes) seq geometry place reason
    ⊎ (IsHeader (log_sectors place.position 1 bytes) seq geometry place (heads.Pad (geometry.log - place.position - 1))
    × IsRefusedAs (log_sectors 0 1 bytes) seq geometry (after_pad geometry.log place) reason)

-- the place after the rows, where N sectors are in use
abbrev pub place_after : (log : ℕ) → CommitBody → (used : ℕ) → List Row → Place
place_after log body used rows = record {
  position = end_of_rows log body.tail.position rows;
  to_head = sectors_between log body - used;
  is_last = body.tail.seq + length rows + 1 == body.head.seq;
}

-- the records before this seq stand, and the one with this seq is refused for this reason
pub record IsBadRecord (geometry : Geometry) (body : CommitBody) (seq : ℕ) (reason : Reason) (bytes : List ℕ) : Type 0 where
  pub rows : List Row
  pub used : ℕ
  pub most : used ≤ sectors_between geometry.log body
  pub follow : Follow geometry.log body.tail.position used rows
  pub records : HaveRecords geometry.log body.tail.position body.tail.seq rows bytes
  pub in_range : AreRowsInRange geometry rows
  pub next_seq : body.tail.seq + length rows ≡ seq
  pub before_head : seq < body.head.seq
  pub refused : IsRefusedAt geometry (place_after geometry.log body used rows) seq bytes reason

-- there is no list of records up to the head, and the first bad record is this one
abbrev pub IsBadLog : Geometry → CommitBody → List Medium → OpenError → Type 0
IsBadLog geometry body moments (open_errors.BadRecord seq reason) =
    HoldsNow (λ now. IsBadRecord geometry body seq reason now.bytes
    × ((rows : List Row) → ¬ AreRecordsInRange geometry body rows now.bytes)) moments
IsBadLog geometry body moments open_errors.DeviceFault = Unit {0}
IsBadLog geometry body moments open_errors.OutOfMemory = Unit {0}
