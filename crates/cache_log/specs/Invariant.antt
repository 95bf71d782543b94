-- For this crate's own clauses: what every log keeps.
use Rattle.std.specs.Prelude.{◌≡◌, ℕ, ◌+◌, ◌^◌, ◌<◌, ◌≤◌, ◌⊎◌, Option, IfSome, List, ◌++◌, length, map}
use Rattle.std.specs.List.{AllByRecursion}
use Rattle.lsvd_base.specs.declared.entry.Entry.{Entry}
use Rattle.lsvd_device.specs.Medium.{Medium, MayLeave}
use Rattle.lsvd_device.specs.Device.{HoldsNow}
use Rattle.commit_body.specs.declared.body.CommitBody.{CommitBody}
use Rattle.commit_body.specs.declared.body.Mark.{Mark}
use Rattle.commit_slot.specs.Slots.{log_of}
use Rattle.commit_slot.specs.Commits.{CommitsState}
use Rattle.commit_slot.specs.OnDisk.{AreOnDisk}
use Rattle.log_room.specs.Room.{Room, IsRoom}
use Rattle.cache_log.specs.declared.row.Row.{Row}
use Rattle.cache_log.specs.Rows.{byte_of, seq_of, entry_of, AreNumbered, Follow, end_of_rows, HaveRecords, since, between}
use Rattle.cache_log.specs.Rows.{entries_between}

-- N sectors further on from one, round the log's end, is the other
abbrev pub IsFurther : (log from sectors to : ℕ) → Type 0
IsFurther log from sectors to = (from + sectors ≡ to) ⊎ (from + sectors ≡ log + to)

-- records follow one another from a sector to the head, and take N sectors
pub record Reach (place : Room) (from used : ℕ) (rows : List Row) : Type 0 where
  pub inside : from < place.log
  pub further : IsFurther place.log from used place.head
  pub follow : Follow place.log from used rows

-- whatever a stop leaves has the records, with these entries
abbrev pub RecordsLast : (log from seq : ℕ) → List Row → List Entry → Medium → Type 0
RecordsLast log from seq rows list medium =
    (left : List ℕ) → MayLeave medium left → HaveRecords log from seq rows left × (map (entry_of left) rows ≡ list)

-- the last commit has P, and so has the one of which the second half was left
abbrev pub EachCommitted : (CommitBody → Type 0) → CommitsState → Type 0
EachCommitted P commits = P commits.body × IfSome commits.unfinished P

-- a commit has the records of its seqs: all that reach from its tail to the head begin with them
pub record IsCommitOfRows (place : Room) (rows : List Row) (used : ℕ) (body : CommitBody) : Type 0 where
  pub reach : Reach place body.tail.position used (since body.tail.seq rows)
  pub more : List Row
  pub whole : since body.tail.seq rows ≡ between body rows ++ more
  pub numbered : AreNumbered body.tail.seq (between body rows)
  pub seqs : body.tail.seq + length (between body rows) ≡ body.head.seq
  pub end : end_of_rows place.log body.tail.position (between body rows) ≡ body.head.position

-- so it is of a log, where the next commit's tail is this mark and from there N sectors are in use
pub record IsCommitOfLog (place : Room) (mark : Mark) (own : ℕ) (held rows : List Row) (body : CommitBody) : Type 0 where
  pub used : ℕ
  pub least : own ≤ used
  pub most : used ≤ place.used
  pub is : IsCommitOfRows place (held ++ rows) used body
  pub tail : body.tail.seq ≤ mark.seq
  pub head : body.head.seq ≤ mark.seq + length rows

-- the last commit is one, and so is the unfinished one, whose tail is not before that of the last one
abbrev pub AreCommitsOfLog : (place : Room) (mark : Mark) (least : ℕ) (held rows : List Row) → CommitBody
    → Option CommitBody → Type 0
AreCommitsOfLog place mark least held rows last unfinished =
    (first : IsCommitOfLog place mark least held rows last)
    × IfSome unfinished (λ more. (is : IsCommitOfLog place mark least held rows more) × (is.used ≤ first.used)
    × (last.tail.seq ≤ more.tail.seq))

-- the records of a commit are read, and last, with their entries
abbrev pub Holds : (log : ℕ) → List Row → List Entry → Medium → CommitBody → Type 0
Holds log rows list medium body =
    HaveRecords log body.tail.position body.tail.seq (between body rows) medium.bytes
    × RecordsLast log body.tail.position body.tail.seq (between body rows) (entries_between body rows list) medium

-- what a log keeps, also before it is seen what the last commit has released
pub record IsLogHeld (place : Room) (mark : Mark) (held rows : List Row) (commits : CommitsState) : Type 0 where
  pub room : IsRoom place
  -- the records of the list reach from the next commit's tail to the head
  pub least : ℕ
  pub reach : Reach place mark.position least rows
  pub numbered : AreNumbered mark.seq rows
  pub below : AllByRecursion (λ row. seq_of row < mark.seq) held
  -- where the disk tells what it holds, they stand there
  pub records : HoldsNow (λ now. HaveRecords place.log mark.position mark.seq rows now.bytes) commits.disk.moments
  -- the commits are of some of all records, which last
  pub committed : AreCommitsOfLog place mark least held rows commits.body commits.unfinished
  pub last : HoldsNow (λ now. EachCommitted (Holds place.log (held ++ rows) (map (entry_of now.bytes) (held ++ rows)) now)
      commits) commits.disk.moments
  pub on_disk : AreOnDisk commits
  pub sectors : place.log ≡ log_of commits.disk.size
  pub fits : byte_of place.log ≤ commits.disk.size
  pub numbers : mark.seq + length rows < 2 ^ 64

-- what a log keeps: no record is held before the tail of the last commit, and what is in use begins there
pub record IsLog (place : Room) (mark : Mark) (held rows : List Row) (commits : CommitsState) : Type 0 where
  pub is : IsLogHeld place mark held rows commits
  pub from : since commits.body.tail.seq (held ++ rows) ≡ held ++ rows
  pub used : is.committed.0.used ≡ place.used
