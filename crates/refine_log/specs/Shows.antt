-- Contract: what the log on the cache means: the log of the plain volume that it shows.
use Rattle.std.specs.Prelude.{◌≡◌, ℕ, ◌+◌, ◌-◌, ◌<◌, ◌≤◌, ◌⊎◌, nat_lt, if◌then◌else◌, IfSome, option_map, List, [], ◌∷◌, length}
use Rattle.std.specs.Prelude.{take, drop}
use Rattle.commit_body.specs.declared.body.CommitBody.{CommitBody}
use Rattle.log_room.specs.Room.{IsRoom}
use Rattle.cache_log.specs.declared.row.Row.{Row}
use Rattle.cache_log.specs.Rows.{position_of, record_size, next, Follow, end_of_rows, AreNumbered}
use Rattle.cache_log.specs.Log.{LogState, all_rows, start_of}
use Rattle.plain_disk.specs.declared.log.PlainRecord.{PlainRecord}
use Rattle.plain_disk.specs.declared.log.PlainCommit.{PlainCommit}
use Rattle.plain_disk.specs.Log.{PlainLog, room_in}

-- ---- the parts

-- a commit, by its tail and its head
abbrev pub commit_of : CommitBody → PlainCommit
commit_of body = record { tail = body.tail; head = body.head }

-- the sectors of the pad before a record that comes after one which ends at a sector
abbrev pub pad_from : (log from : ℕ) → Row → ℕ
pad_from log from row = if nat_lt (position_of row) from then log - from else 0

-- the record that a row is of, with that pad
abbrev pub record_of_row : (log from : ℕ) → Row → PlainRecord
record_of_row log from row = record { pad = pad_from log from row; at = position_of row; sectors = record_size row }

-- the records that stand from a sector on, each with the pad before it
abbrev pub records_of_rows : (log from : ℕ) → List Row → List PlainRecord
records_of_rows log from [] = []
records_of_rows log from (row ∷ rows) = record_of_row log from row ∷ records_of_rows log (next log row) rows

-- ---- the whole

-- the records of a log before a later commit's tail, and those from that tail on
abbrev pub rows_before_tail : CommitBody → LogState → List Row
rows_before_tail body log = take (body.tail.seq - log.commits.body.tail.seq) (all_rows log)

abbrev pub rows_from_tail : CommitBody → LogState → List Row
rows_from_tail body log = drop (body.tail.seq - log.commits.body.tail.seq) (all_rows log)

-- the tail of a later commit stands at the first record from its seq on, or where the record before that ends
abbrev pub StandsAt : LogState → CommitBody → Type 0
StandsAt log body =
    (body.tail.position ≡ start_of log.room.head (rows_from_tail body log))
    ⊎ (body.tail.position ≡ end_of_rows log.room.log log.commits.body.tail.position (rows_before_tail body log))

-- The log on the cache shows a log of the plain volume: the same room and commits, and the records from the last commit's tail
-- on, numbered from its seq on and one behind the other up to the head.
pub record ShowsLog (log : LogState) (plain : PlainLog) : Type 0 where
  pub room : room_in plain ≡ log.room
  pub last : plain.last ≡ commit_of log.commits.body
  pub unfinished : plain.unfinished ≡ option_map commit_of log.commits.unfinished
  pub records : plain.records ≡ records_of_rows log.room.log log.commits.body.tail.position (all_rows log)
  pub is_room : IsRoom log.room
  pub from : log.commits.body.tail.position < log.room.log
  pub follow : Follow log.room.log log.commits.body.tail.position log.room.used (all_rows log)
  pub end : end_of_rows log.room.log log.commits.body.tail.position (all_rows log) ≡ log.room.head
  pub numbered : AreNumbered log.commits.body.tail.seq (all_rows log)
  -- the list begins at some record, and there the next commit's tail stands
  pub counted : log.commits.body.tail.seq + length log.held ≡ log.first
  pub start : log.start ≡ start_of log.room.head log.rows
  -- the tail of an unfinished commit stands at a record that is held, or where the list begins
  pub order : IfSome log.commits.unfinished (λ body. (log.commits.body.tail.seq ≤ body.tail.seq) × (body.tail.seq ≤ log.first))
  pub stands : IfSome log.commits.unfinished (StandsAt log)
