-- Contract: the log of the plain volume: where records stand, which sectors are in use, and what a commit makes of it.
use Rattle.std.specs.Prelude.{ℕ, ◌+◌, ◌-◌, ◌==◌, Option, None, List, [], ◌∷◌, ◌++◌, length, max, take, drop, if◌then◌else◌}
use Rattle.std.specs.List.{sum_by}
use Rattle.lsvd_base.specs.declared.entry.Entry.{Entry}
use Rattle.commit_body.specs.declared.body.Mark.{Mark}
use Rattle.log_room.specs.Room.{Room, room_of, record_sectors, pad_before, position, after_record}
use Rattle.plain_disk.specs.declared.log.PlainRecord.{PlainRecord}
use Rattle.plain_disk.specs.declared.log.PlainCommit.{PlainCommit}

-- The log: its sectors, the sector of its head, the last commit made, the records of the entries from that commit's tail on,
-- and the next commit where its first half was made and its second half was not.
pub record PlainLog : Type 0 where
  pub size : ℕ
  pub head : ℕ
  pub last : PlainCommit
  pub records : List PlainRecord
  pub unfinished : Option PlainCommit

-- a point of the log
abbrev pub point : (seq position : ℕ) → Mark
point seq position = record { position = position; seq = seq }

-- a commit of no entries, the next of which has this seq, where the log begins at a sector
abbrev pub empty_commit : (seq position : ℕ) → PlainCommit
empty_commit seq position = record { tail = point seq position; head = point seq position }

-- a log of this many sectors without entries, the next of which has this seq
abbrev pub empty_from : (size seq : ℕ) → PlainLog
empty_from size seq = record { size = size; head = 0; last = empty_commit seq 0; records = []; unfinished = None }

-- the seq of the next entry
abbrev pub next_seq : PlainLog → ℕ
next_seq log = log.last.tail.seq + length log.records

-- ---- room

-- the sectors of a record, and of the pad before it
abbrev pub taken_by : PlainRecord → ℕ
taken_by stored = stored.pad + stored.sectors

-- the sectors in use from the last commit's tail to the head
abbrev pub used_by : List PlainRecord → ℕ
used_by records = sum_by taken_by records

abbrev pub room_in : PlainLog → Room
room_in log = room_of log.size log.head (used_by log.records)

-- the record of the next entry
abbrev pub record_of_next : PlainLog → Entry → PlainRecord
record_of_next log entry = record {
  pad = pad_before (room_in log) (record_sectors entry);
  at = position (room_in log) (record_sectors entry);
  sectors = record_sectors entry;
}

-- the log with the entry's record at its head
abbrev pub with_record : PlainLog → Entry → PlainLog
with_record log entry = record log {
  head = (after_record (room_in log) (record_sectors entry)).head;
  records = log.records ++ record_of_next log entry ∷ [];
}

-- ---- commits

-- where the first of some records stands, or else the head
abbrev pub place_of_first : (head : ℕ) → List PlainRecord → ℕ
place_of_first head [] = head
place_of_first head (stored ∷ records) = stored.at

-- the records of the entries from a seq on
abbrev pub records_from : PlainLog → (seq : ℕ) → List PlainRecord
records_from log seq = drop (seq - log.last.tail.seq) log.records

-- The commit of all entries, whose tail is at the record of the entry with this seq, past a pad before it; where the log has
-- none, at the head, and then the next entry has at least this seq.
abbrev pub commit_from : (seq : ℕ) → PlainLog → PlainCommit
commit_from seq log = record {
  tail = point seq (place_of_first log.head (records_from log seq));
  head = point (max seq (next_seq log)) log.head;
}

-- records from a tail at a sector on: the pad before the first is not in use where the tail is past it
abbrev pub past_pad : (tail : ℕ) → List PlainRecord → List PlainRecord
past_pad tail [] = []
past_pad tail (stored ∷ records) = (if stored.at == tail then record stored { pad = 0 } else stored) ∷ records

-- the log once a commit was made: the records before its tail are released
abbrev pub with_commit : PlainCommit → PlainLog → PlainLog
with_commit commit log = record log {
  last = commit;
  records = past_pad commit.tail.position (records_from log commit.tail.seq);
  unfinished = None;
}

-- the log as a commit left it: it goes on at the commit's head, and its records are those from the commit's tail to its head
abbrev pub held_from : PlainCommit → PlainLog → PlainLog
held_from found log = record log {
  head = found.head.position;
  last = found;
  records = take (found.head.seq - found.tail.seq) (records_from log found.tail.seq);
  unfinished = None;
}

-- the log of a commit that a mount found, whose own commit has its tail at the entry with this seq: of the records up to the
-- head those of earlier entries are released
abbrev pub mounted_log : PlainCommit → (seq : ℕ) → PlainLog → PlainLog
mounted_log found seq log =
    let held : PlainLog = held_from found log in
    with_commit (commit_from seq held) held
