-- Contract: the room of a circular log, in sectors.
use Rattle.std.specs.Prelude.{ℕ, ◌+◌, ◌-◌, ◌/◌, ◌^◌, ◌<◌, ◌≤◌, ◌==◌, Bool, nat_lt, nat_le, length, if◌then◌else◌}
use Rattle.lsvd_base.specs.declared.entry.Entry.{Entry}
use Rattle.lsvd_base.specs.declared.entry.Entry.TheVariants.{Write, Zero}

-- the most sectors that a log may have
abbrev pub max_log : ℕ
max_log = 2 ^ 31

-- the bytes of a sector
abbrev pub sector_bytes : ℕ
sector_bytes = 512

-- how long a log is, where its head is, and how many sectors are in use, from the tail to the head
pub record Room : Type 0 where
  pub log : ℕ
  pub head : ℕ
  pub used : ℕ

-- the head is a sector of the log, and no more are in use than there are
pub record IsRoom (room : Room) : Type 0 where
  pub limit : room.log ≤ max_log
  pub head : room.head < room.log
  pub used : room.used ≤ room.log

-- a log of this many sectors, with its head and its use
abbrev pub room_of : (log head used : ℕ) → Room
room_of log head used = record { log = log; head = head; used = used }

-- a log with nothing in it
abbrev pub empty_log : ℕ → Room
empty_log log = room_of log 0 0

-- the room when the tail has moved on by N sectors
abbrev pub after_release : Room → ℕ → Room
after_release room sectors = record room { used = room.used - sectors }

-- the sectors of an entry's record: its header, and the data of a write
abbrev pub record_sectors : Entry → ℕ
record_sectors (Write lba body) = 1 + length body / sector_bytes
record_sectors (Zero lba sectors) = 1

-- a record of N sectors fits between the head and the log's end
abbrev pub fits_before_end : Room → ℕ → Bool
fits_before_end room sectors = nat_le (room.head + sectors) room.log

-- the sectors of the pad before it: none where it fits, and else all up to the log's end
abbrev pub pad_before : Room → ℕ → ℕ
pad_before room sectors = if fits_before_end room sectors then 0 else room.log - room.head

-- the sectors that the pad and the record take
abbrev pub need : Room → ℕ → ℕ
need room sectors = pad_before room sectors + sectors

-- the sectors that are not in use
abbrev pub free : Room → ℕ
free room = room.log - room.used

-- the first sector of the record
abbrev pub position : Room → ℕ → ℕ
position room sectors = if fits_before_end room sectors then room.head else 0

-- the sector at which the next record would stand, after one that ends here: the log's end is its beginning
abbrev pub head_at : Room → ℕ → ℕ
head_at room end = if end == room.log then 0 else end

-- the sectors from one on to another, round the log's end: the whole log where they are one
abbrev pub distance : (log from to : ℕ) → ℕ
distance log from to = if nat_lt from to then to - from else log - from + to

-- the room after the record: its head is the next sector, and what was needed is in use
abbrev pub after_record : Room → ℕ → Room
after_record room sectors =
    record room {
      head = head_at room (position room sectors + sectors);
      used = room.used + need room sectors;
    }
