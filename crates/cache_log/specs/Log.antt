-- Contract: a log on a device as a list of entries, and what appending to it and reading it promises.
use Rattle.std.specs.Prelude.{◌≡◌, ℕ, ◌+◌, ◌-◌, ◌*◌, ◌/◌, ◌<◌, ◌≤◌, ◌⊎◌, ◌==◌, if◌then◌else◌, Option, Some, None, IfSome, Bool}
use Rattle.std.specs.Prelude.{List, [], ◌∷◌, ◌++◌, length, map, take, drop, true, false}
use Rattle.std.specs.Option.{option_map}
use Rattle.lsvd_base.specs.declared.entry.Entry.{Entry}
use Rattle.lsvd_base.specs.declared.entry.Entry.TheVariants as entries
use Rattle.lsvd_device.specs.Medium.{Medium}
use Rattle.lsvd_device.specs.Calls.{Cost, read_cost, write_cost, together, PassesNone}
use Rattle.lsvd_device.specs.Device.{DiskState, MakesCalls, FailsAlone}
use Rattle.lsvd_device.specs.Sequence.{Call, Write}
use Rattle.commit_body.specs.declared.body.CommitBody.{CommitBody}
use Rattle.commit_slot.specs.Commits.{CommitsState, IsAsBefore}
use Rattle.commit_slot.specs.Sequence.{Costs}
use Rattle.log_room.specs.Room.{Room, sector_bytes, pad_before, position, after_record, record_sectors, need, free}
use Rattle.log_record.specs.Grammar.{data_of, IsHeaderOf, IsRecordOf}
use Rattle.log_record.specs.declared.head.Head.TheVariants.{Pad}
use Rattle.cache_log.specs.declared.error.AppendError.{AppendError}
use Rattle.cache_log.specs.declared.error.AppendError.TheVariants.{NoRoom, DeviceFault}
use Rattle.cache_log.specs.declared.row.Row.{Row}
use Rattle.cache_log.specs.declared.row.Row.TheVariants as row_kinds
use Rattle.cache_log.specs.Rows.{byte_of, entry_of, seq_of, position_of, AreDataOfRow}
use Rattle.cache_log.specs.Reads.{AreReadOnly}

-- A log on a device: a list of entries. The records from the tail of the last commit on stay in their sectors, also those
-- whose entries the list has no more.
pub record LogState : Type 0 where
  -- its head, and the sectors in use
  pub room : Room
  -- where the records stand whose entries were dropped from the list
  pub held : List Row
  -- where the tail of a commit would stand
  pub start : ℕ
  -- the seq of its first entry
  pub first : ℕ
  -- where its records stand, in the order of their seqs
  pub rows : List Row
  -- the entries of all these records, those that were dropped first, where the disk tells what it holds
  pub all : Option (List Entry)
  -- its entries
  pub entries : Option (List Entry)
  -- the commits on its disk, and the disk
  pub commits : CommitsState
  -- the sectors of the longest record for which memory was taken
  pub reserved : ℕ

-- the seq of the next entry
abbrev pub next_seq : LogState → ℕ
next_seq log = log.first + length log.rows

-- all its records
abbrev pub all_rows : LogState → List Row
all_rows log = log.held ++ log.rows

-- the entries of records, where the disk tells what it holds
abbrev pub entries_in : List Row → List Medium → Option (List Entry)
entries_in rows [] = None
entries_in rows (now ∷ past) = Some (map (entry_of now.bytes) rows)

-- the row of an entry whose record has a seq and stands at a sector
abbrev pub row_of : (seq at : ℕ) → Entry → Row
row_of seq at (entries.Write lba body) = row_kinds.Write seq at lba (length body / sector_bytes)
row_of seq at (entries.Zero lba sectors) = row_kinds.Zero seq at lba sectors

-- these rows are those of records of these entries
abbrev pub AreRowsOf : List Row → List Entry → Type 0
AreRowsOf [] [] = Unit {0}
AreRowsOf [] (entry ∷ list) = ⊥
AreRowsOf (row ∷ rows) [] = ⊥
AreRowsOf (row ∷ rows) (entry ∷ list) = (row ≡ row_of (seq_of row) (position_of row) entry) × AreRowsOf rows list

-- some entries, and one more
abbrev pub with_appended : Option (List Entry) → Entry → Option (List Entry)
with_appended None entry = None
with_appended (Some list) entry = Some (list ++ entry ∷ [])

-- the log is as before, but for its commits and their disk, and for what is reserved
pub record HasSameEntries (old new : LogState) : Type 0 where
  pub entries : new.entries ≡ old.entries
  pub rows : new.rows ≡ old.rows
  pub all : new.all ≡ old.all
  pub held : new.held ≡ old.held
  pub room : new.room ≡ old.room
  pub start : new.start ≡ old.start
  pub first : new.first ≡ old.first

-- the first N of a list, as many as a commit has records between its tail and its head
abbrev pub up_to : {A : Type 0} → CommitBody → List A → List A
up_to body list = take (body.head.seq - body.tail.seq) list

-- ---- dropping

-- where the first record of some stands, and else the head
abbrev pub start_of : (head : ℕ) → List Row → ℕ
start_of head [] = head
start_of head (row ∷ rows) = position_of row

-- The entries with seqs below one are dropped, and the next entry has at least this seq. Their records are held, and no
-- sector is free that was not. The tail of the next commit stands at the first record that is left, also where none was
-- dropped, and at the head where none is left.
pub record IsTrimmed (seq : ℕ) (old new : LogState) : Type 0 where
  pub held : new.held ≡ old.held ++ take (seq - old.first) old.rows
  pub rows : new.rows ≡ drop (seq - old.first) old.rows
  pub entries : new.entries ≡ option_map (drop (seq - old.first)) old.entries
  pub all : new.all ≡ old.all
  pub first : new.first ≡ old.first + (seq - old.first)
  pub start : new.start ≡ start_of old.room.head new.rows
  pub room : new.room ≡ old.room
  pub commits : new.commits ≡ old.commits
  pub reserved : new.reserved ≡ old.reserved

-- ---- appending

-- where a commit's tail would stand after these records and one more: where this one does, if it is the first
abbrev pub start_with : (at start : ℕ) → List Row → ℕ
start_with at start [] = at
start_with at start (row ∷ rows) = start

-- what the write of a record of N sectors takes, and before it that of a pad, of which the header alone is written
abbrev pub append_cost : Room → (sectors : ℕ) → Cost
append_cost room sectors =
    if pad_before room sectors == 0 then write_cost (sector_bytes * sectors)
    else together (write_cost sector_bytes) (write_cost (sector_bytes * sectors))

-- the writes of these bytes: of the pad's header, where a pad is needed, and of the record
abbrev pub append_writes : Room → (sectors : ℕ) → (pad bytes : List ℕ) → List Call
append_writes room sectors pad bytes =
    (if pad_before room sectors == 0 then [] else Write (byte_of room.head) pad ∷ [])
    ++ Write (byte_of (position room sectors)) bytes ∷ []

-- the writes of the pad that an entry's record needs and of the record were made, or one of them failed
pub record CostsAppend (room : Room) (entry : Entry) (seq : ℕ) (are_made : Bool) (old new : DiskState) : Type 0 where
  pub pad : List ℕ
  pub bytes : List ℕ
  pub is_pad : 0 < pad_before room (record_sectors entry) → IsHeaderOf (Pad (pad_before room (record_sectors entry) - 1)) seq pad
  pub pad_size : length pad ≤ sector_bytes
  pub is_record : IsRecordOf entry seq bytes
  pub size : length bytes ≡ sector_bytes * record_sectors entry
  pub costs : Costs (append_cost room (record_sectors entry)) (append_writes room (record_sectors entry) pad bytes)
      are_made old new

-- The log has one entry more, and room for it was in use. Nothing is reserved for a further one.
pub record IsAppended (entry : Entry) (at : ℕ) (old new : LogState) : Type 0 where
  pub at_head : at ≡ position old.room (record_sectors entry)
  pub had_room : need old.room (record_sectors entry) ≤ free old.room
  pub entries : new.entries ≡ with_appended old.entries entry
  pub rows : new.rows ≡ old.rows ++ row_of (next_seq old) (position old.room (record_sectors entry)) entry ∷ []
  pub all : new.all ≡ with_appended old.all entry
  pub held : new.held ≡ old.held
  pub room : new.room ≡ after_record old.room (record_sectors entry)
  pub start : new.start ≡ start_with at old.start old.rows
  pub first : new.first ≡ old.first
  pub calls : CostsAppend old.room entry (next_seq old) true old.commits.disk new.commits.disk

-- its record needs more than is free, by exactly these numbers, and nothing was done
pub record HasNoRoomFor (entry : Entry) (needed left : ℕ) (old new : LogState) : Type 0 where
  pub needed_is : needed ≡ need old.room (record_sectors entry)
  pub left_is : left ≡ free old.room
  pub too_few : left < needed
  pub untouched : new ≡ old

-- there was room, and a call of the device failed
pub record FailsByFault (entry : Entry) (old new : LogState) : Type 0 where
  pub had_room : need old.room (record_sectors entry) ≤ free old.room
  pub same : HasSameEntries old new
  pub calls : CostsAppend old.room entry (next_seq old) false old.commits.disk new.commits.disk

-- why an entry was not appended
abbrev pub FailsToAppend : Entry → AppendError → LogState → LogState → Type 0
FailsToAppend entry (NoRoom needed left) old new = HasNoRoomFor entry needed left old new
FailsToAppend entry DeviceFault old new = FailsByFault entry old new

-- ---- reading

-- these are data sectors of one of the records
abbrev pub AreData : List Row → (sector count : ℕ) → Type 0
AreData [] sector count = ⊥
AreData (row ∷ rows) sector count = AreDataOfRow row sector count ⊎ AreData rows sector count

-- what was read from a sector on is the data of the entry whose record has it
abbrev pub AgreesWith : List Row → List Entry → ℕ → List ℕ → Type 0
AgreesWith (row ∷ rows) (entry ∷ more) sector bytes =
    (AreDataOfRow row sector (length bytes)
    → bytes ≡ take (length bytes) (drop (sector_bytes * (sector - (position_of row + 1))) (data_of entry)))
    × AgreesWith rows more sector bytes
AgreesWith rows list sector bytes = Unit {0}

-- the same of a log, where the disk tells what it holds
abbrev pub IsReadFrom : LogState → ℕ → List ℕ → Type 0
IsReadFrom log sector bytes = IfSome log.entries (λ list. AgreesWith log.rows list sector bytes)

-- one read was made, or it failed, and nothing else was done
pub record ReadsOnce (is_made : Bool) (old new : LogState) : Type 0 where
  pub same : HasSameEntries old new
  pub commits : IsAsBefore old.commits new.commits
  pub moments : new.commits.disk.moments ≡ old.commits.disk.moments
  pub call : MakesCalls read_cost is_made old.commits.disk new.commits.disk
  pub blown : PassesNone old.commits.disk.budget → FailsAlone is_made old.commits.disk new.commits.disk

-- at most this many reads were made, or one of them failed, and nothing else was done
pub record IsReadOnly (most : ℕ) (are_made : Bool) (old new : LogState) : Type 0 where
  pub same : HasSameEntries old new
  pub commits : AreReadOnly most are_made old.commits new.commits
