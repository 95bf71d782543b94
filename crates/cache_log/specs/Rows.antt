-- Contract: the records of a log, where they stand on the device, and which entries they are.
use Rattle.std.specs.Prelude.{◌≡◌, ℕ, ◌+◌, ◌*◌, ◌-◌, ◌<◌, ◌≤◌, ◌⊎◌, ◌==◌, ◌&&◌, nat_lt, nat_le, if◌then◌else◌, Bool, List, []}
use Rattle.std.specs.Prelude.{◌∷◌}
use Rattle.lsvd_base.specs.declared.entry.Entry.{Entry}
use Rattle.lsvd_base.specs.declared.entry.Entry.TheVariants as entries
use Rattle.lsvd_bytes.specs.Places.{bytes_at}
use Rattle.commit_body.specs.declared.body.CommitBody.{CommitBody}
use Rattle.log_room.specs.Room.{sector_bytes}
use Rattle.log_record.specs.Grammar.{IsHeaderOf, IsRecordOf}
use Rattle.log_record.specs.declared.head.Head.TheVariants.{Pad}
use Rattle.cache_log.specs.declared.row.Row.{Row}
use Rattle.cache_log.specs.declared.row.Row.TheVariants.{Write, Zero}

-- the byte of the device at which the log begins
abbrev pub log_start : ℕ
log_start = 4096

-- the byte of the device at which a sector of the log stands
abbrev pub byte_of : ℕ → ℕ
byte_of sector = log_start + sector_bytes * sector

-- N sectors of the log, from one on
abbrev pub log_sectors : (sector count : ℕ) → List ℕ → List ℕ
log_sectors sector count bytes = bytes_at (byte_of sector) (sector_bytes * count) bytes

-- the seq of the record
abbrev pub seq_of : Row → ℕ
seq_of (Write seq at lba sectors) = seq
seq_of (Zero seq at lba sectors) = seq

-- the sector of the log at which a record stands
abbrev pub position_of : Row → ℕ
position_of (Write seq at lba sectors) = at
position_of (Zero seq at lba sectors) = at

-- the sectors of the log that the record has
abbrev pub record_size : Row → ℕ
record_size (Write seq at lba sectors) = 1 + sectors
record_size (Zero seq at lba sectors) = 1

-- the entry whose record stands there
abbrev pub entry_of : List ℕ → Row → Entry
entry_of bytes (Write seq at lba sectors) = entries.Write lba (log_sectors (at + 1) sectors bytes)
entry_of bytes (Zero seq at lba sectors) = entries.Zero lba sectors

-- these are data sectors of the record: N bytes, from a sector of the log on
abbrev pub AreDataOfRow : Row → (sector count : ℕ) → Type 0
AreDataOfRow (Write seq at lba sectors) sector count =
    (at + 1 ≤ sector) × (sector_bytes * sector + count ≤ sector_bytes * (at + 1 + sectors))
AreDataOfRow (Zero seq at lba sectors) sector count = ⊥

-- A row stands at a sector, or at the log's beginning, and then a pad takes all from that sector to the log's end.
abbrev pub StandsFrom : (log from : ℕ) → Row → Type 0
StandsFrom log from row =
    ((position_of row ≡ from) × (from + record_size row ≤ log))
    ⊎ ((position_of row ≡ 0) × (0 < from) × (record_size row ≤ log))

-- the sectors that a row takes from one on, with the pad before it
abbrev pub sectors_taken : (log from : ℕ) → Row → ℕ
sectors_taken log from row = if nat_lt (position_of row) from then log - from + record_size row else record_size row

-- the sector after a row: the log's end is its beginning
abbrev pub next : (log : ℕ) → Row → ℕ
next log row = if position_of row + record_size row == log then 0 else position_of row + record_size row

-- The rows follow one another from a sector on, and take N sectors with the pads between them.
abbrev pub Follow : (log from used : ℕ) → List Row → Type 0
Follow log from used [] = used ≡ 0
Follow log from used (row ∷ rows) =
    StandsFrom log from row
    × (sectors_taken log from row ≤ used)
    × Follow log (next log row) (used - sectors_taken log from row) rows

-- the sector after the last row of some that stand from a sector on
abbrev pub end_of_rows : (log from : ℕ) → List Row → ℕ
end_of_rows log from [] = from
end_of_rows log from (row ∷ rows) = end_of_rows log (next log row) rows

-- the rows have the seqs from one on
abbrev pub AreNumbered : (seq : ℕ) → List Row → Type 0
AreNumbered seq [] = Unit {0}
AreNumbered seq (row ∷ rows) = (seq_of row ≡ seq) × AreNumbered (seq + 1) rows

-- A pad stands at a sector where the row that follows does not.
abbrev pub HasPad : (log from seq : ℕ) → Row → List ℕ → Type 0
HasPad log from seq row bytes = position_of row < from → IsHeaderOf (Pad (log - from - 1)) seq (log_sectors from 1 bytes)

-- these bytes of the device have the records, with seqs from one on, and the pads
abbrev pub HaveRecords : (log from seq : ℕ) → List Row → List ℕ → Type 0
HaveRecords log from seq [] bytes = Unit {0}
HaveRecords log from seq (row ∷ rows) bytes =
    HasPad log from seq row bytes
    × IsRecordOf (entry_of bytes row) seq (log_sectors (position_of row) (record_size row) bytes)
    × HaveRecords log (next log row) (seq + 1) rows bytes

-- ---- of the records of a log, in the order of their seqs

-- those of a seq and greater ones, and the entries of these
abbrev pub since : (seq : ℕ) → List Row → List Row
since seq [] = []
since seq (row ∷ rows) = if nat_lt (seq_of row) seq then since seq rows else row ∷ rows

abbrev pub entries_since : (seq : ℕ) → List Row → List Entry → List Entry
entries_since seq (row ∷ rows) (entry ∷ list) = if nat_lt (seq_of row) seq then entries_since seq rows list else entry ∷ list
entries_since seq rows list = []

-- a record's seq is none before a commit's tail, and before its head
abbrev pub is_between : CommitBody → Row → Bool
is_between body row = nat_le body.tail.seq (seq_of row) && nat_lt (seq_of row) body.head.seq

-- those between a commit's tail and its head, and the entries of these
abbrev pub between : CommitBody → List Row → List Row
between body [] = []
between body (row ∷ rows) = if is_between body row then row ∷ between body rows else between body rows

abbrev pub entries_between : CommitBody → List Row → List Entry → List Entry
entries_between body (row ∷ rows) (entry ∷ list) = if is_between body row then entry ∷ entries_between body rows list else
    entries_between body rows list
entries_between body rows list = []
