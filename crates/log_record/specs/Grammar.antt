-- Contract: the records of the log, which are a header sector and, after that of a write, its data.
use Rattle.std.specs.Prelude.{ℕ, ◌+◌, ◌/◌, ◌==◌, Bool, true, ◌&&◌, ◌||◌, not, nat_lt, nat_le, IsTrue, ◌≡◌, List, [], ◌++◌, length}
use Rattle.std.specs.Prelude.{codes}
use Rattle.std.specs.Int.{w32, w64, to_be_bytes}
use Rattle.lsvd_base.specs.declared.entry.Entry.{Entry}
use Rattle.lsvd_base.specs.declared.entry.Entry.TheVariants as entries
use Rattle.lsvd_base.specs.declared.geometry.Geometry.{Geometry}
use Rattle.lsvd_base.specs.Limits.{covers, may_transfer}
use Rattle.log_room.specs.Room.{sector_bytes}
use Rattle.log_record.specs.declared.head.Head.{Head}
use Rattle.log_record.specs.declared.head.Head.TheVariants.{Write, Zero, Pad}
use Rattle.log_record.specs.declared.head.Place.{Place}
use Rattle.log_record.specs.Numbers.{kind_of, lba_of, sectors_of, filler}

-- a header sector
unfoldable pub header : (kind seq lba sectors : ℕ) → List ℕ
header kind seq lba sectors =
    codes "LSVDREC1"
    ++ to_be_bytes w32 kind
    ++ to_be_bytes w64 seq
    ++ to_be_bytes w64 lba
    ++ to_be_bytes w64 sectors
    ++ filler

-- the header that says this
abbrev pub header_of : Head → ℕ → List ℕ
header_of head seq = header (kind_of head) seq (lba_of head) (sectors_of head)

-- what an entry's header says
abbrev pub head_of : Entry → Head
head_of (entries.Write lba body) = Write lba (length body / sector_bytes)
head_of (entries.Zero lba sectors) = Zero lba sectors

-- what stands after an entry's header
abbrev pub data_of : Entry → List ℕ
data_of (entries.Write lba body) = body
data_of (entries.Zero lba sectors) = []

-- the record of an entry
abbrev pub record_of : Entry → ℕ → List ℕ
record_of entry seq = header_of (head_of entry) seq ++ data_of entry

-- a sector is a header that says this, with this seq
unfoldable pub IsHeaderOf : Head → (seq : ℕ) → (sector : List ℕ) → Type 0
IsHeaderOf head seq sector = sector ≡ header_of head seq

-- bytes are the record of an entry, with this seq
unfoldable pub IsRecordOf : Entry → (seq : ℕ) → (bytes : List ℕ) → Type 0
IsRecordOf entry seq bytes = bytes ≡ record_of entry seq

-- a write may be transferred, a zeroing has at least a sector and lies inside the volume, and a pad that
-- begins at this sector of the log reaches the log's end
abbrev pub is_in_range : Geometry → ℕ → Head → Bool
is_in_range geometry position (Write lba sectors) = may_transfer geometry lba sectors
is_in_range geometry position (Zero lba sectors) = nat_lt 0 sectors && covers geometry lba sectors
is_in_range geometry position (Pad sectors) = sectors + 1 + position == geometry.log

-- the sectors of the log that a header and what belongs to it take
abbrev pub size_of : Head → ℕ
size_of (Write lba sectors) = 1 + sectors
size_of (Zero lba sectors) = 1
size_of (Pad sectors) = 1 + sectors

-- the last record before the committed head ends there; a pad is not that record, but may stand before it
abbrev pub ends_as_due : Place → Head → Bool
ends_as_due place (Pad sectors) = true
ends_as_due place record_head = not place.is_last || (size_of record_head == place.to_head)

-- it ends by the log's end and by the committed head, and there where it is due
abbrev pub fits : Geometry → Place → Head → Bool
fits geometry place head =
    nat_le (place.position + size_of head) geometry.log
    && nat_le (size_of head) place.to_head
    && ends_as_due place head

-- a sector is the header, with this seq, that says this at this place
pub record IsHeader (sector : List ℕ) (seq : ℕ) (geometry : Geometry) (place : Place) (head : Head) : Type 0 where
  pub says : IsHeaderOf head seq sector
  pub in_range : IsTrue (is_in_range geometry place.position head)
  pub fits : IsTrue (fits geometry place head)
