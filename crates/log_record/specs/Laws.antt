-- Contract: what those who write and read records rely on, however these are spelled.
use Rattle.std.specs.Prelude.{ℕ, ◌≡◌, ◌*◌, ◌%◌, ◌^◌, ◌<◌, ◌↔◌, ◌++◌, IsTrue, List, length}
use Rattle.lsvd_base.specs.declared.entry.Entry.{Entry}
use Rattle.lsvd_base.specs.declared.entry.Entry.TheVariants.{Write, Zero}
use Rattle.log_room.specs.Room.{record_sectors, sector_bytes}
use Rattle.lsvd_base.specs.declared.geometry.Geometry.{Geometry}
use Rattle.lsvd_base.specs.Limits.{is_within_limits}
use Rattle.log_record.specs.declared.head.Head.{Head}
use Rattle.log_record.specs.declared.head.Place.{Place}
use Rattle.log_record.specs.Grammar.{data_of, head_of, IsHeader, IsHeaderOf, IsRecordOf}

-- the data are whole sectors
abbrev pub HasWholeSectors : Entry → Type 0
HasWholeSectors entry = length (data_of entry) % sector_bytes ≡ 0

-- a header has one sector
abbrev pub HasOneSector : Type 0
HasOneSector = (head : Head) (seq : ℕ) (sector : List ℕ) → IsHeaderOf head seq sector → length sector ≡ sector_bytes

-- a record is as long as the log's room has it
abbrev pub HasItsSectors : Type 0
HasItsSectors =
    (entry : Entry) (seq : ℕ) (bytes : List ℕ) → HasWholeSectors entry → IsRecordOf entry seq bytes
    → length bytes ≡ sector_bytes * record_sectors entry

-- a sector and what follows it are the record of an entry exactly where the sector is its header and the rest its data
abbrev pub IsHeaderAndData : Type 0
IsHeaderAndData =
    (entry : Entry) (seq : ℕ) (sector rest : List ℕ) → length sector ≡ sector_bytes
    → IsRecordOf entry seq (sector ++ rest) ↔ (IsHeaderOf (head_of entry) seq sector × (rest ≡ data_of entry))

-- the numbers of an entry are numbers of 64 bits
abbrev pub HasNumbersOf64Bits : Entry → Type 0
HasNumbersOf64Bits (Write lba body) = lba < 2 ^ 64
HasNumbersOf64Bits (Zero lba sectors) = (lba < 2 ^ 64) × (sectors < 2 ^ 64)

-- bytes are the record of one entry, with one seq
abbrev pub DeterminesEntry : Type 0
DeterminesEntry =
    (a b : Entry) (m n : ℕ) (bytes : List ℕ) → HasNumbersOf64Bits a → HasNumbersOf64Bits b → m < 2 ^ 64 → n < 2 ^ 64
    → IsRecordOf a m bytes → IsRecordOf b n bytes
    → (a ≡ b) × (m ≡ n)

-- a sector is, at a place, the header of one head
abbrev pub DeterminesHead : Type 0
DeterminesHead =
    (sector : List ℕ) (seq : ℕ) (geometry : Geometry) (place : Place) (a b : Head)
    → IsTrue (is_within_limits geometry)
    → IsHeader sector seq geometry place a → IsHeader sector seq geometry place b
    → a ≡ b
