-- What the proofs of other crates know of headers and records: the laws, and what follows from them.
use Rattle.std.proofs.Common.{◌≡◌, ℕ, ◌^◌, ◌<◌, IsTrue, List, ◌++◌, length}
use Rattle.lsvd_base.specs.declared.entry.Entry.{Entry}
use Rattle.lsvd_base.specs.declared.geometry.Geometry.{Geometry}
use Rattle.lsvd_base.specs.Limits.{is_within_limits}
use Rattle.log_record.specs.declared.head.Head.{Head}
use Rattle.log_record.specs.declared.head.Place.{Place}
use Rattle.log_record.specs.declared.reason.Reason.{Reason}
use Rattle.log_record.specs.Grammar.{data_of, head_of, IsHeader, IsHeaderOf, IsRecordOf}
use Rattle.log_record.specs.Tests.{IsRefusedAs}
use Rattle.log_record.specs.Laws.{HasOneSector, HasItsSectors, DeterminesEntry, DeterminesHead}
use Rattle.log_record.proofs.RecordLemmas as records
use Rattle.log_record.proofs.TestLemmas as tests

pub has_one_sector : HasOneSector
has_one_sector = records.has_one_sector

pub has_its_sectors : HasItsSectors
has_its_sectors = records.has_its_sectors

-- a header and the data after it are a record
pub is_record_of_parts : (entry : Entry) (seq : ℕ) (sector rest : List ℕ) → IsHeaderOf (head_of entry) seq sector
    → rest ≡ data_of entry → IsRecordOf entry seq (sector ++ rest)
is_record_of_parts entry seq sector rest says data_is =
    (records.is_header_and_data entry seq sector rest (records.has_one_sector (head_of entry) seq sector says)).1 (says, data_is)

-- a record's first sector is its header, and the rest its data
pub parts_of_record : (entry : Entry) (seq : ℕ) (sector rest : List ℕ) → length sector ≡ 512
    → IsRecordOf entry seq (sector ++ rest)
    → IsHeaderOf (head_of entry) seq sector × (rest ≡ data_of entry)
parts_of_record entry seq sector rest size is = (records.is_header_and_data entry seq sector rest size).0 is

pub determines_entry : DeterminesEntry
determines_entry = records.determines_entry

pub determines_head : DeterminesHead
determines_head = tests.determines_head

-- a sector that is refused at a place is no header of it
pub refused_is_no_header : (sector : List ℕ) (seq : ℕ) (geometry : Geometry) (place : Place) (reason : Reason) (head : Head)
    → seq < 2 ^ 64 → IsTrue (is_within_limits geometry) → IsRefusedAs sector seq geometry place reason
    → IsHeader sector seq geometry place head → ⊥
refused_is_no_header sector seq geometry place reason head fits limits refused is =
    tests.no_header sector seq geometry place reason fits limits refused.failed head is
