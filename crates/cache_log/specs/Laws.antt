-- Contract: what the records of a log have to do with its bytes, and how many headers are read of them.
use Rattle.std.specs.Prelude.{◌≡◌, ℕ, ◌*◌, ◌≤◌, IsTrue, List, length, map}
use Rattle.std.specs.List.{AllByRecursion}
use Rattle.lsvd_base.specs.declared.geometry.Geometry.{Geometry}
use Rattle.lsvd_base.specs.declared.entry.Entry.{Entry}
use Rattle.lsvd_base.specs.Limits.{is_within_limits}
use Rattle.lsvd_base.specs.Range.{is_in_range}
use Rattle.commit_body.specs.declared.body.CommitBody.{CommitBody}
use Rattle.commit_body.specs.Body.{MayStand}
use Rattle.cache_log.specs.declared.row.Row.{Row}
use Rattle.cache_log.specs.Rows.{byte_of, entry_of}
use Rattle.cache_log.specs.Reads.{headers_of_rows}
use Rattle.cache_log.specs.Opening.{AreRecordsInRange}
use Rattle.cache_log.specs.Committed.{HasRecords}

-- a commit may be read of bytes that hold its log: the geometry keeps its limits, and the body's places are the log's
pub record MayBeRead (geometry : Geometry) (body : CommitBody) (bytes : List ℕ) : Type 0 where
  pub limits : IsTrue (is_within_limits geometry)
  pub may_stand : MayStand body geometry.log
  pub long : byte_of geometry.log ≤ length bytes

-- bytes have at most one list of records between a tail and a head
abbrev pub HaveOneList : Type 0
HaveOneList =
    (geometry : Geometry) (body : CommitBody) (rows others : List Row) (bytes : List ℕ) → MayBeRead geometry body bytes
    → AreRecordsInRange geometry body rows bytes → AreRecordsInRange geometry body others bytes → rows ≡ others

-- where the records of entries stand that a volume takes, they are read, and no others
abbrev pub AreReadAgain : Type 0
AreReadAgain =
    (geometry : Geometry) (body : CommitBody) (list : List Entry) (bytes : List ℕ) → MayBeRead geometry body bytes
    → AllByRecursion (λ entry. IsTrue (is_in_range geometry entry)) list → HasRecords geometry.log body list bytes
    → ((rows : List Row) × AreRecordsInRange geometry body rows bytes)
    × ((rows : List Row) → AreRecordsInRange geometry body rows bytes → map (entry_of bytes) rows ≡ list)

-- at most two headers are read for each row
abbrev pub AreAtMostTwoEach : Type 0
AreAtMostTwoEach = (log from : ℕ) (rows : List Row) → headers_of_rows log from rows ≤ 2 * length rows
