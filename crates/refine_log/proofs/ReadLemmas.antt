-- Records that bytes have with the entries of rows of other bytes are read of them, and stand as those rows do.
use Rattle.std.proofs.Common.{◌≡◌, ℕ, ◌≤◌, true, List, length, map, sym, ◌∙◌, ap}
use Rattle.std.specs.Prelude.{IsTrue}
use Rattle.std.proofs.lemmas.List.Elements.{recursion_from_All}
use Rattle.lsvd_base.specs.declared.entry.Entry.{Entry}
use Rattle.lsvd_base.specs.declared.geometry.Geometry.{Geometry}
use Rattle.lsvd_base.specs.Limits.{is_within_limits}
use Rattle.lsvd_base.specs.Range.{is_in_range}
use Rattle.log_room.specs.Room.{record_sectors}
use Rattle.commit_body.specs.declared.body.CommitBody.{CommitBody}
use Rattle.commit_body.specs.Body.{MayStand}
use Rattle.cache_log.specs.declared.row.Row.{Row}
use Rattle.cache_log.specs.Rows.{byte_of, entry_of}
use Rattle.cache_log.specs.Opening.{AreRecordsInRange}
use Rattle.cache_log.specs.Committed.{HasRecords}
use Rattle.cache_log.specs.Laws.{MayBeRead}
use Rattle.cache_log.proofs.ForCallers.{are_read_again}
use Rattle.plain_disk.specs.Sectors.{AllInRange}
use Rattle.refine_log.specs.Shows.{records_of_rows}
use Rattle.refine_log.proofs.Following.{Reaches}
use Rattle.refine_log.proofs.RunLemmas.{sizes_of, same_records, sizes_are}

-- the records that are read between a commit's tail and its head are of these entries, and stand where these rows do
pub record AreReadAs (geometry : Geometry) (body : CommitBody) (own : List Row) (list : List Entry) (left : List ℕ) : Type 0 where
  pub rows : List Row
  pub records : AreRecordsInRange geometry body rows left
  pub entries : map (entry_of left) rows ≡ list
  pub placed : records_of_rows geometry.log body.tail.position rows ≡ records_of_rows geometry.log body.tail.position own

pub read_as : (geometry : Geometry) (body : CommitBody) (own : List Row) (used : ℕ) (bytes left : List ℕ)
    → IsTrue (is_within_limits geometry)
    → MayStand body geometry.log → byte_of geometry.log ≤ length bytes → byte_of geometry.log ≤ length left
    → Reaches geometry.log body.tail.position used body.head.position own → AllInRange geometry (map (entry_of bytes) own)
    → HasRecords geometry.log body (map (entry_of bytes) own) left
    → AreReadAs geometry body own (map (entry_of bytes) own) left
read_as geometry body own used bytes left limits may long fits own_reach in_range has =
    let InRange : Entry → Type 0 = λ entry. is_in_range geometry entry ≡ true in
    let list : List Entry = map (entry_of bytes) own in
    let may_read : MayBeRead geometry body left = record { limits = limits; may_stand = may; long = fits } in
    let read = are_read_again geometry body list left may_read (recursion_from_All InRange list in_range) has in
    let rows : List Row = read.0.0 in
    let records = read.0.1.records in
    let entries = read.1 rows read.0.1 in
    let reach : Reaches geometry.log body.tail.position records.used body.head.position rows = record {
      inside = may.tail_inside;
      most = records.most;
      follow = records.follow;
      end = records.end;
    } in
    let sizes : sizes_of rows ≡ sizes_of own =
    sym (sizes_are rows geometry.log body.tail.position records.used body.head.position left reach fits)
    ∙ ap (map record_sectors) entries
    ∙ sizes_are own geometry.log body.tail.position used body.head.position bytes own_reach long in
    record {
      rows = rows;
      records = read.0.1;
      entries = entries;
      placed = same_records rows own geometry.log body.tail.position records.used used body.head.position sizes reach own_reach;
    }
