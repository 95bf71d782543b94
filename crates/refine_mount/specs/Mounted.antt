-- Contract: what a mount makes of a plain volume.
use Rattle.std.specs.Prelude.{ℕ, ◌+◌, ◌-◌, None, List, [], ◌∷◌, ◌++◌, length, max, slice_index_or}
use Rattle.lsvd_base.specs.declared.entry.Entry.{Entry}
use Rattle.lsvd_base.specs.declared.geometry.Geometry.{Geometry}
use Rattle.object_stream.specs.Stream.{end_at}
use Rattle.commit_body.specs.declared.body.CommitBody.{CommitBody}
use Rattle.cache_log.specs.declared.row.Row.{Row}
use Rattle.cache_log.specs.Rows.{position_of}
use Rattle.cache_log.specs.Log.{LogState}
use Rattle.object_uploads.specs.Order.{IsUploads}
use Rattle.obj_log.specs.State.{ObjLogState}
use Rattle.obj_log.specs.Changes.{IsSame, IsAdded}
use Rattle.plain_disk.specs.declared.log.PlainCommit.{PlainCommit}
use Rattle.plain_disk.specs.Log.{PlainLog, commit_from, with_commit, mounted_log, empty_from}
use Rattle.plain_disk.specs.Cache.{cache_with}
use Rattle.plain_disk.specs.State.{PlainState, stream_in}
use Rattle.plain_disk.specs.Stops.{cut_to_count}
use Rattle.refine_log.specs.Shows.{commit_of, records_of_rows}

-- ---- the plain volume

-- the end of a plain volume's object of a number
abbrev pub end_of_object : ℕ → PlainState → ℕ
end_of_object number plain = end_at (stream_in plain) number

-- the volume with its objects up to a number, and the entries that are in these
abbrev pub cut_to_object : ℕ → PlainState → PlainState
cut_to_object number plain = cut_to_count number (end_of_object number plain) plain

-- what a mount with the cache makes of it, which finds the objects up to a number, and that the cache reads as a commit
abbrev pub mounted_with : PlainCommit → (number : ℕ) → PlainState → PlainState
mounted_with found number plain =
    record (cut_to_count number (max (end_of_object number plain) found.head.seq) plain) {
      cache = cache_with (mounted_log found (end_of_object number plain) plain.cache.log);
    }

-- the same sizes with a log of this many sectors
abbrev pub sizes_with : (log : ℕ) → Geometry → Geometry
sizes_with log geometry = record geometry { log = log }

-- what a mount without it makes, on a new device whose log has this many sectors, whatever the log had before
abbrev pub mounted_without : (log number : ℕ) → PlainState → PlainState
mounted_without log number plain = record (cut_to_object number plain) {
  geometry = sizes_with log plain.geometry;
  cache = cache_with (empty_from log (end_of_object number plain));
}

-- ---- how it is made

-- the log that is opened: it has a commit, and its records, which stand at these rows, up to the head
abbrev pub log_found : (log : ℕ) → CommitBody → List Row → PlainLog
log_found log body rows = record {
  size = log;
  head = body.head.position;
  last = commit_of body;
  records = records_of_rows log body.tail.position rows;
  unfinished = None;
}

-- the same log once a commit was made whose tail is at the entry with a seq
abbrev pub committed_at : (seq : ℕ) → PlainLog → PlainLog
committed_at seq log = with_commit (commit_from seq log) log

-- a plain volume with some entries more, where this is its log
abbrev pub going_on : List Entry → PlainLog → PlainState → PlainState
going_on entries log plain = record plain { entries = plain.entries ++ entries; cache = cache_with log }

-- where the data of an entry begin that a log's list has: one sector past its record
abbrev pub data_in : LogState → (row_of_none : Row) → (seq : ℕ) → ℕ
data_in log row_of_none seq = position_of (slice_index_or log.rows (seq - log.first) row_of_none) + 1

-- entries were added to a list, one after the other, each with memory for it taken before
abbrev pub AddsEntries : (data_at : ℕ → ℕ) → List Entry → (old new : ObjLogState) → Type 0
AddsEntries data_at [] old new = IsSame old new
AddsEntries data_at (entry ∷ entries) old new =
    (ready : ObjLogState) × (added : ObjLogState) × IsSame old ready × IsUploads ready.uploads
    × IsAdded entry (data_at (ready.batch.first + length ready.batch.entries)) ready added × AddsEntries data_at entries added new
