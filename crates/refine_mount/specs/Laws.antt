-- Contract: what a mount finds and does makes of a plain volume what a mount of it is to make.
use Rattle.std.specs.Prelude.{◌≡◌, ℕ, ◌+◌, ◌<◌, ◌≤◌, true, None, IsTrue, IfSome, List, ◌∷◌, length, map, max}
use Rattle.std.specs.List.{All}
use Rattle.clone_chain.specs.declared.ancestor.Ancestor.{Ancestor}
use Rattle.lsvd_base.specs.declared.entry.Entry.{Entry}
use Rattle.lsvd_base.specs.declared.geometry.Geometry.{Geometry}
use Rattle.lsvd_base.specs.Limits.{is_within_limits}
use Rattle.lsvd_base.specs.Range.{is_in_range}
use Rattle.lsvd_device.specs.Device.{DiskState, IsDisk, HoldsNow, HoldsSince}
use Rattle.lsvd_device.specs.Medium.{Medium, MayLeave}
use Rattle.lsvd_device.specs.Stop.{left_in_order}
use Rattle.lsvd_device.specs.declared.fate.Fate.{Fate}
use Rattle.lsvd_objstore.specs.Objects.{Objects}
use Rattle.commit_body.specs.declared.body.CommitBody.{CommitBody}
use Rattle.commit_body.specs.Body.{MayStand}
use Rattle.commit_slot.specs.Commits.{CommitsState, IsLastOr, IsMade}
use Rattle.cache_log.specs.declared.row.Row.{Row}
use Rattle.cache_log.specs.Rows.{byte_of, AreNumbered}
use Rattle.cache_log.specs.Log.{LogState, AreRowsOf, IsTrimmed}
use Rattle.cache_log.specs.Opening.{AreRowsOfLog, IsOpenedLog}
use Rattle.cache_log.specs.Committed.{body_of, LeavesEntriesSince, HasSameList, IsReleased}
use Rattle.object_uploads.specs.Order.{IsUploads}
use Rattle.obj_log.specs.State.{ObjLogState}
use Rattle.stopped_volume.specs.Device.{CacheOwner, owner_of}
use Rattle.plain_disk.specs.declared.log.PlainCommit.{PlainCommit}
use Rattle.plain_disk.specs.Log.{PlainLog}
use Rattle.plain_disk.specs.State.{PlainState, stream_in, history_length, frontier_end, folded_to}
use Rattle.plain_disk.specs.Cache.{is_kept, kept_commit}
use Rattle.plain_disk.specs.Checkpoints.{landed_checkpoint}
use Rattle.plain_disk.specs.Stops.{recovered_number, recovered_end, mounted_from, mounted_on}
use Rattle.plain_disk.specs.Found.{found_in}
use Rattle.plain_disk.specs.Valid.{IsPlainVolume, MayLand}
use Rattle.object_stream.specs.Landed.{Numbers}
use Rattle.refine_log.specs.Shows.{ShowsLog}
use Rattle.refine_log.specs.Logged.{HasLoggedEntries}
use Rattle.refine_objects.specs.Shows.{ShowsObjects}
use Rattle.refine_objects.specs.Table.{ShowsTable}
use Rattle.refine_log.specs.Stops.{HasCommitted, entries_past, HasCommit}
use Rattle.refine_log.specs.StopLaws.{ShowsStops}
use Rattle.refine_log.specs.Pending.{ShowsPending}
use Rattle.object_recovery.specs.Recovery.{IsListUpTo, HasRecovered}
use Rattle.object_recovery.specs.Places.{HasPlacesInside}
use Rattle.object_recovery.specs.Table.{HasTableFrom, KnowsObjects, KnowsHolds}
use Rattle.refine_mount.specs.Found.{expected_for, HasObjects}
use Rattle.refine_mount.specs.Mounted.{end_of_object, mounted_with, sizes_with, mounted_without, log_found, committed_at}
use Rattle.refine_mount.specs.Mounted.{going_on, data_in, AddsEntries}
use Rattle.refine_mount.specs.Stops.{StopKeepsMount}
use Rattle.refine_mount.specs.Rest.{IsAtRest}

-- ---- what a mount is to make

-- What a mount is to make of a plain volume is what it makes of the one that it finds, opened at the newest checkpoint that has
-- landed.
abbrev pub MountsAsFound : Type 0
MountsAsFound =
    (plain : PlainState) (landed : Numbers) (found : PlainCommit) (log : ℕ)
    → IsPlainVolume plain → MayLand plain landed → plain.number ≤ plain.checkpoint.number
    → (folded_to (landed_checkpoint landed plain).number (mounted_from landed found plain)
    ≡ mounted_with found (recovered_number landed plain) (found_in landed plain))
    × (folded_to (landed_checkpoint landed plain).number (mounted_on log landed plain)
    ≡ mounted_without log (recovered_number landed plain) (found_in landed plain))

-- Bytes that read as a commit of a plain volume, from the end of the objects that a mount finds on, read as that commit of the
-- one that it finds.
abbrev pub FoundHasCommit : Type 0
FoundHasCommit =
    (owner : CacheOwner) (plain : PlainState) (landed : Numbers) (found : PlainCommit) (count : ℕ) (left : List ℕ)
    → IsPlainVolume plain → MayLand plain landed → plain.number ≤ plain.checkpoint.number → recovered_end landed plain ≤ count
    → HasCommit owner plain found count left → HasCommit owner (found_in landed plain) found count left

-- ---- the objects

-- the volume that a mount without the cache makes is at rest, whatever log its sizes keep their limits with
abbrev pub MountedIsAtRest : Type 0
MountedIsAtRest =
    (uuid : List ℕ) (log : ℕ) (plain : PlainState) (number : ℕ) (objects : Objects)
    → IsPlainVolume plain → HasObjects uuid plain number objects → IsTrue (is_within_limits (sizes_with log plain.geometry))
    → IsAtRest (sizes_with log plain.geometry) plain.checkpoint.number (end_of_object number plain)
    (mounted_without log number plain)

-- and a list that was recovered of its objects shows it
abbrev pub RecoveredShowsObjects : Type 0
RecoveredShowsObjects =
    (uuid : List ℕ) (data_at : ℕ → ℕ) (size : ℕ) (plain : PlainState) (number : ℕ) (objects : Objects)
    (log : ObjLogState)
    → IsPlainVolume plain → HasObjects uuid plain number objects
    → IsListUpTo uuid (sizes_with size plain.geometry) (length plain.chain) log.uploads.window.last log.uploads.queue.end log
    → HasRecovered plain.opening (stream_in plain) number log
    → ShowsObjects data_at log (mounted_without size number plain)

-- and so does its table
abbrev pub RecoveredShowsTable : Type 0
RecoveredShowsTable =
    (uuid : List ℕ) (size : ℕ) (plain : PlainState) (number : ℕ) (objects : Objects) (log : ObjLogState)
    → IsPlainVolume plain → HasObjects uuid plain number objects
    → IsListUpTo uuid (sizes_with size plain.geometry) (length plain.chain) log.uploads.window.last log.uploads.queue.end log
    → log.uploads.window.last ≡ number → IsUploads log.uploads → HasTableFrom plain.checkpoint.number log.uploads.queue
    → KnowsObjects (expected_for uuid plain) objects plain.checkpoint.number log.uploads.queue
    → KnowsHolds (expected_for uuid plain) objects log.uploads.queue
    → ShowsTable log.uploads.queue (mounted_without size number plain)

-- each list that was recovered shows some plain volume of this chain that is at rest, with its table, also where no bytes are
-- told
abbrev pub ListShowsSome : Type 0
ListShowsSome =
    (uuid : List ℕ) (geometry : Geometry) (chain : List Ancestor) (checkpoint number end : ℕ) (log : ObjLogState)
    → IsTrue (is_within_limits geometry) → 0 < checkpoint → checkpoint ≤ number
    → IsListUpTo uuid geometry (length chain) number end log → IsUploads log.uploads
    → HasPlacesInside geometry.sectors log.uploads.queue → HasTableFrom checkpoint log.uploads.queue
    → (plain : PlainState) × (plain.chain ≡ chain) × IsAtRest geometry checkpoint end plain
    × ((data_at : ℕ → ℕ) → ShowsObjects data_at log plain) × ShowsTable log.uploads.queue plain

-- where a list shows a volume at rest, it shows that with some entries more once they were added, whatever its log is
abbrev pub EntriesGoOn : Type 0
EntriesGoOn =
    (data_at : ℕ → ℕ) (geometry : Geometry) (checkpoint end : ℕ) (plain : PlainState) (entries : List Entry) (log : PlainLog)
    (old new : ObjLogState)
    → IsAtRest geometry checkpoint end plain → ShowsObjects data_at old plain → AddsEntries data_at entries old new
    → ShowsObjects data_at new (going_on entries log plain)

-- and so does its table
abbrev pub EntriesKeepTable : Type 0
EntriesKeepTable =
    (data_at : ℕ → ℕ) (plain : PlainState) (entries : List Entry) (log : PlainLog) (old new : ObjLogState)
    → IsPlainVolume plain → ShowsTable old.uploads.queue plain → AddsEntries data_at entries old new
    → ShowsTable new.uploads.queue (going_on entries log plain)

-- ---- the log

-- a log that was opened, and whose first entries were dropped, up to the next one, shows the log that is found
abbrev pub OpenedShowsLog : Type 0
OpenedShowsLog =
    (geometry : Geometry) (commits : CommitsState) (opened trimmed : LogState) (seq : ℕ)
    → IsTrue (is_within_limits geometry) → MayStand commits.body geometry.log → commits.unfinished ≡ None
    → seq ≤ commits.body.head.seq
    → IsOpenedLog geometry commits opened → IsTrimmed seq opened trimmed
    → ShowsLog trimmed (log_found geometry.log commits.body opened.rows)

-- and once it was committed again, that log with such a commit
abbrev pub CommittedShowsLog : Type 0
CommittedShowsLog =
    (old new : LogState) (plain : PlainLog)
    → ShowsLog old plain → plain.unfinished ≡ None → HasSameList old new → IsReleased old new
    → IsMade (body_of old) old.commits new.commits
    → ShowsLog new (committed_at old.first plain)

-- so does a log that was opened, trimmed and committed again, also where its next entry has a greater seq than the head that was
-- found
abbrev pub ReopenedShowsLog : Type 0
ReopenedShowsLog =
    (geometry : Geometry) (commits : CommitsState) (opened trimmed new : LogState) (seq : ℕ)
    → IsTrue (is_within_limits geometry) → MayStand commits.body geometry.log → commits.unfinished ≡ None
    → IsOpenedLog geometry commits opened → IsTrimmed seq opened trimmed
    → HasSameList trimmed new → IsReleased trimmed new → IsMade (body_of trimmed) trimmed.commits new.commits
    → ShowsLog new (committed_at trimmed.first (log_found geometry.log commits.body opened.rows))

-- the commits of a log that was opened are the volume's own
abbrev pub OpenedHasCommitted : Type 0
OpenedHasCommitted =
    (owner : CacheOwner) (geometry : Geometry) (commits : CommitsState) (log : LogState)
    → owner_of commits.body ≡ owner → commits.unfinished ≡ None → IsOpenedLog geometry commits log
    → HasCommitted owner geometry log

-- the list of a log whose entries were added has them past the frontier's end
abbrev pub AddedAreLogged : Type 0
AddedAreLogged =
    (geometry : Geometry) (checkpoint end : ℕ) (plain : PlainState) (entries : List Entry) (of_log : PlainLog) (log : LogState)
    (row_of_none : Row)
    → IsAtRest geometry checkpoint end plain → log.first ≡ end → AreRowsOf log.rows entries
    → IfSome log.entries (λ list. list ≡ entries)
    → AreNumbered log.first log.rows → HasLoggedEntries (data_in log row_of_none) log (going_on entries of_log plain)

-- ---- the whole

-- A volume at rest goes on with the entries of a log that is found, past its end, as a plain volume.
abbrev pub MountedIsPlainVolume : Type 0
MountedIsPlainVolume =
    (geometry : Geometry) (checkpoint end : ℕ) (plain : PlainState) (body : CommitBody) (rows : List Row) (entries : List Entry)
    → IsAtRest geometry checkpoint end plain → MayStand body geometry.log → AreRowsOfLog geometry body rows → body.tail.seq ≤ end
    → All (λ entry. is_in_range geometry entry ≡ true) entries → end + length entries ≡ max end body.head.seq
    → IsPlainVolume (going_on entries (committed_at end (log_found geometry.log body rows)) plain)

-- where the bytes of a device read as a commit of a plain volume, that is what a mount is to make of it
abbrev pub MountedIsGoingOn : Type 0
MountedIsGoingOn =
    (uuid : List ℕ) (owner : CacheOwner) (plain : PlainState) (found : PlainCommit) (number : ℕ)
    (objects : Objects) (left : List ℕ)
    → IsPlainVolume plain → HasObjects uuid plain number objects
    → (has : HasCommit owner plain found (end_of_object number plain) left)
    → going_on (entries_past plain (end_of_object number plain) has.body.head.seq)
    (committed_at (end_of_object number plain) (log_found plain.geometry.log has.body has.rows))
    (mounted_without plain.geometry.log number plain)
    ≡ mounted_with found number plain

-- ---- mounting again

-- A mount with the cache of what one made, with its last commit and the same objects, makes the same.
abbrev pub MountsKeptAgain : Type 0
MountsKeptAgain =
    (owner : CacheOwner) (plain : PlainState) (found : PlainCommit) (number : ℕ) (left : List ℕ)
    → HasCommit owner plain found (end_of_object number plain) left
    → mounted_with (mounted_with found number plain).cache.log.last number (mounted_with found number plain)
    ≡ mounted_with found number plain

-- so it is of what one without the cache made, and one without it makes the same of both, whatever log each has
abbrev pub MountsLostAgain : Type 0
MountsLostAgain =
    (log : ℕ) (plain : PlainState) (number : ℕ)
    → mounted_with (mounted_without log number plain).cache.log.last number (mounted_without log number plain)
    ≡ mounted_without log number plain

abbrev pub LosesAgain : Type 0
LosesAgain =
    (log other : ℕ) (plain : PlainState) (found : PlainCommit) (number : ℕ)
    → (mounted_without log number (mounted_with found number plain) ≡ mounted_without log number plain)
    × (mounted_without log number (mounted_without other number plain) ≡ mounted_without log number plain)

-- The volume that is mounted is a plain one, which the same store has. So what a stop leaves of it may be mounted again.
abbrev pub MountedIsStored : Type 0
MountedIsStored =
    (uuid : List ℕ) (owner : CacheOwner) (plain : PlainState) (found : PlainCommit) (number : ℕ)
    (objects : Objects) (left : List ℕ)
    → IsPlainVolume plain → HasObjects uuid plain number objects
    → HasCommit owner plain found (end_of_object number plain) left
    → IsPlainVolume (mounted_with found number plain) × HasObjects uuid (mounted_with found number plain) number objects

-- ---- stops

-- While the log that was opened of a plain volume, on a device that reads as this commit of it, is committed again, whatever a
-- stop leaves reads as that commit, or as that of the volume that is mounted.
abbrev pub CommittingKeepsMount : Type 0
CommittingKeepsMount =
    (owner : CacheOwner) (plain : PlainState) (found : PlainCommit) (number : ℕ) (bytes : List ℕ) (now : Medium)
    (past : List Medium)
    (commits : CommitsState) (opened trimmed : LogState) (new : DiskState)
    → IsPlainVolume plain → (has : HasCommit owner plain found (end_of_object number plain) bytes)
    → byte_of plain.geometry.log ≤ length bytes → now.bytes ≡ bytes → commits.disk.moments ≡ now ∷ past
    → commits.body ≡ has.body → commits.unfinished ≡ None → IsOpenedLog plain.geometry commits opened → opened.rows ≡ has.rows
    → IsTrimmed (end_of_object number plain) opened trimmed → IsDisk new
    → LeavesEntriesSince trimmed (IsLastOr trimmed.commits (body_of trimmed)) new
    → HoldsSince (StopKeepsMount owner plain found number) trimmed.commits.disk.moments new.moments

-- whatever fates the pending writes meet, what they leave reads as the commit that the plain cache keeps then
abbrev pub FatesKeepCommit : Type 0
FatesKeepCommit =
    (owner : CacheOwner) (data_at : ℕ → ℕ) (log : LogState) (plain : PlainState) (fates : List Fate) (count : ℕ)
    → ShowsStops owner data_at log plain → ShowsPending log plain.cache
    → length fates ≡ length plain.cache.pending
    → HoldsNow (λ now. MayLeave now (left_in_order fates log.commits.disk.moments)) log.commits.disk.moments
    → frontier_end plain ≤ count → count ≤ history_length plain
    → (has : HasCommit owner plain (kept_commit (map is_kept fates) plain.cache) count
    (left_in_order fates log.commits.disk.moments))
    × (has.number ≤ log.commits.number + 1)
