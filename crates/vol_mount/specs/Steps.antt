-- For this crate's own clauses: the steps of a mount.
use Rattle.std.specs.Prelude.{◌≡◌, ℕ, ◌+◌, ◌-◌, ◌^◌, ◌<◌, ◌≤◌, max, Option, None, Bool, true, false, not, IfSome, Result, Ok, Err}
use Rattle.std.specs.Prelude.{List, length}
use Rattle.clone_chain.specs.declared.ancestor.Ancestor.{Ancestor}
use Rattle.lsvd_base.specs.declared.entry.Entry.{Entry}
use Rattle.lsvd_base.specs.declared.geometry.Geometry.{Geometry}
use Rattle.lsvd_device.specs.Device.{DiskState, IsDisk, HoldsNow}
use Rattle.lsvd_device.specs.Memory.{IsSynced}
use Rattle.lsvd_objstore.specs.Objects.{Objects}
use Rattle.lsvd_objstore.specs.Store.{Becomes}
use Rattle.log_record.specs.declared.reason.Reason.TheVariants as reasons
use Rattle.commit_body.specs.declared.body.CommitBody.{CommitBody}
use Rattle.commit_body.specs.Body.{MayStand}
use Rattle.commit_slot.specs.Slots.{Reads}
use Rattle.commit_slot.specs.Commits.{CommitsState, IsLastOr, IsMade}
use Rattle.commit_slot.specs.Loading.{MakesAtMost, LeavesSettled}
use Rattle.cache_log.specs.declared.row.Row.{Row}
use Rattle.cache_log.specs.Rows.{AreNumbered}
use Rattle.cache_log.specs.Log.{LogState, AreRowsOf, IsTrimmed}
use Rattle.cache_log.specs.Opening.{AreRecordsInRange, IsOpenedLog, entry_count}
use Rattle.cache_log.specs.Committed.{body_of, HasSameList, IsReleased, LeavesEntriesSince}
use Rattle.stopped_volume.specs.Ancestors.{uuid_in_chain}
use Rattle.stopped_volume.specs.Device.{CacheOwner, owner_of}
use Rattle.object_uploads.specs.Order.{IsUploads}
use Rattle.obj_log.specs.State.{ObjLogState}
use Rattle.object_recovery.specs.Checkpoints.{expected_of, IsNewestWithEnd}
use Rattle.object_recovery.specs.Places.{HasPlacesInside}
use Rattle.object_recovery.specs.Judging.{HaveLanded}
use Rattle.object_recovery.specs.Recovery.{IsListUpTo, IsNoLonger, IsRecoveredOf, AreAllGood}
use Rattle.object_recovery.specs.Table.{HasTableFrom, KnowsObjects, KnowsHolds}
use Rattle.refine_mount.specs.Mounted.{data_in, AddsEntries}
use Rattle.refusals.specs.declared.refusal.Refusal.{Refusal}
use Rattle.refusals.specs.declared.refusal.Refusal.TheVariants.{WrongVolume, StaleCache, BadRecord}
use Rattle.vol_core.specs.Volume.{volume_of}
use Rattle.vol_core.specs.Shows.{max_number}
use Rattle.vol_mount.specs.declared.error.MountError.{MountError}
use Rattle.vol_mount.specs.Mounted.{MountedState}
use Rattle.vol_mount.specs.Mounting.{RefusesNoneStored}
use Rattle.vol_mount.specs.Passing.{PassesStored}
use Rattle.vol_mount.specs.Leaving.{MayLeaveDevice}
use Rattle.vol_mount.specs.Costs.{open_cost, CostsMount}
use Rattle.vol_mount.specs.Refusals.{AreAllNamed, IsWhyLost, IsWhyNotOpened, IsFault, is_device_fault, is_store_fault_of}

-- ---- errors

-- a call of the store failed, which ended a step
abbrev pub ends_by_store : {T : Type 0} → Result T MountError → Bool
ends_by_store (Ok value) = false
ends_by_store (Err error) = is_store_fault_of error

-- no call of the device failed in a step
abbrev pub passes_device : {T : Type 0} → Result T MountError → Bool
passes_device (Ok value) = true
passes_device (Err error) = not (is_device_fault error)

-- ---- the list

-- the list of a volume was recovered, from a checkpoint with this number on; its objects are in order, and its table is from
-- there
pub record IsRecovered (uuid : List ℕ) (geometry : Geometry) (ancestors : ℕ) (log : ObjLogState)
    (checkpoint : ℕ) : Type 0 where
  pub list : IsListUpTo uuid geometry ancestors log.uploads.window.last log.uploads.queue.end log
  pub order : IsUploads log.uploads
  pub places : HasPlacesInside geometry.sectors log.uploads.queue
  pub numbered : 0 < checkpoint
  pub from : checkpoint ≤ log.uploads.window.last
  pub table : HasTableFrom checkpoint log.uploads.queue

-- its numbers and the epoch are below those of a volume that is worn out
pub record AreLow (epoch : ℕ) (log : ObjLogState) : Type 0 where
  pub epoch_low : epoch < max_number
  pub last : log.uploads.window.last < max_number
  pub end : log.uploads.queue.end < max_number

-- Where bytes are told, it is that of the objects of a store, and the checkpoint is their newest. A list whose last number is the
-- greatest that a list can have may end before the first missing number.
pub record IsRecoveredFrom (uuid : List ℕ) (geometry : Geometry) (chain : List Ancestor) (objects : Objects) (log : ObjLogState)
    (checkpoint : ℕ) :
    Type 0 where
  pub checkpoint_end : ℕ
  pub newest : IsNewestWithEnd (expected_of uuid geometry (length chain)) objects checkpoint checkpoint_end
  pub landed : HaveLanded objects (expected_of uuid geometry (length chain)) checkpoint log.uploads.window.last
  pub no_longer : IsNoLonger (expected_of uuid geometry (length chain)) (uuid_in_chain uuid chain) objects log.uploads.window.last
  pub good : AreAllGood (expected_of uuid geometry (length chain)) objects checkpoint
  pub named : AreAllNamed (expected_of uuid geometry (length chain)) (uuid_in_chain uuid chain) objects checkpoint
  pub knows : KnowsObjects (expected_of uuid geometry (length chain)) objects checkpoint log.uploads.queue
  pub holds : KnowsHolds (expected_of uuid geometry (length chain)) objects log.uploads.queue
  pub recovered : log.uploads.window.last + 1 < 2 ^ 64 - 1
      → IsRecoveredOf (expected_of uuid geometry (length chain)) (uuid_in_chain uuid chain) objects log

-- The list for a mount without the cache was recovered, from a checkpoint on; where bytes are told, the store passes the tests of
-- that.
pub record RecoversAlone (Tells : Type 0) (uuid : List ℕ) (geometry : Geometry) (chain : List Ancestor) (epoch : ℕ)
    (objects : Option Objects)
    (log : ObjLogState) : Type 0 where
  pub checkpoint : ℕ
  pub list : IsRecovered uuid geometry (length chain) log checkpoint
  pub low : AreLow epoch log
  pub told : Tells → IfSome objects (λ objects. IsRecoveredFrom uuid geometry chain objects log checkpoint)
  pub passes : Tells → PassesStored uuid geometry chain epoch objects log.uploads.window.last log.uploads.queue.end

-- or it was not, which leaves the store so
pub record RefusesAlone (Tells : Type 0) (uuid : List ℕ) (geometry : Geometry) (chain : List Ancestor) (epoch : ℕ)
    (Leaves : Objects → Objects → Type 0)
    (old new : Option Objects) (error : MountError) : Type 0 where
  pub why : Tells → IsWhyLost uuid geometry chain epoch old error
  pub no_refusal : Tells → RefusesNoneStored uuid geometry chain old error
  pub store : (IsFault error → ⊥) → new ≡ old
  pub some : Becomes Leaves old new
  pub no_fault : is_device_fault error ≡ false

-- ---- the log

-- the log of these commits was opened, which begins at an end or before
pub record IsOpenedUpTo (geometry : Geometry) (end : ℕ) (commits : CommitsState) (log : LogState) : Type 0 where
  pub may_stand : MayStand commits.body geometry.log
  pub finished : commits.unfinished ≡ None
  pub opened : IsOpenedLog geometry commits log
  pub tail : commits.body.tail.seq ≤ end
  pub number : commits.number < max_number
  pub count : max end commits.body.head.seq < max_number

-- the commits are those that a device reads as, and are of this owner
pub record IsOpenedOf (owner : CacheOwner) (geometry : Geometry) (end : ℕ) (old : DiskState) (log : LogState) : Type 0 where
  pub commits : CommitsState
  pub read : HoldsNow (λ now. Reads geometry.log now.bytes commits.body commits.number) old.moments
  pub records : HoldsNow (λ now. AreRecordsInRange geometry commits.body log.rows now.bytes) old.moments
  pub is_of : owner_of commits.body ≡ owner
  pub up_to : IsOpenedUpTo geometry end commits log
  pub settled : LeavesSettled old log.commits.disk
  pub calls : MakesAtMost (open_cost (entry_count commits.body)) true old log.commits.disk

-- a log was not opened, where the objects have this end, and no greater number than this
pub record IsNotOpened (owner : CacheOwner) (geometry : Geometry) (end greatest : ℕ) (error : MountError) (old new : DiskState) :
    Type 0 where
  pub why : IsWhyNotOpened owner geometry end greatest old error
  pub settled : LeavesSettled old new
  pub device : MayLeaveDevice ⊥ geometry error old new
  pub costs : CostsMount geometry.log (not (is_device_fault error)) old new

-- why the last commit is not that of this owner, whose objects have this end
abbrev pub IsWhyRefusedCommit : (owner : CacheOwner) → (end : ℕ) → CommitBody → Refusal → Type 0
IsWhyRefusedCommit owner end body (WrongVolume found) = (body.uuid ≡ found) × (found ≡ owner.uuid → ⊥)
IsWhyRefusedCommit owner end body (StaleCache cache store) =
    (body.uuid ≡ owner.uuid) × (body.epoch ≡ cache) × (store ≡ owner.epoch) × (cache ≡ owner.epoch → ⊥)
IsWhyRefusedCommit owner end body (BadRecord seq reason) =
    (seq ≡ end) × (reason ≡ reasons.Seq) × (owner_of body ≡ owner) × (end < body.tail.seq)
IsWhyRefusedCommit owner end body refusal = ⊥

-- ---- completing

-- Whatever a stop left meanwhile had the entries of the log from an end on that was opened, or of the one that is committed.
abbrev pub LeavesFrom : (end : ℕ) → (old : LogState) → DiskState → Type 0
LeavesFrom end old new =
    (trimmed : LogState) × IsTrimmed end old trimmed × LeavesEntriesSince trimmed (IsLastOr trimmed.commits (body_of trimmed)) new

-- The entries of a log from the end of a list on were added to the list, and the log was committed with its tail there.
pub record IsCompleted (list : ObjLogState) (old new : LogState) (objects : ObjLogState) : Type 0 where
  pub trimmed : LogState
  pub trims : IsTrimmed list.uploads.queue.end old trimmed
  pub entries : List Entry
  pub rows : AreRowsOf trimmed.rows entries
  pub told : IfSome trimmed.entries (λ all. all ≡ entries)
  pub added : (row_of_none : Row) → AddsEntries (data_in trimmed row_of_none) entries list objects
  pub same : HasSameList trimmed new
  pub released : IsReleased trimmed new
  pub made : IsMade (body_of trimmed) trimmed.commits new.commits
  pub numbered : AreNumbered new.first new.rows
  pub synced : HoldsNow IsSynced new.commits.disk.moments
  pub is_disk : IsDisk new.commits.disk

-- ---- the volume

-- a volume of a list and a log that was just mounted
abbrev pub mounted_of : ObjLogState → LogState → MountedState
mounted_of objects log = record {
  volume = record { volume = volume_of objects log; steps = 0 };
  entries = objects.batch.first + length objects.batch.entries;
  number = objects.uploads.window.last;
}
