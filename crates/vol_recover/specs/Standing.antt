-- Contract: from its creation on, and over mounts, a volume stands with its store; and what a stop leaves of the two is what the
-- next mount asks for. A stop in the midst of a mount leaves of the store what a mount that fails may leave.
use Rattle.std.specs.Prelude.{ℕ, ◌+◌, ◌≤◌, ◌⊎◌, Some, OnSome, IsTrue, List}
use Rattle.lsvd_base.specs.declared.geometry.Geometry.{Geometry}
use Rattle.lsvd_base.specs.Limits.{is_within_limits}
use Rattle.lsvd_device.specs.Device.{DiskState, HoldsNow, HoldsSince}
use Rattle.lsvd_device.specs.Medium.{Medium, MayLeave}
use Rattle.lsvd_device.specs.Stop.{HasNow}
use Rattle.lsvd_names.specs.Spelling.{IsUuid}
use Rattle.lsvd_objstore.specs.Objects.{Objects}
use Rattle.lsvd_objstore.specs.Store.{ReceiptState}
use Rattle.stopped_volume.specs.Device.{CacheOwner, owner_with}
use Rattle.stopped_volume.specs.Objects.{landed_in}
use Rattle.plain_disk.specs.declared.log.PlainCommit.{PlainCommit}
use Rattle.object_stream.specs.Landed.{Numbers}
use Rattle.plain_disk.specs.State.{PlainState, created_volume, history_length, frontier_end}
use Rattle.plain_disk.specs.Stops.{recovered_number, mounted_from, mounted_on}
use Rattle.plain_disk.specs.Found.{found_in, landed_to}
use Rattle.plain_disk.specs.Valid.{IsPlainVolume, IsCommitWithin}
use Rattle.object_recovery.specs.Recovery.{RemovesAllPast, MayRemovePast}
use Rattle.refine_log.specs.Fuses.{fuse_in}
use Rattle.refine_log.specs.Stops.{IsFoundCommit}
use Rattle.refine_mount.specs.Found.{expected_for}
use Rattle.refine_mount.specs.Mounted.{sizes_with}
use Rattle.refine_mount.specs.Stops.{StopKeepsMount}
use Rattle.refine_store.specs.Stored.{StoreStands, HasVolumeUpTo}
use Rattle.vol_core.specs.declared.event.Event.{Event}
use Rattle.vol_core.specs.declared.reply.Reply.{Reply}
use Rattle.vol_core.specs.Shows.{Shows, IsVolume}
use Rattle.vol_core.specs.Step.{passing, CountedStep}
use Rattle.vol_core.specs.Stops.{MayBeLeftBy, HasOwnCommits, KeepsNow}
use Rattle.vol_core.specs.Volume.{VolumeState, SteppedVolume}
use Rattle.vol_core.specs.View.{all_log_entries, volume_disk, volume_uploads, volume_uuid}
use Rattle.vol_mount.specs.Epochs.{BeginsEpoch, MayBeginEpoch}
use Rattle.vol_mount.specs.Mounted.{MountedState, IsOfVolume}
use Rattle.vol_mount.specs.Mounting.{IsStored, IsLeft, MountsStored, MountsLeft}
use Rattle.vol_recover.specs.Creating.{IsNewTo, CreatedWithStore}

-- ---- what stands

-- a volume shows a plain volume, for which the objects of its store stand in an epoch
pub record StandsWithStore (uuid : List ℕ) (epoch : ℕ) (plain : PlainState) (volume : VolumeState) (objects : Objects) :
    Type 0 where
  pub shows : Shows volume plain
  pub stands : StoreStands uuid epoch plain (volume_uploads volume) objects

-- the same of a volume that was created or mounted as a plain one, whose device passes the calls that its own does
abbrev pub IsMadeWithStore : (uuid : List ℕ) → (epoch : ℕ) → PlainState → VolumeState → Objects → Type 0
IsMadeWithStore uuid epoch plain volume objects =
    StandsWithStore uuid epoch (passing (fuse_in (volume_disk volume).budget) plain) volume objects

-- ---- what a mount asks for

-- A store may be mounted without the cache on a log of so many sectors: it has a plain volume up to the object before the first
-- missing number, of these that have landed, as a mount finds it.
pub record MayMountWithout (uuid : List ℕ) (log epoch : ℕ) (plain : PlainState) (landed : Numbers) (objects : Objects) :
    Type 0 where
  pub valid : IsPlainVolume plain
  pub stored :
      IsStored uuid (sizes_with log plain.geometry) plain.chain (found_in landed plain) (recovered_number landed plain)
      (Some objects)
  pub volume : HasVolumeUpTo uuid epoch plain landed objects

-- and with it: the device reads as this commit of the plain volume
pub record MayMountWith (owner : CacheOwner) (plain : PlainState) (found : PlainCommit) (landed : Numbers) (objects : Objects)
    (disk : DiskState) : Type 0 where
  pub valid : IsPlainVolume plain
  pub commit : IsCommitWithin plain.cache.log.size (frontier_end plain) (history_length plain) found
  pub later : plain.cache.log.last.tail.seq ≤ found.tail.seq
  pub left : IsLeft owner plain.geometry plain.chain (found_in landed plain) found (recovered_number landed plain)
      (Some objects) disk
  pub volume : HasVolumeUpTo owner.uuid owner.epoch plain landed objects

-- whatever a stop leaves of a medium, a device that has it may be mounted with these objects: it reads as a commit with P
abbrev pub StopMayMount : (owner : CacheOwner) → PlainState → (P : PlainCommit → Type 0) → Objects → Medium → Type 0
StopMayMount owner plain P objects medium =
    (disk : DiskState) → HasNow (λ now. MayLeave medium now.bytes) disk.moments
    → (found : PlainCommit) × P found
    × MayMountWith owner plain found (landed_in objects (expected_for owner.uuid plain)) objects disk

-- ---- creations and mounts

-- a volume that was created with a store that was new to it stands with that in epoch 0
abbrev pub CreatedStands : Type 0
CreatedStands =
    (uuid : List ℕ) (geometry : Geometry) (disk : DiskState) (old new : Objects) (stepped : SteppedVolume)
    → CreatedWithStore uuid geometry disk (Some old) (Some new) stepped → IsNewTo uuid old
    → IsMadeWithStore uuid 0 (created_volume geometry) stepped.volume new

-- one that was mounted with its cache does in the epoch that there was
abbrev pub MountedWithStands : Type 0
MountedWithStands =
    (owner : CacheOwner) (plain : PlainState) (found : PlainCommit) (landed : Numbers) (old new : Objects) (disk : DiskState)
    (mounted : MountedState)
    → IsUuid owner.uuid → MayMountWith owner plain found landed old disk
    → MountsLeft owner plain.geometry plain.chain (Some old) disk mounted → IsOfVolume owner plain.geometry plain.chain mounted
    → RemovesAllPast owner.uuid mounted.number old new
    → IsMadeWithStore owner.uuid owner.epoch (mounted_from landed found plain) mounted.volume.volume new

-- and one without it in the next epoch
abbrev pub MountedWithoutStands : Type 0
MountedWithoutStands =
    (uuid : List ℕ) (log epoch : ℕ) (plain : PlainState) (landed : Numbers) (old new : Objects) (mounted : MountedState)
    → IsUuid uuid → MayMountWithout uuid log epoch plain landed old
    → MountsStored uuid (sizes_with log plain.geometry) plain.chain (Some old) mounted
    → IsOfVolume (owner_with uuid (epoch + 1)) (sizes_with log plain.geometry) plain.chain mounted
    → BeginsEpoch uuid mounted.number (epoch + 1) old new
    → IsMadeWithStore uuid (epoch + 1) (mounted_on log landed plain) mounted.volume.volume new

-- ---- stops

-- Of a volume that stands with its store, the store may be mounted without the cache, up to the object before the first missing
-- number. Whatever a stop in the midst of a put leaves of it stands too, so that this and what follows is said of that.
abbrev pub StopLeavesStore : Type 0
StopLeavesStore =
    (stepped : SteppedVolume) (epoch : ℕ) (plain : PlainState) (objects : Objects) (log : ℕ) → IsVolume stepped
    → StandsWithStore (volume_uuid stepped.volume) epoch plain stepped.volume objects
    → IsTrue (is_within_limits (sizes_with log plain.geometry))
    → MayMountWithout (volume_uuid stepped.volume) log epoch plain
    (landed_in objects (expected_for (volume_uuid stepped.volume) plain)) objects

-- And with the cache, by whatever a stop leaves of the device: that reads as the last commit of the plain volume or as the
-- unfinished one.
abbrev pub StopLeavesBoth : Type 0
StopLeavesBoth =
    (stepped : SteppedVolume) (epoch : ℕ) (plain : PlainState) (objects : Objects) → IsVolume stepped
    → KeepsNow (owner_with (volume_uuid stepped.volume) epoch) stepped.volume
    → StandsWithStore (volume_uuid stepped.volume) epoch plain stepped.volume objects
    → HoldsNow (StopMayMount (owner_with (volume_uuid stepped.volume) epoch) plain
    (λ found. IsFoundCommit found plain.cache.log) objects) (volume_disk stepped.volume).moments

-- So it is at each moment of a step, of the plain volume before it: the device reads as a commit that a stop may leave in the
-- midst of a step of this event.
abbrev pub StepLeavesBoth : {R : Type 0} → (R → ReceiptState) → Type 0
StepLeavesBoth {R} state =
    (event : Event R) (reply : Reply R) (old new : SteppedVolume) (epoch : ℕ) (plain : PlainState) (objects : Objects)
    → IsVolume old → HasOwnCommits (owner_with (volume_uuid old.volume) epoch) old.volume
    → CountedStep state event reply old new
    → StandsWithStore (volume_uuid old.volume) epoch plain old.volume objects
    → OnSome (all_log_entries old.volume) (HoldsSince (StopMayMount (owner_with (volume_uuid old.volume) epoch) plain
    (MayBeLeftBy event plain) objects) (volume_disk old.volume).moments (volume_disk new.volume).moments)

-- ---- a mount that is stopped

-- Of a mount with the cache, what is left of the store where it failed or was stopped, and of the device at any moment of it, may
-- be mounted with each other again: as the same plain volume, or as that which the mount was to make. Either makes the same.
abbrev pub StoppedWithCache : Type 0
StoppedWithCache =
    (owner : CacheOwner) (plain : PlainState) (found : PlainCommit) (landed : Numbers) (old new : Objects)
    (disk left : DiskState) (medium : Medium)
    → MayMountWith owner plain found landed old disk → MayRemovePast (Unit {0}) (expected_for owner.uuid plain) old new
    → StopKeepsMount owner (found_in landed plain) found (recovered_number landed plain) medium
    → HasNow (λ now. MayLeave medium now.bytes) left.moments
    → MayMountWith owner plain found landed new left
    ⊎ MayMountWith owner (mounted_from landed found plain) (mounted_from landed found plain).cache.log.last
    (landed_to (recovered_number landed plain) landed) new left

-- And of one without the cache, what is left of the store may be mounted without it again: as the same plain volume, or in the
-- next epoch as that which the mount was to make. This makes the same.
abbrev pub StoppedWithoutCache : Type 0
StoppedWithoutCache =
    (uuid : List ℕ) (log epoch : ℕ) (plain : PlainState) (landed : Numbers) (old new : Objects) → IsUuid uuid
    → MayMountWithout uuid log epoch plain landed old
    → MayBeginEpoch (Unit {0}) (expected_for uuid plain) (epoch + 1) old new
    → MayMountWithout uuid log epoch plain landed new
    ⊎ MayMountWithout uuid log (epoch + 1) (mounted_on log landed plain) (landed_to (recovered_number landed plain) landed) new
