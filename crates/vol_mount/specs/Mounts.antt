-- Contract: what a mount promises as a whole: what it made, or why it gives none and what is left.
use Rattle.std.specs.Prelude.{◌≡◌, ℕ, ◌+◌, true, not, Option, Result, IfOk, IfErr, List, length}
use Rattle.clone_chain.specs.declared.ancestor.Ancestor.{Ancestor}
use Rattle.lsvd_base.specs.declared.geometry.Geometry.{Geometry}
use Rattle.lsvd_fault.specs.Faults.{Counts}
use Rattle.lsvd_device.specs.Device.{DiskState, IsDisk, HoldsNow}
use Rattle.lsvd_device.specs.Memory.{IsSynced}
use Rattle.lsvd_objstore.specs.Objects.{Objects}
use Rattle.lsvd_objstore.specs.Store.{StoreState, Becomes}
use Rattle.stopped_volume.specs.Device.{CacheOwner, owner_with}
use Rattle.object_recovery.specs.Checkpoints.{expected_of}
use Rattle.object_recovery.specs.Recovery.{RemovesAllPast, MayRemovePast}
use Rattle.vol_mount.specs.declared.error.MountError.{MountError}
use Rattle.vol_mount.specs.Mounted.{MountedState, IsOfVolume, disk_of, NumbersNextCommit}
use Rattle.vol_mount.specs.Mounting.{MountsStored, MountsLeft, KeepsLeft, RefusesNoneStored, RefusesNoneLeft}
use Rattle.vol_mount.specs.Epochs.{BeginsEpoch, MayBeginEpoch}
use Rattle.vol_mount.specs.Refusals.{IsWhyLost, IsWhyNotLeft, IsFault, is_device_fault, ends_by_store_fault}
use Rattle.vol_mount.specs.Passing.{PassesStored, PassesLeft}
use Rattle.vol_mount.specs.Leaving.{LeavesDevice}
use Rattle.vol_mount.specs.Costs.{CostsMount, CostsNewLog, FailsToFormat}

-- ---- with the cache

-- all tests of store and device are passed, where bytes are told
abbrev pub PassesAll : (Tells : Type 0) → (owner : CacheOwner) → Geometry → List Ancestor → Option Objects → DiskState → Type 0
PassesAll Tells owner geometry chain objects disk =
    Tells → (number : ℕ) × (entries : ℕ) × PassesLeft owner geometry chain objects disk number entries

-- A mount with the cache made the volume that was asked for, whose store and device pass all tests: of each plain volume that
-- they have, what such a mount is to make. The objects past the first missing number are removed, and the device has one commit
-- more, on which nothing is pending. A stop meanwhile leaves the commit that was found, or that of the volume which is made.
pub record MakesWithCache (Tells : Type 0) (owner : CacheOwner) (geometry : Geometry) (chain : List Ancestor)
    (old new : Option Objects)
    (disk : DiskState) (mounted : MountedState) : Type 0 where
  pub volume : IsOfVolume owner geometry chain mounted
  pub passes : Tells → PassesLeft owner geometry chain old disk mounted.number mounted.entries
  pub mounts : Tells → MountsLeft owner geometry chain old disk mounted
  pub removed : Becomes (RemovesAllPast owner.uuid mounted.number) old new
  pub stops : Tells → KeepsLeft owner geometry chain old disk (disk_of mounted)
  pub costs : CostsMount geometry.log true disk (disk_of mounted)
  pub synced : HoldsNow IsSynced (disk_of mounted).moments
  pub number : NumbersNextCommit geometry.log disk mounted

-- It gave none: the error has its cause and refuses no plain volume that store and device have. One that is no fault leaves the
-- objects as they were, and each leaves them without some past the first missing number at most. The device keeps its commit,
-- and a stop meanwhile that, or the commit of the volume which the mount was to make.
pub record LeavesWithCache (Tells : Type 0) (owner : CacheOwner) (geometry : Geometry) (chain : List Ancestor)
    (old new : Option Objects)
    (disk left : DiskState) (error : MountError) : Type 0 where
  pub why : Tells → IsWhyNotLeft owner geometry chain old disk error
  pub no_refusal : Tells → RefusesNoneLeft owner geometry chain old disk error
  pub store : (IsFault error → ⊥) → new ≡ old
  pub some : Becomes (MayRemovePast Tells (expected_of owner.uuid geometry (length chain))) old new
  pub device : LeavesDevice (PassesAll Tells owner geometry chain old disk) geometry error disk left
  pub stops : Tells → KeepsLeft owner geometry chain old disk left
  pub costs : CostsMount geometry.log (not (is_device_fault error)) disk left
  pub is_disk : IsDisk left

-- so a mount with the cache ends, and a call of the store that failed was counted once
pub record MountsWithCache {D : Type 0} (state : D → DiskState) (Tells : Type 0) (owner : CacheOwner) (geometry : Geometry)
    (chain : List Ancestor)
    (disk : DiskState) (old new : StoreState) (result : Result MountedState (D × MountError)) : Type 0 where
  pub made : IfOk result (MakesWithCache Tells owner geometry chain old.objects new.objects disk)
  pub none : IfErr result (λ error. LeavesWithCache Tells owner geometry chain old.objects new.objects disk
      (state error.0) error.1)
  pub faults : Counts (ends_by_store_fault result) old.faults new.faults

-- ---- without it

-- A mount without the cache made the volume that was asked for in the next epoch, whose store passes all tests: of each plain
-- volume that it has, what such a mount is to make. The objects past the first missing number are removed, then the epoch was
-- put, and the device was formatted: its commit has the number 0, and nothing is pending.
pub record MakesWithoutCache (Tells : Type 0) (uuid : List ℕ) (geometry : Geometry) (chain : List Ancestor) (epoch : ℕ)
    (old new : Option Objects)
    (disk : DiskState) (mounted : MountedState) : Type 0 where
  pub volume : IsOfVolume (owner_with uuid (epoch + 1)) geometry chain mounted
  pub passes : Tells → PassesStored uuid geometry chain epoch old mounted.number mounted.entries
  pub mounts : Tells → MountsStored uuid geometry chain old mounted
  pub begun : Becomes (BeginsEpoch uuid mounted.number (epoch + 1)) old new
  pub synced : HoldsNow IsSynced (disk_of mounted).moments
  pub number : mounted.volume.volume.log.commits.number ≡ 0
  pub costs : CostsNewLog uuid (epoch + 1) true disk (disk_of mounted)

-- It gave none: the error has its cause and refuses no plain volume that the store has. One that is no fault leaves the objects
-- as they were, and each leaves them so that the next epoch is put only after all past the first missing number are removed. The
-- device is as it was, unless a call of its format failed.
pub record LeavesWithoutCache (Tells : Type 0) (uuid : List ℕ) (geometry : Geometry) (chain : List Ancestor) (epoch : ℕ)
    (old new : Option Objects)
    (disk left : DiskState) (error : MountError) : Type 0 where
  pub why : Tells → IsWhyLost uuid geometry chain epoch old error
  pub no_refusal : Tells → RefusesNoneStored uuid geometry chain old error
  pub store : (IsFault error → ⊥) → new ≡ old
  pub some : Becomes (MayBeginEpoch Tells (expected_of uuid geometry (length chain)) (epoch + 1)) old new
  pub costs : FailsToFormat uuid (epoch + 1) (is_device_fault error) disk left
  pub is_disk : IsDisk left

-- so a mount without the cache ends, and a call of the store that failed was counted once
pub record MountsWithoutCache {D : Type 0} (state : D → DiskState) (Tells : Type 0) (uuid : List ℕ) (geometry : Geometry)
    (chain : List Ancestor)
    (epoch : ℕ) (disk : DiskState) (old new : StoreState) (result : Result MountedState (D × MountError)) : Type 0 where
  pub made : IfOk result (MakesWithoutCache Tells uuid geometry chain epoch old.objects new.objects disk)
  pub none : IfErr result (λ error. LeavesWithoutCache Tells uuid geometry chain epoch old.objects new.objects disk
      (state error.0)
      error.1)
  pub faults : Counts (ends_by_store_fault result) old.faults new.faults
