-- Contract: what a mount of a volume is, by what the store says of it, and how it ends.
use Rattle.std.specs.Prelude.{◌≡◌, ℕ, ◌⊎◌, false, Option, IfSome, IsTrue, Result, Ok, Err, List}
use Rattle.clone_chain.specs.declared.ancestor.Ancestor.{Ancestor}
use Rattle.lsvd_base.specs.declared.geometry.Geometry.{Geometry}
use Rattle.lsvd_base.specs.Limits.{is_within_limits}
use Rattle.lsvd_fault.specs.Faults.{Counts}
use Rattle.lsvd_device.specs.Device.{DiskState, IsDisk}
use Rattle.lsvd_objstore.specs.Objects.{Objects}
use Rattle.lsvd_objstore.specs.Store.{StoreState}
use Rattle.commit_slot.specs.Slots.{log_of}
use Rattle.stopped_volume.specs.Device.{owner_with}
use Rattle.vol_mount.specs.declared.error.MountError.{MountError}
use Rattle.vol_mount.specs.Mounted.{MountedState}
use Rattle.vol_mount.specs.Mounts.{MountsWithCache, MountsWithoutCache}
use Rattle.vol_mount.specs.Refusals.{IsUnfitting, IsWhyNotStored, refuses, is_device_fault, is_store_fault_of}
use Rattle.vol_recover.specs.Describing.{OfVolume, IsTheVolume, SaysVolume, IsWhyNotDescribed}

-- ---- what the store says

-- The store says that this is the volume, on a device whose log has so many sectors; and whatever volume it has is this one.
pub record IsDescribed (Tells : Type 0) (uuid : List ℕ) (log : ℕ) (objects : Option Objects) (geometry : Geometry)
    (chain : List Ancestor) (epoch : ℕ) : Type 0 where
  pub log_is : geometry.log ≡ log
  pub says : Tells → IfSome objects (SaysVolume uuid geometry chain epoch)
  pub same : Tells → IsTheVolume uuid log objects geometry chain epoch

-- or the volume as a whole is refused, and no volume that the store has
pub record IsNotDescribed (Tells : Type 0) (uuid : List ℕ) (log : ℕ) (objects : Option Objects) (error : MountError) :
    Type 0 where
  pub why : Tells → IsWhyNotDescribed uuid objects error
  pub no_refusal : Tells → OfVolume uuid log objects (λ geometry chain epoch. refuses error ≡ false)

-- the log of the device does not fit a volume with these sizes, or its objects are refused, which are judged before
abbrev pub IsNotFitted : (Tells : Type 0) → (uuid : List ℕ) → Geometry → List Ancestor → Option Objects → MountError → Type 0
IsNotFitted Tells uuid geometry chain objects error =
    Tells → IsUnfitting uuid geometry chain objects error ⊎ IsWhyNotStored uuid geometry chain objects error

-- ---- how a mount ends

-- Device and objects are as they were. A call of the store that failed was counted, and none of the device did.
pub record LeavesAll (disk left : DiskState) (old new : StoreState) (error : MountError) : Type 0 where
  pub device : left ≡ disk
  pub is_disk : IsDisk left
  pub objects : new.objects ≡ old.objects
  pub no_fault : is_device_fault error ≡ false
  pub faults : Counts (is_store_fault_of error) old.faults new.faults

-- a mount ended by such an error, before anything was changed
abbrev pub EndsBefore : {D : Type 0} → (D → DiskState) → (Why : MountError → Type 0) → DiskState → (old new : StoreState)
    → Result MountedState (D × MountError) → Type 0
EndsBefore state Why disk old new (Ok mounted) = ⊥
EndsBefore state Why disk old new (Err error) = Why error.1 × LeavesAll disk (state error.0) old new error.1

-- the log of the device does not fit the volume, and the mount ended before; or it fits, and the volume was mounted so
abbrev pub MountsIfFits : {D : Type 0} → (D → DiskState) → (Tells : Type 0) → (uuid : List ℕ) → DiskState
    → (old new : StoreState) → Result MountedState (D × MountError) → (Mounts : Geometry → List Ancestor → (epoch : ℕ) → Type 0)
    → Geometry → List Ancestor → (epoch : ℕ) → Type 0
MountsIfFits state Tells uuid disk old new result Mounts geometry chain epoch =
    ((is_within_limits geometry ≡ false)
    × EndsBefore state (IsNotFitted Tells uuid geometry chain old.objects) disk old new result)
    ⊎ (IsTrue (is_within_limits geometry) × Mounts geometry chain epoch)

-- no volume is described, and the mount ended before; or this one is, and it was mounted so if it fits
abbrev pub IsMounting : {D : Type 0} → (D → DiskState) → (Tells : Type 0) → (uuid : List ℕ) → DiskState → (old new : StoreState)
    → Result MountedState (D × MountError) → (Mounts : Geometry → List Ancestor → (epoch : ℕ) → Type 0) → Type 0
IsMounting state Tells uuid disk old new result Mounts =
    EndsBefore state (IsNotDescribed Tells uuid (log_of disk.size) old.objects) disk old new result
    ⊎ ((geometry : Geometry) × (chain : List Ancestor) × (epoch : ℕ)
    × IsDescribed Tells uuid (log_of disk.size) old.objects geometry chain epoch
    × MountsIfFits state Tells uuid disk old new result Mounts geometry chain epoch)

-- ---- the whole

-- The volume that the store says there is was mounted with its cache, or it was not, for a reason that comes before or in that.
pub record MountsKept {D : Type 0} (state : D → DiskState) (Tells : Type 0) (uuid : List ℕ) (disk : DiskState)
    (old new : StoreState) (result : Result MountedState (D × MountError)) : Type 0 where
  pub is : IsMounting state Tells uuid disk old new result
      (λ geometry chain epoch. MountsWithCache state Tells (owner_with uuid epoch) geometry chain disk old new result)

-- The same without its cache.
pub record MountsLost {D : Type 0} (state : D → DiskState) (Tells : Type 0) (uuid : List ℕ) (disk : DiskState)
    (old new : StoreState) (result : Result MountedState (D × MountError)) : Type 0 where
  pub is : IsMounting state Tells uuid disk old new result
      (λ geometry chain epoch. MountsWithoutCache state Tells uuid geometry chain epoch disk old new result)
