-- Contract: what a mount makes of a plain volume that device and store have, and what a stop leaves meanwhile.
use Rattle.std.specs.Prelude.{◌≡◌, ℕ, ◌^◌, ◌<◌, false, IsTrue, Option, IsSomeAnd, List, length}
use Rattle.clone_chain.specs.declared.ancestor.Ancestor.{Ancestor}
use Rattle.lsvd_base.specs.declared.geometry.Geometry.{Geometry}
use Rattle.lsvd_base.specs.Limits.{is_within_limits}
use Rattle.lsvd_device.specs.Device.{DiskState, HoldsNow, HoldsSince}
use Rattle.lsvd_device.specs.Memory.{IsSynced}
use Rattle.lsvd_device.specs.Stop.{HasNow}
use Rattle.lsvd_objstore.specs.Objects.{Objects}
use Rattle.stopped_volume.specs.Device.{CacheOwner}
use Rattle.plain_disk.specs.declared.log.PlainCommit.{PlainCommit}
use Rattle.plain_disk.specs.State.{PlainState}
use Rattle.plain_disk.specs.Valid.{IsPlainVolume}
use Rattle.object_recovery.specs.Checkpoints.{expected_of}
use Rattle.refine_log.specs.Stops.{HasCommit}
use Rattle.refine_mount.specs.Found.{HasObjects}
use Rattle.refine_mount.specs.Mounted.{end_of_object, mounted_with, sizes_with, mounted_without}
use Rattle.refine_mount.specs.Stops.{StopKeepsMount}
use Rattle.vol_mount.specs.declared.error.MountError.{MountError}
use Rattle.vol_mount.specs.Mounted.{MountedState, IsMountOf}
use Rattle.vol_mount.specs.Refusals.{refuses}

-- ---- without the cache

-- A store has a plain volume as a mount finds it, with its objects up to a number: that before the first missing one. It is
-- below 2^63: a volume is worn out long before. It has these ancestors and these sizes but for the log: that of the device may
-- have any length that the limits allow.
pub record IsStored (uuid : List ℕ) (geometry : Geometry) (chain : List Ancestor) (plain : PlainState) (number : ℕ)
    (objects : Option Objects) :
    Type 0 where
  pub valid : IsPlainVolume plain
  pub sizes : geometry ≡ sizes_with geometry.log plain.geometry
  pub chain_is : plain.chain ≡ chain
  pub limits : IsTrue (is_within_limits geometry)
  pub objects_are : IsSomeAnd objects (HasObjects uuid plain number)
  pub low : number < 2 ^ 63

-- whichever plain volume the store has, the mount makes of it what one without the cache is to make on the device's log
abbrev pub MountsStored : (uuid : List ℕ) → Geometry → List Ancestor → Option Objects → MountedState → Type 0
MountsStored uuid geometry chain objects mounted =
    (plain : PlainState) (number : ℕ) → IsStored uuid geometry chain plain number objects
    → IsMountOf (expected_of uuid geometry (length chain)) objects (mounted_without geometry.log number plain) number mounted

-- ---- with the cache

-- Device and store have a plain volume of this owner: the store its objects up to a number, and the device, whose log is as long
-- as the volume's, reads as this commit of that log.
pub record IsLeft (owner : CacheOwner) (geometry : Geometry) (chain : List Ancestor) (plain : PlainState) (found : PlainCommit)
    (number : ℕ)
    (objects : Option Objects)
    (disk : DiskState) : Type 0 where
  pub stored : IsStored owner.uuid geometry chain plain number objects
  pub log_is : plain.geometry.log ≡ geometry.log
  pub device : HasNow (λ now. HasCommit owner plain found (end_of_object number plain) now.bytes) disk.moments

-- whichever plain volume they have, the mount makes of it what one with the cache is to make
abbrev pub MountsLeft : (owner : CacheOwner) → Geometry → List Ancestor → Option Objects → DiskState → MountedState → Type 0
MountsLeft owner geometry chain objects disk mounted =
    (plain : PlainState) (found : PlainCommit) (number : ℕ) → IsLeft owner geometry chain plain found number objects disk
    → IsMountOf (expected_of owner.uuid geometry (length chain)) objects (mounted_with found number plain) number mounted

-- ---- stops

-- Where nothing was pending on the device, whatever a stop leaves of it at each moment of the mount reads as the commit that was
-- found of the plain volume, or as that of the volume which the mount makes of it. A mount of the one or of the other makes the
-- same.
abbrev pub KeepsLeft : (owner : CacheOwner) → Geometry → List Ancestor → Option Objects → (old new : DiskState) → Type 0
KeepsLeft owner geometry chain objects old new =
    (plain : PlainState) (found : PlainCommit) (number : ℕ) → IsLeft owner geometry chain plain found number objects old
    → HoldsNow IsSynced old.moments
    → HoldsSince (StopKeepsMount owner plain found number) old.moments new.moments

-- ---- completeness

-- an error refuses no plain volume that the store has, and none that device and store have
abbrev pub RefusesNoneStored : (uuid : List ℕ) → Geometry → List Ancestor → Option Objects → MountError → Type 0
RefusesNoneStored uuid geometry chain objects error =
    (plain : PlainState) (number : ℕ) → IsStored uuid geometry chain plain number objects → refuses error ≡ false

abbrev pub RefusesNoneLeft : (owner : CacheOwner) → Geometry → List Ancestor → Option Objects → DiskState → MountError → Type 0
RefusesNoneLeft owner geometry chain objects disk error =
    (plain : PlainState) (found : PlainCommit) (number : ℕ) → IsLeft owner geometry chain plain found number objects disk
    → refuses error ≡ false
