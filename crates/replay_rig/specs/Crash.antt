-- For this crate's own clauses: disks before a format and after a stop, and what is mounted on them.
use Rattle.std.specs.Prelude.{◌≡◌, ℕ, ◌^◌, ◌<◌, ◌≤◌, Some, None, List, [], ◌∷◌, replicate}
use Rattle.clone_chain.specs.declared.ancestor.Ancestor.{Ancestor}
use Rattle.lsvd_base.specs.declared.geometry.Geometry.{Geometry}
use Rattle.lsvd_names.specs.Names.{numbered_name, hold_name}
use Rattle.lsvd_device.specs.Calls.{Cost, fuse_of}
use Rattle.lsvd_device.specs.Device.{DiskState, IsDisk, HoldsNow}
use Rattle.lsvd_device.specs.Medium.{MayLeave, durable}
use Rattle.lsvd_device.specs.Memory.{HasRoom, IsSynced}
use Rattle.lsvd_device.specs.Stop.{left_in_order, IsStopped, HasNow}
use Rattle.lsvd_device.specs.declared.fate.Fate.{Fate}
use Rattle.lsvd_objstore.specs.Objects.{Objects, found, IsPut}
use Rattle.commit_slot.specs.Slots.{log_of}
use Rattle.stopped_volume.specs.Ancestors.{KeepsOtherVolumes}
use Rattle.stopped_volume.specs.Opening.{IsCheckpointOf}
use Rattle.stopped_volume.specs.Super.{HasVolume}
use Rattle.plain_disk.specs.declared.log.PlainCommit.{PlainCommit}
use Rattle.plain_disk.specs.State.{PlainState, created_volume}
use Rattle.object_recovery.specs.Checkpoints.{expected_of}
use Rattle.refine_mount.specs.Found.{HasHolds}
use Rattle.vol_core.specs.Volume.{SteppedVolume}
use Rattle.vol_core.specs.Creating.{IsCreated}
use Rattle.vol_core.specs.View.{PendsAs, last_commit, volume_disk}
use Rattle.vol_mount.specs.Mounted.{MountedState, disk_of, IsOfVolume}
use Rattle.vol_mount.specs.Mounting.{IsStored, IsLeft}
use Rattle.vol_recover.specs.Describing.{HasWithAncestors}
use Rattle.refusals.specs.declared.refusal.Refusal.TheVariants.{Worn}
use Rattle.vol_mount.specs.declared.error.MountError.TheVariants.{Refused}
use Rattle.vol_mount.specs.Refusals.{IsWornStored, IsWhyNotLeft}
use Rattle.lsvd_objstore.specs.Memory.{Kept}
use Rattle.replay_rig.specs.Puts.{PutView, IsPutOut}
use Rattle.replay_rig.specs.Rig.{script_uuid, owner_at}

-- ---- disks

-- a disk fails no call by a fuse, and has room for calls that take so much
pub record FailsNone (cost : Cost) (disk : DiskState) : Type 0 where
  pub is_disk : IsDisk disk
  pub fuse : fuse_of disk.budget ≡ Some None
  pub room : HasRoom cost.changes cost.bytes disk.budget

-- it has zeros alone
pub record IsBlankDisk (len : ℕ) (disk : DiskState) : Type 0 where
  pub size : disk.size ≡ len
  pub moments : disk.moments ≡ durable (replicate len 0) ∷ []

-- a disk has what the fates of its writes leave of another one
pub record IsLeftBy (fates : List Fate) (before left : DiskState) : Type 0 where
  pub size : left.size ≡ before.size
  pub stopped : IsStopped fates before.moments left.moments
  pub may_leave : HoldsNow (λ now. MayLeave now (left_in_order fates before.moments)) before.moments

-- ---- stores

-- the object of a put that is out was put into the store, which gave this receipt for it
pub record IsPutAs (number : ℕ) (puts : List PutView) (old new : Objects) (receipt : Kept) : Type 0 where
  pub bytes : List ℕ
  pub out : IsPutOut number bytes puts
  pub put : IsPut (numbered_name script_uuid number) bytes old new
  pub named : receipt.name ≡ numbered_name script_uuid number
  pub told : receipt.bytes ≡ bytes

-- ---- volumes

-- the volume of a script that was just created, and the store with its first object, its epoch 0 and its super object
pub record IsNewVolume (geometry : Geometry) (volume : SteppedVolume) (objects : Objects) : Type 0 where
  pub created : IsCreated script_uuid geometry volume
  pub fuse : fuse_of (volume_disk volume.volume).budget ≡ Some None
  pub pending : PendsAs volume.volume (created_volume geometry).cache
  pub commits : last_commit volume.volume ≡ 0
  pub described : HasVolume script_uuid geometry [] 0 objects
  pub first : IsCheckpointOf (expected_of script_uuid geometry 0) objects 1 0 (λ k. None)
  pub none_else : (number : ℕ) → (number ≡ 1 → ⊥) → found objects (numbered_name script_uuid number) ≡ None
  pub holds : HasHolds (expected_of script_uuid geometry 0) [] objects

-- a store may be mounted: it has a plain volume in an epoch, with its ancestors, and no number of it is too great
pub record MayMountStored (geometry : Geometry) (objects : Objects) : Type 0 where
  pub plain : PlainState
  pub number : ℕ
  pub epoch : ℕ
  pub described : HasWithAncestors script_uuid geometry plain.chain epoch objects
  pub stored : IsStored script_uuid geometry plain.chain plain number (Some objects)
  pub low : (value : ℕ) → IsWornStored script_uuid geometry plain.chain epoch (Some objects) value → ⊥

-- A device and a store may be mounted: they have a plain volume in an epoch, with its ancestors, nothing is pending on the
-- device, and no number is too great.
pub record MayMountLeft (geometry : Geometry) (objects : Objects) (disk : DiskState) : Type 0 where
  pub plain : PlainState
  pub found : PlainCommit
  pub number : ℕ
  pub epoch : ℕ
  pub log : geometry.log ≡ log_of disk.size
  pub size : 4096 ≤ disk.size
  pub described : HasWithAncestors script_uuid geometry plain.chain epoch objects
  pub left : IsLeft (owner_at epoch) geometry plain.chain plain found number (Some objects) disk
  pub synced : HoldsNow IsSynced disk.moments
  pub low : (value : ℕ) → IsWhyNotLeft (owner_at epoch) geometry plain.chain (Some objects) disk (Refused (Worn value)) → ⊥

-- the numbered objects past a number were removed, and the others stay, and so do holds and other volumes
pub record RemovesNumbers (number : ℕ) (old new : Objects) : Type 0 where
  pub stay : (n : ℕ) → n ≤ number → found new (numbered_name script_uuid n) ≡ found old (numbered_name script_uuid n)
  pub gone : (n : ℕ) → number < n → n < 2 ^ 64 → found new (numbered_name script_uuid n) ≡ None
  pub none : (n : ℕ) → found old (numbered_name script_uuid n) ≡ None → found new (numbered_name script_uuid n) ≡ None
  pub holds : (n : ℕ) → found new (hold_name script_uuid n) ≡ found old (hold_name script_uuid n)
  pub others : KeepsOtherVolumes script_uuid old new

-- a volume of a script was mounted in an epoch, on a device that fails no call and has nothing pending, and the objects past the
-- first missing number were removed
pub record IsMountedVolume (geometry : Geometry) (chain : List Ancestor) (epoch : ℕ) (objects : Objects)
    (mounted : MountedState) (after : Objects) : Type 0 where
  pub volume : IsOfVolume (owner_at epoch) geometry chain mounted
  pub described : HasVolume script_uuid geometry chain epoch after
  pub removed : RemovesNumbers mounted.number objects after
  pub fuse : fuse_of (disk_of mounted).budget ≡ Some None
  pub now : HasNow IsSynced (disk_of mounted).moments
