-- Contract: why a volume is not mounted.
use Rattle.std.specs.Prelude.{◌≡◌, ℕ, ◌^◌, ◌<◌, ◌≤◌, ◌⊎◌, max, Bool, true, false, Option, None, IfSome, IsTrue, Result, Ok, Err}
use Rattle.std.specs.Prelude.{List, [], ◌∷◌, length}
use Rattle.clone_chain.specs.declared.ancestor.Ancestor.{Ancestor}
use Rattle.lsvd_base.specs.declared.geometry.Geometry.{Geometry}
use Rattle.lsvd_base.specs.Image.{Image}
use Rattle.lsvd_device.specs.Device.{DiskState, HoldsNow}
use Rattle.lsvd_names.specs.Spelling.{IsName}
use Rattle.lsvd_names.specs.declared.name.ObjName.{ObjName}
use Rattle.lsvd_objstore.specs.Objects.{Objects, found}
use Rattle.log_record.specs.declared.reason.Reason.{Reason}
use Rattle.log_record.specs.declared.reason.Reason.TheVariants as reasons
use Rattle.commit_body.specs.declared.body.CommitBody.{CommitBody}
use Rattle.commit_slot.specs.Slots.{Reads, ReadsNone}
use Rattle.commit_slot.specs.declared.error.LoadError.{LoadError}
use Rattle.commit_slot.specs.declared.error.LoadError.TheVariants as load_errors
use Rattle.cache_log.specs.declared.row.Row.{Row}
use Rattle.cache_log.specs.Opening.{AreRecordsInRange, IsBadRecord}
use Rattle.cache_log.specs.declared.error.OpenError.{OpenError}
use Rattle.cache_log.specs.declared.error.OpenError.TheVariants as open_errors
use Rattle.cache_log.specs.declared.error.LogReadError.{LogReadError}
use Rattle.cache_log.specs.declared.error.LogReadError.TheVariants as read_errors
use Rattle.object_format.specs.declared.expected.Expected.{Expected}
use Rattle.object_stream.specs.Stream.{Stream, Owners, end_at}
use Rattle.stopped_volume.specs.Ancestors.{uuid_in_chain}
use Rattle.stopped_volume.specs.Holds.{HasHeldCheckpoints}
use Rattle.stopped_volume.specs.Objects.{landed_in}
use Rattle.stopped_volume.specs.Opening.{IsCheckpointOf}
use Rattle.stopped_volume.specs.Device.{CacheOwner, owner_of}
use Rattle.refusals.specs.declared.refusal.Refusal.TheVariants.{NoVolume, BadSuper, NoCheckpoint, BadObject}
use Rattle.refusals.specs.declared.refusal.Refusal.TheVariants.{MissingObject, BaseMissing, NoSlot, WrongVolume, StaleCache}
use Rattle.refusals.specs.declared.refusal.Refusal.TheVariants.{BadRecord, Worn}
use Rattle.super_recovery.specs.declared.error.SuperError.{SuperError}
use Rattle.super_recovery.specs.declared.error.SuperError.TheVariants as supers
use Rattle.object_recovery.specs.declared.error.RecoverError.{RecoverError}
use Rattle.object_recovery.specs.declared.error.RecoverError.TheVariants as recovery
use Rattle.object_recovery.specs.Checkpoints.{expected_of, IsNoCheckpoint}
use Rattle.object_recovery.specs.Recovery.{HasDataUpTo, IsPastOf, AreAllGood}
use Rattle.object_recovery.specs.Recovering.{IsRefusedThere}
use Rattle.object_recovery.specs.Table.{AreNamedThere}
use Rattle.vol_mount.specs.declared.error.MountError.{MountError}
use Rattle.vol_mount.specs.declared.error.MountError.TheVariants.{Refused, StoreFault, DeviceFault, OutOfMemory}

-- ---- the errors of the steps

abbrev pub of_recovery : RecoverError → MountError
of_recovery recovery.NoCheckpoint = Refused NoCheckpoint
of_recovery (recovery.BadObject number reason) = Refused (BadObject number reason)
of_recovery (recovery.MissingObject number) = Refused (MissingObject number)
of_recovery (recovery.BaseMissing ancestor) = Refused (BaseMissing ancestor)
of_recovery recovery.StoreFault = StoreFault
of_recovery recovery.OutOfMemory = OutOfMemory

abbrev pub of_load : LoadError → MountError
of_load (load_errors.NoSlot log) = Refused (NoSlot log)
of_load load_errors.DeviceFault = DeviceFault

abbrev pub of_open : OpenError → MountError
of_open (open_errors.BadRecord seq reason) = Refused (BadRecord seq reason)
of_open open_errors.DeviceFault = DeviceFault
of_open open_errors.OutOfMemory = OutOfMemory

abbrev pub of_read : LogReadError → MountError
of_read read_errors.DeviceFault = DeviceFault
of_read read_errors.OutOfMemory = OutOfMemory

abbrev pub of_super : SuperError → MountError
of_super supers.NoVolume = Refused NoVolume
of_super (supers.BadSuper reason) = Refused (BadSuper reason)
of_super supers.StoreFault = StoreFault
of_super supers.OutOfMemory = OutOfMemory

-- ---- the objects

-- each object that the rows of the checkpoint with this number name is there, by its header, and its payload has their places
abbrev pub AreAllNamed : (volume : Expected) → (uuid_at : ℕ → Option (List ℕ)) → Objects → (base : ℕ) → Type 0
AreAllNamed volume uuid_at objects base =
    (end : ℕ) (owned : Owners) → (checkpoint : IsCheckpointOf volume objects base end owned)
    → AreNamedThere volume uuid_at objects checkpoint.rows

-- The objects of a store are good: the store has a whole checkpoint of the volume, and the objects that the newest one names;
-- each object past that is of the grammar and, up to the first missing number, goes on where the one before it ends. The
-- checkpoint of each hold is there.
abbrev pub HasGoodObjects : (uuid : List ℕ) → Geometry → List Ancestor → Option Objects → Type 0
HasGoodObjects uuid geometry chain objects =
    IfSome objects (λ objects. (base : ℕ) × (0 < base) × AreAllGood (expected_of uuid geometry (length chain)) objects base
    × AreAllNamed (expected_of uuid geometry (length chain)) (uuid_in_chain uuid chain) objects base
    × HasHeldCheckpoints (expected_of uuid geometry (length chain)) objects)

-- ---- the device

-- a device reads as a commit with P
abbrev pub ReadsAsCommitOf : Geometry → (ℕ → CommitBody → Type 0) → DiskState → Type 0
ReadsAsCommitOf geometry P disk = HoldsNow (λ now. (number : ℕ) × (body : CommitBody) × Reads geometry.log now.bytes body number
    × P number body) disk.moments

-- and its log has the records of that commit up to the head
abbrev pub ReadsWhole : Geometry → (ℕ → CommitBody → Type 0) → DiskState → Type 0
ReadsWhole geometry P disk =
    HoldsNow (λ now. (number : ℕ) × (body : CommitBody) × Reads geometry.log now.bytes body number × P number body
    × ((rows : List Row) × AreRecordsInRange geometry body rows now.bytes))
    disk.moments

-- or it has no list of them up to the head, and the first bad record is this one
abbrev pub IsBadLeftLog : Geometry → (ℕ → CommitBody → Type 0) → DiskState → (seq : ℕ) → Reason → Type 0
IsBadLeftLog geometry P disk seq reason =
    HoldsNow (λ now. (number : ℕ) × (body : CommitBody) × Reads geometry.log now.bytes body number × P number body
    × IsBadRecord geometry body seq reason now.bytes × ((rows : List Row) → AreRecordsInRange geometry body rows now.bytes → ⊥))
    disk.moments

-- a commit is of this owner, and its tail is not past an end
abbrev pub IsOwnCommit : (owner : CacheOwner) → (end : ℕ) → CommitBody → Type 0
IsOwnCommit owner end body = (owner_of body ≡ owner) × (body.tail.seq ≤ end)

-- ---- numbers that are too great

-- the first of some numbers that is 2^60 or more
abbrev pub IsFirstGreat : List ℕ → (value : ℕ) → Type 0
IsFirstGreat [] value = ⊥
IsFirstGreat (number ∷ numbers) value = ((2 ^ 60 ≤ number) × (value ≡ number)) ⊎ ((number < 2 ^ 60) × IsFirstGreat numbers value)

-- The greatest number of the volume's objects in a store. Where it is not too great, this is the end of the object before the
-- first missing one, if the store has a stream of the volume.
pub record IsExtent (uuid : List ℕ) (geometry : Geometry) (chain : List Ancestor) (objects : Objects)
    (greatest end : ℕ) : Type 0 where
  pub none_greater : (name : ObjName) → IsName name → IsPastOf uuid greatest name → found objects name ≡ None
  pub present : IsTrue (landed_in objects (expected_of uuid geometry (length chain)) greatest)
  pub end_is : greatest < 2 ^ 60 → (stream : Stream) (opening : Image) (number : ℕ)
      → HasDataUpTo (expected_of uuid geometry (length chain)) (uuid_in_chain uuid chain) objects stream opening number
      → end ≡ end_at stream number

abbrev pub HasExtent : (uuid : List ℕ) → Geometry → List Ancestor → Option Objects → (greatest end : ℕ) → Type 0
HasExtent uuid geometry chain objects greatest end = IfSome objects (λ objects. IsExtent uuid geometry chain objects greatest end)

-- The objects are good, but the first of these numbers is too great: the epoch, the greatest number of an object, and the count
-- of entries in the objects.
abbrev pub IsWornStored : (uuid : List ℕ) → Geometry → List Ancestor → (epoch : ℕ) → Option Objects → (value : ℕ) → Type 0
IsWornStored uuid geometry chain epoch objects value =
    (greatest : ℕ) × (end : ℕ) × IsFirstGreat (epoch ∷ greatest ∷ end ∷ []) value
    × HasExtent uuid geometry chain objects greatest end × HasGoodObjects uuid geometry chain objects

-- ---- the whole

-- a recovery of the objects of a volume refuses them by this error
abbrev pub IsRefusedBy : (uuid : List ℕ) → Geometry → List Ancestor → RecoverError → Objects → Type 0
IsRefusedBy uuid geometry chain error objects =
    IsRefusedThere (expected_of uuid geometry (length chain)) (uuid_in_chain uuid chain) objects error

-- why the objects of a store are refused, where receipts tell what they stand for; the objects of a volume have numbers from 1 on
abbrev pub IsWhyNotStored : (uuid : List ℕ) → Geometry → List Ancestor → Option Objects → MountError → Type 0
IsWhyNotStored uuid geometry chain objects (Refused NoCheckpoint) =
    IfSome objects (λ objects. (number : ℕ) → 0 < number → IsNoCheckpoint (expected_of uuid geometry
    (length chain)) objects number)
IsWhyNotStored uuid geometry chain objects (Refused (BadObject number reason)) =
    IfSome objects (IsRefusedBy uuid geometry chain (recovery.BadObject number reason))
IsWhyNotStored uuid geometry chain objects (Refused (MissingObject number)) =
    IfSome objects (IsRefusedBy uuid geometry chain (recovery.MissingObject number))
IsWhyNotStored uuid geometry chain objects (Refused (BaseMissing ancestor)) =
    IfSome objects (IsRefusedBy uuid geometry chain (recovery.BaseMissing ancestor))
IsWhyNotStored uuid geometry chain objects StoreFault = Unit {0}
IsWhyNotStored uuid geometry chain objects DeviceFault = Unit {0}
IsWhyNotStored uuid geometry chain objects OutOfMemory = Unit {0}
IsWhyNotStored uuid geometry chain objects error = ⊥

-- the objects are good, but the log of a device does not fit the volume, whose sectors are told
abbrev pub IsUnfitting : (uuid : List ℕ) → Geometry → List Ancestor → Option Objects → MountError → Type 0
IsUnfitting uuid geometry chain objects (Refused (NoSlot log)) = HasGoodObjects uuid geometry chain objects × (log ≡ geometry.log)
IsUnfitting uuid geometry chain objects error = ⊥

-- why a mount without the cache gives none
abbrev pub IsWhyLost : (uuid : List ℕ) → Geometry → List Ancestor → (epoch : ℕ) → Option Objects → MountError → Type 0
IsWhyLost uuid geometry chain epoch objects (Refused (Worn value)) = IsWornStored uuid geometry chain epoch objects value
IsWhyLost uuid geometry chain epoch objects error = IsWhyNotStored uuid geometry chain objects error

-- Why a device is refused, where the objects have this end, and no greater number than this. The tests before have passed, which
-- are in this order: a slot is open; the commit that the device reads as is of this volume, and in this epoch; its tail is not
-- past the end; the log has its records; and none of the numbers is too great: that of the commit, the epoch, the greatest number
-- of an object, and the count of all entries.
abbrev pub IsWhyNotOpened : (owner : CacheOwner) → Geometry → (end greatest : ℕ) → DiskState → MountError → Type 0
IsWhyNotOpened owner geometry end greatest disk (Refused (NoSlot log)) =
    (log ≡ geometry.log) × HoldsNow (λ now. ReadsNone geometry.log now.bytes) disk.moments
IsWhyNotOpened owner geometry end greatest disk (Refused (WrongVolume found)) =
    ReadsAsCommitOf geometry (λ number body. (body.uuid ≡ found) × (found ≡ owner.uuid → ⊥)) disk
IsWhyNotOpened owner geometry end greatest disk (Refused (StaleCache cache store)) =
    (store ≡ owner.epoch) × (cache ≡ owner.epoch → ⊥)
    × ReadsAsCommitOf geometry (λ number body. (body.uuid ≡ owner.uuid) × (body.epoch ≡ cache)) disk
IsWhyNotOpened owner geometry end greatest disk (Refused (BadRecord seq reason)) =
    ((seq ≡ end) × (reason ≡ reasons.Seq)
    × ReadsAsCommitOf geometry (λ number body. (owner_of body ≡ owner) × (end < body.tail.seq)) disk)
    ⊎ IsBadLeftLog geometry (λ number body. IsOwnCommit owner end body) disk seq reason
IsWhyNotOpened owner geometry end greatest disk (Refused (Worn value)) =
    ReadsWhole geometry (λ number body. IsFirstGreat (number ∷ owner.epoch ∷ greatest ∷ max end body.head.seq ∷ []) value
    × IsOwnCommit owner end body) disk
IsWhyNotOpened owner geometry end greatest disk DeviceFault = Unit {0}
IsWhyNotOpened owner geometry end greatest disk OutOfMemory = Unit {0}
IsWhyNotOpened owner geometry end greatest disk error = ⊥

-- why a mount with the cache gives none: the objects are refused, or they are good and the device is refused
abbrev pub IsWhyNotLeft : (owner : CacheOwner) → Geometry → List Ancestor → Option Objects → DiskState → MountError → Type 0
IsWhyNotLeft owner geometry chain objects disk error =
    IsWhyNotStored owner.uuid geometry chain objects error
    ⊎ (HasGoodObjects owner.uuid geometry chain objects
    × ((greatest : ℕ) × (end : ℕ) × HasExtent owner.uuid geometry chain objects greatest end
    × IsWhyNotOpened owner geometry end greatest disk error))

-- the error refuses what device or store have
abbrev pub refuses : MountError → Bool
refuses (Refused (Worn value)) = false
refuses (Refused why) = true
refuses error = false

-- a call failed, or memory ran out
abbrev pub IsFault : MountError → Type 0
IsFault (Refused why) = ⊥
IsFault error = Unit {0}

-- a call of the device failed, or one of the store
abbrev pub is_device_fault : MountError → Bool
is_device_fault DeviceFault = true
is_device_fault error = false

abbrev pub is_store_fault_of : MountError → Bool
is_store_fault_of StoreFault = true
is_store_fault_of error = false

abbrev pub ends_by_store_fault : {D T : Type 0} → Result T (D × MountError) → Bool
ends_by_store_fault (Ok mounted) = false
ends_by_store_fault (Err error) = is_store_fault_of error.1
