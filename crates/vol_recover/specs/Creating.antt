-- Contract: what a volume is that was created with its store, and how its creation ends.
use Rattle.std.specs.Prelude.{◌≡◌, ◌≢◌, ℕ, ◌⊎◌, Option, None, IsSome, IfSome, Bool, true, false, List, []}
use Rattle.std.specs.Prelude.{Result, Ok, Err, IfOk, IfErr}
use Rattle.lsvd_base.specs.declared.geometry.Geometry.{Geometry}
use Rattle.lsvd_fault.specs.Faults.{Counts}
use Rattle.lsvd_names.specs.Names.{super_name, epoch_name, numbered_name}
use Rattle.lsvd_device.specs.Device.{DiskState, IsDisk}
use Rattle.lsvd_names.specs.declared.name.ObjName.{ObjName}
use Rattle.lsvd_objstore.specs.Objects.{Objects, found, IsPut}
use Rattle.lsvd_objstore.specs.Store.{StoreState, Becomes}
use Rattle.lsvd_objstore.specs.declared.error.StoreError.{StoreError}
use Rattle.lsvd_objstore.specs.declared.error.StoreError.TheVariants as store_errors
use Rattle.ckpt_format.specs.Checkpoint.{IsCheckpoint}
use Rattle.object_stream.specs.Replay.{object_name}
use Rattle.object_uploads.specs.State.{UploadsState}
use Rattle.obj_log.specs.State.{ObjLogState}
use Rattle.super_format.specs.declared.super_object.Super.{Super}
use Rattle.stopped_volume.specs.Expected.{expected_alone}
use Rattle.stopped_volume.specs.Opening.{IsCheckpointOf}
use Rattle.stopped_volume.specs.Super.{HasVolume}
use Rattle.plain_disk.specs.State.{created_volume}
use Rattle.object_recovery.specs.Checkpoints.{expected_of}
use Rattle.super_recovery.specs.declared.error.SuperError.{SuperError}
use Rattle.super_recovery.specs.declared.error.SuperError.TheVariants as super_errors
use Rattle.super_recovery.specs.Put.{PutsSuper, PutsEpoch}
use Rattle.refine_mount.specs.Found.{HasObjects}
use Rattle.refine_store.specs.Stored.{StoreStands}
use Rattle.vol_core.specs.Creating.{IsNewList, CostsFormat, CreatedOf}
use Rattle.vol_core.specs.Volume.{SteppedVolume}
use Rattle.vol_recover.specs.declared.creating.CreateError.{CreateError}
use Rattle.vol_recover.specs.declared.creating.CreateError.TheVariants.{Exists, StoreFault, DeviceFault, OutOfMemory}

-- ---- errors

-- what an error of a call of the store is to a creation
abbrev pub of_put : StoreError → CreateError
of_put store_errors.Failed = StoreFault
of_put store_errors.OutOfMemory = OutOfMemory

-- and of the super object or an epoch, where none is read
abbrev pub of_super : SuperError → CreateError
of_super super_errors.OutOfMemory = OutOfMemory
of_super error = StoreFault

-- ---- the puts

-- bytes are those of the first object of a volume: a checkpoint without rows, and without entries before it
abbrev pub IsFirstObject : (uuid : List ℕ) → Geometry → (bytes : List ℕ) → Type 0
IsFirstObject uuid geometry bytes = IsCheckpoint bytes (expected_alone (expected_of uuid geometry 0) 1) 0 []

-- the first object of a volume was put into a store
abbrev pub PutsFirst : (uuid : List ℕ) → Geometry → (old new : Objects) → Type 0
PutsFirst uuid geometry old new =
    (bytes : List ℕ) × IsPut (object_name (expected_of uuid geometry 0) 1) bytes old new
    × IsCheckpointOf (expected_of uuid geometry 0) new 1 0 (λ k. None)

-- and then its first epoch
abbrev pub PutsEpochToo : (uuid : List ℕ) → Geometry → (old new : Objects) → Type 0
PutsEpochToo uuid geometry old new = (middle : Objects) × PutsFirst uuid geometry old middle × PutsEpoch uuid 0 middle new

-- what the super object of a volume without ancestors says
abbrev pub super_of : (uuid : List ℕ) → Geometry → Super
super_of uuid geometry =
    record { uuid = uuid; sectors = geometry.sectors; max_write = geometry.max_write; batch = geometry.batch; chain = [] }

-- and last its super object: the whole volume
abbrev pub PutsVolume : (uuid : List ℕ) → Geometry → (old new : Objects) → Type 0
PutsVolume uuid geometry old new =
    (middle : Objects) × PutsEpochToo uuid geometry old middle × PutsSuper (super_of uuid geometry) middle new

-- some of these were put, in this order, but not the super object
abbrev pub PutsNoSuper : (uuid : List ℕ) → Geometry → (old new : Objects) → Type 0
PutsNoSuper uuid geometry old new = (new ≡ old) ⊎ (PutsFirst uuid geometry old new ⊎ PutsEpochToo uuid geometry old new)

-- or this too
abbrev pub PutsSome : (uuid : List ℕ) → Geometry → (old new : Objects) → Type 0
PutsSome uuid geometry old new = PutsNoSuper uuid geometry old new ⊎ PutsVolume uuid geometry old new

-- what an error leaves of a store: nothing was put of a volume that there is, and where the device failed all but the super
-- object was
abbrev pub MayPut : (uuid : List ℕ) → Geometry → CreateError → (old new : Objects) → Type 0
MayPut uuid geometry Exists old new = new ≡ old
MayPut uuid geometry StoreFault old new = PutsSome uuid geometry old new
MayPut uuid geometry DeviceFault old new = PutsEpochToo uuid geometry old new
MayPut uuid geometry OutOfMemory old new = PutsSome uuid geometry old new

-- ---- what stands

-- a store has no more of a volume than its first object and its first epoch, as a creation may leave it that was stopped
abbrev pub IsNewTo : (uuid : List ℕ) → Objects → Type 0
IsNewTo uuid objects =
    (name : ObjName) → name.uuid ≡ uuid → found objects name ≢ None → (name ≡ numbered_name uuid 1) ⊎ (name ≡ epoch_name uuid 0)

-- the store has the volume, with no entries, and stands for it, whatever objects are on their way: none is
abbrev pub HasNewVolume : (uuid : List ℕ) → Geometry → Objects → Type 0
HasNewVolume uuid geometry objects =
    HasVolume uuid geometry [] 0 objects × HasObjects uuid (created_volume geometry) 1 objects
    × ((uploads : UploadsState) → StoreStands uuid 0 (created_volume geometry) uploads objects)

-- the store has no volume, or has it so
abbrev pub HasNoneOrNew : (uuid : List ℕ) → Geometry → Objects → Type 0
HasNoneOrNew uuid geometry objects = (found objects (super_name uuid) ≡ None) ⊎ HasNewVolume uuid geometry objects

-- ---- the device

-- what an error leaves of a device: as it was, or formatted; or a call of its format failed
abbrev pub MayFormat : (uuid : List ℕ) → CreateError → (old new : DiskState) → Type 0
MayFormat uuid Exists old new = new ≡ old
MayFormat uuid DeviceFault old new = CostsFormat uuid false old new
MayFormat uuid error old new = (new ≡ old) ⊎ CostsFormat uuid true old new

-- ---- faults

-- the error is that a call of the store failed, or that memory ran out
abbrev pub IsOfStore : CreateError → Type 0
IsOfStore StoreFault = Unit {0}
IsOfStore OutOfMemory = Unit {0}
IsOfStore error = ⊥

-- a call of the store failed, which ended a creation
abbrev pub is_put_fault : CreateError → Bool
is_put_fault StoreFault = true
is_put_fault error = false

abbrev pub ends_by_put : {T : Type 0} → Result T CreateError → Bool
ends_by_put (Ok value) = false
ends_by_put (Err error) = is_put_fault error

abbrev pub ends_by_put_fault : {D T : Type 0} → Result T (D × CreateError) → Bool
ends_by_put_fault (Ok value) = false
ends_by_put_fault (Err error) = is_put_fault error.1

-- ---- a super object that is there

-- where a store tells its objects, it has a super object of a volume, whatever its bytes are; or it has none
abbrev pub IsSuperThere : (uuid : List ℕ) → Option Objects → Type 0
IsSuperThere uuid objects = IfSome objects (λ objects. IsSome (found objects (super_name uuid)))

abbrev pub IsSuperAbsent : (uuid : List ℕ) → Option Objects → Type 0
IsSuperAbsent uuid objects = IfSome objects (λ objects. found objects (super_name uuid) ≡ None)

-- where it has one, its objects stay
abbrev pub StaysWithSuper : (uuid : List ℕ) → (old new : Option Objects) → Type 0
StaysWithSuper uuid old new = IfSome old (λ objects. IsSome (found objects (super_name uuid)) → new ≡ old)

-- ---- before the cache is made

-- All of a volume but its super object was put into a store that has none of it, and its list begins with its first object.
pub record PreparedOf (uuid : List ℕ) (geometry : Geometry) (old new : Option Objects) (list : ObjLogState) : Type 0 where
  pub is_new : IsNewList uuid geometry list
  pub puts : Becomes (PutsEpochToo uuid geometry) old new
  pub absent : IsSuperAbsent uuid old

-- It was not: there is a super object, or a call of the store failed, or memory ran out.
pub record NotPreparedOf (uuid : List ℕ) (geometry : Geometry) (old new : Option Objects) (error : CreateError) : Type 0 where
  pub exists : error ≡ Exists → IsSuperThere uuid old
  pub puts : Becomes (MayPut uuid geometry error) old new
  pub no_super : Becomes (PutsNoSuper uuid geometry) old new
  pub no_device : error ≡ DeviceFault → ⊥

-- What a creation does before it makes the cache.
pub record PrepareOf (uuid : List ℕ) (geometry : Geometry) (old new : StoreState) (result : Result ObjLogState CreateError) :
    Type 0 where
  pub made : IfOk result (PreparedOf uuid geometry old.objects new.objects)
  pub none : IfErr result (NotPreparedOf uuid geometry old.objects new.objects)
  pub untouched : StaysWithSuper uuid old.objects new.objects
  pub faults : Counts (ends_by_put result) old.faults new.faults

-- ---- the whole

-- A volume was created on its device, and all of it was put into a store that had no super object of it. If the store had no more
-- of it than a creation leaves that was stopped, it has the whole volume now, and stands for it.
pub record CreatedWithStore (uuid : List ℕ) (geometry : Geometry) (disk : DiskState) (old new : Option Objects)
    (stepped : SteppedVolume) : Type 0 where
  pub volume : CreatedOf uuid geometry disk stepped
  pub puts : Becomes (PutsVolume uuid geometry) old new
  pub absent : IsSuperAbsent uuid old
  pub stands : IfSome old (λ objects. IsNewTo uuid objects → IfSome new (HasNewVolume uuid geometry))

-- It was not. The error says what may have been put, and what the device was asked; where it says that the volume exists, the
-- store has a super object of it. The device is a disk still.
pub record NotCreatedWithStore (uuid : List ℕ) (geometry : Geometry) (disk left : DiskState) (old new : Option Objects)
    (error : CreateError) : Type 0 where
  pub exists : error ≡ Exists → IsSuperThere uuid old
  pub puts : Becomes (MayPut uuid geometry error) old new
  pub calls : MayFormat uuid error disk left
  pub is_disk : IsDisk left

-- What a creation of a volume is, with its store. However it ends, the objects of a store that has a super object of the volume
-- stay, and a store that was new to it has no volume, or the whole one. A call of the store that failed is counted once.
pub record CreationOf {D : Type 0} (state : D → DiskState) (uuid : List ℕ) (geometry : Geometry) (disk : DiskState)
    (old new : StoreState) (result : Result SteppedVolume (D × CreateError)) : Type 0 where
  pub made : IfOk result (CreatedWithStore uuid geometry disk old.objects new.objects)
  pub none : IfErr result (λ error. NotCreatedWithStore uuid geometry disk (state error.0) old.objects new.objects error.1)
  pub untouched : StaysWithSuper uuid old.objects new.objects
  pub moments : IfSome old.objects (λ objects. IsNewTo uuid objects → IfSome new.objects (HasNoneOrNew uuid geometry))
  pub faults : Counts (ends_by_put_fault result) old.faults new.faults
