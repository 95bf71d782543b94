-- Contract: what a run of `create` says, and of which volume.
use Rattle.std.specs.Prelude.{◌≡◌, ◌⊎◌, ◌≤◌, ℕ, Bool, true, List, ◌++◌, Option, Some, None, IfSome, IsSome, codes, length}
use Rattle.std.specs.Prelude.{slice_index, take}
use Rattle.std.specs.Io.KnownBytes.{Appends}
use Rattle.uuid.specs.Parts.{variant_of}
use Rattle.uuid.specs.Uuid.{version_num}
use Rattle.uuid.specs.declared.Variant.TheVariants.{RFC4122}
use Rattle.uuid.specs.Text.{hyphenated_text, lower}
use Rattle.lsvd_device.specs.Device.{DiskState, IsDisk}
use Rattle.lsvd_names.specs.Names.{super_name}
use Rattle.lsvd_objstore.specs.Objects.{Objects, found}
use Rattle.lsvd_objstore.specs.Store.{StoreState}
use Rattle.command_line.specs.Create.{sizes_of}
use Rattle.command_line.specs.declared.create.CreateRequest.{CreateRequest}
use Rattle.super_recovery.specs.declared.error.SuperError.{SuperError}
use Rattle.super_recovery.specs.declared.error.SuperError.TheVariants as super_errors
use Rattle.vol_core.specs.Volume.{SteppedVolume}
use Rattle.vol_core.specs.View.{volume_disk}
use Rattle.vol_recover.specs.Creating.{CreatedWithStore}
use Rattle.vol_recover.specs.declared.creating.CreateError.{CreateError}
use Rattle.vol_recover.specs.declared.creating.CreateError.TheVariants as create_errors
use Rattle.volume_commands.specs.declared.error.CommandError.{CommandError}
use Rattle.volume_commands.specs.declared.error.CommandError.TheVariants as errors
use Rattle.refusals.specs.declared.refusal.Refusal.{Refusal}
use Rattle.refusals.specs.declared.refusal.Refusal.TheVariants as reasons
use Rattle.volume_commands.specs.declared.report.Report.{Report}
use Rattle.volume_commands.specs.declared.report.Report.TheVariants.{Done, Fault, Usage, BadLine, Refused, Missing, Memory}
use Rattle.volume_commands.specs.declared.world.WorldError.{WorldError}
use Rattle.volume_commands.specs.declared.world.WorldError.TheVariants as world_errors
use Rattle.volume_commands.specs.Closing.{IsLetGo}
use Rattle.volume_commands.specs.World.{Places, where_told, bytes_with, IsBlank, IsGivenStore}

-- ---- errors

-- what an error of the world is to a command
abbrev pub of_world : WorldError → CommandError
of_world world_errors.Failed = errors.Fault
of_world world_errors.OutOfMemory = errors.OutOfMemory

-- one of a look for a super object
abbrev pub of_look : SuperError → CommandError
of_look super_errors.OutOfMemory = errors.OutOfMemory
of_look error = errors.Fault

-- and one of a creation
abbrev pub of_creation : CreateError → CommandError
of_creation create_errors.Exists = errors.Refused reasons.Exists
of_creation create_errors.StoreFault = errors.Fault
of_creation create_errors.DeviceFault = errors.Fault
of_creation create_errors.OutOfMemory = errors.OutOfMemory

-- ---- the volume

-- the uuid of the volume: the one that is asked for, or else a random one, which is of version 4
abbrev pub IsUuidFor : CreateRequest → List ℕ → Type 0
IsUuidFor request uuid =
    (request.uuid ≡ Some uuid)
    ⊎ ((request.uuid ≡ None) × (version_num uuid ≡ 4) × (variant_of (slice_index uuid 8) ≡ RFC4122))

-- A volume was created as the request asks, of the uuid for it and of its sizes, with its store and on this disk, which is left
-- as the volume has it when it is let go.
pub record CreatesOn (request : CreateRequest) (uuid : List ℕ) (disk disk_left : DiskState) (before after : Option Objects) :
    Type 0 where
  pub volume : SteppedVolume
  pub created : CreatedWithStore uuid (sizes_of request) disk before after volume
  pub disk_is : disk_left ≡ volume_disk volume.volume
  pub let_go : IsLetGo volume

-- So it was on a disk that was made at its path, blank, which stands there as it was left.
pub record CreatesCache (tells : Bool) (request : CreateRequest) (uuid : List ℕ) (stands : Option DiskState)
    (before after : Option Objects) : Type 0 where
  pub disk : DiskState
  pub blank : IsDisk disk × IsBlank (bytes_with request.log) disk
  pub disk_left : DiskState
  pub creates : CreatesOn request uuid disk disk_left before after
  pub cache_now : stands ≡ where_told tells disk_left

-- And so it was in the store that stood at its path, or was made there, which stands there as it was left.
pub record CreatesFor (tells : Bool) (request : CreateRequest) (uuid : List ℕ) (before after : Places) : Type 0 where
  pub named : IsUuidFor request uuid
  pub store : StoreState
  pub stood : IsGivenStore tells true (before.stores request.store.now) store
  pub store_left : StoreState
  pub creates : CreatesCache tells request uuid (after.disks request.cache.now) store.objects store_left.objects
  pub store_now : after.stores request.store.now ≡ where_told tells store_left

-- A volume is not created, since a store has a super object of it; its objects stay. Where it tells them, the cache is as it was.
pub record IsThere (uuid : List ℕ) (why : Refusal) (before after : Option Objects) (stood stands : Option DiskState) :
    Type 0 where
  pub is : why ≡ reasons.Exists
  pub exists : IfSome before (λ objects. IsSome (found objects (super_name uuid)))
  pub same : after ≡ before
  pub cache : IfSome before (λ objects. stands ≡ stood)

-- So it is of the volume that is asked for, of the store that stood at its path, which stands there, and of the disk at that of
-- its cache.
pub record RefusesToCreate (tells : Bool) (request : CreateRequest) (before after : Places) (why : Refusal) : Type 0 where
  pub uuid : List ℕ
  pub named : IsUuidFor request uuid
  pub store : StoreState
  pub stood : IsGivenStore tells true (before.stores request.store.now) store
  pub store_left : StoreState
  pub there : IsThere uuid why store.objects store_left.objects (before.disks request.cache.now) (after.disks request.cache.now)
  pub store_now : after.stores request.store.now ≡ where_told tells store_left

-- ---- the output

-- the line that tells a volume that was created
abbrev pub created_line : List ℕ → List ℕ
created_line uuid = codes "created " ++ hyphenated_text lower uuid ++ codes "\n"

-- what the output took, where the run ended so
abbrev pub TellsCreation : CreateRequest → Report → (old new : Option (List ℕ)) → Type 0
TellsCreation request Done old new = (uuid : List ℕ) × IsUuidFor request uuid × Appends old new (created_line uuid)
-- nothing, or a front of the line
TellsCreation request Fault old new =
    (new ≡ old) ⊎ ((uuid : List ℕ) × IsUuidFor request uuid
    × ((n : ℕ) × (n ≤ length (created_line uuid)) × Appends old new (take n (created_line uuid))))
TellsCreation request (Refused why) old new = (why ≡ reasons.Exists) × (new ≡ old)
TellsCreation request Memory old new = new ≡ old
TellsCreation request Usage old new = ⊥
TellsCreation request (BadLine number reason) old new = ⊥
TellsCreation request Missing old new = ⊥

-- A volume was created as the request asks, and the line tells its uuid.
pub record Creates (tells : Bool) (request : CreateRequest) (before after : Places) (old new : Option (List ℕ)) : Type 0 where
  pub uuid : List ℕ
  pub creates : CreatesFor tells request uuid before after
  pub told : Appends old new (created_line uuid)
