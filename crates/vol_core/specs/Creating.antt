-- Contract: what a volume is that was just created, what its creation asks of the device, and how that ends.
use Rattle.std.specs.Prelude.{◌≡◌, ℕ, Bool, true, false, None, Result, IfOk, IfErr, List, [], ◌∷◌}
use Rattle.lsvd_base.specs.declared.geometry.Geometry.{Geometry}
use Rattle.lsvd_fault.specs.declared.stream.Failed.{Failed}
use Rattle.lsvd_device.specs.Device.{DiskState, IsDisk}
use Rattle.lsvd_device.specs.Memory.{HasRoom}
use Rattle.lsvd_device.specs.Stop.{HasNow}
use Rattle.commit_slot.specs.Formatting.{format_cost, format_calls}
use Rattle.commit_slot.specs.Sequence.{Costs}
use Rattle.cache_log.specs.Committed.{first_body}
use Rattle.object_table.specs.Table.{new_row}
use Rattle.object_uploads.specs.Order.{IsUploads}
use Rattle.obj_log.specs.State.{ObjLogState}
use Rattle.stopped_volume.specs.Device.{owner_with}
use Rattle.plain_disk.specs.State.{created_volume}
use Rattle.refine_log.specs.Fuses.{fuse_in}
use Rattle.vol_core.specs.Volume.{SteppedVolume}
use Rattle.vol_core.specs.Shows.{Shows}
use Rattle.vol_core.specs.Step.{passing}
use Rattle.vol_core.specs.View.{PendsAs, volume_disk}
use Rattle.vol_core.specs.Stops.{HasOwnCommits}

-- The list of a volume that is created: its first object, a checkpoint of no sectors, is acknowledged, and there is no other and
-- no entry. It has no ancestors.
pub record IsNewList (uuid : List ℕ) (geometry : Geometry) (objects : ObjLogState) : Type 0 where
  pub uuid_is : objects.uploads.uuid ≡ uuid
  pub batch : objects.batch
      ≡ record { geometry = geometry; first = 0; entries = []; reserved = objects.batch.reserved }
  pub order : IsUploads objects.uploads
  pub sectors : objects.uploads.sectors ≡ geometry.sectors
  pub ancestors : objects.uploads.ancestors ≡ 0
  pub window : objects.uploads.window ≡ record { last = 1; objects = [] }
  pub frontier : objects.uploads.queue.frontier ≡ 1
  pub end : objects.uploads.queue.end ≡ 0
  pub sealed : objects.uploads.queue.sealed ≡ []
  pub removal : objects.uploads.queue.removal ≡ None
  pub settled : objects.uploads.queue.maps.settled.rows ≡ []
  pub log : objects.uploads.queue.maps.log.rows ≡ []
  pub objects_are : objects.uploads.queue.maps.objects.rows ≡ new_row 1 0 0 ∷ []
  pub checkpoint : objects.uploads.queue.maps.objects.checkpoint ≡ 1

-- It shows the plain volume that was just created, whose device passes the calls that its own does, has made no step, and its
-- last commit has the number 0 and is of epoch 0.
pub record IsCreated (uuid : List ℕ) (geometry : Geometry) (stepped : SteppedVolume) : Type 0 where
  pub steps : stepped.steps ≡ 0
  pub uuid_is : stepped.volume.objects.uploads.uuid ≡ uuid
  pub number : stepped.volume.log.commits.number ≡ 0
  pub own : HasOwnCommits (owner_with uuid 0) stepped.volume
  pub list : IsNewList uuid geometry stepped.volume.objects
  pub shows : Shows stepped.volume (passing (fuse_in stepped.volume.log.commits.disk.budget) (created_volume geometry))

-- the device is formatted, and asked for nothing else
abbrev pub CostsFormat : (uuid : List ℕ) → (is_made : Bool) → (old new : DiskState) → Type 0
CostsFormat uuid is_made old new = Costs format_cost (format_calls (first_body uuid 0 0)) is_made old new

-- a device tells what it holds, and that it has room for the calls of formatting
pub record CanFormat (disk : DiskState) : Type 0 where
  pub now : HasNow (λ now. Unit {0}) disk.moments
  pub room : HasRoom format_cost.changes format_cost.bytes disk.budget

-- A volume was created on a device, of which each call of formatting was made, and no other. Where the device tells what it
-- holds, and that it has room for these calls, nothing is pending on it then.
pub record CreatedOf (uuid : List ℕ) (geometry : Geometry) (disk : DiskState) (stepped : SteppedVolume) : Type 0 where
  pub is : IsCreated uuid geometry stepped
  pub calls : CostsFormat uuid true disk (volume_disk stepped.volume)
  pub pending : CanFormat disk → PendsAs stepped.volume (created_volume geometry).cache

-- It was not: a call of formatting failed. The device is a disk still.
pub record NotCreatedOf (uuid : List ℕ) (disk left : DiskState) : Type 0 where
  pub calls : CostsFormat uuid false disk left
  pub is_disk : IsDisk left

-- What a creation of a volume on its device is.
pub record CreateOf {D : Type 0} (state : D → DiskState) (uuid : List ℕ) (geometry : Geometry) (disk : DiskState)
    (result : Result SteppedVolume (D × Failed)) : Type 0 where
  pub made : IfOk result (CreatedOf uuid geometry disk)
  pub failed : IfErr result (λ error. NotCreatedOf uuid disk (state error.0))
