-- Contract: what a caller sees of a volume beside its steps and the plain volumes that it shows: its sizes, its uuid, its device,
-- and what is on its way from the device to the store. Contracts above the volume and its mounts name no more of it.
use Rattle.std.specs.Prelude.{◌≡◌, ℕ, List, Option}
use Rattle.lsvd_base.specs.declared.entry.Entry.{Entry}
use Rattle.lsvd_base.specs.declared.geometry.Geometry.{Geometry}
use Rattle.lsvd_device.specs.Device.{DiskState}
use Rattle.lsvd_names.specs.declared.name.ObjName.{ObjName}
use Rattle.upload_window.specs.declared.object.OpenObject.{OpenObject}
use Rattle.gc_copier.specs.Plan.{PlanState}
use Rattle.object_stream.specs.Replay.{object_name}
use Rattle.object_uploads.specs.State.{UploadsState}
use Rattle.object_uploads.specs.Changes.{IsOut}
use Rattle.obj_log.specs.Changes.{expected_of_volume}
use Rattle.plain_disk.specs.Cache.{PlainCache}
use Rattle.refine_log.specs.Pending.{ShowsPending}
use Rattle.vol_core.specs.Volume.{VolumeState}
use Rattle.vol_core.specs.Shows.{pins_on}

-- ---- its sizes, its uuid and its device

abbrev pub volume_geometry : VolumeState → Geometry
volume_geometry volume = volume.objects.batch.geometry

abbrev pub volume_uuid : VolumeState → List ℕ
volume_uuid volume = volume.objects.uploads.uuid

abbrev pub volume_disk : VolumeState → DiskState
volume_disk volume = volume.log.commits.disk

-- ---- its log

-- how many sectors its log has
abbrev pub log_sectors : VolumeState → ℕ
log_sectors volume = volume.log.room.log

-- the number of its last commit
abbrev pub last_commit : VolumeState → ℕ
last_commit volume = volume.log.commits.number

-- the entries on its log and those that were ever on it, where the device tells them
abbrev pub log_entries : VolumeState → Option (List Entry)
log_entries volume = volume.log.entries

abbrev pub all_log_entries : VolumeState → Option (List Entry)
all_log_entries volume = volume.log.all

-- the writes that are pending on its device are those on a plain cache
abbrev pub PendsAs : VolumeState → PlainCache → Type 0
PendsAs volume cache = ShowsPending volume.log cache

-- ---- its objects

-- the entries that are in no object yet
abbrev pub unsealed_entries : VolumeState → List Entry
unsealed_entries volume = volume.objects.batch.entries

-- its objects on their way to the store, which are sealed and not acknowledged, and what stands of them there
abbrev pub objects_on_way : VolumeState → List OpenObject
objects_on_way volume = volume.objects.uploads.window.objects

abbrev pub volume_uploads : VolumeState → UploadsState
volume_uploads volume = volume.objects.uploads

-- the numbers of its last object, and of its newest acknowledged checkpoint
abbrev pub last_object : VolumeState → ℕ
last_object volume = volume.objects.uploads.window.last

abbrev pub acknowledged_checkpoint : VolumeState → ℕ
acknowledged_checkpoint volume = volume.objects.uploads.queue.maps.objects.checkpoint

-- the name of its object of a number
abbrev pub object_name_in : VolumeState → (number : ℕ) → ObjName
object_name_in volume number = object_name (expected_of_volume volume.objects) number

-- the put of its object of this number, which has these bytes, is under way
abbrev pub IsPutOutIn : VolumeState → (number : ℕ) → (bytes : List ℕ) → Type 0
IsPutOutIn volume number bytes = IsOut volume.objects.uploads number bytes

-- no plan of a read has pinned an object
abbrev pub HasNoPins : VolumeState → Type 0
HasNoPins volume = (number : ℕ) → pins_on volume number ≡ 0

-- the plan of a copy that is out
abbrev pub plan_out : VolumeState → Option PlanState
plan_out volume = volume.plan

-- the object whose removal is out
abbrev pub removal_out : VolumeState → Option ℕ
removal_out volume = volume.objects.uploads.queue.removal
