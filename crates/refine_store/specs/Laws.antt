-- Contract: what a put gives a store is the plain volume's object, what a stop leaves of the store is what a mount finds, and
-- what a mount leaves stands for the volume that it makes.
use Rattle.std.specs.Prelude.{◌≡◌, ℕ, ◌<◌, ◌≤◌, true, IfSome, Option, List}
use Rattle.lsvd_objstore.specs.Objects.{Objects}
use Rattle.object_format.specs.declared.expected.Expected.{Expected}
use Rattle.object_stream.specs.Landed.{Numbers}
use Rattle.object_uploads.specs.State.{JobState, UploadsState}
use Rattle.object_uploads.specs.Order.{IsUploads}
use Rattle.object_uploads.specs.Changes.{IsJobOf}
use Rattle.object_uploads.specs.Image.{TellAlike}
use Rattle.object_uploads.specs.Stream.{IsPlacedIn}
use Rattle.obj_log.specs.State.{ObjLogState}
use Rattle.obj_log.specs.Changes.{expected_of_volume}
use Rattle.volume_maps.specs.declared.place.ObjectPlace.{ObjectPlace}
use Rattle.volume_maps.specs.Maps.{settled_at}
use Rattle.stopped_volume.specs.Objects.{landed_in}
use Rattle.stopped_volume.specs.Store.{PutState}
use Rattle.plain_disk.specs.declared.event.PlainEvent.{PlainEvent}
use Rattle.plain_disk.specs.declared.log.PlainCommit.{PlainCommit}
use Rattle.plain_disk.specs.Cache.{PlainCache}
use Rattle.plain_disk.specs.State.{PlainState, OpensFirst, stream_in}
use Rattle.plain_disk.specs.Checkpoints.{landed_checkpoint}
use Rattle.plain_disk.specs.Step.{plain_after}
use Rattle.plain_disk.specs.Stops.{recovered_number, mounted_from, mounted_on}
use Rattle.plain_disk.specs.Found.{found_in}
use Rattle.plain_disk.specs.Valid.{IsPlainVolume, MayLand}
use Rattle.refine_objects.specs.Shows.{ShowsObjects}
use Rattle.object_recovery.specs.Table.{KnowsObjects}
use Rattle.refine_mount.specs.Found.{expected_for, HasObjects}
use Rattle.refine_store.specs.Puts.{IsObjectOf, ArePuts, MayBeLeft}
use Rattle.refine_store.specs.Stored.{StoreStands, HasVolumeUpTo, HasNonePast}

-- ---- objects

-- the job of a put that began has the bytes of the plain volume's object, where the receipts that are known tell bytes
abbrev pub JobIsObject : Type 0
JobIsObject =
    (data_at : ℕ → ℕ) (objects : ObjLogState) (plain : PlainState) (number : ℕ) (job : JobState)
    → IsUploads objects.uploads → IsPlainVolume plain → ShowsObjects data_at objects plain
    → objects.uploads.queue.frontier < number → number ≤ objects.uploads.window.last
    → TellAlike true objects.uploads.queue
    → IsJobOf objects.uploads number job → IsObjectOf (expected_of_volume objects) plain number job.bytes

-- an object of a volume that is followed from its beginning on stays one while events go on
abbrev pub EventsKeepObject : Type 0
EventsKeepObject =
    (volume : Expected) (plain : PlainState) (number : ℕ) (bytes : List ℕ) (event : PlainEvent)
    → IsPlainVolume plain → OpensFirst plain
    → IsObjectOf volume plain number bytes → IsObjectOf volume (plain_after event plain) number bytes

-- and over a mount that recovers it
abbrev pub MountsKeepObject : Type 0
MountsKeepObject =
    (volume : Expected) (plain : PlainState) (landed : Numbers) (found : PlainCommit) (log number : ℕ) (bytes : List ℕ)
    → IsPlainVolume plain → OpensFirst plain → MayLand plain landed
    → number ≤ recovered_number landed plain → IsObjectOf volume plain number bytes
    → IsObjectOf volume (mounted_from landed found plain) number bytes
    × IsObjectOf volume (mounted_on log landed plain) number bytes

-- ---- stops

-- Whatever a stop leaves of the store has the plain volume up to the object before the first missing number, by a choice of what
-- has landed that the plain volume allows.
abbrev pub LeftHasVolume : Type 0
LeftHasVolume =
    (uuid : List ℕ) (epoch : ℕ) (plain : PlainState) (puts : ℕ → Option (PutState × List ℕ)) (objects : Objects)
    → IsPlainVolume plain
    → ArePuts (expected_for uuid plain) plain puts → MayBeLeft uuid epoch plain puts objects
    → HasVolumeUpTo uuid epoch plain (landed_in objects (expected_for uuid plain)) objects

-- So it has the objects of what a mount finds of it.
abbrev pub VolumeHasObjects : Type 0
VolumeHasObjects =
    (uuid : List ℕ) (epoch : ℕ) (plain : PlainState) (landed : Numbers) (objects : Objects)
    → IsPlainVolume plain → HasVolumeUpTo uuid epoch plain landed objects
    → HasObjects uuid (found_in landed plain) (recovered_number landed plain) objects

-- ---- mounts

-- A map of objects that has what the newest checkpoint of the store says, of the objects up to that and of ancestors', has each
-- sector where the plain volume's object has it.
abbrev pub KnownIsPlaced : Type 0
KnownIsPlaced =
    (uuid : List ℕ) (epoch : ℕ) (plain : PlainState) (landed : Numbers) (objects : Objects) (uploads : UploadsState)
    → IsPlainVolume plain → HasVolumeUpTo uuid epoch plain landed objects
    → KnowsObjects (expected_for uuid plain) objects (landed_checkpoint landed plain).number uploads.queue
    → (k : ℕ) → IfSome (settled_at uploads.queue.maps k) (λ (place : ObjectPlace).
    (place.level ≡ 0 → place.number ≤ (landed_checkpoint landed plain).number) → IsPlacedIn (stream_in plain) k place)

-- Once the store has no object past the one before the first missing number, it stands for the volume that a mount makes of the
-- plain one, with the cache or without it, on whatever log. All its objects are acknowledged.
abbrev pub MountedStands : Type 0
MountedStands =
    (uuid : List ℕ) (epoch : ℕ) (plain : PlainState) (landed : Numbers) (found : PlainCommit) (log : ℕ) (uploads : UploadsState)
    (objects : Objects)
    → IsPlainVolume plain → HasVolumeUpTo uuid epoch plain landed objects
    → HasNonePast uuid (recovered_number landed plain) objects
    → StoreStands uuid epoch (mounted_from landed found plain) uploads objects
    × StoreStands uuid epoch (mounted_on log landed plain) uploads objects

-- for which volume a store stands does not depend on the cache
abbrev pub StandsWithAnyCache : Type 0
StandsWithAnyCache =
    (uuid : List ℕ) (epoch : ℕ) (plain : PlainState) (cache : PlainCache) (uploads : UploadsState) (objects : Objects)
    → StoreStands uuid epoch plain uploads objects → StoreStands uuid epoch (record plain { cache = cache }) uploads objects
