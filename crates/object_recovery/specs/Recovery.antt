-- Contract: what a recovery of the objects of a volume makes of a store.
use Rattle.std.specs.Prelude.{◌≡◌, ℕ, ◌+◌, ◌-◌, ◌^◌, ◌<◌, ◌≤◌, ◌⊎◌, None, Option, Some, List, [], length, take}
use Rattle.std.specs.List.{All}
use Rattle.lsvd_base.specs.declared.geometry.Geometry.{Geometry}
use Rattle.lsvd_base.specs.Image.{Image, after}
use Rattle.lsvd_base.specs.Laws.{EndsBy}
use Rattle.lsvd_names.specs.Spelling.{IsName}
use Rattle.lsvd_names.specs.declared.name.ObjName.{ObjName}
use Rattle.lsvd_objstore.specs.Objects.{Objects, found}
use Rattle.object_format.specs.declared.expected.Expected.{Expected}
use Rattle.object_format.specs.declared.reason.BadObject.{BadObject}
use Rattle.object_stream.specs.declared.object.Content.TheVariants.{Checkpoint}
use Rattle.object_stream.specs.declared.object.StreamObject.{StreamObject}
use Rattle.object_stream.specs.Landed.{Numbers, IsFirstMissing}
use Rattle.object_stream.specs.Replay.{object_name}
use Rattle.object_stream.specs.Stream.{Stream, Owners, objects_to, end_at, IsStream}
use Rattle.stopped_volume.specs.Expected.{expected_alone}
use Rattle.stopped_volume.specs.Opening.{IsCheckpointOf}
use Rattle.stopped_volume.specs.Objects.{landed_in, AreCheckpoints, IsWhole}
use Rattle.stopped_volume.specs.Laws.{HasStreamUpTo}
use Rattle.volume_maps.specs.Maps.{logged_at}
use Rattle.object_uploads.specs.Image.{HasImage, HasOwnReceipts}
use Rattle.obj_log.specs.State.{ObjLogState}
use Rattle.obj_log.specs.Stream.{IsOfStream}
use Rattle.object_recovery.specs.declared.error.RecoverError.{RecoverError}
use Rattle.object_recovery.specs.declared.error.RecoverError.TheVariants as errors
use Rattle.object_recovery.specs.Checkpoints.{IsNoCheckpoint, IsNewest}
use Rattle.object_recovery.specs.Missing.{IsMissing}
use Rattle.object_recovery.specs.Judging.{AreGood, IsGreatestBad, IsRun}
use Rattle.object_recovery.specs.Removal.{Removes, IsPast}

-- ---- streams

-- a stream up to its object of a number: the objects up to there, and the entries that are in these
abbrev pub up_to_object : ℕ → Stream → Stream
up_to_object number stream = record stream {
  entries = take (end_at stream number - stream.end) stream.entries;
  objects = objects_to stream number;
}

-- A store has a stream of a volume from its newest checkpoint on, over this image, up to the object of a number: that before the
-- first missing one. No object past the checkpoint up to there is one too, and the entries lie inside the volume.
pub record HasDataUpTo (volume : Expected) (uuid_at : ℕ → Option (List ℕ)) (objects : Objects) (stream : Stream)
    (opening : Image) (number : ℕ) : Type 0 where
  pub own : uuid_at 0 ≡ Some volume.uuid
  pub valid : IsStream stream
  pub sectors : length opening ≡ volume.sectors
  pub stored : HasStreamUpTo volume uuid_at objects stream opening number
  pub no_checkpoint : All (λ (object : StreamObject). object.content ≡ Checkpoint → ⊥) (objects_to stream number)
  pub inside : All (EndsBy volume.sectors) stream.entries

-- ---- lists

-- The list of a volume with so many ancestors, all of whose objects, up to this number and this end, are acknowledged. No
-- entry is in the batch, nor in the map of the log.
pub record IsListUpTo (uuid : List ℕ) (geometry : Geometry) (ancestors number end : ℕ) (log : ObjLogState) : Type 0 where
  pub uuid_is : log.uploads.uuid ≡ uuid
  pub ancestors_are : log.uploads.ancestors ≡ ancestors
  pub geometry_is : log.batch.geometry ≡ geometry
  pub sectors : log.uploads.sectors ≡ geometry.sectors
  pub first : log.batch.first ≡ end
  pub entries : log.batch.entries ≡ []
  pub window : log.uploads.window ≡ record { last = number; objects = [] }
  pub frontier : log.uploads.queue.frontier ≡ number
  pub end_is : log.uploads.queue.end ≡ end
  pub sealed : log.uploads.queue.sealed ≡ []
  pub logged : (k : ℕ) → logged_at log.uploads.queue.maps k ≡ None

-- The list is that of a stream up to the object of a number, wherever the data of entries are told, and its objects have the
-- image that the entries in these make of the one that the stream opens with.
pub record HasStreamTo (opening : Image) (stream : Stream) (number : ℕ) (log : ObjLogState) : Type 0 where
  pub of_stream : (data_at : ℕ → ℕ) → IsOfStream data_at (up_to_object number stream) log
  pub image : HasImage (after opening (up_to_object number stream).entries) log.uploads.queue
  pub receipts : HasOwnReceipts log.uploads.queue

-- ---- all objects up to the first missing number

-- Where a list is that of a stream which the store has, up to the object of its frontier, the other one is so too, and its
-- frontier is no earlier, and none past the last object.
abbrev pub KeepsStreams : (volume : Expected) → Objects → (old new : ObjLogState) → Type 0
KeepsStreams volume objects old new =
    (uuid_at : ℕ → Option (List ℕ)) (stream : Stream) (opening : Image) (number : ℕ)
    → HasDataUpTo volume uuid_at objects stream opening number
    → stream.number ≤ old.uploads.window.last → old.uploads.window.last ≤ number
    → HasStreamTo opening stream old.uploads.window.last old
    → (old.uploads.window.last ≤ new.uploads.window.last) × (new.uploads.window.last ≤ number)
    × HasStreamTo opening stream new.uploads.window.last new

-- ---- the whole

-- the object of this number is that before the first missing one, whatever the checkpoints of the store are
abbrev pub IsLastLanded : (volume : Expected) → Objects → (number : ℕ) → Type 0
IsLastLanded volume objects number =
    (checkpoint : Numbers) → AreCheckpoints volume objects checkpoint → IsFirstMissing checkpoint (landed_in objects volume)
    (number + 1)

-- whichever stream the store has by the uuids of the volume's levels, the list is that of it up to the object before the first
-- missing number
pub record HasRecovered (opening : Image) (stream : Stream) (number : ℕ) (log : ObjLogState) : Type 0 where
  pub number_is : log.uploads.window.last ≡ number
  pub end_is : log.uploads.queue.end ≡ end_at stream number
  pub streams : HasStreamTo opening stream number log

abbrev pub RecoversStreams : (volume : Expected) → (ℕ → Option (List ℕ)) → Objects → ObjLogState → Type 0
RecoversStreams volume uuid_at objects log =
    (stream : Stream) (opening : Image) (number : ℕ)
    → HasDataUpTo volume uuid_at objects stream opening number → HasRecovered opening stream number log

-- the list is that of each stream that the store has, and its last object is that before the first missing number
pub record IsRecoveredOf (volume : Expected) (uuid_at : ℕ → Option (List ℕ)) (objects : Objects) (log : ObjLogState) :
    Type 0 where
  pub streams : RecoversStreams volume uuid_at objects log
  pub last : IsLastLanded volume objects log.uploads.window.last

-- no stream that the store has ends before the object of this number
abbrev pub IsNoLonger : (volume : Expected) → (ℕ → Option (List ℕ)) → Objects → (last : ℕ) → Type 0
IsNoLonger volume uuid_at objects last =
    (stream : Stream) (opening : Image) (number : ℕ)
    → HasDataUpTo volume uuid_at objects stream opening number → last ≤ number

-- an object of a volume past a number
abbrev pub IsPastOf : (uuid : List ℕ) → (number : ℕ) → ObjName → Type 0
IsPastOf uuid number name = (name.uuid ≡ uuid) × IsPast number name

-- the objects of a volume past a number were removed, and no other object changed
pub record RemovesAllPast (uuid : List ℕ) (number : ℕ) (old new : Objects) : Type 0 where
  pub removes : Removes (IsPastOf uuid number) old new
  pub gone : (name : ObjName) → IsName name → IsPastOf uuid number name → found new name ≡ None

-- what a recovery leaves, however it and the removal after it end: all as it was, or without some of the objects past the first
-- missing number
abbrev pub MayRemovePast : (Tells : Type 0) → (volume : Expected) → (old new : Objects) → Type 0
MayRemovePast Tells volume old new =
    (new ≡ old) ⊎ ((number : ℕ) × (Tells → IsLastLanded volume old number) × Removes (IsPastOf volume.uuid number) old new)

-- each object past the newest checkpoint, which has this number, is good
abbrev pub AreAllGood : (volume : Expected) → Objects → (base : ℕ) → Type 0
AreAllGood volume objects base = (last : ℕ) × IsRun volume objects base last
    × AreGood volume objects last (λ number. base < number)

-- each object past one of a number is of the grammar, wherever it begins; names have numbers below 2^64
abbrev pub AreNamedWholePast : (volume : Expected) → Objects → (number : ℕ) → Type 0
AreNamedWholePast volume objects number =
    (other : ℕ) (bytes : List ℕ) → number < other → other < 2 ^ 64 → found objects (object_name volume other) ≡ Some bytes
    → IsWhole (expected_alone volume other) bytes

-- this one is bad, and none that is greater
abbrev pub IsBadThere : (volume : Expected) → Objects → (number : ℕ) → BadObject → Type 0
IsBadThere volume objects number reason =
    (base : ℕ) × (last : ℕ) × IsRun volume objects base last × IsGreatestBad volume objects last base number reason

-- all are good, and the newest checkpoint maps a sector to this one, which does not have it there
pub record IsMissingThere (volume : Expected) (uuid_at : ℕ → Option (List ℕ)) (objects : Objects) (number : ℕ) : Type 0 where
  pub base : ℕ
  pub end : ℕ
  pub owned : Owners
  pub checkpoint : IsCheckpointOf volume objects base end owned
  pub newest : IsNewest volume objects base
  pub good : AreAllGood volume objects base
  pub missing : IsMissing uuid_at objects checkpoint.rows number

-- why the objects of a store are refused
abbrev pub IsWhyObjectsRefused : (volume : Expected) → (ℕ → Option (List ℕ)) → Objects → RecoverError → Type 0
IsWhyObjectsRefused volume uuid_at objects errors.NoCheckpoint = (number : ℕ) → IsNoCheckpoint volume objects number
IsWhyObjectsRefused volume uuid_at objects (errors.BadObject number reason) = IsBadThere volume objects number reason
IsWhyObjectsRefused volume uuid_at objects (errors.MissingObject number) = IsMissingThere volume uuid_at objects number
IsWhyObjectsRefused volume uuid_at objects (errors.BaseMissing uuid) = ⊥
IsWhyObjectsRefused volume uuid_at objects errors.StoreFault = Unit {0}
IsWhyObjectsRefused volume uuid_at objects errors.OutOfMemory = Unit {0}

-- the error refuses what the store has
abbrev pub IsRefusal : RecoverError → Type 0
IsRefusal errors.NoCheckpoint = Unit {0}
IsRefusal (errors.BadObject number reason) = Unit {0}
IsRefusal (errors.MissingObject number) = Unit {0}
IsRefusal (errors.BaseMissing uuid) = Unit {0}
IsRefusal errors.StoreFault = ⊥
IsRefusal errors.OutOfMemory = ⊥

-- no stream that the store has is refused
abbrev pub RefusesNoStream : (volume : Expected) → (ℕ → Option (List ℕ)) → Objects → RecoverError → Type 0
RefusesNoStream volume uuid_at objects error =
    (stream : Stream) (opening : Image) (number : ℕ)
    → HasDataUpTo volume uuid_at objects stream opening number → IsRefusal error → ⊥

-- an error with its reason, which refuses no stream that the store has
pub record IsRecoveryRefused (volume : Expected) (uuid_at : ℕ → Option (List ℕ)) (objects : Objects) (error : RecoverError) :
    Type 0 where
  pub why : IsWhyObjectsRefused volume uuid_at objects error
  pub no_stream : RefusesNoStream volume uuid_at objects error
