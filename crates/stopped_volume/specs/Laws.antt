-- Contract: what objects of a store stand for.
use Rattle.std.specs.Prelude.{◌≡◌, ℕ, ◌+◌, ◌-◌, ◌^◌, ◌<◌, ◌≤◌, Some, Option, List, length, take}
use Rattle.std.specs.List.{All}
use Rattle.clone_chain.specs.declared.ancestor.Ancestor.{Ancestor}
use Rattle.lsvd_base.specs.Image.{Image, after}
use Rattle.lsvd_base.specs.Laws.{EndsBy}
use Rattle.lsvd_objstore.specs.Objects.{Objects}
use Rattle.object_format.specs.declared.expected.Expected.{Expected}
use Rattle.object_stream.specs.Stream.{Stream, Owners, objects_to, end_at, last_number, IsStream}
use Rattle.object_stream.specs.Landed.{Numbers, IsFirstMissing}
use Rattle.object_stream.specs.Stored.{AreStored}
use Rattle.stopped_volume.specs.Ancestors.{HasInherited, KeepsOtherVolumes}
use Rattle.stopped_volume.specs.Opening.{HasOpening}
use Rattle.stopped_volume.specs.Objects.{landed_in, AreCheckpoints, AreWholePast, ObjectsStandFor}

-- objects stand for one image of a length, with one number and one end
abbrev pub StandForOneVolume : Type 0
StandForOneVolume =
    (volume : Expected) (uuid_at : ℕ → Option (List ℕ)) (objects : Objects) (image other : Image)
    (number other_number end other_end : ℕ)
    → volume.sectors < 2 ^ 64 → length image ≡ length other
    → ObjectsStandFor volume uuid_at objects image number end
    → ObjectsStandFor volume uuid_at objects other other_number other_end
    → (number ≡ other_number) × (end ≡ other_end) × (image ≡ other)

-- A store has a stream that begins at its newest checkpoint, up to the object of a number: that before the first missing one. The
-- objects past it are whole.
pub record HasStreamUpTo (volume : Expected) (uuid_at : ℕ → Option (List ℕ)) (objects : Objects) (stream : Stream)
    (opening : Image)
    (number : ℕ) : Type 0 where
  pub checkpoint : Numbers
  pub checkpoints : AreCheckpoints volume objects checkpoint
  pub missing : IsFirstMissing checkpoint (landed_in objects volume) (number + 1)
  pub base : missing.base ≡ stream.number
  pub opens : HasOpening volume uuid_at objects stream opening
  pub last : number ≤ last_number stream
  pub stored : AreStored objects uuid_at volume stream.number stream.end stream.entries stream.opening (objects_to stream number)
  pub past : AreWholePast volume objects number

-- then its objects stand for the image that the history makes up to the end of the last of them, and no further
abbrev pub StandForHistory : Type 0
StandForHistory =
    (volume : Expected) (uuid_at : ℕ → Option (List ℕ)) (objects : Objects) (stream : Stream) (opening : Image) (number : ℕ)
    → uuid_at 0 ≡ Some volume.uuid → volume.sectors < 2 ^ 64 → All (EndsBy (length opening)) stream.entries → IsStream stream
    → HasStreamUpTo volume uuid_at objects stream opening number
    → ObjectsStandFor volume uuid_at objects (after opening (take (end_at stream number - stream.end) stream.entries)) number
    (end_at stream number)

-- ---- clones

-- what a volume opens with of its ancestors a store has as before, where nothing but the volume's own names changed
abbrev pub InheritedIsKept : Type 0
InheritedIsKept =
    (uuid : List ℕ) (chain : List Ancestor) (owned : Owners) (inherited : ℕ → ℕ) (opening : Image) (old new : Objects)
    → KeepsOtherVolumes uuid old new → HasInherited uuid chain owned inherited opening old
    → HasInherited uuid chain owned inherited opening new
