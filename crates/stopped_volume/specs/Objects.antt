-- Contract: when the objects of a store stand for a volume: what a mount without the cache finds.
use Rattle.std.specs.Prelude.{◌≡◌, ℕ, ◌+◌, ◌-◌, ◌<◌, ◌↔◌, Option, None, is_some, IsTrue, List, length, take}
use Rattle.lsvd_base.specs.declared.entry.Entry.{Entry}
use Rattle.lsvd_base.specs.Image.{Image, after}
use Rattle.lsvd_objstore.specs.Objects.{Objects, found}
use Rattle.object_format.specs.declared.header.Header.{Header}
use Rattle.object_format.specs.declared.expected.Expected.{Expected}
use Rattle.object_format.specs.declared.rows.Rows.{Rows}
use Rattle.object_format.specs.Object.{IsObject}
use Rattle.object_stream.specs.Stream.{Owners}
use Rattle.object_stream.specs.Landed.{Numbers, IsFirstMissing}
use Rattle.object_stream.specs.Replay.{object_name, Replays}
use Rattle.object_stream.specs.Value.{IsValue}
use Rattle.stopped_volume.specs.Expected.{expected_alone}
use Rattle.stopped_volume.specs.Opening.{IsCheckpointOf, IsOpening}

-- the numbers of a volume's objects that a store has
abbrev pub landed_in : Objects → Expected → Numbers
landed_in objects volume number = is_some (found objects (object_name volume number))

-- these are the numbers of all checkpoints that a store has
abbrev pub AreCheckpoints : Expected → Objects → Numbers → Type 0
AreCheckpoints volume objects checkpoint =
    (number : ℕ) → IsTrue (checkpoint number) ↔ ((end : ℕ) × (owned : Owners) × IsCheckpointOf volume objects number end owned)

-- bytes are an object of the grammar under the expected number
abbrev pub IsWhole : Expected → (bytes : List ℕ) → Type 0
IsWhole expected bytes = (header : Header) × (rows : Rows) × IsObject bytes (length bytes) expected header rows

-- each object of a volume past one of a number is of the grammar, wherever it begins
abbrev pub AreWholePast : Expected → Objects → (number : ℕ) → Type 0
AreWholePast volume objects number =
    (other : ℕ) (bytes : List ℕ) → number < other → found objects (object_name volume other) ≡ Option.Some bytes
    → IsWhole (expected_alone volume other) bytes

-- The objects of a store stand for an image, the number of the object before the first missing one, and that object's end: from
-- the newest checkpoint on, whose places hold their sectors, each object up to it is whole and goes on where the one before it
-- ends, the objects past it are whole too, and the image is the value that the replay of the objects up to it has. A level's uuid
-- is that of the volume, and then those of its ancestors.
pub record ObjectsStandFor (volume : Expected) (uuid_at : ℕ → Option (List ℕ)) (objects : Objects) (image : Image)
    (number end : ℕ) : Type 0 where
  pub checkpoint : Numbers
  pub checkpoints : AreCheckpoints volume objects checkpoint
  pub missing : IsFirstMissing checkpoint (landed_in objects volume) (number + 1)
  pub base_end : ℕ
  pub owned : Owners
  pub opening : IsOpening volume uuid_at objects missing.base base_end owned
  pub owners : Owners
  pub replayed : Replays objects volume missing.base base_end owned (number - missing.base) end owners
  pub value : IsValue objects uuid_at owners image
  pub past : AreWholePast volume objects number

-- they stand for the first entries of a history over an opening image: those of the objects before the first missing one
abbrev pub ObjectsStandForFirst : Expected → (ℕ → Option (List ℕ)) → Objects → (opening : Image) → List Entry
    → (number end : ℕ) → Type 0
ObjectsStandForFirst volume uuid_at objects opening history number end =
    ObjectsStandFor volume uuid_at objects (after opening (take end history)) number end
