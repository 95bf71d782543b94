-- Contract: where the stream of a volume opens in a store: at a checkpoint, whose rows say which object has each sector, and
-- where.
use Rattle.std.specs.Prelude.{◌≡◌, ℕ, ◌<◌, ◌≤◌, Option, Some, option_map, List}
use Rattle.lsvd_base.specs.Image.{Image}
use Rattle.lsvd_objstore.specs.Objects.{Objects, found}
use Rattle.extent_map.specs.declared.extent.Extent.{Extent}
use Rattle.extent_map.specs.Extents.{place_at}
use Rattle.object_format.specs.declared.expected.Expected.{Expected}
use Rattle.ckpt_format.specs.declared.place.StoredPlace.{StoredPlace}
use Rattle.ckpt_format.specs.Places.{stored_on}
use Rattle.ckpt_format.specs.Checkpoint.{IsCheckpoint}
use Rattle.object_stream.specs.declared.owner.Owner.{Owner}
use Rattle.object_stream.specs.Changes.{sector_of}
use Rattle.object_stream.specs.Stream.{Stream, Owners}
use Rattle.object_stream.specs.Replay.{object_name}
use Rattle.object_stream.specs.Value.{HasSector, IsValue}
use Rattle.stopped_volume.specs.Expected.{expected_alone}

-- ---- a checkpoint

-- the owner that a place of a checkpoint names, and the owners that its rows say
abbrev pub stored_owner : StoredPlace → Owner
stored_owner place = record { level = place.level; number = place.number }

abbrev pub owned_by : List (Extent StoredPlace) → Owners
owned_by rows k = option_map stored_owner (place_at stored_on rows k)

-- the store has a checkpoint of the grammar under this number, with this end, and these are the owners that its rows say
pub record IsCheckpointOf (volume : Expected) (objects : Objects) (number end : ℕ) (owned : Owners) : Type 0 where
  pub bytes : List ℕ
  pub present : found objects (object_name volume number) ≡ Some bytes
  pub rows : List (Extent StoredPlace)
  pub is_checkpoint : IsCheckpoint bytes (expected_alone volume number) end rows
  pub says : (k : ℕ) → owned k ≡ owned_by rows k

-- ---- what its places hold

-- The object of a place is in the store, a data object or a copy of the grammar, and has this sector k, at that place of its
-- payload. Objects have numbers from 1 on. A level's uuid is that of the volume itself, and then those of its ancestors.
pub record HasSectorAt (objects : Objects) (uuid_at : ℕ → Option (List ℕ)) (place : StoredPlace) (k : ℕ) : Type 0 where
  pub numbered : 1 ≤ place.number
  pub sector : List ℕ
  pub has : HasSector objects uuid_at (stored_owner place) k sector
  pub inside : place.place < has.header.payload
  pub at : sector_of place.place has.payload ≡ sector

-- each place that rows say is such a one
abbrev pub HoldPlaces : Objects → (ℕ → Option (List ℕ)) → List (Extent StoredPlace) → Type 0
HoldPlaces objects uuid_at rows =
    (k : ℕ) (place : StoredPlace) → place_at stored_on rows k ≡ Some place → HasSectorAt objects uuid_at place k

-- ---- the opening

-- The store has a checkpoint at which a stream may begin: each of its places holds its sector, also where a later object has that
-- sector, too: what the newest checkpoint maps is needed.
pub record IsOpening (volume : Expected) (uuid_at : ℕ → Option (List ℕ)) (objects : Objects) (number end : ℕ) (owned : Owners) :
    Type 0 where
  pub checkpoint : IsCheckpointOf volume objects number end owned
  pub places : HoldPlaces objects uuid_at checkpoint.rows

-- The store has the object at which a stream begins: a checkpoint with the stream's number, end and owners, whose places in
-- objects of ancestors are the stream's, and this image is the owners' value.
pub record HasOpening (volume : Expected) (uuid_at : ℕ → Option (List ℕ)) (objects : Objects) (stream : Stream) (image : Image) :
    Type 0 where
  pub is : IsOpening volume uuid_at objects stream.number stream.end stream.opening
  pub inherited : (k : ℕ) (place : StoredPlace) → place_at stored_on is.checkpoint.rows k ≡ Some place → 1 ≤ place.level
      → place.place ≡ stream.inherited k
  pub value : IsValue objects uuid_at stream.opening image
