-- Contract: what the table of a recovered list knows of the objects of a store.
use Rattle.std.specs.Prelude.{◌≡◌, ℕ, ◌<◌, ◌≤◌, ◌↔◌, Option, false, nat_eq, IsTrue, is_some, option_map, Some, None, IfSome, List}
use Rattle.std.specs.Prelude.{length}
use Rattle.std.specs.List.{All}
use Rattle.lsvd_names.specs.Names.{numbered_name}
use Rattle.lsvd_objstore.specs.Objects.{Objects, found}
use Rattle.extent_map.specs.declared.extent.Extent.{Extent}
use Rattle.extent_map.specs.Extents.{place_at}
use Rattle.object_format.specs.declared.expected.Expected.{Expected}
use Rattle.object_format.specs.declared.header.Header.{Header}
use Rattle.object_format.specs.declared.kind.Kind.TheVariants as kinds
use Rattle.object_format.specs.Header.{IsObjectHeader}
use Rattle.ckpt_format.specs.declared.place.StoredPlace.{StoredPlace}
use Rattle.ckpt_format.specs.Places.{stored_on}
use Rattle.object_stream.specs.Replay.{object_name}
use Rattle.object_stream.specs.Stream.{Owners, is_own}
use Rattle.stopped_volume.specs.Expected.{expected_alone}
use Rattle.stopped_volume.specs.Holds.{HasHeldCheckpoints, IsKept}
use Rattle.stopped_volume.specs.Objects.{landed_in}
use Rattle.stopped_volume.specs.Opening.{IsCheckpointOf}
use Rattle.object_table.specs.declared.row.ObjectRow.{ObjectRow}
use Rattle.object_table.specs.Table.{row_of}
use Rattle.volume_maps.specs.declared.place.ObjectPlace.{ObjectPlace}
use Rattle.volume_maps.specs.Maps.{settled_at}
use Rattle.object_uploads.specs.State.{QueueState}
use Rattle.object_uploads.specs.Checkpoint.{mapped_place}
use Rattle.object_recovery.specs.Missing.{IsThere, IsBaseMissing}

-- The table of a list that begins with a checkpoint of this number: that is its newest, no removal is out, nothing is pinned, no
-- plan of a copy takes sectors, and as long as no object came after the checkpoint, it passed just those unmapped that have no
-- live sector.
pub record HasTableFrom (checkpoint : ℕ) (queue : QueueState) : Type 0 where
  pub checkpoint_is : queue.maps.objects.checkpoint ≡ checkpoint
  pub removal : queue.removal ≡ None
  pub unpinned : All (λ (row : ObjectRow). row.pins ≡ 0) queue.maps.objects.rows
  pub not_copied : All (λ (row : ObjectRow). row.is_copied ≡ false) queue.maps.objects.rows
  pub exact : queue.frontier ≡ checkpoint
      → All (λ (row : ObjectRow). row.number < checkpoint → row.is_unmapped ≡ nat_eq row.live 0) queue.maps.objects.rows

-- so it is before any hold is read: none keeps an object yet
pub record HasTableUnheld (checkpoint : ℕ) (queue : QueueState) : Type 0 where
  pub table : HasTableFrom checkpoint queue
  pub unheld : All (λ (row : ObjectRow). row.is_held ≡ false) queue.maps.objects.rows

-- The object of a number is in the store: its header is that of a data object or a copy, with a payload of so many sectors.
pub record HasPayloadThere (volume : Expected) (objects : Objects) (number payload : ℕ) : Type 0 where
  pub bytes : List ℕ
  pub present : found objects (object_name volume number) ≡ Some bytes
  pub header : Header
  pub is_header : IsObjectHeader bytes (length bytes) (expected_alone volume number) header
  pub no_checkpoint : header.kind ≡ kinds.Checkpoint → ⊥
  pub payload_is : header.payload ≡ payload

-- so is each object of the volume's own that a list's map has a sector in, with the payload that the table says
abbrev pub ArePayloadsThere : (volume : Expected) → Objects → QueueState → Type 0
ArePayloadsThere volume objects queue =
    (k : ℕ) (place : ObjectPlace) → settled_at queue.maps k ≡ Some place → place.level ≡ 0
    → IfSome (row_of place.number queue.maps.objects.rows) (λ row.
    HasPayloadThere volume objects place.number row.payload)

-- a place is in an object up to this number, or in one of an ancestor
abbrev pub IsUpTo : (number : ℕ) → ObjectPlace → Type 0
IsUpTo number place = place.level ≡ 0 → place.number ≤ number

-- The table has just the objects that the store has up to the frontier, and says of each whether the newest checkpoint of the
-- store, which has this number, came after it and does not map it. The list's map has the sectors of objects up to that
-- checkpoint, and of ancestors' objects, where its rows say. Of each object of the volume's own that the map has a sector in, the
-- table says the payload.
pub record KnowsObjects (volume : Expected) (objects : Objects) (base : ℕ) (queue : QueueState) : Type 0 where
  pub known : (number : ℕ) → 1 ≤ number → number ≤ queue.frontier
      → is_some (row_of number queue.maps.objects.rows) ≡ landed_in objects volume number
  pub unmapped : (end : ℕ) (owned : Owners) → IsCheckpointOf volume objects base end owned → (number : ℕ)
      → IfSome (row_of number queue.maps.objects.rows) (λ row.
      IsTrue row.is_unmapped ↔ ((number < base) × ((k : ℕ) → is_own number (owned k) ≡ false)))
  pub places : (end : ℕ) (owned : Owners) → (checkpoint : IsCheckpointOf volume objects base end owned)
      → (k : ℕ) (place : ObjectPlace) → settled_at queue.maps k ≡ Some place → IsUpTo base place
      → option_map mapped_place (place_at stored_on checkpoint.rows k) ≡ Some place
  pub payloads : ArePayloadsThere volume objects queue

-- The table says of each object that it has whether a hold of the store keeps it; the store has the checkpoint of each hold.
pub record KnowsHolds (volume : Expected) (objects : Objects) (queue : QueueState) : Type 0 where
  pub checkpoints : HasHeldCheckpoints volume objects
  pub says : (number : ℕ) → IfSome (row_of number queue.maps.objects.rows) (λ row.
      IsTrue row.is_held ↔ IsKept volume objects number)

-- what is expected of an object of the volume with this uuid, which is one of a volume's levels
abbrev pub expected_in : Expected → (uuid : List ℕ) → (number : ℕ) → Expected
expected_in volume uuid number = record volume { uuid = uuid; number = number; end_before = None }

-- The object of a place, by the uuid of its level, is in the store: its header is that of a data object or a copy, whose payload
-- has such a place.
pub record IsNamedThere (volume : Expected) (uuid_at : ℕ → Option (List ℕ)) (objects : Objects) (place : StoredPlace) :
    Type 0 where
  pub uuid : List ℕ
  pub of : uuid_at place.level ≡ Some uuid
  pub bytes : List ℕ
  pub present : found objects (numbered_name uuid place.number) ≡ Some bytes
  pub header : Header
  pub is_header : IsObjectHeader bytes (length bytes) (expected_in volume uuid place.number) header
  pub no_checkpoint : header.kind ≡ kinds.Checkpoint → ⊥
  pub inside : place.place < header.payload

-- each place of rows is in such a one
abbrev pub AreNamedThere : (volume : Expected) → (ℕ → Option (List ℕ)) → Objects → List (Extent StoredPlace) → Type 0
AreNamedThere volume uuid_at objects rows = (k : ℕ) (place : StoredPlace) → place_at stored_on rows k ≡ Some place
    → IsNamedThere volume uuid_at objects place

-- Each place of rows is in such a one, but for those in ancestors' objects that are absent: the first of these is of the ancestor
-- with this uuid, if there is any.
pub record FindsNamed (volume : Expected) (uuid_at : ℕ → Option (List ℕ)) (objects : Objects) (rows : List (Extent StoredPlace))
    (absent : Option (List ℕ)) : Type 0 where
  pub named : (k : ℕ) (place : StoredPlace) → place_at stored_on rows k ≡ Some place
      → (1 ≤ place.level → IsThere objects uuid_at place) → IsNamedThere volume uuid_at objects place
  pub whole : absent ≡ None → AreNamedThere volume uuid_at objects rows
  pub missing : IfSome absent (IsBaseMissing uuid_at objects rows)
