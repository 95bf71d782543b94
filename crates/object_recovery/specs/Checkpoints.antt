-- Contract: the newest checkpoint of a volume in a store.
use Rattle.std.specs.Prelude.{◌≡◌, ℕ, ◌<◌, ◌≤◌, Option, Some, None, IfSome, List, length, slice_index_or}
use Rattle.std.specs.List.{Contains}
use Rattle.lsvd_base.specs.declared.geometry.Geometry.{Geometry}
use Rattle.lsvd_names.specs.Spelling.{IsName}
use Rattle.lsvd_names.specs.declared.name.ObjName.{ObjName}
use Rattle.lsvd_names.specs.declared.name.NameKind.TheVariants.{Object}
use Rattle.lsvd_objstore.specs.Objects.{Objects, found}
use Rattle.lsvd_objstore.specs.Store.{ReceiptState, IsReceiptOf}
use Rattle.extent_map.specs.declared.extent.Extent.{Extent}
use Rattle.object_format.specs.declared.expected.Expected.{Expected}
use Rattle.ckpt_format.specs.declared.place.StoredPlace.{StoredPlace}
use Rattle.ckpt_format.specs.Checkpoint.{IsCheckpoint}
use Rattle.object_stream.specs.Replay.{object_name}
use Rattle.object_stream.specs.Stream.{Owners}
use Rattle.stopped_volume.specs.Expected.{expected_alone}
use Rattle.stopped_volume.specs.Opening.{IsCheckpointOf}

-- what is expected of the objects of a volume with so many ancestors, but for their numbers and ends
abbrev pub expected_of : (uuid : List ℕ) → Geometry → (ancestors : ℕ) → Expected
expected_of uuid geometry ancestors = record {
  uuid = uuid;
  number = 0;
  sectors = geometry.sectors;
  ancestors = ancestors;
  end_before = None;
}

-- the store has no checkpoint of the grammar under this number
abbrev pub IsNoCheckpoint : Expected → Objects → (number : ℕ) → Type 0
IsNoCheckpoint volume objects number = (end : ℕ) (owned : Owners) → IsCheckpointOf volume objects number end owned → ⊥

-- what contracts see of a checkpoint that was read: its number, its end, its bytes, and what the store gave for it
pub record ReadCheckpoint : Type 0 where
  pub number : ℕ
  pub end : ℕ
  pub bytes : List ℕ
  pub receipt : ReceiptState

-- it is of the grammar, and the receipt has its name
pub record IsReadCheckpoint (volume : Expected) (checkpoint : ReadCheckpoint) : Type 0 where
  pub rows : List (Extent StoredPlace)
  pub is : IsCheckpoint checkpoint.bytes (expected_alone volume checkpoint.number) checkpoint.end rows
  pub named : checkpoint.receipt.name ≡ object_name volume checkpoint.number

-- the store has it, and the receipt is for it
pub record IsStoredCheckpoint (volume : Expected) (objects : Objects) (checkpoint : ReadCheckpoint) : Type 0 where
  pub present : found objects (object_name volume checkpoint.number) ≡ Some checkpoint.bytes
  pub receipt : IsReceiptOf (object_name volume checkpoint.number) checkpoint.bytes checkpoint.receipt

-- the checkpoint that the store has under this name was read; none where the name is no checkpoint's
abbrev pub IsCheckpointNamed : Geometry → (ancestors : ℕ) → Objects → ObjName → Option ReadCheckpoint → Type 0
IsCheckpointNamed geometry ancestors objects name None = name.kind ≡ Object
    → IsNoCheckpoint (expected_of name.uuid geometry ancestors) objects name.number
IsCheckpointNamed geometry ancestors objects name (Some checkpoint) =
    (name.kind ≡ Object) × (checkpoint.number ≡ name.number)
    × IsStoredCheckpoint (expected_of name.uuid geometry ancestors) objects checkpoint

-- those of names from an index on are no checkpoints
abbrev pub HasNoneFrom : Geometry → (ancestors : ℕ) → Objects → List ObjName → (index : ℕ) → Type 0
HasNoneFrom geometry ancestors objects names index =
    (k : ℕ) (name : ObjName) → index ≤ k → k < length names → slice_index_or names k name ≡ name
    → IsCheckpointNamed geometry ancestors objects name None

-- each is a name
abbrev pub AreNames : List ObjName → Type 0
AreNames names = (name : ObjName) → Contains names name → IsName name

-- no checkpoint of the store has a greater number
abbrev pub IsNewest : (volume : Expected) (objects : Objects) (number : ℕ) → Type 0
IsNewest volume objects number =
    (other end : ℕ) (owned : Owners) → IsCheckpointOf volume objects other end owned → other ≤ number

-- the checkpoint of the store with the greatest number, and its end
pub record IsNewestWithEnd (volume : Expected) (objects : Objects) (number end : ℕ) : Type 0 where
  pub owned : Owners
  pub is : IsCheckpointOf volume objects number end owned
  pub newest : IsNewest volume objects number

-- The bytes of an object that may be a checkpoint were read whole; none where it is not one, as far as its bytes are told.
abbrev pub MayBeCheckpoint : ReceiptState → Expected → Option (List ℕ) → Type 0
MayBeCheckpoint receipt expected None =
    IfSome receipt.told (λ told. receipt.size ≡ length told → (end : ℕ) (rows : List (Extent StoredPlace))
    → IsCheckpoint told expected end rows → ⊥)
MayBeCheckpoint receipt expected (Some bytes) =
    (length bytes ≡ receipt.size) × IfSome receipt.told (λ told. receipt.size ≡ length told → bytes ≡ told)
