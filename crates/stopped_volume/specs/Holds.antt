-- Contract: which objects of a store holds keep.
use Rattle.std.specs.Prelude.{◌≡◌, ℕ, ◌^◌, ◌<◌, ◌⊎◌, true}
use Rattle.std.specs.Option.{IsSome}
use Rattle.lsvd_names.specs.Names.{hold_name}
use Rattle.lsvd_objstore.specs.Objects.{Objects, found}
use Rattle.object_format.specs.declared.expected.Expected.{Expected}
use Rattle.object_stream.specs.Stream.{Owners, is_own}
use Rattle.stopped_volume.specs.Opening.{IsCheckpointOf}

-- the store has a hold of a volume on the checkpoint of this number
pub record IsHeld (volume : Expected) (objects : Objects) (number : ℕ) : Type 0 where
  pub named : number < 2 ^ 64
  pub present : IsSome (found objects (hold_name volume.uuid number))

-- the store has a checkpoint of the grammar under this number
abbrev pub HasCheckpoint : Expected → Objects → (number : ℕ) → Type 0
HasCheckpoint volume objects number = (end : ℕ) × (owned : Owners) × IsCheckpointOf volume objects number end owned

-- the checkpoint of each hold is there
abbrev pub HasHeldCheckpoints : Expected → Objects → Type 0
HasHeldCheckpoints volume objects = (number : ℕ) → IsHeld volume objects number → HasCheckpoint volume objects number

-- a checkpoint keeps itself, and each object of the volume's own that it maps
abbrev pub IsMappedBy : Owners → (number : ℕ) → Type 0
IsMappedBy owned number = (k : ℕ) × (is_own number (owned k) ≡ true)

abbrev pub IsKeptBy : Expected → Objects → (checkpoint number : ℕ) → Type 0
IsKeptBy volume objects checkpoint number =
    (number ≡ checkpoint)
    ⊎ ((end : ℕ) × (owned : Owners) × IsCheckpointOf volume objects checkpoint end owned × IsMappedBy owned number)

-- a hold keeps what its checkpoint keeps
abbrev pub IsKept : Expected → Objects → (number : ℕ) → Type 0
IsKept volume objects number =
    (checkpoint : ℕ) × IsHeld volume objects checkpoint × IsKeptBy volume objects checkpoint number
