-- Contract: which objects a mount needs.
use Rattle.std.specs.Prelude.{ℕ, ◌≤◌, ◌⊎◌}
use Rattle.lsvd_objstore.specs.Objects.{Objects}
use Rattle.object_format.specs.declared.expected.Expected.{Expected}
use Rattle.object_stream.specs.Stream.{Owners}
use Rattle.stopped_volume.specs.Holds.{IsMappedBy, IsKept}

-- The newest checkpoint of a store, the objects after it, and those that it maps are needed, and those that a hold keeps.
abbrev pub IsNeeded : Expected → Objects → (checkpoint : ℕ) → Owners → (number : ℕ) → Type 0
IsNeeded volume objects checkpoint owned number =
    (checkpoint ≤ number) ⊎ IsMappedBy owned number ⊎ IsKept volume objects number
