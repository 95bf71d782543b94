-- For this crate's own clauses: the moments of a disk in memory, by the changes that it keeps. `IsSynced` and `HasRoom` are
-- contract.
use Rattle.std.specs.Prelude.{◌≡◌, ℕ, ◌+◌, ◌≤◌, Option, Some, None, List, [], ◌∷◌, take, drop, length, replicate}
use Rattle.std.specs.List.{AllByRecursion}
use Rattle.lsvd_device.specs.Medium.{Medium, durable, after_write, after_sync}
use Rattle.lsvd_bytes.specs.Places.{with_bytes}
use Rattle.lsvd_device.specs.Calls.{Budget}
use Rattle.lsvd_device.specs.Device.{HasSize, HoldsNow, moments_after}
use Rattle.lsvd_device.specs.declared.change.Change.{Change}
use Rattle.lsvd_device.specs.declared.change.Change.TheVariants.{Write, Sync}

-- the moments after these changes; the bytes of the writes stand one after the other
unfoldable pub moments_from : List Medium → List Change → List ℕ → List Medium
moments_from moments [] written = moments
moments_from moments (Write at count ∷ changes) written =
    moments_from (moments_after (after_write at (take count written)) moments) changes (drop count written)
moments_from moments (Sync ∷ changes) written = moments_from (moments_after after_sync moments) changes written

-- the moments of a disk that was made with zeros
abbrev pub moments_of : ℕ → List Change → List ℕ → List Medium
moments_of size changes written = moments_from (durable (replicate size 0) ∷ []) changes written

-- how many bytes the changes wrote
abbrev pub bytes_written : List Change → ℕ
bytes_written [] = 0
bytes_written (Write at count ∷ changes) = count + bytes_written changes
bytes_written (Sync ∷ changes) = bytes_written changes

-- the bytes after these changes
unfoldable pub contents_from : List ℕ → List Change → List ℕ → List ℕ
contents_from bytes [] written = bytes
contents_from bytes (Write at count ∷ changes) written = contents_from (with_bytes at (take count written) bytes) changes
    (drop count written)
contents_from bytes (Sync ∷ changes) written = contents_from bytes changes written

-- a change lies inside a disk of this size
abbrev pub LiesInside : ℕ → Change → Type 0
LiesInside size (Write at count) = at + count ≤ size
LiesInside size Sync = Unit {0}

abbrev pub LieInside : ℕ → List Change → Type 0
LieInside size changes = AllByRecursion (LiesInside size) changes

-- these are the first of the bytes
pub record IsFrontOf (bytes front : List ℕ) : Type 0 where
  pub fits : length front ≤ length bytes
  pub same : front ≡ take (length front) bytes

-- a change is a write
abbrev pub IsWrite : Change → Type 0
IsWrite (Write at count) = Unit {0}
IsWrite Sync = ⊥

-- nothing was written since the last sync
pub record IsSynced (medium : Medium) : Type 0 where
  pub pending : medium.pending ≡ []
  pub synced : medium.synced ≡ medium.bytes

-- the first `synced` of the changes are those up to the last sync, and the others are writes
pub record AreSyncedUpTo (size synced : ℕ) (changes : List Change) (written : List ℕ) : Type 0 where
  pub inside : synced ≤ length changes
  pub still : HoldsNow IsSynced (moments_of size (take synced changes) (take (bytes_written (take synced changes)) written))
  pub writes : AllByRecursion IsWrite (drop synced changes)

-- what holds of the changes, their bytes, and the front of the bytes as they are now
pub record IsKept (size synced : ℕ) (changes : List Change) (written held : List ℕ) : Type 0 where
  pub counted : bytes_written changes ≡ length written
  pub inside : LieInside size changes
  pub now : Medium
  pub past : List Medium
  pub moments : moments_of size changes written ≡ now ∷ past
  pub media : AllByRecursion (HasSize size) (now ∷ past)
  pub front : IsFrontOf now.bytes held
  pub up_to : AreSyncedUpTo size synced changes written

-- there is room for `calls` writes and syncs, and for `bytes` bytes
abbrev pub HasRoom : ℕ → ℕ → Option Budget → Type 0
HasRoom calls bytes None = ⊥
HasRoom calls bytes (Some budget) = (calls ≤ budget.calls) × (bytes ≤ budget.bytes)
