-- Contract: what a disk holds, and what a stop may leave of it.
use Rattle.std.specs.Prelude.{◌≡◌, ℕ, ◌+◌, ◌<◌, ◌≤◌, ◌⊎◌, List, [], ◌∷◌, length, take, drop, slice_index}
use Rattle.std.specs.List.{All}
use Rattle.lsvd_bytes.specs.Places.{with_bytes}

-- `count` bytes from a place on
pub record Span : Type 0 where
  pub at : ℕ
  pub count : ℕ

-- what a disk holds at a moment
pub record Medium : Type 0 where
  -- what a read gives
  pub bytes : List ℕ
  -- what a read gave at the last sync that succeeded
  pub synced : List ℕ
  -- the ranges written since, the newest first
  pub pending : List Span

-- the byte lies outside the range
abbrev pub LiesOutside : ℕ → Span → Type 0
LiesOutside i span = (i < span.at) ⊎ (span.at + span.count ≤ i)

-- What a stop may leave of it: anything in each range written since the last sync that succeeded, and
-- elsewhere what stood there at that sync.
pub record MayLeave (medium : Medium) (left : List ℕ) : Type 0 where
  pub count : length left ≡ length medium.synced
  pub elsewhere : (i : ℕ) → All (LiesOutside i) medium.pending → slice_index left i ≡ slice_index medium.synced i

-- what it holds when nothing is pending
abbrev pub durable : List ℕ → Medium
durable bytes = record { bytes = bytes; synced = bytes; pending = [] }

-- a piece was written
abbrev pub after_write : ℕ → List ℕ → Medium → Medium
after_write at piece medium = record medium {
  bytes = with_bytes at piece medium.bytes;
  pending = record { at = at; count = length piece } ∷ medium.pending;
}

-- what was written was synced
abbrev pub after_sync : Medium → Medium
after_sync medium = durable medium.bytes

-- a write of `count` bytes failed: any bytes may stand in its range
pub record IsTorn (at count : ℕ) (old new : Medium) : Type 0 where
  pub before : take at new.bytes ≡ take at old.bytes
  pub behind : drop (at + count) new.bytes ≡ drop (at + count) old.bytes
  pub length : length new.bytes ≡ length old.bytes
  pub synced : new.synced ≡ old.synced
  pub pending : new.pending ≡ record { at = at; count = count } ∷ old.pending
