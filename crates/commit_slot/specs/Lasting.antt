-- For this crate's own clauses: what stands in a range of a device, now and after a stop.
use Rattle.std.specs.Prelude.{◌≡◌, ℕ, ◌+◌, ◌<◌, List, length, slice_index}
use Rattle.std.specs.List.{All}
use Rattle.lsvd_bytes.specs.Places.{bytes_at}
use Rattle.lsvd_device.specs.Medium.{Medium, LiesOutside}

-- Bytes that a stop may leave in a range: each that was not written since the last sync is as it was then.
pub record MayStandAt (at count : ℕ) (medium : Medium) (bytes : List ℕ) : Type 0 where
  pub length : length bytes ≡ count
  pub elsewhere : (i : ℕ) → i < count → All (LiesOutside (at + i)) medium.pending
      → slice_index bytes i ≡ slice_index medium.synced (at + i)

-- the bytes of a range have P, now and whenever the device stops
pub record Lasts (at count : ℕ) (P : List ℕ → Type 0) (medium : Medium) : Type 0 where
  pub now : P (bytes_at at count medium.bytes)
  pub left : (bytes : List ℕ) → MayStandAt at count medium bytes → P bytes
