-- For this crate's own clauses: the piece of a log that was read ahead.
use Rattle.std.specs.Prelude.{◌≡◌, ℕ, ◌+◌, ◌-◌, ◌≤◌, ◌⊎◌, min, List, length, take}
use Rattle.lsvd_bytes.specs.Places.{bytes_at}
use Rattle.lsvd_device.specs.Medium.{Medium}
use Rattle.lsvd_device.specs.Device.{HoldsNow}
use Rattle.cache_log.specs.declared.reading_ahead.ReadAhead.{ReadAhead}

-- the piece has the bytes that stand in its place on the device now, where the device tells
pub record IsReadAhead (ahead : ReadAhead) (moments : List Medium) : Type 0 where
  pub within : ahead.len ≤ length ahead.buffer.items
  pub stands : HoldsNow (λ now. take ahead.len ahead.buffer.items ≡ bytes_at ahead.at ahead.len now.bytes) moments

-- the piece has N bytes of the device from one on
pub record HasPiece (ahead : ReadAhead) (at count : ℕ) : Type 0 where
  pub begins : ahead.at ≤ at
  pub ends : at + count ≤ ahead.at + ahead.len

-- The piece is as before, where it had N bytes from one on. A new one begins with them where it had not, and goes on up to the
-- end, or as far as there is room.
abbrev pub GoesAhead : (at count end : ℕ) → ReadAhead → ReadAhead → Type 0
GoesAhead at count end old new =
    (HasPiece old at count × (new ≡ old))
    ⊎ (¬ HasPiece old at count × (new.at ≡ at) × (new.len ≡ min (end - at) (length old.buffer.items))
    × (length new.buffer.items ≡ length old.buffer.items))
