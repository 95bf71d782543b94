-- For this crate's own clauses: what the header at one place says while a log is read.
use Rattle.std.specs.Prelude.{◌≡◌, ℕ, ◌-◌, ◌≤◌, ◌⊎◌, IsTrue, true, List}
use Rattle.lsvd_base.specs.declared.geometry.Geometry.{Geometry}
use Rattle.lsvd_device.specs.Medium.{Medium}
use Rattle.lsvd_device.specs.Device.{HoldsNow}
use Rattle.log_record.specs.declared.head.Head.{Head}
use Rattle.log_record.specs.declared.head.Head.TheVariants as heads
use Rattle.log_record.specs.declared.head.Place.{Place}
use Rattle.log_record.specs.Grammar.{IsHeader}
use Rattle.log_record.specs.Tests.{IsRefusedAs}
use Rattle.cache_log.specs.declared.error.OpenError.{OpenError}
use Rattle.cache_log.specs.declared.error.OpenError.TheVariants as open_errors
use Rattle.cache_log.specs.declared.row.Row.{Row}
use Rattle.cache_log.specs.declared.row.Row.TheVariants.{Write, Zero}
use Rattle.cache_log.specs.Rows.{seq_of, position_of, log_sectors, StandsFrom, sectors_taken}
use Rattle.cache_log.specs.Opening.{is_row_in_range, after_pad, IsRefusedAt}

-- what the header of a row's record says
abbrev pub head_of_row : Row → Head
head_of_row (Write seq at lba sectors) = heads.Write lba sectors
head_of_row (Zero seq at lba sectors) = heads.Zero lba sectors

abbrev pub IsPad : Head → Type 0
IsPad (heads.Write lba sectors) = ⊥
IsPad (heads.Zero lba sectors) = ⊥
IsPad (heads.Pad sectors) = Unit {0}

-- the header of a row's record, with a seq, stands at a place, or a pad's does and that of the record after it
abbrev pub HasRow : Geometry → Place → (seq : ℕ) → List ℕ → Row → Type 0
HasRow geometry place seq bytes row =
    (seq_of row ≡ seq)
    × (((position_of row ≡ place.position) × IsHeader (log_sectors place.position 1 bytes) seq geometry place (head_of_row row))
    ⊎ ((position_of row ≡ 0)
    × IsHeader (log_sectors place.position 1 bytes) seq geometry place (heads.Pad (geometry.log - place.position - 1))
    × IsHeader (log_sectors 0 1 bytes) seq geometry (after_pad geometry.log place) (head_of_row row)))

-- a row with a seq that stands at a place and fits there
pub record FitsFrom (geometry : Geometry) (place : Place) (seq : ℕ) (row : Row) : Type 0 where
  pub numbered : seq_of row ≡ seq
  pub stands : StandsFrom geometry.log place.position row
  pub within : sectors_taken geometry.log place.position row ≤ place.to_head
  pub ends : place.is_last ≡ true → sectors_taken geometry.log place.position row ≡ place.to_head
  pub in_range : IsTrue (is_row_in_range geometry row)

-- the header is refused
abbrev pub IsBadHeader : Geometry → Place → (seq : ℕ) → List Medium → OpenError → Type 0
IsBadHeader geometry place seq moments (open_errors.BadRecord n reason) =
    (n ≡ seq) × HoldsNow (λ now. IsRefusedAs (log_sectors place.position 1 now.bytes) seq geometry place reason) moments
IsBadHeader geometry place seq moments open_errors.DeviceFault = Unit {0}
IsBadHeader geometry place seq moments open_errors.OutOfMemory = Unit {0}

-- the header of a record is, or that after the pad before it
abbrev pub IsBadRow : Geometry → Place → (seq : ℕ) → List Medium → OpenError → Type 0
IsBadRow geometry place seq moments (open_errors.BadRecord n reason) =
    (n ≡ seq) × HoldsNow (λ now. IsRefusedAt geometry place seq now.bytes reason) moments
IsBadRow geometry place seq moments open_errors.DeviceFault = Unit {0}
IsBadRow geometry place seq moments open_errors.OutOfMemory = Unit {0}
