-- Contract: what reading a log leaves, and how many reads it takes.
use Rattle.std.specs.Prelude.{◌≡◌, ℕ, ◌+◌, ◌/◌, ◌≤◌, nat_lt, if◌then◌else◌, Bool, true, false, List, [], ◌∷◌}
use Rattle.lsvd_device.specs.Calls.{Cost}
use Rattle.lsvd_device.specs.Device.{DiskState, MakesCalls}
use Rattle.commit_slot.specs.Commits.{CommitsState, IsAsBefore}
use Rattle.commit_slot.specs.OnDisk.{AreOnDisk}
use Rattle.cache_log.specs.declared.error.OpenError.{OpenError}
use Rattle.cache_log.specs.declared.error.OpenError.TheVariants as open_errors
use Rattle.cache_log.specs.declared.error.LogReadError.{LogReadError}
use Rattle.cache_log.specs.declared.error.LogReadError.TheVariants as read_errors
use Rattle.cache_log.specs.declared.row.Row.{Row}
use Rattle.cache_log.specs.Rows.{position_of, next}

-- what N reads take
abbrev pub reads_cost : ℕ → Cost
reads_cost count = record { calls = count; changes = 0; bytes = 0 }

-- at most this many reads were made, or one of them failed, and nothing else was done
pub record MakesReads (most : ℕ) (are_made : Bool) (old new : DiskState) : Type 0 where
  pub count : ℕ
  pub within : count ≤ most
  pub calls : MakesCalls (reads_cost count) are_made old new

-- the commits are as before, and their device was read, at most this many times
pub record AreReadOnly (most : ℕ) (are_made : Bool) (old new : CommitsState) : Type 0 where
  pub same : IsAsBefore old new
  pub moments : new.disk.moments ≡ old.disk.moments
  pub reads : MakesReads most are_made old.disk new.disk
  pub on_disk : AreOnDisk new

-- the most sectors that are read ahead at once
abbrev pub piece_sectors : ℕ
piece_sectors = 2048

-- the most pieces that so many sectors of a log have: all are whole, but for one that ends at the log's end and one that ends
-- at the head
abbrev pub pieces_in : ℕ → ℕ
pieces_in sectors = sectors / piece_sectors + 2

-- the headers that are read of a row that stands from a sector on: its own, and that of the pad before it
abbrev pub headers_of : (from : ℕ) → Row → ℕ
headers_of from row = if nat_lt (position_of row) from then 2 else 1

-- the same of rows, one after the other
abbrev pub headers_of_rows : (log from : ℕ) → List Row → ℕ
headers_of_rows log from [] = 0
headers_of_rows log from (row ∷ rows) = headers_of from row + headers_of_rows log (next log row) rows

-- whether no call of the device failed where a log was not opened
abbrev pub opens_without_fault : OpenError → Bool
opens_without_fault (open_errors.BadRecord seq reason) = true
opens_without_fault open_errors.DeviceFault = false
opens_without_fault open_errors.OutOfMemory = true

-- and where entries were not read
abbrev pub reads_without_fault : LogReadError → Bool
reads_without_fault read_errors.DeviceFault = false
reads_without_fault read_errors.OutOfMemory = true
