-- Contract: what the place of a sector says of the sector that a volume has there.
use Rattle.std.specs.Prelude.{◌≡◌, ℕ, ◌+◌, ◌-◌, ◌<◌, ◌≤◌, IfSome, Option, Some, None, List, [], ◌∷◌}
use Rattle.std.specs.List.{slice_get}
use Rattle.lsvd_base.specs.declared.entry.Entry.{Entry}
use Rattle.lsvd_base.specs.Image.{zero_sector}
use Rattle.extent_map.specs.declared.extent.Extent.{Extent}
use Rattle.log_record.specs.Grammar.{data_of}
use Rattle.cache_log.specs.declared.row.Row.{Row}
use Rattle.cache_log.specs.Rows.{seq_of, position_of, record_size}
use Rattle.cache_log.specs.Log.{LogState, row_of}
use Rattle.object_stream.specs.Changes.{sector_of}
use Rattle.volume_maps.specs.declared.place.LogPlace.TheVariants.{Data, Zeros}
use Rattle.volume_maps.specs.declared.place.VolumePlace.{VolumePlace}
use Rattle.volume_maps.specs.declared.place.VolumePlace.TheVariants.{Log, Object}
use Rattle.object_uploads.specs.State.{QueueState}
use Rattle.object_uploads.specs.Image.{HoldsSector}

-- A sector is part of the data of an entry of the log's list, which has this seq: the log has it at a sector of the entry's
-- record.
pub record IsInRecord (log : LogState) (seq at : ℕ) (sector : List ℕ) : Type 0 where
  pub row : Row
  pub there : slice_get log.rows (seq - log.first) ≡ Some row
  pub numbered : seq_of row ≡ seq
  pub from : position_of row + 1 ≤ at
  pub to : at < position_of row + record_size row
  pub entry : Entry
  pub is_row : row ≡ row_of seq (position_of row) entry
  pub told : IfSome log.entries (λ list. slice_get list (seq - log.first) ≡ Some entry)
  pub part : sector ≡ sector_of (at - (position_of row + 1)) (data_of entry)

-- a sector is where the maps have it: it is zeros where there is no place, part of a record of the log, or part of an object
abbrev pub IsHeldAt : LogState → QueueState → Option VolumePlace → (sector : List ℕ) → Type 0
IsHeldAt log queue None sector = sector ≡ zero_sector
IsHeldAt log queue (Some (Log (Zeros seq))) sector = sector ≡ zero_sector
IsHeldAt log queue (Some (Log (Data seq at))) sector = IsInRecord log seq at sector
IsHeldAt log queue (Some (Object place)) sector = HoldsSector queue (Some place) sector

-- one, where a place is that of data in the log
abbrev pub data_row_in_log : VolumePlace → ℕ
data_row_in_log (Log (Data seq at)) = 1
data_row_in_log (Log (Zeros seq)) = 0
data_row_in_log (Object place) = 0

-- how many of some rows are of data in the log
abbrev pub data_rows_in_log : List (Extent VolumePlace) → ℕ
data_rows_in_log [] = 0
data_rows_in_log (row ∷ rows) = data_row_in_log row.place + data_rows_in_log rows
