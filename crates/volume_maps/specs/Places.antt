-- Contract: the places of sectors in the log and in objects, and how they go on.
use Rattle.std.specs.Prelude.{ℕ, ◌+◌, ◌-◌, ◌/◌, ◌^◌, Option, Some, None, option_map, List, [], ◌∷◌, length, if◌then◌else◌}
use Rattle.std.specs.Option.{option_or}
use Rattle.lsvd_base.specs.declared.entry.Entry.{Entry}
use Rattle.lsvd_base.specs.declared.entry.Entry.TheVariants.{Write, Zero}
use Rattle.extent_map.specs.declared.extent.Extent.{Extent}
use Rattle.extent_map.specs.Extents.{is_within}
use Rattle.volume_maps.specs.declared.place.ObjectPlace.{ObjectPlace}
use Rattle.volume_maps.specs.declared.place.LogPlace.{LogPlace}
use Rattle.volume_maps.specs.declared.place.LogPlace.TheVariants.{Data, Zeros}
use Rattle.volume_maps.specs.declared.place.VolumePlace.{VolumePlace}
use Rattle.volume_maps.specs.declared.place.VolumePlace.TheVariants.{Log, Object}

-- ---- how they go on

-- the place N sectors on in an object
abbrev pub object_on : ℕ → ObjectPlace → ObjectPlace
object_on sectors place = record place { sector = place.sector + sectors }

-- and in the log, where the place of zeros stays
abbrev pub log_on : ℕ → LogPlace → LogPlace
log_on sectors (Data seq sector) = Data seq (sector + sectors)
log_on sectors (Zeros seq) = Zeros seq

abbrev pub volume_on : ℕ → VolumePlace → VolumePlace
volume_on sectors (Log place) = Log (log_on sectors place)
volume_on sectors (Object place) = Object (object_on sectors place)

-- the sector of the log at which data stand, 0 for zeros
abbrev pub log_number : LogPlace → ℕ
log_number (Data seq sector) = sector
log_number (Zeros seq) = 0

-- An object's sectors stand in 32 bits, so the last of them has the greatest number that a place may have.
abbrev pub object_number : ObjectPlace → ℕ
object_number place = 2 ^ 63 - 2 ^ 32 + place.sector

abbrev pub volume_number : VolumePlace → ℕ
volume_number (Log place) = log_number place
volume_number (Object place) = object_number place

-- the seq of the entry that left a sector there
abbrev pub place_seq : LogPlace → ℕ
place_seq (Data seq sector) = seq
place_seq (Zeros seq) = seq

-- ---- where entries leave sectors

-- where an entry with this seq, whose data begin at a sector of the log, leaves a sector: none where it does not cover it
abbrev pub place_left_by : (seq data_at : ℕ) → Entry → ℕ → Option LogPlace
place_left_by seq data_at (Write lba body) k =
    if is_within lba (length body / 512) k then Some (Data seq (data_at + (k - lba))) else None
place_left_by seq data_at (Zero lba sectors) k = if is_within lba sectors k then Some (Zeros seq) else None

-- the row of the log's map that says so
abbrev pub row_left_by : (seq data_at : ℕ) → Entry → Extent LogPlace
row_left_by seq data_at (Write lba body) = record { lba = lba; sectors = length body / 512; place = Data seq data_at }
row_left_by seq data_at (Zero lba sectors) = record { lba = lba; sectors = sectors; place = Zeros seq }

-- where entries with seqs from one on leave a sector, each with its data where it is told: where the last that covers it does
abbrev pub left_at : (data_at : ℕ → ℕ) → (first : ℕ) → List Entry → ℕ → Option LogPlace
left_at data_at first [] k = None
left_at data_at first (entry ∷ entries) k =
    option_or (left_at data_at (first + 1) entries k) (place_left_by first (data_at first) entry k)

-- ---- both maps as one

-- a sector's place: that in the log's map and, where it has none, that in the objects' map
abbrev pub place_in : Option LogPlace → Option ObjectPlace → Option VolumePlace
place_in logged settled = option_or (option_map Log logged) (option_map Object settled)

-- a row of one of the maps as a row of both
abbrev pub as_logged : Extent LogPlace → Extent VolumePlace
as_logged row = record { lba = row.lba; sectors = row.sectors; place = Log row.place }

abbrev pub as_settled : Extent ObjectPlace → Extent VolumePlace
as_settled row = record { lba = row.lba; sectors = row.sectors; place = Object row.place }
