-- Contract: what each sector of the volume gets from the entries of a batch.
use Rattle.std.specs.Prelude.{ℕ, zero, suc, ◌+◌, ◌-◌, ◌/◌, Option, Some, None, List, [], ◌∷◌, length, if◌then◌else◌}
use Rattle.std.specs.Option.{option_or}
use Rattle.lsvd_base.specs.declared.entry.Entry.{Entry}
use Rattle.lsvd_base.specs.declared.entry.Entry.TheVariants.{Write, Zero}
use Rattle.extent_map.specs.declared.extent.Extent.{Extent}
use Rattle.extent_map.specs.Extents.{is_within}
use Rattle.object_stream.specs.declared.change.Change.{Change}
use Rattle.object_stream.specs.declared.change.Change.TheVariants.{Put, Clear}
use Rattle.object_stream.specs.Changes.{sector_of}
use Rattle.batcher.specs.declared.place.BatchPlace.{BatchPlace}
use Rattle.batcher.specs.declared.place.BatchPlace.TheVariants.{Data, Zeros}

-- ---- places

-- the number of a place: its sector of the entry's body, and 0 for zeros
abbrev pub batch_place_number : BatchPlace → ℕ
batch_place_number (Data entry from) = from
batch_place_number Zeros = 0

-- the place that stands this many sectors on
abbrev pub place_on : ℕ → BatchPlace → BatchPlace
place_on sectors (Data entry from) = Data entry (from + sectors)
place_on sectors Zeros = Zeros

-- ---- what sectors get from entries

-- the sectors that the entry at an index covers, with their places
abbrev pub extent_of : (index : ℕ) → Entry → Extent BatchPlace
extent_of index (Write lba body) = record { lba = lba; sectors = length body / 512; place = Data index 0 }
extent_of index (Zero lba sectors) = record { lba = lba; sectors = sectors; place = Zeros }

-- the place that one extent gives a sector, where it covers it
abbrev pub extent_place : Extent BatchPlace → ℕ → Option BatchPlace
extent_place extent k = if is_within extent.lba extent.sectors k then Some (place_on (k - extent.lba) extent.place) else None

-- what a sector gets from entries, the first of which is at an index: a place of the last of them that covers it
abbrev pub place_by : (index : ℕ) → List Entry → ℕ → Option BatchPlace
place_by index [] k = None
place_by index (entry ∷ entries) k = option_or (place_by (suc index) entries k) (extent_place (extent_of index entry) k)

-- ---- what a place has

-- the data of an entry: a zeroing has none
abbrev pub entry_body : Entry → List ℕ
entry_body (Write lba body) = body
entry_body (Zero lba sectors) = []

-- the data of the entry at an index
unfoldable pub entry_body_at : List Entry → (index : ℕ) → List ℕ
entry_body_at [] index = []
entry_body_at (entry ∷ entries) zero = entry_body entry
entry_body_at (entry ∷ entries) (suc index) = entry_body_at entries index

-- what a place of these entries does to its sector
abbrev pub change_of : List Entry → BatchPlace → Change
change_of entries (Data entry from) = Put (sector_of from (entry_body_at entries entry))
change_of entries Zeros = Clear
