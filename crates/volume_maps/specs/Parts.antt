-- For this crate's own clauses: the parts of the objects' map that a plan of a copy takes, and the rows of the copy.
use Rattle.std.specs.Prelude.{◌≡◌, ℕ, ◌+◌, ◌-◌, min, Option, Some, None, IfSome, ◌<◌, List, [], ◌∷◌, if◌then◌else◌}
use Rattle.std.specs.List.{filter, range_with_len, sum_by}
use Rattle.extent_map.specs.declared.extent.Extent.{Extent}
use Rattle.extent_map.specs.Extents.{place_at}
use Rattle.object_format.specs.declared.copy_row.CopyRow.{CopyRow}
use Rattle.object_stream.specs.Planned.{planned}
use Rattle.object_stream.specs.Stream.{source_in}
use Rattle.volume_maps.specs.declared.place.ObjectPlace.{ObjectPlace}
use Rattle.volume_maps.specs.Places.{object_on}
use Rattle.volume_maps.specs.Live.{is_in_object, is_live}

-- a place, where it is in the volume's own object of this number
abbrev pub place_in_object : (number : ℕ) → Option ObjectPlace → Option ObjectPlace
place_in_object number None = None
place_in_object number (Some place) = if is_in_object number place then Some place else None

-- how many sectors some parts have
abbrev pub sector_total : List (Extent ObjectPlace) → ℕ
sector_total parts = sum_by (λ (part : Extent ObjectPlace). part.sectors) parts

-- parts cut off behind so many sectors
abbrev pub first_sectors : (most : ℕ) → List (Extent ObjectPlace) → List (Extent ObjectPlace)
first_sectors most [] = []
first_sectors most (part ∷ parts) =
    record part { sectors = min part.sectors most } ∷ first_sectors (most - part.sectors) parts

-- ---- the sectors of a volume

-- each sector that has a place is below the volume's end
abbrev pub AreBelow : (volume : ℕ) → (ℕ → Option ObjectPlace) → Type 0
AreBelow volume places = (k : ℕ) → IfSome (places k) (λ (place : ObjectPlace). k < volume)

-- the sectors of a volume whose places are in the object of a number, in ascending order
abbrev pub live_below : (volume : ℕ) → (ℕ → Option ObjectPlace) → (number : ℕ) → List ℕ
live_below volume places number = filter (λ k. is_live number (places k)) (range_with_len 0 volume)

-- a sector's place, where a plan has the sector from a source
abbrev pub place_of_source : (source : Option ℕ) → Option ObjectPlace → Option ObjectPlace
place_of_source None place = None
place_of_source (Some source) place = place

-- Parts have the sectors that a plan copies of victims, so many at most, each where the objects' map has it. It is the same plan
-- for each volume that has all sectors with a place.
abbrev pub ArePlanned : (most : ℕ) → (victims : List ℕ) → (settled parts : List (Extent ObjectPlace)) → Type 0
ArePlanned most victims settled parts =
    (volume : ℕ) → AreBelow volume (place_at object_on settled) → (k : ℕ)
    → place_at object_on parts k
    ≡ place_of_source (source_in (planned most (live_below volume (place_at object_on settled)) victims) k)
    (place_at object_on settled k)

-- ---- the rows of the copy

-- the row of a part that has its data at a place of the payload
abbrev pub row_of_part : (place : ℕ) → Extent ObjectPlace → CopyRow
row_of_part place part = record {
  lba = part.lba;
  sectors = part.sectors;
  place = place;
  source = record { level = part.place.level; number = part.place.number; place = part.place.sector };
}

-- and those of parts that have theirs one after the other
abbrev pub rows_of_parts : (place : ℕ) → List (Extent ObjectPlace) → List CopyRow
rows_of_parts place [] = []
rows_of_parts place (part ∷ parts) = row_of_part place part ∷ rows_of_parts (place + part.sectors) parts
