-- For this crate's own clauses: the first row of some sectors in both maps.
use Rattle.std.specs.Prelude.{◌≡◌, ℕ, ◌+◌, ◌<◌, ◌≤◌, Option, Some, List, [], ◌∷◌}
use Rattle.extent_map.specs.declared.extent.Extent.{Extent}
use Rattle.extent_map.specs.Extents.{place_at}
use Rattle.extent_map.specs.State.{MapState}
use Rattle.volume_maps.specs.declared.place.ObjectPlace.{ObjectPlace}
use Rattle.volume_maps.specs.declared.place.LogPlace.{LogPlace}
use Rattle.volume_maps.specs.declared.place.VolumePlace.{VolumePlace}
use Rattle.volume_maps.specs.Places.{object_on, log_on, volume_on, place_in}

-- a sector's place in both maps
abbrev pub combined : MapState ObjectPlace → MapState LogPlace → ℕ → Option VolumePlace
combined settled log k = place_in (place_at log_on log.rows k) (place_at object_on settled.rows k)

-- the places do not go on with a row where it ends before the range does
abbrev pub BreaksOff : (lba sectors : ℕ) → (ℕ → Option VolumePlace) → Extent VolumePlace → Type 0
BreaksOff lba sectors places row =
    row.lba + row.sectors < lba + sectors → places (row.lba + row.sectors) ≡ Some (volume_on row.sectors row.place) → ⊥

-- the last of these rows ends at a sector or before it, and the places, up to the end of the range, do not go on with it there
abbrev pub AreClosedAt : (from end : ℕ) → (ℕ → Option VolumePlace) → List (Extent VolumePlace) → Type 0
AreClosedAt from end places [] = Unit {0}
AreClosedAt from end places (row ∷ []) =
    (row.lba + row.sectors ≤ from)
    × (row.lba + row.sectors ≡ from → from < end → places from ≡ Some (volume_on row.sectors row.place) → ⊥)
AreClosedAt from end places (row ∷ next ∷ rows) = AreClosedAt from end places (next ∷ rows)
