-- Contract: what the maps have to do with the stream of objects.
use Rattle.std.specs.Prelude.{◌≡◌, ℕ, ◌+◌, ◌⊎◌, Bool, false, IsTrue, Option, Some, None, option_map, List, ◌++◌, length}
use Rattle.lsvd_base.specs.declared.entry.Entry.{Entry}
use Rattle.object_format.specs.declared.copy_row.CopyRow.{CopyRow}
use Rattle.object_format.specs.declared.data_row.DataRow.{DataRow}
use Rattle.object_format.specs.Rows.{data_rows_may_stand, copy_rows_may_stand}
use Rattle.object_stream.specs.declared.change.Change.{Change}
use Rattle.object_stream.specs.declared.change.Change.TheVariants.{Put, Clear}
use Rattle.object_stream.specs.declared.owner.Owner.{Owner}
use Rattle.object_stream.specs.Changes.{sector_of, change_at, change_in, is_put, place_in_payload}
use Rattle.object_stream.specs.Stream.{owner_by_change, owner_by_copy}
use Rattle.object_stream.specs.Replay.{source_at}
use Rattle.object_stream.specs.Value.{copied_in}
use Rattle.volume_maps.specs.declared.place.ObjectPlace.{ObjectPlace}
use Rattle.volume_maps.specs.Places.{left_at}
use Rattle.volume_maps.specs.Live.{is_live}
use Rattle.volume_maps.specs.Maps.{settled_by, logged_by, settled_by_copy}

-- the object that a place is in
abbrev pub place_owner : Option ObjectPlace → Option Owner
place_owner place = option_map (λ (p : ObjectPlace). record { level = p.level; number = p.number }) place

-- the owner of a sector after the rows of a data object are settled is that after the object's replay
abbrev pub SettlesAsReplay : Type 0
SettlesAsReplay =
    (volume sectors number k : ℕ) (rows : List DataRow) (payload : List ℕ) (before : Option ObjectPlace)
    → IsTrue (data_rows_may_stand volume sectors None 0 rows)
    → place_owner (settled_by number rows before k) ≡ owner_by_change number (change_in rows payload k) (place_owner before)

-- A sector's place before and after an object of this number and this payload did this to it: a sector that it put is at a place
-- of the payload, one that it cleared has none, and any other is where it was.
abbrev pub IsPlacedBy : (number : ℕ) (payload : List ℕ) → Option Change → (before after : Option ObjectPlace) → Type 0
IsPlacedBy number payload None before after = after ≡ before
IsPlacedBy number payload (Some Clear) before after = after ≡ None
IsPlacedBy number payload (Some (Put sector)) before after =
    (at : ℕ) × (after ≡ Some (record { level = 0; number = number; sector = at })) × (sector_of at payload ≡ sector)

-- so is each sector after the rows of a data object with this payload are settled
abbrev pub SettlesPlaces : Type 0
SettlesPlaces =
    (volume sectors number k : ℕ) (rows : List DataRow) (payload : List ℕ) (before : Option ObjectPlace)
    → IsTrue (data_rows_may_stand volume sectors None 0 rows)
    → IsPlacedBy number payload (change_in rows payload k) before (settled_by number rows before k)

-- Where the rows of a data object do to each sector what some entries do, one that these put is after the settling where the
-- entries have it in the payload.
abbrev pub PlacesAreRanks : Type 0
PlacesAreRanks =
    (volume sectors number k : ℕ) (entries : List Entry) (rows : List DataRow) (payload : List ℕ) (before : Option ObjectPlace)
    → IsTrue (data_rows_may_stand volume sectors None 0 rows)
    → ((i : ℕ) → change_in rows payload i ≡ change_at entries i)
    → IsTrue (is_put (change_at entries k))
    → settled_by number rows before k ≡ Some (record { level = 0; number = number; sector = place_in_payload entries k })

-- Where rows do to each sector what some entries do, the log's map keeps after them just what the entries after these left.
abbrev pub LogKeepsLaterEntries : Type 0
LogKeepsLaterEntries =
    (data_at : ℕ → ℕ) (first k : ℕ) (entries later : List Entry) (rows : List DataRow) (payload : List ℕ)
    → change_in rows payload k ≡ change_at entries k
    → logged_by (first + length entries) rows (left_at data_at first (entries ++ later) k) k
    ≡ left_at data_at (first + length entries) later k

-- ---- a copy

-- the owner of a sector after the rows of a copy are settled is that after the copy's replay
abbrev pub SettlesCopyAsReplay : Type 0
SettlesCopyAsReplay =
    (volume sectors number k : ℕ) (rows : List CopyRow) (before : Option ObjectPlace)
    → IsTrue (copy_rows_may_stand volume sectors number None 0 rows)
    → place_owner (settled_by_copy number rows before k) ≡ owner_by_copy number (source_at rows k) (place_owner before)

-- a sector's place is still in the source that a copy has the sector from; false where the copy does not have it
abbrev pub is_in_source : (source : Option ℕ) → Option ObjectPlace → Bool
is_in_source None place = false
is_in_source (Some source) place = is_live source place

-- A sector's place before and after the copy of this number, which has the sector from this source and as these data, or does not
-- have it: it was still in the source, and is where the copy's payload has the data; or it was not, and is as it was.
abbrev pub IsCopiedBy : (number : ℕ) (payload : List ℕ) → (source : Option ℕ) → (copied : Option (List ℕ))
    → (before after : Option ObjectPlace) → Type 0
IsCopiedBy number payload source copied before after =
    (IsTrue (is_in_source source before) × (at : ℕ)
    × (after ≡ Some (record { level = 0; number = number; sector = at })) × (copied ≡ Some (sector_of at payload)))
    ⊎ ((is_in_source source before ≡ false) × (after ≡ before))

-- so is each sector after the rows of a copy with this payload are settled
abbrev pub SettlesCopyPlaces : Type 0
SettlesCopyPlaces =
    (volume sectors number k : ℕ) (rows : List CopyRow) (payload : List ℕ) (before : Option ObjectPlace)
    → IsTrue (copy_rows_may_stand volume sectors number None 0 rows)
    → IsCopiedBy number payload (source_at rows k) (copied_in rows payload k) before (settled_by_copy number rows before k)
