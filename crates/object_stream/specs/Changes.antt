-- Contract: what entries do to a sector of the volume, and what the rows of an object do to it.
use Rattle.std.specs.Prelude.{ℕ, ◌+◌, ◌-◌, ◌*◌, ◌/◌, Bool, true, false, Option, Some, None, List, [], ◌∷◌, length, take, drop}
use Rattle.std.specs.Prelude.{if◌then◌else◌}
use Rattle.std.specs.List.{count_by, range_with_len}
use Rattle.std.specs.Option.{option_or}
use Rattle.lsvd_base.specs.declared.entry.Entry.{Entry}
use Rattle.lsvd_base.specs.declared.entry.Entry.TheVariants.{Write, Zero}
use Rattle.extent_map.specs.Extents.{is_within}
use Rattle.object_format.specs.declared.data_row.DataRow.{DataRow}
use Rattle.object_stream.specs.declared.change.Change.{Change}
use Rattle.object_stream.specs.declared.change.Change.TheVariants.{Put, Clear}

-- the i-th sector of some bytes
abbrev pub sector_of : ℕ → List ℕ → List ℕ
sector_of i bytes = take 512 (drop (512 * i) bytes)

-- ---- by entries

-- what an entry does to a sector: a write puts its part of the data, and a zeroing clears; none where it does not cover it
abbrev pub entry_change : Entry → ℕ → Option Change
entry_change (Write lba body) k = if is_within lba (length body / 512) k then Some (Put (sector_of (k - lba) body)) else None
entry_change (Zero lba sectors) k = if is_within lba sectors k then Some Clear else None

-- what entries do to a sector: what the last of them does that covers it
abbrev pub change_at : List Entry → ℕ → Option Change
change_at [] k = None
change_at (entry ∷ entries) k = option_or (change_at entries k) (entry_change entry k)

-- a change puts a sector
abbrev pub is_put : Option Change → Bool
is_put None = false
is_put (Some (Put sector)) = true
is_put (Some Clear) = false

-- where the data object of some entries has a sector that these put, in its payload: after those below it that they put
abbrev pub place_in_payload : List Entry → (k : ℕ) → ℕ
place_in_payload entries k = count_by (λ i. is_put (change_at entries i)) (range_with_len 0 k)

-- ---- by the rows of a data object

-- what the i-th sector of a row does: it is put where the row has a place in the payload, and else cleared
abbrev pub change_from : Option ℕ → (payload : List ℕ) → ℕ → Change
change_from None payload i = Clear
change_from (Some place) payload i = Put (sector_of (place + i) payload)

-- what rows with this payload do to a sector: none where no row covers it
abbrev pub change_in : List DataRow → (payload : List ℕ) → ℕ → Option Change
change_in [] payload k = None
change_in (row ∷ rows) payload k =
    if is_within row.lba row.sectors k then Some (change_from row.place payload (k - row.lba)) else change_in rows payload k
