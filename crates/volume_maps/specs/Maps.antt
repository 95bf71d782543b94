-- Contract: what is seen of the maps of a volume and of its table of objects, and what changes them.
use Rattle.std.specs.Prelude.{ℕ, ◌+◌, ◌-◌, ◌^◌, ◌<◌, nat_lt, ◌&&◌, Option, Some, None, IfSome, List, [], ◌∷◌, if◌then◌else◌}
use Rattle.std.specs.List.{AllByRecursion}
use Rattle.extent_map.specs.Extents.{is_within, place_at}
use Rattle.extent_map.specs.State.{MapState}
use Rattle.object_format.specs.declared.copy_row.CopyRow.{CopyRow}
use Rattle.object_format.specs.declared.data_row.DataRow.{DataRow}
use Rattle.object_table.specs.Table.{TableState}
use Rattle.volume_maps.specs.declared.place.ObjectPlace.{ObjectPlace}
use Rattle.volume_maps.specs.declared.place.LogPlace.{LogPlace}
use Rattle.volume_maps.specs.declared.place.VolumePlace.{VolumePlace}
use Rattle.volume_maps.specs.Places.{object_on, log_on, place_seq, place_in}
use Rattle.volume_maps.specs.Live.{is_live}

-- the maps of a volume: which object has a sector that the objects up to the frontier put, and where the log has those that
-- entries past the frontier changed; and the table of the objects up to the frontier
pub record MapsState : Type 0 where
  pub settled : MapState ObjectPlace
  pub log : MapState LogPlace
  pub objects : TableState

-- a sector's place in the objects' map, in the log's map, and in both as one
abbrev pub settled_at : MapsState → ℕ → Option ObjectPlace
settled_at maps k = place_at object_on maps.settled.rows k

abbrev pub logged_at : MapsState → ℕ → Option LogPlace
logged_at maps k = place_at log_on maps.log.rows k

abbrev pub volume_place_at : MapsState → ℕ → Option VolumePlace
volume_place_at maps k = place_in (logged_at maps k) (settled_at maps k)

-- ---- a data object is settled

-- where the object of this number has the i-th sector of a row; none for zeros
abbrev pub row_object_place : (number : ℕ) → Option ℕ → ℕ → Option ObjectPlace
row_object_place number None i = None
row_object_place number (Some place) i = Some (record { level = 0; number = number; sector = place + i })

-- a sector's place in the objects' map after a row of that object
abbrev pub settled_by_row : (number : ℕ) → DataRow → Option ObjectPlace → ℕ → Option ObjectPlace
settled_by_row number row before k =
    if is_within row.lba row.sectors k then row_object_place number row.place (k - row.lba) else before

-- and after rows, one after the other
abbrev pub settled_by : (number : ℕ) → List DataRow → Option ObjectPlace → ℕ → Option ObjectPlace
settled_by number [] before k = before
settled_by number (row ∷ rows) before k = settled_by number rows (settled_by_row number row before k) k

-- a place in the log, unless the entry that left it is before a seq
abbrev pub from_seq : ℕ → Option LogPlace → Option LogPlace
from_seq seq None = None
from_seq seq (Some place) = if nat_lt (place_seq place) seq then None else Some place

-- a sector's place in the log's map after a row of an object whose entries are before a seq
abbrev pub logged_by_row : (end : ℕ) → DataRow → Option LogPlace → ℕ → Option LogPlace
logged_by_row end row before k = if is_within row.lba row.sectors k then from_seq end before else before

-- and after rows, one after the other
abbrev pub logged_by : (end : ℕ) → List DataRow → Option LogPlace → ℕ → Option LogPlace
logged_by end [] before k = before
logged_by end (row ∷ rows) before k = logged_by end rows (logged_by_row end row before k) k

-- a row's sectors end below 2^63, and those that it has in the payload below 2^32
pub record RowFits (row : DataRow) : Type 0 where
  pub sectors : row.lba + row.sectors < 2 ^ 63
  pub place : IfSome row.place (λ place. place + row.sectors < 2 ^ 32)

-- those of all rows do
abbrev pub RowsFit : List DataRow → Type 0
RowsFit rows = AllByRecursion RowFits rows

-- ---- a copy is settled

-- A sector's place in the objects' map after a row of the copy of this number: the copy has it where the map still has it in the
-- row's source, and any other is where it was.
abbrev pub settled_by_copy_row : (number : ℕ) → CopyRow → Option ObjectPlace → ℕ → Option ObjectPlace
settled_by_copy_row number row before k =
    if is_within row.lba row.sectors k && is_live row.source.number before
    then Some (record { level = 0; number = number; sector = row.place + (k - row.lba) }) else before

-- and after rows, one after the other
abbrev pub settled_by_copy : (number : ℕ) → List CopyRow → Option ObjectPlace → ℕ → Option ObjectPlace
settled_by_copy number [] before k = before
settled_by_copy number (row ∷ rows) before k = settled_by_copy number rows (settled_by_copy_row number row before k) k

-- the sectors of a row of a copy end below 2^63, and those that it has in the payload below 2^32
pub record CopyRowFits (row : CopyRow) : Type 0 where
  pub sectors : row.lba + row.sectors < 2 ^ 63
  pub place : row.place + row.sectors < 2 ^ 32

-- those of all rows do
abbrev pub CopyRowsFit : List CopyRow → Type 0
CopyRowsFit rows = AllByRecursion CopyRowFits rows
