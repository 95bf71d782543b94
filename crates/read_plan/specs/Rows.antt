-- For this crate's own clauses: what the rows of a look are read as, one after the other.
use Rattle.std.specs.Prelude.{◌≡◌, ℕ, ◌+◌, ◌-◌, ◌*◌, ◌≤◌, ◌^◌, ◌==◌, Option, Some, None, List, [], ◌∷◌, ◌++◌, length}
use Rattle.std.specs.Prelude.{if◌then◌else◌}
use Rattle.std.specs.List.{filter_map}
use Rattle.lsvd_bytes.specs.Places.{with_bytes}
use Rattle.extent_map.specs.declared.extent.Extent.{Extent}
use Rattle.cache_log.specs.declared.row.Row.{Row}
use Rattle.cache_log.specs.Log.{LogState, AreData, IsReadFrom}
use Rattle.volume_maps.specs.declared.place.LogPlace.TheVariants.{Data, Zeros}
use Rattle.volume_maps.specs.declared.place.ObjectPlace.{ObjectPlace}
use Rattle.volume_maps.specs.declared.place.VolumePlace.{VolumePlace}
use Rattle.volume_maps.specs.declared.place.VolumePlace.TheVariants.{Log, Object}
use Rattle.object_uploads.specs.State.{StoredObject, QueueState}
use Rattle.object_uploads.specs.Queue.{stored_at}
use Rattle.read_plan.specs.Plan.{PieceState}
use Rattle.read_plan.specs.Places.{HasObjectSector}

-- a row lies inside a range
pub record IsInRange (lba sectors : ℕ) (row : Extent VolumePlace) : Type 0 where
  pub from : lba ≤ row.lba
  pub to : row.lba + row.sectors ≤ lba + sectors

-- ---- by the log

-- where a place is one of data in the log, so many bytes from there on are data of one of its records
abbrev pub AreDataAt : List Row → VolumePlace → (count : ℕ) → Type 0
AreDataAt rows (Log (Data seq sector)) count = AreData rows sector count
AreDataAt rows (Log (Zeros seq)) count = Unit {0}
AreDataAt rows (Object place) count = Unit {0}

-- a row of a range from `lba` on can be read from a log, into bytes of the range
pub record IsReadable (lba sectors : ℕ) (log : LogState) (row : Extent VolumePlace) : Type 0 where
  pub inside : IsInRange lba sectors row
  pub are_data : AreDataAt log.rows row.place (512 * row.sectors)

-- the log's data from a place on were read into so many bytes at this one; nothing was where that is none of data in the log
abbrev pub IsReadInto : LogState → (at count : ℕ) → VolumePlace → (old new : List ℕ) → Type 0
IsReadInto log at count (Log (Data seq sector)) old new =
    (part : List ℕ) × (length part ≡ count) × IsReadFrom log sector part × (new ≡ with_bytes at part old)
IsReadInto log at count (Log (Zeros seq)) old new = new ≡ old
IsReadInto log at count (Object place) old new = new ≡ old

-- those of a row were, in a read from `lba` on
abbrev pub IsRowRead : LogState → (lba : ℕ) → Extent VolumePlace → (old new : List ℕ) → Type 0
IsRowRead log lba row old new = IsReadInto log (512 * (row.lba - lba)) (512 * row.sectors) row.place old new

-- those of rows were, one after the other
abbrev pub AreRowsRead : LogState → (lba : ℕ) → List (Extent VolumePlace) → (old new : List ℕ) → Type 0
AreRowsRead log lba [] old new = new ≡ old
AreRowsRead log lba (row ∷ rows) old new = (middle : List ℕ) × IsRowRead log lba row old middle
    × AreRowsRead log lba rows middle new

-- ---- by objects

-- where a place is in an object, that is in the store, and has the place's sector
abbrev pub HasSectorAt : QueueState → VolumePlace → Type 0
HasSectorAt queue (Log place) = Unit {0}
HasSectorAt queue (Object place) = HasObjectSector (stored_at queue place) place.sector

-- a row of a read from `lba` on can be fetched: it ends below 2^31, and where an object has it, that is in the store, and has its
-- first sector
pub record IsFetchable (lba : ℕ) (queue : QueueState) (row : Extent VolumePlace) : Type 0 where
  pub from : lba ≤ row.lba
  pub to : row.lba + row.sectors ≤ 2 ^ 31
  pub stored : HasSectorAt queue row.place

-- the piece of an object that begins at a sector of its payload, where it is in the store
abbrev pub piece_by : Option StoredObject → (at count sector : ℕ) → List PieceState
piece_by None at count sector = []
piece_by (Some object) at count sector =
    record { at = at; count = count; receipt = object.receipt; from = 512 * (object.front + sector) } ∷ []

-- the piece from a place on, where an object has it
abbrev pub piece_from : QueueState → (at count : ℕ) → VolumePlace → List PieceState
piece_from queue at count (Log place) = []
piece_from queue at count (Object place) = piece_by (stored_at queue place) at count place.sector

-- the piece of a row, in a read from `lba` on, and the pieces of rows
abbrev pub row_piece : QueueState → (lba : ℕ) → Extent VolumePlace → List PieceState
row_piece queue lba row = piece_from queue (512 * (row.lba - lba)) (512 * row.sectors) row.place

abbrev pub row_pieces : QueueState → (lba : ℕ) → List (Extent VolumePlace) → List PieceState
row_pieces queue lba [] = []
row_pieces queue lba (row ∷ rows) = row_piece queue lba row ++ row_pieces queue lba rows

-- the number of the volume's own object that a place is in, if it is in one
abbrev pub own_number : ObjectPlace → Option ℕ
own_number place = if place.level == 0 then Some place.number else None

-- the numbers of the volume's own objects that have rows, in the order of these
abbrev pub named_object : VolumePlace → Option ℕ
named_object (Log place) = None
named_object (Object place) = own_number place

abbrev pub named_objects : List (Extent VolumePlace) → List ℕ
named_objects rows = filter_map (λ row. named_object row.place) rows
