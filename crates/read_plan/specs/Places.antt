-- Contract: which sectors of a volume can be read, and what a plan has for each.
use Rattle.std.specs.Prelude.{◌≡◌, ℕ, ◌+◌, ◌-◌, ◌*◌, ◌<◌, ◌≤◌, ◌⊎◌, Option, Some, None, IfSome, List, [], ◌∷◌}
use Rattle.std.specs.List.{AllByRecursion, slice_get}
use Rattle.lsvd_base.specs.declared.entry.Entry.{Entry}
use Rattle.lsvd_base.specs.Image.{zero_sector}
use Rattle.log_record.specs.Grammar.{data_of}
use Rattle.cache_log.specs.declared.row.Row.{Row}
use Rattle.cache_log.specs.Rows.{seq_of, position_of, record_size}
use Rattle.cache_log.specs.Log.{LogState}
use Rattle.object_stream.specs.Changes.{sector_of}
use Rattle.volume_maps.specs.declared.place.ObjectPlace.{ObjectPlace}
use Rattle.volume_maps.specs.declared.place.LogPlace.TheVariants.{Data, Zeros}
use Rattle.volume_maps.specs.declared.place.VolumePlace.{VolumePlace}
use Rattle.volume_maps.specs.declared.place.VolumePlace.TheVariants.{Log, Object}
use Rattle.volume_maps.specs.Maps.{MapsState, logged_at, volume_place_at}
use Rattle.object_uploads.specs.State.{StoredObject, QueueState}
use Rattle.object_uploads.specs.Queue.{stored_at}
use Rattle.read_plan.specs.Plan.{PieceState, PlanState}

-- ---- which can be read

-- a sector of the log has data of the entry with this seq
pub record IsDataSector (log : LogState) (seq sector : ℕ) : Type 0 where
  pub row : Row
  pub stands : slice_get log.rows (seq - log.first) ≡ Some row
  pub has_seq : seq_of row ≡ seq
  pub from : position_of row + 1 ≤ sector
  pub to : sector < position_of row + record_size row

-- the log has the data of each sector of a range that its map places there
abbrev pub LogHasPlaces : (lba sectors : ℕ) → MapsState → LogState → Type 0
LogHasPlaces lba sectors maps log =
    (k seq sector : ℕ) → lba ≤ k → k < lba + sectors → logged_at maps k ≡ Some (Data seq sector) → IsDataSector log seq sector

-- an object is in the store, and its payload has this sector
abbrev pub HasObjectSector : Option StoredObject → (sector : ℕ) → Type 0
HasObjectSector None sector = ⊥
HasObjectSector (Some object) sector = 512 * (object.front + sector + 1) ≤ object.receipt.size

-- the objects have each sector of a range that the objects' map alone places
abbrev pub ObjectsHavePlaces : (lba sectors : ℕ) → QueueState → Type 0
ObjectsHavePlaces lba sectors queue =
    (k : ℕ) (place : ObjectPlace) → lba ≤ k → k < lba + sectors → volume_place_at queue.maps k ≡ Some (Object place)
    → HasObjectSector (stored_at queue place) place.sector

-- ---- what a plan has for a sector

-- these are the data of the entry with this seq that stand at a sector of the log, where the disk tells what it holds
abbrev pub IsLogSector : LogState → (seq sector : ℕ) → (bytes : List ℕ) → Type 0
IsLogSector log seq sector bytes =
    IfSome log.entries (λ list. (row : Row) (entry : Entry)
    → slice_get log.rows (seq - log.first) ≡ Some row → slice_get list (seq - log.first) ≡ Some entry
    → bytes ≡ sector_of (sector - (position_of row + 1)) (data_of entry))

-- the bytes of a sector before objects are read: its data where the log has them, and else zeros
abbrev pub IsLogged : LogState → Option VolumePlace → (bytes : List ℕ) → Type 0
IsLogged log None bytes = bytes ≡ zero_sector
IsLogged log (Some (Log (Data seq sector))) bytes = IsLogSector log seq sector bytes
IsLogged log (Some (Log (Zeros seq))) bytes = bytes ≡ zero_sector
IsLogged log (Some (Object place)) bytes = bytes ≡ zero_sector

-- a piece has no byte of the i-th sector of a read
abbrev pub Misses : (i : ℕ) → PieceState → Type 0
Misses i piece = (piece.at + piece.count ≤ 512 * i) ⊎ (512 * (i + 1) ≤ piece.at)

-- a piece has the whole i-th sector of a read, as that of an object at a place
pub record Fetches (queue : QueueState) (place : ObjectPlace) (i : ℕ) (piece : PieceState) : Type 0 where
  pub from : piece.at ≤ 512 * i
  pub to : 512 * (i + 1) ≤ piece.at + piece.count
  pub object : StoredObject
  pub stored : stored_at queue place ≡ Some object
  pub receipt : piece.receipt ≡ object.receipt
  pub byte : piece.from + (512 * i - piece.at) ≡ 512 * (object.front + place.sector)

-- one of some pieces does, and no other has a byte of it
abbrev pub OneFetches : QueueState → ObjectPlace → (i : ℕ) → List PieceState → Type 0
OneFetches queue place i [] = ⊥
OneFetches queue place i (piece ∷ pieces) =
    (Fetches queue place i piece × AllByRecursion (Misses i) pieces) ⊎ (Misses i piece × OneFetches queue place i pieces)

-- the pieces that have a sector: one where an object has it, and else none
abbrev pub FetchPlace : QueueState → Option VolumePlace → (i : ℕ) → List PieceState → Type 0
FetchPlace queue None i pieces = AllByRecursion (Misses i) pieces
FetchPlace queue (Some (Log place)) i pieces = AllByRecursion (Misses i) pieces
FetchPlace queue (Some (Object place)) i pieces = OneFetches queue place i pieces

-- what a plan has for the i-th sector of its read, which is at this place
pub record HoldsPlace (log : LogState) (queue : QueueState) (place : Option VolumePlace) (i : ℕ) (plan : PlanState) : Type 0 where
  pub logged : IsLogged log place (sector_of i plan.bytes)
  pub fetched : FetchPlace queue place i plan.pieces
