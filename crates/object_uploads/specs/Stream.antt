-- Contract: when the objects on their way to the store are those of a stream, and what a recovery finds of them.
use Rattle.std.specs.Prelude.{◌≡◌, ℕ, ◌+◌, ◌-◌, ◌<◌, ◌≤◌, Option, IfSome, List, [], ◌∷◌, take, drop}
use Rattle.std.specs.List.{slice_get}
use Rattle.lsvd_base.specs.declared.entry.Entry.{Entry}
use Rattle.object_format.specs.declared.header.Header.{Header}
use Rattle.object_format.specs.declared.expected.Expected.{Expected}
use Rattle.object_format.specs.declared.copy_row.CopyRow.{CopyRow}
use Rattle.object_format.specs.declared.data_row.DataRow.{DataRow}
use Rattle.object_format.specs.declared.rows.Rows.{Rows}
use Rattle.object_format.specs.declared.rows.Rows.TheVariants as rows
use Rattle.object_stream.specs.declared.object.CopiedSector.{CopiedSector}
use Rattle.object_stream.specs.declared.object.Content.{Content}
use Rattle.object_stream.specs.declared.object.Content.TheVariants.{Data, Copy, Checkpoint}
use Rattle.object_stream.specs.declared.object.StreamObject.{StreamObject}
use Rattle.object_stream.specs.Changes.{change_at, change_in}
use Rattle.object_stream.specs.Stream.{Stream, Owners, owners, after_object, end_at, last_number, IsStream, entries_in_object}
use Rattle.object_stream.specs.Stream.{source_in, place_in_object}
use Rattle.object_stream.specs.Replay.{HasParts, expected_at, source_at}
use Rattle.object_stream.specs.Laws.{from_object}
use Rattle.volume_maps.specs.declared.place.ObjectPlace.{ObjectPlace}
use Rattle.volume_maps.specs.Places.{left_at}
use Rattle.volume_maps.specs.Maps.{settled_at, logged_at}
use Rattle.volume_maps.specs.Laws.{place_owner}
use Rattle.object_uploads.specs.declared.rows.SealedRows.{SealedRows}
use Rattle.object_uploads.specs.declared.rows.SealedRows.TheVariants as sealed_rows
use Rattle.object_uploads.specs.State.{SealedState, UploadsState}
use Rattle.object_uploads.specs.Checkpoint.{HoldsPlaces}

-- ---- a sealed object

-- the rows of a data object are these
abbrev pub AreRows : Rows → List DataRow → Type 0
AreRows (rows.Data list) items = list.items ≡ items
AreRows (rows.Copy list) items = ⊥
AreRows rows.Checkpoint items = ⊥

-- bytes are the data object of these entries, of the grammar under the expected number: its rows do to each sector what the
-- entries do
pub record HoldsEntries (expected : Expected) (entries : List Entry) (end : ℕ) (bytes : List ℕ) (list : List DataRow) :
    Type 0 where
  pub header : Header
  pub rows_of : Rows
  pub payload : List ℕ
  pub parts : HasParts expected bytes header rows_of payload
  pub rows_are : AreRows rows_of list
  pub ends : header.end_seq ≡ end
  pub changes : (k : ℕ) → change_in list payload k ≡ change_at entries k

-- the rows of a copy are these
abbrev pub AreCopyRows : Rows → List CopyRow → Type 0
AreCopyRows (rows.Data list) items = ⊥
AreCopyRows (rows.Copy list) items = list.items ≡ items
AreCopyRows rows.Checkpoint items = ⊥

-- bytes are the copy of these sectors, of the grammar under the expected number: its rows have each of them from its source
pub record HoldsCopy (expected : Expected) (pairs : List CopiedSector) (end : ℕ) (bytes : List ℕ) (list : List CopyRow) :
    Type 0 where
  pub header : Header
  pub rows_of : Rows
  pub payload : List ℕ
  pub parts : HasParts expected bytes header rows_of payload
  pub rows_are : AreCopyRows rows_of list
  pub ends : header.end_seq ≡ end
  pub sources : (k : ℕ) → source_at list k ≡ source_in pairs k

-- the object of a number, of those that come after the one that the stream opens with
abbrev pub object_at : Stream → (number : ℕ) → Option StreamObject
object_at stream number = slice_get stream.objects (number - (stream.number + 1))

-- A place of the volume's own is where an object of the stream has a sector in its payload. Of the volume's own objects that the
-- stream opens with nothing is said.
abbrev pub IsPlacedOwn : Stream → (k : ℕ) → ObjectPlace → Type 0
IsPlacedOwn stream k place =
    place.level ≡ 0 → stream.number < place.number
    → IfSome (object_at stream place.number)
    (λ object. place.sector ≡ place_in_object object.content (entries_in_object stream place.number) k)

-- A place in an object of an ancestor is the one that a stream opens with, since no object of the volume's own makes another of
-- these.
abbrev pub IsPlacedInherited : (inherited : ℕ → ℕ) → (k : ℕ) → ObjectPlace → Type 0
IsPlacedInherited inherited k place = 1 ≤ place.level → place.sector ≡ inherited k

-- a place is where a stream has a sector, in an object of the volume's own or of an ancestor
abbrev pub IsPlacedIn : Stream → (k : ℕ) → ObjectPlace → Type 0
IsPlacedIn stream k place = IsPlacedOwn stream k place × IsPlacedInherited stream.inherited k place

-- they are a checkpoint under the expected number, of these owners: each place is where its object has the sector
pub record HoldsOwners (stream : Stream) (expected : Expected) (owned : Owners) (end : ℕ) (bytes : List ℕ) : Type 0 where
  pub places : ℕ → Option ObjectPlace
  pub holds : HoldsPlaces bytes expected end places
  pub owners_are : (k : ℕ) → place_owner (places k) ≡ owned k
  pub placed : (k : ℕ) → IfSome (places k) (IsPlacedIn stream k)

-- Bytes and rows are those of an object of a stream with this content: of a data object of these entries, of a copy of its
-- sectors, or of a checkpoint of the owners before it.
abbrev pub HoldsContent : Stream → Expected → Content → List Entry → Owners → (end : ℕ) → (bytes : List ℕ) → SealedRows → Type 0
HoldsContent stream expected Data entries before end bytes (sealed_rows.Data list) =
    HoldsEntries expected entries end bytes list.items
HoldsContent stream expected (Copy pairs) entries before end bytes (sealed_rows.Copy list) =
    HoldsCopy expected pairs end bytes list.items
HoldsContent stream expected Checkpoint entries before end bytes sealed_rows.Checkpoint =
    HoldsOwners stream expected before end bytes
HoldsContent stream expected content entries before end bytes rows = ⊥

-- a sealed object is this object of the stream, under the expected number, after these owners
pub record IsSealedOf (stream : Stream) (expected : Expected) (entries : List Entry) (before : Owners) (object : StreamObject)
    (sealed : SealedState) : Type 0 where
  pub end : sealed.end ≡ object.end
  pub holds : HoldsContent stream expected object.content entries before object.end sealed.bytes sealed.rows

-- so are objects after one of this number and this end, of the entries from that end on
abbrev pub AreSealedOf : Stream → Expected → (number end : ℕ) → List Entry → Owners → List StreamObject → List SealedState
    → Type 0
AreSealedOf stream volume number end entries before [] [] = Unit {0}
AreSealedOf stream volume number end entries before [] (sealed ∷ more) = ⊥
AreSealedOf stream volume number end entries before (object ∷ objects) [] = ⊥
AreSealedOf stream volume number end entries before (object ∷ objects) (sealed ∷ more) =
    IsSealedOf stream (expected_at volume (number + 1) end) (take (object.end - end) entries) before object sealed
    × AreSealedOf stream volume (number + 1) object.end (drop (object.end - end) entries)
    (after_object (number + 1) object.content (take (object.end - end) entries) before) objects more

-- ---- the whole

-- The objects of a volume are those of a stream: up to the frontier the objects' map has the stream's owners, each at the place
-- where its object has the sector, past it the sealed objects are the stream's, and the log's map has what the entries past the
-- frontier's end left, each with its data where it is told.
pub record AreOfStream (volume : Expected) (data_at : ℕ → ℕ) (stream : Stream) (uploads : UploadsState) : Type 0 where
  pub valid : IsStream stream
  pub from : stream.number ≤ uploads.queue.frontier
  pub last : last_number stream ≡ uploads.window.last
  pub end : uploads.queue.end ≡ end_at stream uploads.queue.frontier
  pub settled : (k : ℕ) → place_owner (settled_at uploads.queue.maps k) ≡ owners stream uploads.queue.frontier k
  pub placed : (k : ℕ) → IfSome (settled_at uploads.queue.maps k) (IsPlacedIn stream k)
  pub sealed :
      AreSealedOf stream volume uploads.queue.frontier uploads.queue.end (from_object uploads.queue.frontier stream).entries
      (owners stream uploads.queue.frontier) (from_object uploads.queue.frontier stream).objects uploads.queue.sealed
  pub logged : (k : ℕ) → logged_at uploads.queue.maps k ≡ left_at data_at uploads.queue.end
      (from_object uploads.queue.frontier stream).entries k
