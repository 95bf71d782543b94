-- Contract: when the objects of a volume have an image: each sector is where the objects' map has it.
use Rattle.std.specs.Prelude.{◌≡◌, ℕ, ◌+◌, ◌*◌, ◌≤◌, Bool, IsTrue, Option, Some, None, IfSome, List, length, drop}
use Rattle.std.specs.List.{AllByRecursion, slice_get}
use Rattle.lsvd_base.specs.Image.{Image, zero_sector}
use Rattle.lsvd_objstore.specs.Store.{ReceiptState}
use Rattle.object_format.specs.declared.copy_row.CopyRow.{CopyRow}
use Rattle.object_stream.specs.Changes.{sector_of}
use Rattle.object_stream.specs.Replay.{source_at}
use Rattle.object_stream.specs.Value.{copied_in}
use Rattle.volume_maps.specs.declared.place.ObjectPlace.{ObjectPlace}
use Rattle.volume_maps.specs.Maps.{MapsState, settled_at}
use Rattle.volume_maps.specs.Live.{is_live}
use Rattle.object_uploads.specs.declared.rows.SealedRows.{SealedRows}
use Rattle.object_uploads.specs.declared.rows.SealedRows.TheVariants as sealed_rows
use Rattle.object_uploads.specs.State.{SealedState, StoredObject, QueueState}
use Rattle.object_uploads.specs.Queue.{copy_front_of, stored_at}
use Rattle.object_uploads.specs.Receipts.{AllTell, AllInheritedTell, AllSealedTell}

-- an object is in the store, a sector of its payload lies inside it, and where its receipt tells its bytes, they have this there
abbrev pub GivesSector : Option StoredObject → (at : ℕ) → (sector : List ℕ) → Type 0
GivesSector None at sector = ⊥
GivesSector (Some object) at sector =
    (512 * (object.front + at + 1) ≤ object.receipt.size)
    × IfSome object.receipt.told (λ bytes. sector_of (object.front + at) bytes ≡ sector)

-- A sector is held at a place: it is zeros where there is none, and else what the store gave for the place's object gives it
-- there.
abbrev pub HoldsSector : QueueState → Option ObjectPlace → (sector : List ℕ) → Type 0
HoldsSector queue None sector = sector ≡ zero_sector
HoldsSector queue (Some place) sector = GivesSector (stored_at queue place) place.sector sector

-- each sector of an image is held where the objects' map has it
abbrev pub HasImage : Image → QueueState → Type 0
HasImage image queue = (k : ℕ) (sector : List ℕ) → slice_get image k ≡ Some sector
    → HoldsSector queue (settled_at queue.maps k) sector

-- a receipt for these bytes: it says how many they are, and tells no others
pub record IsReceiptFor (bytes : List ℕ) (receipt : ReceiptState) : Type 0 where
  pub size : receipt.size ≡ length bytes
  pub told : IfSome receipt.told (λ told. told ≡ bytes)

-- each receipt of an object past the frontier is for the object's own bytes
abbrev pub HasOwnReceipts : QueueState → Type 0
HasOwnReceipts queue = AllByRecursion (λ (sealed : SealedState). IfSome sealed.receipt (IsReceiptFor sealed.bytes)) queue.sealed

-- ---- copies

-- each receipt that is known tells its bytes, also each of an ancestor's object and of one past the frontier, or none of them
-- does
pub record TellAlike (tells : Bool) (queue : QueueState) : Type 0 where
  pub known : AllTell tells queue.receipts
  pub inherited : AllInheritedTell tells queue.inherited
  pub sealed : AllSealedTell tells queue.sealed

-- A copy's bytes have, of each of its sectors that the objects' map still has in its source, what an image has there.
abbrev pub HasLiveSectors : Image → MapsState → (bytes : List ℕ) → List CopyRow → Type 0
HasLiveSectors image maps bytes rows =
    (k source : ℕ) (sector : List ℕ) → source_at rows k ≡ Some source → IsTrue (is_live source (settled_at maps k))
    → slice_get image k ≡ Some sector → copied_in rows (drop (512 * copy_front_of rows) bytes) k ≡ Some sector

-- A copy has its sectors from objects up to the frontier, and where receipts tell bytes, its own have those of the image.
pub record IsCopied (tells : Bool) (image : Image) (frontier : ℕ) (maps : MapsState) (bytes : List ℕ) (rows : List CopyRow) :
    Type 0 where
  pub sources : (k source : ℕ) → source_at rows k ≡ Some source → source ≤ frontier
  pub sectors : IsTrue tells → HasLiveSectors image maps bytes rows

abbrev pub IsCopiedIfCopy : (tells : Bool) → Image → (frontier : ℕ) → MapsState → (bytes : List ℕ) → SealedRows → Type 0
IsCopiedIfCopy tells image frontier maps bytes (sealed_rows.Data list) = Unit {0}
IsCopiedIfCopy tells image frontier maps bytes (sealed_rows.Copy list) = IsCopied tells image frontier maps bytes list.items
IsCopiedIfCopy tells image frontier maps bytes sealed_rows.Checkpoint = Unit {0}

-- so has each copy past the frontier
abbrev pub AreCopied : (tells : Bool) → Image → QueueState → Type 0
AreCopied tells image queue =
    AllByRecursion (λ (s : SealedState). IsCopiedIfCopy tells image queue.frontier queue.maps s.bytes s.rows) queue.sealed
