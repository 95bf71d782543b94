-- Contract: how the objects of a volume are taken up that a mount finds in the store up to a checkpoint, with its rows.
use Rattle.std.specs.Prelude.{◌≡◌, ℕ, [], ◌∷◌, ◌++◌}
use Rattle.extent_map.specs.declared.extent.Extent.{Extent}
use Rattle.extent_map.specs.Extents.{place_after_set}
use Rattle.lsvd_objstore.specs.Store.{ReceiptState}
use Rattle.object_table.specs.Table.{new_row, acknowledged}
use Rattle.volume_maps.specs.declared.place.ObjectPlace.{ObjectPlace}
use Rattle.volume_maps.specs.Places.{object_on}
use Rattle.volume_maps.specs.Maps.{settled_at}
use Rattle.volume_maps.specs.Live.{HasSameObjects}
use Rattle.object_uploads.specs.State.{InheritedObject, UploadsState}

-- nothing but the receipts, the objects' map and the table changed, and room
pub record IsSameButFound (old new : UploadsState) : Type 0 where
  pub uuid : new.uuid ≡ old.uuid
  pub sectors : new.sectors ≡ old.sectors
  pub ancestors : new.ancestors ≡ old.ancestors
  pub window : new.window ≡ old.window
  pub frontier : new.queue.frontier ≡ old.queue.frontier
  pub end : new.queue.end ≡ old.queue.end
  pub sealed : new.queue.sealed ≡ old.queue.sealed
  pub removal : new.queue.removal ≡ old.queue.removal
  pub inherited : new.queue.inherited ≡ old.queue.inherited
  pub log : new.queue.maps.log.rows ≡ old.queue.maps.log.rows

-- an object was found in the store, with so many sectors of payload and so many before it
pub record HasFound (number payload front : ℕ) (receipt : ReceiptState) (old new : UploadsState) : Type 0 where
  pub rest : IsSameButFound old new
  pub receipts : new.queue.receipts ≡ old.queue.receipts ++ record { number = number; receipt = receipt } ∷ []
  pub settled : new.queue.maps.settled.rows ≡ old.queue.maps.settled.rows
  pub rows : new.queue.maps.objects.rows ≡ old.queue.maps.objects.rows ++ new_row number payload front ∷ []
  pub checkpoint : new.queue.maps.objects.checkpoint ≡ old.queue.maps.objects.checkpoint

-- a row of the checkpoint was entered into the objects' map
pub record HasMapped (row : Extent ObjectPlace) (old new : UploadsState) : Type 0 where
  pub rest : IsSameButFound old new
  pub receipts : new.queue.receipts ≡ old.queue.receipts
  pub settled : (k : ℕ) → settled_at new.queue.maps k
      ≡ place_after_set object_on row.lba row.sectors row.place (settled_at old.queue.maps) k
  pub objects : HasSameObjects old.queue.maps.objects new.queue.maps.objects

-- the checkpoint itself, which is the object at the frontier, was counted: the table's objects are passed by it
pub record HasBegun (receipt : ReceiptState) (old new : UploadsState) : Type 0 where
  pub rest : IsSameButFound old new
  pub receipts : new.queue.receipts ≡ old.queue.receipts ++ record { number = old.queue.frontier; receipt = receipt } ∷ []
  pub settled : new.queue.maps.settled.rows ≡ old.queue.maps.settled.rows
  pub rows : new.queue.maps.objects.rows ≡ (acknowledged old.queue.frontier old.queue.maps.objects).rows
  pub checkpoint : new.queue.maps.objects.checkpoint ≡ old.queue.frontier

-- the objects with one of an ancestor more, after those that were there
abbrev pub with_inherited : InheritedObject → UploadsState → UploadsState
with_inherited object uploads = record uploads {
  queue = record uploads.queue { inherited = uploads.queue.inherited ++ object ∷ [] };
}
