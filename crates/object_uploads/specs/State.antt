-- Contract: what is seen of the objects of a volume on their way to the store.
use Rattle.std.specs.Prelude.{ℕ, Bool, Option, List}
use Rattle.lsvd_names.specs.declared.name.ObjName.{ObjName}
use Rattle.lsvd_objstore.specs.Store.{ReceiptState}
use Rattle.upload_window.specs.Window.{WindowState}
use Rattle.volume_maps.specs.Maps.{MapsState}
use Rattle.object_uploads.specs.declared.rows.SealedRows.{SealedRows}

-- a put that is to be made
pub record JobState : Type 0 where
  pub name : ObjName
  pub bytes : List ℕ

-- an object past the frontier
pub record SealedState : Type 0 where
  pub bytes : List ℕ
  pub rows : SealedRows
  -- how many entries of the history are in it and in the objects before it
  pub end : ℕ
  -- whether it has its bytes a second time, for the next put
  pub has_spare : Bool
  -- what the store gave for it, once it is acknowledged
  pub receipt : Option ReceiptState

-- what the store gave for the object of a number
pub record NumberedReceipt : Type 0 where
  pub number : ℕ
  pub receipt : ReceiptState

-- an object that is in the store: what this gave for it, and how many sectors it has before its payload
pub record StoredObject : Type 0 where
  pub receipt : ReceiptState
  pub front : ℕ

-- an object of an ancestor that the map names, as a mount found it: what the store gave for it, and how many sectors it has
-- before its payload
pub record InheritedObject : Type 0 where
  pub level : ℕ
  pub number : ℕ
  pub receipt : ReceiptState
  pub front : ℕ

-- the objects of a volume in the order of their numbers
pub record QueueState : Type 0 where
  -- the frontier, and that object's end
  pub frontier : ℕ
  pub end : ℕ
  -- the objects past the frontier, each numbered one more than the one before it
  pub sealed : List SealedState
  -- what the store gave for objects up to the frontier, by ascending number, but for one whose removal is out
  pub receipts : List NumberedReceipt
  -- the object whose removal is out
  pub removal : Option ℕ
  -- what a mount found of ancestors' objects, by level and then by number; it stays
  pub inherited : List InheritedObject
  -- which object up to the frontier has each sector, where the log has those that later entries changed, and the objects up to
  -- the frontier
  pub maps : MapsState
  -- for how many more sealed objects, and for as many receipts and objects of the table, there is room
  pub places : ℕ

-- the objects of a volume of so many sectors, and which of them are on their way to the store
pub record UploadsState : Type 0 where
  pub uuid : List ℕ
  pub sectors : ℕ
  -- how many ancestors the volume has, 0 to 15
  pub ancestors : ℕ
  pub queue : QueueState
  pub window : WindowState
