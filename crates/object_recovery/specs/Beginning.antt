-- Contract: how a list begins with the newest checkpoint: with its rows, and the objects before it that the store has.
use Rattle.std.specs.Prelude.{◌≡◌, ℕ, ◌≤◌, Bool, true, false, Option, Some, None, IfSome, option_map, List, [], map, length}
use Rattle.std.specs.List.{AllZip}
use Rattle.clone_chain.specs.declared.ancestor.Ancestor.{Ancestor}
use Rattle.lsvd_base.specs.declared.geometry.Geometry.{Geometry}
use Rattle.lsvd_base.specs.Image.{Image}
use Rattle.lsvd_names.specs.declared.name.ObjName.{ObjName}
use Rattle.lsvd_objstore.specs.Objects.{Objects, Lists}
use Rattle.lsvd_objstore.specs.Store.{ReceiptState}
use Rattle.extent_map.specs.declared.extent.Extent.{Extent}
use Rattle.extent_map.specs.Extents.{place_at}
use Rattle.object_format.specs.declared.expected.Expected.{Expected}
use Rattle.object_format.specs.declared.header.Header.{Header}
use Rattle.object_format.specs.declared.kind.Kind.TheVariants as kinds
use Rattle.object_format.specs.Layout.{front_sectors, length_of}
use Rattle.object_format.specs.Header.{IsObjectHeader}
use Rattle.ckpt_format.specs.declared.place.StoredPlace.{StoredPlace}
use Rattle.ckpt_format.specs.Places.{stored_on}
use Rattle.ckpt_format.specs.Checkpoint.{IsCheckpoint}
use Rattle.object_stream.specs.Value.{IsValue}
use Rattle.stopped_volume.specs.Ancestors.{uuid_in_chain}
use Rattle.stopped_volume.specs.Expected.{expected_alone}
use Rattle.stopped_volume.specs.Opening.{owned_by, HoldPlaces}
use Rattle.object_table.specs.declared.row.ObjectRow.{ObjectRow}
use Rattle.object_table.specs.Table.{new_row}
use Rattle.volume_maps.specs.Maps.{settled_at}
use Rattle.volume_maps.specs.Live.{MayGain, HasSameObjects}
use Rattle.volume_maps.specs.Laws.{place_owner}
use Rattle.object_uploads.specs.State.{NumberedReceipt}
use Rattle.object_uploads.specs.Checkpoint.{mapped_place}
use Rattle.object_uploads.specs.Image.{HasImage, HasOwnReceipts}
use Rattle.object_uploads.specs.Order.{IsUploads}
use Rattle.object_uploads.specs.Opening.{IsSameButFound, HasFound}
use Rattle.obj_log.specs.State.{ObjLogState}
use Rattle.object_recovery.specs.declared.beginning.Beginning.{Beginning}
use Rattle.object_recovery.specs.declared.beginning.Beginning.TheVariants as begins
use Rattle.object_recovery.specs.Checkpoints.{expected_of, ReadCheckpoint, IsStoredCheckpoint}
use Rattle.object_recovery.specs.Missing.{IsMissing}
use Rattle.object_recovery.specs.Earlier.{EarlierObject}
use Rattle.object_recovery.specs.Places.{HasPlacesInside}
use Rattle.object_recovery.specs.Recovery.{IsListUpTo}
use Rattle.object_recovery.specs.Table.{HasTableUnheld, KnowsObjects, FindsNamed}

-- Where all places of rows hold their sectors, the objects of a list have the image that is the value of the rows' owners, and
-- each receipt is for the object's own bytes.
abbrev pub HasValue : (ℕ → Option (List ℕ)) → Objects → List (Extent StoredPlace) → ObjLogState → Type 0
HasValue uuid_at objects rows log =
    (image : Image) → HoldPlaces objects uuid_at rows
    → IsValue objects uuid_at (owned_by rows) image → HasImage image log.uploads.queue × HasOwnReceipts log.uploads.queue

-- A list begins with a checkpoint of these rows: all is acknowledged up to it, the objects' map has its places, each inside an
-- object that the store has where no ancestor lacks one, and the table is from it on, before any hold is read.
pub record BeginsList (uuid : List ℕ) (geometry : Geometry) (ancestors : ℕ) (checkpoint : ReadCheckpoint)
    (rows : List (Extent StoredPlace)) (log : ObjLogState) (absent : Option (List ℕ)) : Type 0 where
  pub list : IsListUpTo uuid geometry ancestors checkpoint.number checkpoint.end log
  pub order : IsUploads log.uploads
  pub places : absent ≡ None → HasPlacesInside geometry.sectors log.uploads.queue
  pub owners_are : (k : ℕ) → place_owner (settled_at log.uploads.queue.maps k) ≡ owned_by rows k
  pub table : HasTableUnheld checkpoint.number log.uploads.queue

-- A list begins with what the store has: its objects have the value of the rows of the checkpoint of this number, its table has
-- just the objects that the store has up to it, and each place of the rows is in an object that the store has, but for those in
-- objects that ancestors lack.
pub record BeginsInStore (volume : Expected) (uuid_at : ℕ → Option (List ℕ)) (objects : Objects) (number : ℕ)
    (rows : List (Extent StoredPlace)) (log : ObjLogState) (absent : Option (List ℕ)) : Type 0 where
  pub value : HasValue uuid_at objects rows log
  pub knows : KnowsObjects volume objects number log.uploads.queue
  pub finds : FindsNamed volume uuid_at objects rows absent

-- ---- an object before the checkpoint

-- A header of a data object or a copy was read of an object, which is as long as that says: with this payload, and so many
-- sectors before it.
pub record HasHeader (expected : Expected) (payload front : ℕ) (receipt : ReceiptState) : Type 0 where
  pub header : Header
  pub no_checkpoint : header.kind ≡ kinds.Checkpoint → ⊥
  pub payload_is : header.payload ≡ payload
  pub front_is : front_sectors header ≡ front
  pub size : receipt.size ≡ length_of header
  pub told : IfSome receipt.told (λ told. IsObjectHeader told receipt.size expected header)

-- an object has a payload of so many sectors, and so many before it, as far as rows ask: nothing is known where none names it
pub record HasPartsAsked (volume : Expected) (object : EarlierObject) (payload front : ℕ) : Type 0 where
  pub reach : object.reach ≤ payload
  pub header : (object.reach ≡ 0 → ⊥) → HasHeader (expected_alone volume object.number) payload front object.receipt

-- an object that rows name does not have what they name of it, as far as its bytes are told
abbrev pub LacksReach : Expected → EarlierObject → Type 0
LacksReach volume object =
    (object.reach ≡ 0 → ⊥)
    × IfSome object.receipt.told (λ told. (header : Header)
    → IsObjectHeader told object.receipt.size (expected_alone volume object.number) header
    → (header.kind ≡ kinds.Checkpoint → ⊥) → object.reach ≤ header.payload → ⊥)

abbrev pub HasPartsOrLacks : Expected → EarlierObject → Option (ℕ × ℕ) → Type 0
HasPartsOrLacks volume object None = LacksReach volume object
HasPartsOrLacks volume object (Some parts) = HasPartsAsked volume object parts.0 parts.1

-- it was taken up, as the last one of a list
pub record TakesUp (volume : Expected) (object : EarlierObject) (old new : ObjLogState) : Type 0 where
  pub batch : new.batch ≡ old.batch
  pub payload : ℕ
  pub front : ℕ
  pub parts : HasPartsAsked volume object payload front
  pub found : HasFound object.number payload front object.receipt old.uploads new.uploads

abbrev pub TakesUpOrLacks : Expected → EarlierObject → (taken : Bool) → (old new : ObjLogState) → Type 0
TakesUpOrLacks volume object true old new = TakesUp volume object old new
TakesUpOrLacks volume object false old new = LacksReach volume object

-- ---- the objects before the checkpoint

-- a row of the table is that of an object that was taken up
abbrev pub IsTakenUp : Expected → EarlierObject → ObjectRow → Type 0
IsTakenUp volume object row =
    (payload : ℕ) × (front : ℕ) × (row ≡ new_row object.number payload front) × HasPartsAsked volume object payload front

-- what the store gave for an object
abbrev pub receipt_for : EarlierObject → NumberedReceipt
receipt_for e = record { number = e.number; receipt = e.receipt }

-- A list has just these objects before its checkpoint, and no row is entered yet.
pub record HasTakenUp (uuid : List ℕ) (geometry : Geometry) (ancestors number end : ℕ) (earlier : List EarlierObject)
    (log : ObjLogState) : Type 0 where
  pub list : IsListUpTo uuid geometry ancestors number end log
  pub objects : AllZip (IsTakenUp (expected_of uuid geometry ancestors)) earlier log.uploads.queue.maps.objects.rows
  pub receipts : log.uploads.queue.receipts ≡ map receipt_for earlier
  pub removal : log.uploads.queue.removal ≡ None
  pub checkpoint : log.uploads.queue.maps.objects.checkpoint ≡ 0
  pub settled : log.uploads.queue.maps.settled.rows ≡ []

-- ---- the rows of the checkpoint

-- the objects' map may take the rows: the table has each object of the volume's own that they name
abbrev pub MayMap : List (Extent StoredPlace) → ObjLogState → Type 0
MayMap rows log = (k : ℕ) (place : StoredPlace) → place_at stored_on rows k ≡ Some place → place.level ≡ 0
    → MayGain place.number log.uploads.queue.maps.objects

-- The rows were entered into the objects' map, in which none was.
pub record HasRows (rows : List (Extent StoredPlace)) (old new : ObjLogState) : Type 0 where
  pub rest : IsSameButFound old.uploads new.uploads
  pub batch : new.batch ≡ old.batch
  pub receipts : new.uploads.queue.receipts ≡ old.uploads.queue.receipts
  pub settled : (k : ℕ) → settled_at new.uploads.queue.maps k ≡ option_map mapped_place (place_at stored_on rows k)
  pub objects : HasSameObjects old.uploads.queue.maps.objects new.uploads.queue.maps.objects

-- ---- the whole

-- how a list begins with a checkpoint, or which object is missing, as far as bytes are told
abbrev pub BeginsWith : {R : Type 0} → (Tells : Type 0) → (uuid : List ℕ) → Geometry → List Ancestor → ReadCheckpoint
    → List ObjName → Option Objects → Beginning R → Type 0
BeginsWith Tells uuid geometry chain checkpoint names objects (begins.List log absent) =
    (rows : List (Extent StoredPlace))
    × IsCheckpoint checkpoint.bytes (expected_alone (expected_of uuid geometry (length chain)) checkpoint.number) checkpoint.end
    rows
    × BeginsList uuid geometry (length chain) checkpoint rows log absent
    × (Tells → IfSome objects (λ objects. Lists uuid objects names
    → IsStoredCheckpoint (expected_of uuid geometry (length chain)) objects checkpoint
    → BeginsInStore (expected_of uuid geometry (length chain)) (uuid_in_chain uuid chain) objects checkpoint.number rows log
    absent))
BeginsWith Tells uuid geometry chain checkpoint names objects (begins.Missing number) =
    Tells → IfSome objects (λ objects. Lists uuid objects names → (end : ℕ) (rows : List (Extent StoredPlace))
    → IsCheckpoint checkpoint.bytes (expected_alone (expected_of uuid geometry (length chain)) checkpoint.number) end rows
    → IsMissing (uuid_in_chain uuid chain) objects rows number)
