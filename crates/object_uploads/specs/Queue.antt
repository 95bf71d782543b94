-- Contract: what changes the objects of a volume in the order of their numbers.
use Rattle.std.specs.Prelude.{◌≡◌, ℕ, ◌+◌, ◌-◌, ◌/◌, ◌≤◌, ◌==◌, ◌&&◌, zero, suc, Bool, true, false, Option, Some, None}
use Rattle.std.specs.Prelude.{IsSome, IfSome}
use Rattle.std.specs.Prelude.{List, [], ◌∷◌, ◌++◌, length, map, find, take, drop, option_map, option_to_list, if◌then◌else◌}
use Rattle.std.specs.List.{AllByRecursion, sum_by}
use Rattle.std.specs.Option.{option_or}
use Rattle.lsvd_base.specs.declared.entry.Entry.{Entry}
use Rattle.lsvd_objstore.specs.Store.{ReceiptState}
use Rattle.object_format.specs.declared.copy_row.CopyRow.{CopyRow}
use Rattle.object_format.specs.declared.data_row.DataRow.{DataRow}
use Rattle.object_format.specs.Layout.{data_front_sectors, copy_front_sectors}
use Rattle.object_stream.specs.declared.owner.Owner.{Owner}
use Rattle.object_table.specs.declared.row.ObjectRow.{ObjectRow}
use Rattle.object_table.specs.Table.{row_of, new_row, added, acknowledged}
use Rattle.volume_maps.specs.declared.place.ObjectPlace.{ObjectPlace}
use Rattle.volume_maps.specs.Places.{place_left_by}
use Rattle.volume_maps.specs.Maps.{MapsState, settled_at, logged_at, settled_by, logged_by, settled_by_copy}
use Rattle.volume_maps.specs.Live.{HasSameObjects}
use Rattle.object_uploads.specs.declared.rows.SealedRows.{SealedRows}
use Rattle.object_uploads.specs.declared.rows.SealedRows.TheVariants.{Data, Copy, Checkpoint}
use Rattle.object_uploads.specs.State.{SealedState, NumberedReceipt, StoredObject, InheritedObject, QueueState}

-- the objects with the one at an index changed
abbrev pub with_at : ℕ → (SealedState → SealedState) → List SealedState → List SealedState
with_at index change [] = []
with_at zero change (sealed ∷ more) = change sealed ∷ more
with_at (suc index) change (sealed ∷ more) = sealed ∷ with_at index change more

-- an object that was just sealed, whose bytes are there twice
abbrev pub just_sealed : (bytes : List ℕ) → SealedRows → (end : ℕ) → SealedState
just_sealed bytes rows end = record { bytes = bytes; rows = rows; end = end; has_spare = true; receipt = None }

-- an object whose put begins, or whose bytes came back
abbrev pub with_spare : Bool → SealedState → SealedState
with_spare has_spare sealed = record sealed { has_spare = has_spare }

-- an object for which the store gave this
abbrev pub with_receipt : ReceiptState → SealedState → SealedState
with_receipt receipt sealed = record sealed { receipt = Some receipt }

-- the object at an index has these bytes
abbrev pub HasBytesAt : ℕ → List SealedState → List ℕ → Type 0
HasBytesAt index [] bytes = ⊥
HasBytesAt zero (sealed ∷ more) bytes = bytes ≡ sealed.bytes
HasBytesAt (suc index) (sealed ∷ more) bytes = HasBytesAt index more bytes

-- an object's second bytes, where they are there
abbrev pub spare_of : SealedState → Option (List ℕ)
spare_of sealed = if sealed.has_spare then Some sealed.bytes else None

-- ---- room

-- the sectors of a data object with these rows before its payload, and of a copy
abbrev pub front_of : List DataRow → ℕ
front_of rows = data_front_sectors (length rows)

abbrev pub copy_front_of : List CopyRow → ℕ
copy_front_of rows = copy_front_sectors (length rows)

-- the sectors of its payload, where it has so many bytes
abbrev pub payload_of : (size : ℕ) → List DataRow → ℕ
payload_of size rows = size / 512 - front_of rows

abbrev pub copy_payload_of : (size : ℕ) → List CopyRow → ℕ
copy_payload_of size rows = size / 512 - copy_front_of rows

-- how many sectors the rows of a copy have
abbrev pub copied_sectors : List CopyRow → ℕ
copied_sectors rows = sum_by (λ (row : CopyRow). row.sectors) rows

-- a row lies inside a volume of so many sectors, and what it has of a payload inside the greatest that there is
pub record FitsVolume (sectors : ℕ) (row : DataRow) : Type 0 where
  pub sectors_are : row.lba + row.sectors ≤ sectors
  pub place : IfSome row.place (λ place. place + row.sectors ≤ 131071)

-- these may be the rows of a data object of such a volume: it has 65,536 at most, and each fits
pub record FitObject (sectors : ℕ) (rows : List DataRow) : Type 0 where
  pub count : length rows ≤ 65536
  pub fit : AllByRecursion (FitsVolume sectors) rows

-- so does a row of a copy
pub record CopyFitsVolume (sectors : ℕ) (row : CopyRow) : Type 0 where
  pub sectors_are : row.lba + row.sectors ≤ sectors
  pub place : row.place + row.sectors ≤ 131071

-- these may be the rows of a copy of such a volume: it has 65,536 at most, with no more sectors than the greatest payload, and
-- each fits
pub record FitCopy (sectors : ℕ) (rows : List CopyRow) : Type 0 where
  pub count : length rows ≤ 65536
  pub copied : copied_sectors rows ≤ 131071
  pub fit : AllByRecursion (CopyFitsVolume sectors) rows

-- the same of any sealed object's
abbrev pub FitSealed : (sectors : ℕ) → SealedRows → Type 0
FitSealed sectors (Data list) = FitObject sectors list.items
FitSealed sectors (Copy list) = FitCopy sectors list.items
FitSealed sectors Checkpoint = Unit {0}

-- the rows are those of a checkpoint
abbrev pub is_checkpoint : SealedRows → Bool
is_checkpoint (Data list) = false
is_checkpoint (Copy list) = false
is_checkpoint Checkpoint = true

-- the rows are those of a copy
abbrev pub is_copy : SealedRows → Bool
is_copy (Data list) = false
is_copy (Copy list) = true
is_copy Checkpoint = false

-- how many changes of the maps they may take: each sector of a copy may be in a place apart
abbrev pub count_of_rows : SealedRows → ℕ
count_of_rows (Data list) = length list.items
count_of_rows (Copy list) = copied_sectors list.items
count_of_rows Checkpoint = 0

abbrev pub row_count : SealedState → ℕ
row_count sealed = count_of_rows sealed.rows

-- the maps have room for the changes of all rows of the objects past the frontier
pub record HasRoomForRows (sealed : List SealedState) (maps : MapsState) : Type 0 where
  pub settled : sum_by row_count sealed ≤ maps.settled.spare
  pub log : sum_by row_count sealed ≤ maps.log.spare

-- and for a change of the log's map beside these
abbrev pub HasRoomForEntry : QueueState → Type 0
HasRoomForEntry queue = sum_by row_count queue.sealed + 1 ≤ queue.maps.log.spare

-- there is room for one object more with these rows: a place for it, for its receipt and in the table of objects, and for the
-- changes of its rows beside those of the others
pub record HasRoomForObject (rows : SealedRows) (queue : QueueState) : Type 0 where
  pub place : 1 ≤ queue.places
  pub settled : sum_by row_count queue.sealed + count_of_rows rows ≤ queue.maps.settled.spare
  pub log : sum_by row_count queue.sealed + count_of_rows rows ≤ queue.maps.log.spare

-- the places and the objects are as before
pub record HasSamePlaces (old new : MapsState) : Type 0 where
  pub settled : new.settled.rows ≡ old.settled.rows
  pub log : new.log.rows ≡ old.log.rows
  pub objects : new.objects.rows ≡ old.objects.rows
  pub checkpoint : new.objects.checkpoint ≡ old.objects.checkpoint

-- An entry with this seq, whose data begin at a sector of the log, was entered into the log's map: each sector that it covers is
-- there.
pub record IsEntered (entry : Entry) (seq data_at : ℕ) (old new : QueueState) : Type 0 where
  pub logged : (k : ℕ) → logged_at new.maps k ≡ option_or (place_left_by seq data_at entry k) (logged_at old.maps k)
  pub settled : new.maps.settled ≡ old.maps.settled
  pub objects : new.maps.objects ≡ old.maps.objects
  pub sealed : new.sealed ≡ old.sealed
  pub frontier : new.frontier ≡ old.frontier
  pub end : new.end ≡ old.end
  pub receipts : new.receipts ≡ old.receipts
  pub removal : new.removal ≡ old.removal
  pub inherited : new.inherited ≡ old.inherited

-- ---- settling

-- a sector's place after the object of a number was settled, and after those were that come after one of a number
abbrev pub settled_by_rows : (number : ℕ) → SealedRows → Option ObjectPlace → ℕ → Option ObjectPlace
settled_by_rows number (Data list) before k = settled_by number list.items before k
settled_by_rows number (Copy list) before k = settled_by_copy number list.items before k
settled_by_rows number Checkpoint before k = before

abbrev pub settled_by_all : (number : ℕ) → List SealedState → Option ObjectPlace → ℕ → Option ObjectPlace
settled_by_all number [] before k = before
settled_by_all number (sealed ∷ more) before k =
    settled_by_all (number + 1) more (settled_by_rows (number + 1) sealed.rows before k) k

-- the places in the objects' map once all objects past the frontier are settled
abbrev pub sealed_at : QueueState → ℕ → Option ObjectPlace
sealed_at queue k = settled_by_all queue.frontier queue.sealed (settled_at queue.maps k) k

-- the end of the last of some objects, or the one before them where there is none
abbrev pub end_of_last : ℕ → List SealedState → ℕ
end_of_last end [] = end
end_of_last end (sealed ∷ more) = end_of_last sealed.end more

-- what the store gave for those of some objects that are acknowledged, which come after one of a number
abbrev pub receipts_of : (number : ℕ) → List SealedState → List NumberedReceipt
receipts_of number [] = []
receipts_of number (sealed ∷ more) =
    map (λ receipt. record { number = number + 1; receipt = receipt }) (option_to_list sealed.receipt)
    ++ receipts_of (number + 1) more

-- ---- objects that are in the store

-- what the store gave for the object of a number
abbrev pub receipt_in : List NumberedReceipt → (number : ℕ) → Option ReceiptState
receipt_in receipts number =
    option_map (λ (r : NumberedReceipt). r.receipt) (find (λ (r : NumberedReceipt). r.number == number) receipts)

abbrev pub stored_with : Option ReceiptState → Option ObjectRow → Option StoredObject
stored_with None row = None
stored_with (Some receipt) None = None
stored_with (Some receipt) (Some row) = Some (record { receipt = receipt; front = row.front })

-- an object of an ancestor is that of an owner: it has its level and its number
abbrev pub is_of_owner : Owner → InheritedObject → Bool
is_of_owner owner object = (object.level == owner.level) && (object.number == owner.number)

-- that of an owner, where a mount found it
abbrev pub inherited_in : List InheritedObject → Owner → Option StoredObject
inherited_in inherited owner =
    option_map (λ (o : InheritedObject). record { receipt = o.receipt; front = o.front })
    (find (is_of_owner owner) inherited)

-- The object of an owner, where it is in the store. The volume's own objects are known up to the frontier, and those of its
-- ancestors as a mount found them.
abbrev pub stored_of : QueueState → Owner → Option StoredObject
stored_of queue owner =
    if owner.level == 0
    then stored_with (receipt_in queue.receipts owner.number) (row_of owner.number queue.maps.objects.rows)
    else inherited_in queue.inherited owner

-- the object that a place is in
abbrev pub stored_at : QueueState → ObjectPlace → Option StoredObject
stored_at queue place = stored_of queue (record { level = place.level; number = place.number })

-- the pins that are on the object of a row, none on one that is not in the table
abbrev pub pins_of : Option ObjectRow → ℕ
pins_of None = 0
pins_of (Some row) = row.pins

-- ---- checkpoints

-- the newest checkpoint of some objects from a number on, or the one before them
abbrev pub newest_of : (before number : ℕ) → List SealedState → ℕ
newest_of before number [] = before
newest_of before number (sealed ∷ more) =
    newest_of (if is_checkpoint sealed.rows then number else before) (number + 1) more

-- the newest checkpoint that was sealed: one past the frontier, or else the newest acknowledged one
abbrev pub newest_checkpoint : QueueState → ℕ
newest_checkpoint queue = newest_of queue.maps.objects.checkpoint (queue.frontier + 1) queue.sealed

-- ---- settled objects

-- the data object of a number, which has so many bytes, these rows and this end, was settled in the maps and added to the table
pub record SettlesObject (number size : ℕ) (rows : List DataRow) (end : ℕ) (old new : MapsState) : Type 0 where
  pub settled : (k : ℕ) → settled_at new k ≡ settled_by number rows (settled_at old k) k
  pub logged : (k : ℕ) → logged_at new k ≡ logged_by end rows (logged_at old k) k
  pub objects : HasSameObjects (added (new_row number (payload_of size rows) (front_of rows)) old.objects) new.objects

-- the copy of a number was: the log's map stays
pub record SettlesCopy (number size : ℕ) (rows : List CopyRow) (old new : MapsState) : Type 0 where
  pub settled : (k : ℕ) → settled_at new k ≡ settled_by_copy number rows (settled_at old k) k
  pub logged : (k : ℕ) → logged_at new k ≡ logged_at old k
  pub objects :
      HasSameObjects (added (new_row number (copy_payload_of size rows) (copy_front_of rows)) old.objects) new.objects

-- the checkpoint of a number was: it changes no place, and from then on the table's objects are passed by it
pub record SettlesCheckpoint (number : ℕ) (old new : MapsState) : Type 0 where
  pub settled : new.settled ≡ old.settled
  pub log : new.log ≡ old.log
  pub objects : new.objects ≡ acknowledged number old.objects

abbrev pub SettlesSealed : (number size : ℕ) → SealedRows → (end : ℕ) → (old new : MapsState) → Type 0
SettlesSealed number size (Data list) end old new = SettlesObject number size list.items end old new
SettlesSealed number size (Copy list) end old new = SettlesCopy number size list.items old new
SettlesSealed number size Checkpoint end old new = SettlesCheckpoint number old new

-- those after one of a number were, in their order
abbrev pub SettlesObjects : (number : ℕ) → List SealedState → (old new : MapsState) → Type 0
SettlesObjects number [] old new = new ≡ old
SettlesObjects number (sealed ∷ more) old new =
    (middle : MapsState) × SettlesSealed (number + 1) (length sealed.bytes) sealed.rows sealed.end old middle
    × SettlesObjects (number + 1) more middle new

-- the first objects past the frontier, as many as this, were settled: all of them are acknowledged
pub record IsSettledBy (count : ℕ) (old new : QueueState) : Type 0 where
  pub within : count ≤ length old.sealed
  pub acknowledged : AllByRecursion (λ sealed. IsSome sealed.receipt) (take count old.sealed)
  pub receipts : new.receipts ≡ old.receipts ++ receipts_of old.frontier (take count old.sealed)
  pub frontier : new.frontier ≡ old.frontier + count
  pub end : new.end ≡ end_of_last old.end (take count old.sealed)
  pub sealed : new.sealed ≡ drop count old.sealed
  pub removal : new.removal ≡ old.removal
  pub inherited : new.inherited ≡ old.inherited
  pub maps : SettlesObjects old.frontier (take count old.sealed) old.maps new.maps

-- The object of the next number, with these rows and this end, was settled, and the store gave this for it. None is past it.
pub record IsNextSettled (rows : SealedRows) (end : ℕ) (receipt : ReceiptState) (old new : QueueState) : Type 0 where
  pub frontier : new.frontier ≡ old.frontier + 1
  pub ends : new.end ≡ end
  pub sealed : new.sealed ≡ []
  pub receipts : new.receipts ≡ old.receipts ++ record { number = old.frontier + 1; receipt = receipt } ∷ []
  pub removal : new.removal ≡ old.removal
  pub inherited : new.inherited ≡ old.inherited
  pub maps : SettlesSealed (old.frontier + 1) receipt.size rows end old.maps new.maps

-- an acknowledged object does not stand first
abbrev pub IsWaiting : Option ReceiptState → Type 0
IsWaiting None = Unit {0}
IsWaiting (Some receipt) = ⊥

abbrev pub FirstWaits : List SealedState → Type 0
FirstWaits [] = Unit {0}
FirstWaits (sealed ∷ more) = IsWaiting sealed.receipt
