-- For this crate's own clauses: what the queue always keeps, and an object that is open.
use Rattle.std.specs.Prelude.{◌≡◌, ℕ, zero, suc, ◌≤◌, ◌<◌, ◌^◌, not, Bool, Option, None, Some, IfSome, List, [], ◌∷◌, length, map}
use Rattle.std.specs.List.{All, AllByRecursion, filter}
use Rattle.extent_map.specs.declared.extent.Extent.{Extent}
use Rattle.extent_map.specs.Extents.{IsShortest}
use Rattle.ckpt_format.specs.declared.place.StoredPlace.{StoredPlace}
use Rattle.object_format.specs.declared.copy_row.CopyRow.{CopyRow}
use Rattle.object_format.specs.declared.data_row.DataRow.{DataRow}
use Rattle.object_table.specs.declared.row.ObjectRow.{ObjectRow}
use Rattle.object_table.specs.Table.{numbers}
use Rattle.object_table.specs.Lists.{Climbs}
use Rattle.reverse_map.specs.declared.range.SectorRange.{SectorRange}
use Rattle.volume_maps.specs.declared.place.ObjectPlace.{ObjectPlace}
use Rattle.volume_maps.specs.Places.{object_on}
use Rattle.volume_maps.specs.Maps.{RowsFit, CopyRowsFit}
use Rattle.volume_maps.specs.Live.{IsCounted}
use Rattle.volume_maps.specs.Covered.{CoverRows, CoverCopyRows}
use Rattle.object_uploads.specs.declared.rows.SealedRows.{SealedRows}
use Rattle.object_uploads.specs.declared.rows.SealedRows.TheVariants.{Data, Copy, Checkpoint}
use Rattle.lsvd_objstore.specs.Store.{ReceiptState}
use Rattle.object_uploads.specs.State.{SealedState, NumberedReceipt, QueueState}
use Rattle.object_uploads.specs.Queue.{receipt_in, copied_sectors}
use Rattle.object_uploads.specs.Removal.{without_receipt}
use Rattle.object_uploads.specs.Order.{is_out, IsDeadIn, UnmappedAreDead, KnowFromCheckpoint}

-- the object at an index is not acknowledged, and has its bytes a second time or not
abbrev pub IsOpenAt : ℕ → List SealedState → (has_spare : Bool) → Type 0
IsOpenAt index [] has_spare = ⊥
IsOpenAt zero (sealed ∷ more) has_spare = (sealed.receipt ≡ None) × (sealed.has_spare ≡ has_spare)
IsOpenAt (suc index) (sealed ∷ more) has_spare = IsOpenAt index more has_spare

-- rows are few enough for an object, and the maps can take them
pub record MapsCanTake (rows : List DataRow) : Type 0 where
  pub count : length rows ≤ 65536
  pub fit : RowsFit rows

-- the same of the rows of a copy
pub record MapsCanCopy (rows : List CopyRow) : Type 0 where
  pub count : length rows ≤ 65536
  pub copied : copied_sectors rows ≤ 131071
  pub fit : CopyRowsFit rows

-- and of any sealed object's
abbrev pub MaySettle : SealedRows → Type 0
MaySettle (Data list) = MapsCanTake list.items
MaySettle (Copy list) = MapsCanCopy list.items
MaySettle Checkpoint = Unit {0}

-- and those of all objects past the frontier
abbrev pub AllMaySettle : List SealedState → Type 0
AllMaySettle sealed = AllByRecursion (λ (s : SealedState). MaySettle s.rows) sealed

-- ranges have all sectors that a sealed object's rows put
abbrev pub CoverSealed : List SectorRange → SealedRows → Type 0
CoverSealed ranges (Data list) = CoverRows ranges list.items
CoverSealed ranges (Copy list) = CoverCopyRows ranges list.items
CoverSealed ranges Checkpoint = Unit {0}

-- a removal that is out leaves room for its receipt, which may come back
abbrev pub count_out : Option ℕ → ℕ
count_out None = 0
count_out (Some number) = 1

-- a row of a map as one of a checkpoint
abbrev pub stored_row : Extent ObjectPlace → Extent StoredPlace
stored_row row = record {
  lba = row.lba;
  sectors = row.sectors;
  place = record { level = row.place.level; number = row.place.number; place = row.place.sector };
}

-- the numbers of a row's place have the width of their fields
abbrev pub IsPlaceWide : Extent StoredPlace → Type 0
IsPlaceWide row = (row.place.level < 2 ^ 32) × (row.place.number < 2 ^ 64)

-- all that is known of the objects up to the frontier, but that each receipt has its object's name
pub record IsKnown (queue : QueueState) : Type 0 where
  pub order : Climbs 0 (numbers queue.maps.objects.rows)
  pub from_one : All (λ (object : ObjectRow). 1 ≤ object.number) queue.maps.objects.rows
  pub within : All (λ (object : ObjectRow). object.number ≤ queue.frontier) queue.maps.objects.rows
  pub checkpoint : queue.maps.objects.checkpoint ≤ queue.frontier
  pub receipts : map (λ (r : NumberedReceipt). r.number) queue.receipts
      ≡ filter (λ number. not (is_out queue.removal number)) (numbers queue.maps.objects.rows)
  pub follow : KnowFromCheckpoint queue
  pub removal : IfSome queue.removal (IsDeadIn queue.maps)
  pub unmapped : UnmappedAreDead queue.maps
  pub counted : IsCounted queue.maps.settled.rows queue.maps.objects
  pub shortest : IsShortest object_on queue.maps.settled.rows

-- ---- what calls change

-- all of a queue is as before but for receipts, the removal that is out, and the table of objects
pub record KeepsAllButObjects (old new : QueueState) : Type 0 where
  pub frontier : new.frontier ≡ old.frontier
  pub end : new.end ≡ old.end
  pub sealed : new.sealed ≡ old.sealed
  pub inherited : new.inherited ≡ old.inherited
  pub settled : new.maps.settled ≡ old.maps.settled
  pub log : new.maps.log ≡ old.maps.log

-- or but for receipts, the objects' map and the table, and room
pub record KeepsAllButFound (old new : QueueState) : Type 0 where
  pub frontier : new.frontier ≡ old.frontier
  pub end : new.end ≡ old.end
  pub sealed : new.sealed ≡ old.sealed
  pub removal : new.removal ≡ old.removal
  pub inherited : new.inherited ≡ old.inherited
  pub log : new.maps.log.rows ≡ old.maps.log.rows

-- the removal of the object of a number began: its receipt was taken
pub record TakesFromQueue (number : ℕ) (receipt : ReceiptState) (old new : QueueState) : Type 0 where
  pub rest : KeepsAllButObjects old new
  pub was : receipt_in old.receipts number ≡ Some receipt
  pub receipts : new.receipts ≡ without_receipt number old.receipts
  pub removal : new.removal ≡ Some number
  pub objects : new.maps.objects ≡ old.maps.objects
