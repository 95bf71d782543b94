-- Contract: removals and pins of the objects up to the frontier.
use Rattle.std.specs.Prelude.{◌≡◌, ℕ, nat_lt, ◌==◌, Option, Some, None, List, [], ◌∷◌, if◌then◌else◌}
use Rattle.lsvd_objstore.specs.Store.{ReceiptState}
use Rattle.object_table.specs.declared.row.ObjectRow.{ObjectRow}
use Rattle.object_table.specs.Table.{TableState, IsLowestRemovable, without, with_changed, pinned, unpinned}
use Rattle.object_uploads.specs.State.{NumberedReceipt, UploadsState}
use Rattle.object_uploads.specs.Queue.{receipt_in}
use Rattle.object_uploads.specs.Order.{IsUploads}

-- all is as before but for receipts, the removal that is out, and the table of objects
pub record IsSameButObjects (old new : UploadsState) : Type 0 where
  pub uuid : new.uuid ≡ old.uuid
  pub sectors : new.sectors ≡ old.sectors
  pub ancestors : new.ancestors ≡ old.ancestors
  pub window : new.window ≡ old.window
  pub frontier : new.queue.frontier ≡ old.queue.frontier
  pub end : new.queue.end ≡ old.queue.end
  pub sealed : new.queue.sealed ≡ old.queue.sealed
  pub inherited : new.queue.inherited ≡ old.queue.inherited
  pub settled : new.queue.maps.settled ≡ old.queue.maps.settled
  pub log : new.queue.maps.log ≡ old.queue.maps.log

-- ---- pins and holds

-- the row of a number was changed so: its object was pinned once more or once less, or a hold keeps it from now on
pub record HasChangedRow (change : ObjectRow → ObjectRow) (number : ℕ) (old new : UploadsState) : Type 0 where
  pub rest : IsSameButObjects old new
  pub receipts : new.queue.receipts ≡ old.queue.receipts
  pub removal : new.queue.removal ≡ old.queue.removal
  pub objects : new.queue.maps.objects ≡ with_changed change number old.queue.maps.objects

-- the pins of each of some objects were changed, one after the other
abbrev pub ChangesPinsEach : (change : ObjectRow → ObjectRow) → List ℕ → (old new : UploadsState) → Type 0
ChangesPinsEach change [] old new = new ≡ old
ChangesPinsEach change (number ∷ numbers) old new =
    (middle : UploadsState) × HasChangedRow change number old middle × IsUploads middle
    × ChangesPinsEach change numbers middle new

-- each of them was pinned once more, and once less
abbrev pub PinsEach : List ℕ → (old new : UploadsState) → Type 0
PinsEach numbers old new = ChangesPinsEach pinned numbers old new

abbrev pub UnpinsEach : List ℕ → (old new : UploadsState) → Type 0
UnpinsEach numbers old new = ChangesPinsEach unpinned numbers old new

-- ---- removals

-- the object that is removed next: the lowest that may be, where no removal is out
abbrev pub IsRemovedNext : (out : Option ℕ) → TableState → Option ℕ → Type 0
IsRemovedNext None table next = IsLowestRemovable table next
IsRemovedNext (Some number) table next = next ≡ None

-- receipts without that of a number
abbrev pub without_receipt : (number : ℕ) → List NumberedReceipt → List NumberedReceipt
without_receipt number [] = []
without_receipt number (first ∷ rest) = if first.number == number then rest else first ∷ without_receipt number rest

-- receipts in ascending order with one more
abbrev pub with_receipt_of : (number : ℕ) → ReceiptState → List NumberedReceipt → List NumberedReceipt
with_receipt_of number receipt [] = record { number = number; receipt = receipt } ∷ []
with_receipt_of number receipt (first ∷ rest) =
    if nat_lt number first.number then record { number = number; receipt = receipt } ∷ first ∷ rest
    else first ∷ with_receipt_of number receipt rest

-- the removal of the object of a number began: what the store gave for it was handed out
pub record TakesRemoval (number : ℕ) (receipt : ReceiptState) (old new : UploadsState) : Type 0 where
  pub rest : IsSameButObjects old new
  pub was : receipt_in old.queue.receipts number ≡ Some receipt
  pub receipts : new.queue.receipts ≡ without_receipt number old.queue.receipts
  pub removal : new.queue.removal ≡ Some number
  pub objects : new.queue.maps.objects ≡ old.queue.maps.objects

-- it is done: the object is no longer in the table
pub record FinishesRemoval (number : ℕ) (old new : UploadsState) : Type 0 where
  pub rest : IsSameButObjects old new
  pub receipts : new.queue.receipts ≡ old.queue.receipts
  pub removal : new.queue.removal ≡ None
  pub rows : new.queue.maps.objects.rows ≡ without number old.queue.maps.objects.rows
  pub checkpoint : new.queue.maps.objects.checkpoint ≡ old.queue.maps.objects.checkpoint

-- or it failed, and a receipt for it was handed back
pub record TakesBackRemoval (number : ℕ) (receipt : ReceiptState) (old new : UploadsState) : Type 0 where
  pub rest : IsSameButObjects old new
  pub receipts : new.queue.receipts ≡ with_receipt_of number receipt old.queue.receipts
  pub removal : new.queue.removal ≡ None
  pub objects : new.queue.maps.objects ≡ old.queue.maps.objects
