-- Contract: what the calls do to the objects of a volume on their way to the store.
use Rattle.std.specs.Prelude.{◌≡◌, ℕ, ◌+◌, ◌-◌, true, not, Bool, List, [], ◌∷◌, ◌++◌}
use Rattle.lsvd_names.specs.Names.{numbered_name}
use Rattle.lsvd_objstore.specs.Store.{ReceiptState}
use Rattle.upload_window.specs.Window.{entered, marked, acknowledged, is_started}
use Rattle.object_uploads.specs.declared.rows.SealedRows.{SealedRows}
use Rattle.object_uploads.specs.State.{JobState, QueueState, UploadsState}
use Rattle.object_uploads.specs.Queue.{with_at, just_sealed, with_spare, with_receipt, HasBytesAt, HasSamePlaces, IsSettledBy}
use Rattle.object_uploads.specs.Queue.{IsNextSettled, FirstWaits, is_checkpoint}

-- where the object of a number stands past the frontier
abbrev pub index_of : UploadsState → ℕ → ℕ
index_of uploads number = number - (uploads.queue.frontier + 1)

-- ---- sealing

-- the objects up to the frontier are as before, and so are the places
pub record HasSameSettled (old new : QueueState) : Type 0 where
  pub frontier : new.frontier ≡ old.frontier
  pub end : new.end ≡ old.end
  pub receipts : new.receipts ≡ old.receipts
  pub removal : new.removal ≡ old.removal
  pub inherited : new.inherited ≡ old.inherited
  pub places : HasSamePlaces old.maps new.maps

-- an object with these bytes, these rows and this end was sealed under the next number
pub record IsSealedNext (bytes : List ℕ) (rows : SealedRows) (end : ℕ) (old new : UploadsState) : Type 0 where
  pub uuid : new.uuid ≡ old.uuid
  pub sectors : new.sectors ≡ old.sectors
  pub ancestors : new.ancestors ≡ old.ancestors
  pub sealed : new.queue.sealed ≡ old.queue.sealed ++ just_sealed bytes rows end ∷ []
  pub window : new.window ≡ entered (old.window.last + 1) (is_checkpoint rows) old.window
  pub settled : HasSameSettled old.queue new.queue

-- none was, and nothing changed but for room
pub record IsNotSealed (old new : UploadsState) : Type 0 where
  pub uuid : new.uuid ≡ old.uuid
  pub sectors : new.sectors ≡ old.sectors
  pub ancestors : new.ancestors ≡ old.ancestors
  pub sealed : new.queue.sealed ≡ old.queue.sealed
  pub window : new.window ≡ old.window
  pub settled : HasSameSettled old.queue new.queue

-- ---- jobs

-- the objects where a put of one began, or failed
abbrev pub with_job : (number : ℕ) (started : Bool) → UploadsState → UploadsState
with_job number started uploads = record uploads {
  queue = record uploads.queue { sealed = with_at (index_of uploads number) (with_spare (not started)) uploads.queue.sealed };
  window = marked number started uploads.window;
}

-- the put of an object's bytes that began
pub record IsJobOf (uploads : UploadsState) (number : ℕ) (job : JobState) : Type 0 where
  pub named : job.name ≡ numbered_name uploads.uuid number
  pub bytes : HasBytesAt (index_of uploads number) uploads.queue.sealed job.bytes

-- a put is out: it was begun, and these are its object's bytes
pub record IsOut (uploads : UploadsState) (number : ℕ) (bytes : List ℕ) : Type 0 where
  pub started : is_started number uploads.window.objects ≡ true
  pub sealed : HasBytesAt (index_of uploads number) uploads.queue.sealed bytes

-- The put of a number is done, and the store gave this for it: the objects past the frontier are settled up to the first that is
-- not acknowledged.
pub record IsPutDone (number : ℕ) (receipt : ReceiptState) (old new : UploadsState) : Type 0 where
  pub uuid : new.uuid ≡ old.uuid
  pub sectors : new.sectors ≡ old.sectors
  pub ancestors : new.ancestors ≡ old.ancestors
  pub window : new.window ≡ acknowledged number old.window
  pub count : ℕ
  pub settled : IsSettledBy count (record old.queue {
    sealed = with_at (index_of old number) (with_receipt receipt)
        old.queue.sealed;
  }) new.queue
  pub waits : FirstWaits new.queue.sealed

-- ---- adopting

-- the object of the next number, with these rows and this end, was counted as acknowledged: the store gave this for it, and it is
-- settled
pub record IsAdopted (rows : SealedRows) (end : ℕ) (receipt : ReceiptState) (old new : UploadsState) : Type 0 where
  pub uuid : new.uuid ≡ old.uuid
  pub sectors : new.sectors ≡ old.sectors
  pub ancestors : new.ancestors ≡ old.ancestors
  pub window : new.window ≡ record { last = old.window.last + 1; objects = [] }
  pub settled : IsNextSettled rows end receipt old.queue new.queue
