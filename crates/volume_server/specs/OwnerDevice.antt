-- Contract: the owner of a volume with its store, as the block device of sessions: what each of its calls does.
use Rattle.std.specs.Prelude.{ℕ, ◌≡◌, Bool, false, List, []}
use Rattle.lsvd_base.specs.declared.entry.Entry.{Entry}
use Rattle.lsvd_fault.specs.Faults.{Counts}
use Rattle.lsvd_objstore.specs.Store.{ReceiptState}
use Rattle.nbd_session.specs.declared.block_error.BlockError.{BlockError}
use Rattle.nbd_session.specs.declared.block_error.BlockError.TheVariants as block_errors
use Rattle.nbd_session.specs.BlockDevice.{BlockRelations}
use Rattle.vol_core.specs.declared.event.Event.TheVariants as events
use Rattle.vol_core.specs.View.{volume_disk, volume_geometry, volume_uuid}
use Rattle.volume_owner.specs.declared.error.OwnerError.{OwnerError}
use Rattle.volume_owner.specs.declared.error.OwnerError.TheVariants as owner_errors
use Rattle.volume_owner.specs.Owner.{most_of_call}
use Rattle.volume_owner.specs.Acts.{Moment, MakesStep}
use Rattle.volume_owner.specs.Calls.{MakesSteps, IsCall, IsDurable, HasSectors}

-- one call of the owner was made, which added these entries, and which failed or not
abbrev pub Calls : {R : Type 0} → (R → ReceiptState) → (added : List Entry) → (failed : Bool) → Moment → Moment → Type 0
Calls state added failed old new = IsCall state most_of_call added failed old.volume new.volume old.store new.store

-- one call has read the sectors of the history from one on, which changes nothing of it
abbrev pub ReadsHistory : {R : Type 0} → (R → ReceiptState) → (lba : ℕ) → (bytes : List ℕ) → Moment → Moment → Type 0
ReadsHistory state lba bytes old new = HasSectors state old.volume.volume lba bytes × Calls state [] false old new

-- the owner was asked to flush: each entry is durable then, or a call of the disk failed
pub record Flushes {R : Type 0} (state : R → ReceiptState) (failed : Bool) (old new : Moment) : Type 0 where
  pub step : MakesStep state events.Flush [] old.volume new.volume
  pub steps : MakesSteps 1 [] old.volume new.volume
  pub faults : Counts failed (volume_disk old.volume.volume).faults (volume_disk new.volume.volume).faults
  pub store : new.store ≡ old.store
  pub durable : failed ≡ false → IsDurable new.volume.volume

-- Between two moments of the owner and its store there are its own calls, and no others.
abbrev pub owner_relations : {R : Type 0} → (R → ReceiptState) → BlockRelations Moment
owner_relations state = record {
  geometry = λ moment. volume_geometry moment.volume.volume;
  uuid = λ moment. volume_uuid moment.volume.volume;
  steps = λ moment. moment.volume.steps;
  reads = λ lba bytes old new. ReadsHistory state lba bytes old new;
  enters = λ added failed old new. Calls state added failed old new;
  flushes = λ failed old new. Flushes state failed old new;
}

-- the error that tells one of the owner; a session asks for no sectors that it refuses
abbrev pub of_owner : OwnerError → BlockError
of_owner owner_errors.Range = block_errors.Io
of_owner owner_errors.Eio = block_errors.Io
of_owner owner_errors.OutOfMemory = block_errors.OutOfMemory
