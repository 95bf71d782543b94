-- Contract: what a call of an owner does to its volume and to the store, told by each plain volume that the volume showed.
use Rattle.std.specs.Prelude.{◌≡◌, ℕ, ◌+◌, ◌*◌, ◌/◌, ◌^◌, ◌≤◌, ◌⊎◌, ◌↔◌, Bool, true, false, None, IsSome, List, [], ◌∷◌}
use Rattle.std.specs.Prelude.{length, Result, Ok, Err, IfOk, OnOk, IsErrOf, is_err}
use Rattle.lsvd_base.specs.declared.entry.Entry.{Entry}
use Rattle.lsvd_base.specs.Limits.{may_transfer}
use Rattle.lsvd_base.specs.Range.{is_in_range}
use Rattle.lsvd_fault.specs.declared.stream.Failed.{Failed}
use Rattle.lsvd_fault.specs.Faults.{Counts, CountsOne}
use Rattle.lsvd_names.specs.declared.name.ObjName.{ObjName}
use Rattle.lsvd_names.specs.Names.{numbered_name}
use Rattle.lsvd_objstore.specs.Objects.{Objects, found}
use Rattle.lsvd_objstore.specs.Store.{StoreState, ReceiptState, Becomes}
use Rattle.plain_disk.specs.Sectors.{sectors_at}
use Rattle.plain_disk.specs.Removals.{to_remove}
use Rattle.plain_disk.specs.State.{PlainState, history_length, image_now}
use Rattle.stopped_volume.specs.Device.{CacheOwner}
use Rattle.vol_core.specs.declared.event.Event.TheVariants as events
use Rattle.vol_core.specs.Volume.{VolumeState, SteppedVolume}
use Rattle.vol_core.specs.Shows.{Shows}
use Rattle.vol_core.specs.Step.{HasSameSizes}
use Rattle.vol_core.specs.Stops.{HasOwnCommits}
use Rattle.vol_core.specs.View.{acknowledged_checkpoint, last_object, log_entries, objects_on_way, unsealed_entries}
use Rattle.vol_core.specs.View.{volume_disk, volume_geometry, volume_uuid}
use Rattle.volume_owner.specs.declared.error.OwnerError.{OwnerError}
use Rattle.volume_owner.specs.declared.error.OwnerError.TheVariants.{Range}
use Rattle.volume_owner.specs.declared.draining.Drained.{Drained}
use Rattle.volume_owner.specs.declared.reading.SectorsRead.{SectorsRead}
use Rattle.volume_owner.specs.Acts.{moment_of, IsMadeOfActs, MakesStep}
use Rattle.volume_owner.specs.Tally.{IsTally}
use Rattle.volume_owner.specs.Errors.{is_eio}
use Rattle.volume_owner.specs.History.{GoesOn}
use Rattle.volume_owner.specs.Owner.{most_of_call}

-- ---- the history

-- whatever plain volume the volume showed, it shows one now that goes on from that with these entries more
abbrev pub Adds : List Entry → (old new : VolumeState) → Type 0
Adds added old new = (plain : PlainState) → Shows old plain → (after : PlainState) × Shows new after × GoesOn added plain after

-- this is the length of a volume's history
abbrev pub IsLengthOf : ℕ → VolumeState → Type 0
IsLengthOf count volume = (plain : PlainState) → Shows volume plain → count ≡ history_length plain

-- each of the first N entries of a volume's history is committed
abbrev pub IsDurableTo : (seq : ℕ) → VolumeState → Type 0
IsDurableTo seq volume = (plain : PlainState) → Shows volume plain → seq ≤ plain.cache.log.last.head.seq

-- each entry of a volume's history is committed: it is durable to its length
abbrev pub IsDurable : VolumeState → Type 0
IsDurable volume = (plain : PlainState) → Shows volume plain → IsDurableTo (history_length plain) volume

-- no object of a volume may be removed: so each that stands in its store but the newest checkpoint and later ones is one that
-- this maps, or that a plan pins
abbrev pub HasNoneToRemove : VolumeState → Type 0
HasNoneToRemove volume = (plain : PlainState) → Shows volume plain → to_remove plain ≡ None

-- Each entry of a volume's history is in an object, each object is acknowledged, the newest of them is a checkpoint, and none
-- may be removed; and each entry is committed.
pub record IsDrained (volume : VolumeState) : Type 0 where
  pub unsealed : unsealed_entries volume ≡ []
  pub on_way : objects_on_way volume ≡ []
  pub checkpoint : acknowledged_checkpoint volume ≡ last_object volume
  pub none : HasNoneToRemove volume
  pub durable : IsDurable volume

-- ---- contents

-- a volume tells what it holds: the disk of its log tells the log's entries, and each receipt its object's bytes
pub record TellsContents {R : Type 0} (state : R → ReceiptState) (volume : VolumeState) : Type 0 where
  pub log : IsSome (log_entries volume)
  pub receipts : (receipt : R) → IsSome (state receipt).told

-- these bytes are the sectors of a volume from one on, where it tells them
abbrev pub HasSectors : {R : Type 0} → (R → ReceiptState) → VolumeState → (lba : ℕ) → (bytes : List ℕ) → Type 0
HasSectors state volume lba bytes =
    TellsContents state volume → (plain : PlainState) → Shows volume plain
    → bytes ≡ sectors_at lba (length bytes / 512) (image_now plain)

-- ---- faults

-- one call of the disk or of the store failed, which that counted, or none did
abbrev pub CountsEitherFault : (failed : Bool) → (old_disk new_disk old_store new_store : ℕ) → Type 0
CountsEitherFault false old_disk new_disk old_store new_store = (new_disk ≡ old_disk) × (new_store ≡ old_store)
CountsEitherFault true old_disk new_disk old_store new_store =
    (CountsOne old_disk new_disk × (new_store ≡ old_store)) ⊎ ((new_disk ≡ old_disk) × CountsOne old_store new_store)

-- ---- the store

-- under each name but those of a volume's numbered objects stands what stood there
abbrev pub KeepsOtherNames : (uuid : List ℕ) → Objects → Objects → Type 0
KeepsOtherNames uuid old new = (name : ObjName) → ((number : ℕ) → name ≡ numbered_name uuid number → ⊥)
    → found new name ≡ found old name

-- ---- a call

-- A volume made so many steps at most, which added these entries to its history. Its sizes stay, and the commits stay its own.
pub record MakesSteps (most : ℕ) (added : List Entry) (old new : SteppedVolume) : Type 0 where
  pub adds : Adds added old.volume new.volume
  pub sizes : HasSameSizes old.volume new.volume
  pub own : (owner : CacheOwner) → HasOwnCommits owner old.volume → HasOwnCommits owner new.volume
  pub steps : new.steps ≤ old.steps + most

-- A call is made of acts: of steps of a volume, of puts of its objects into a store and removals of them, each of which is out,
-- and of gets; the volume is told that a put is done only where the store has the object, and that a removal is only where it has
-- not. So the store has changed under the names of the volume's own numbered objects alone. One call of the disk or of the store
-- failed in it, or none did.
pub record IsCall {R : Type 0} (state : R → ReceiptState) (most : ℕ) (added : List Entry) (failed : Bool)
    (old new : SteppedVolume) (old_store new_store : StoreState) : Type 0 where
  pub acts : IsMadeOfActs state added (moment_of old old_store) (moment_of new new_store)
  pub steps : MakesSteps most added old new
  pub store : Becomes (KeepsOtherNames (volume_uuid old.volume)) old_store.objects new_store.objects
  pub faults : CountsEitherFault failed (volume_disk old.volume).faults (volume_disk new.volume).faults old_store.faults
      new_store.faults

-- an entry that was answered is entered, and one that was not is not
abbrev pub added_by : {E : Type 0} → Entry → Result ℕ E → List Entry
added_by entry (Ok count) = entry ∷ []
added_by entry (Err error) = []

-- ---- what each call promises

-- What a write or a zero is, of its entry: the entry is added where a count is answered, which is then the history's length, and
-- is out of range exactly where `Range` is.
pub record EnterOf {R : Type 0} (state : R → ReceiptState) (entry : Entry) (result : Result ℕ OwnerError)
    (old new : SteppedVolume) (old_store new_store : StoreState) : Type 0 where
  pub call : IsCall state most_of_call (added_by entry result) (is_eio result) old new old_store new_store
  pub count : IfOk result (λ count. IsLengthOf count new.volume)
  pub range : IsErrOf result Range ↔ (is_in_range (volume_geometry old.volume) entry ≡ false)

-- What a flush is: one step, after which each entry of the history is committed where its length is answered. A call of the disk
-- failed where it is not.
pub record FlushOf {R : Type 0} (state : R → ReceiptState) (result : Result ℕ Failed) (old new : SteppedVolume) : Type 0 where
  pub step : MakesStep state events.Flush [] old new
  pub steps : MakesSteps 1 [] old new
  pub faults : Counts (is_err result) (volume_disk old.volume).faults (volume_disk new.volume).faults
  pub count : IfOk result (λ count. IsLengthOf count new.volume)
  pub durable : OnOk result (IsDurable new.volume)

-- What a drain is: nothing is added, and where it is answered, the volume is drained. The answer has the history's length, and
-- how many objects were removed.
pub record DrainOf {R : Type 0} (state : R → ReceiptState) (result : Result Drained OwnerError) (old new : SteppedVolume)
    (old_store new_store : StoreState) : Type 0 where
  pub call : IsCall state most_of_call [] (is_eio result) old new old_store new_store
  pub count : IfOk result (λ drained. IsLengthOf drained.entries new.volume)
  pub removed : IfOk result (λ drained.
      IsTally state 0 drained.removed (moment_of old old_store) (moment_of new new_store))
  pub few : IfOk result (λ drained. drained.removed ≤ 2 ^ 37)
  pub drained : OnOk result (IsDrained new.volume)
  pub in_range : IsErrOf result Range → ⊥

-- What a read is, of so many sectors from one on: nothing is added, and what is answered are those sectors, with the length of
-- the history that they are of. The sectors are out of range exactly where `Range` is.
pub record ReadOf {R : Type 0} (state : R → ReceiptState) (lba sectors : ℕ) (result : Result SectorsRead OwnerError)
    (old new : SteppedVolume) (old_store new_store : StoreState) : Type 0 where
  pub call : IsCall state most_of_call [] (is_eio result) old new old_store new_store
  pub size : IfOk result (λ read. length read.body ≡ 512 * sectors)
  pub given : IfOk result (λ read. HasSectors state old.volume lba read.body)
  pub length : IfOk result (λ read. IsLengthOf read.history_length old.volume)
  pub range : IsErrOf result Range ↔ (may_transfer (volume_geometry old.volume) lba sectors ≡ false)
