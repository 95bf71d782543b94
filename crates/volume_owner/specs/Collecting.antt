-- Contract: what a turn of a collection does to its volume, and what a whole collection does.
use Rattle.std.specs.Prelude.{◌≡◌, ℕ, ◌^◌, ◌≤◌, Bool, true, false, not, ◌&&◌, nat_lt, Some, is_some, [], List, length}
use Rattle.std.specs.Prelude.{Result, Ok, Err, IfOk, OnOk, IsErrOf}
use Rattle.lsvd_objstore.specs.Store.{StoreState, ReceiptState}
use Rattle.object_stream.specs.declared.object.CopiedSector.{CopiedSector}
use Rattle.plain_disk.specs.State.{PlainState}
use Rattle.plain_disk.specs.Objects.{is_busy}
use Rattle.plain_disk.specs.Collection.{planned_copy, with_copy, after_drop_plan}
use Rattle.refine_log.specs.Fuses.{fuse_in}
use Rattle.vol_core.specs.Volume.{VolumeState, SteppedVolume}
use Rattle.vol_core.specs.Shows.{Shows}
use Rattle.vol_core.specs.Step.{passing}
use Rattle.vol_core.specs.View.{volume_disk}
use Rattle.volume_owner.specs.declared.collecting.Turn.{Turn}
use Rattle.volume_owner.specs.declared.collecting.Turn.TheVariants.{Did, Idle}
use Rattle.volume_owner.specs.declared.collecting_all.Collected.{Collected}
use Rattle.volume_owner.specs.declared.error.OwnerError.{OwnerError}
use Rattle.volume_owner.specs.declared.error.OwnerError.TheVariants.{Range}
use Rattle.volume_owner.specs.Acts.{moment_of}
use Rattle.volume_owner.specs.Tally.{IsTally}
use Rattle.volume_owner.specs.Calls.{IsCall, IsDrained}
use Rattle.volume_owner.specs.Errors.{is_eio}

-- a turn has something to do: no plan of a copy is out, fewer than 16 objects are on their way, and there is a victim
abbrev pub may_collect : PlainState → Bool
may_collect plain = not (is_some plain.plan) && not (is_busy plain) && nat_lt 0 (length (planned_copy plain))

-- a volume shows this plain volume, whose device passes the calls that the volume's does
abbrev pub ShowsAfter : VolumeState → PlainState → Type 0
ShowsAfter volume after = Shows volume (passing (fuse_in (volume_disk volume).budget) after)

-- What a turn did, by a plain volume that the volume showed: it sealed the copy that a collection plans as the next object, where
-- there was something to do, and tells how many sectors that has; or nothing has changed.
abbrev pub CollectsAsPlain : Result Turn OwnerError → PlainState → (new : VolumeState) → Type 0
CollectsAsPlain (Ok (Did sectors)) plain new =
    (may_collect plain ≡ true) × (sectors ≡ length (planned_copy plain)) × ShowsAfter new (with_copy (planned_copy plain) plain)
CollectsAsPlain (Ok Idle) plain new = (may_collect plain ≡ false) × ShowsAfter new plain
CollectsAsPlain (Err error) plain new = ShowsAfter new plain

-- how many steps a turn makes at most
abbrev pub most_of_turn : ℕ
most_of_turn = 3

-- how many sectors a turn copied
abbrev pub copied_in : Turn → ℕ
copied_in (Did sectors) = sectors
copied_in Idle = 0

-- What a turn is: nothing is entered, and the volume after it is the plain volume's after a plan and a seal, or as it was.
pub record CollectOf {R : Type 0} (state : R → ReceiptState) (result : Result Turn OwnerError) (old new : SteppedVolume)
    (old_store new_store : StoreState) : Type 0 where
  pub call : IsCall state most_of_turn [] (is_eio result) old new old_store new_store
  pub turns : (plain : PlainState) → Shows old.volume plain → CollectsAsPlain result plain new.volume
  pub tally : IfOk result (λ turn. IsTally state (copied_in turn) 0 (moment_of old old_store) (moment_of new new_store))
  pub error : IsErrOf result Range → ⊥

-- ---- a whole collection

-- how many steps one makes at most
abbrev pub most_of_collection : ℕ
most_of_collection = 2 ^ 42

-- there is no object that a collection would copy from
abbrev pub HasNoVictim : VolumeState → Type 0
HasNoVictim volume = (plain : PlainState) → Shows volume plain → planned_copy plain ≡ []

-- What a whole collection is: nothing is entered, and where it is answered, no victim is left, and the volume is drained. The
-- answer has how many sectors were copied, and how many objects were removed.
pub record CollectAllOf {R : Type 0} (state : R → ReceiptState) (result : Result Collected OwnerError) (old new : SteppedVolume)
    (old_store new_store : StoreState) : Type 0 where
  pub call : IsCall state most_of_collection [] (is_eio result) old new old_store new_store
  pub tally : IfOk result (λ collected.
      IsTally state collected.copied collected.removed (moment_of old old_store) (moment_of new new_store))
  pub victims : OnOk result (HasNoVictim new.volume)
  pub drained : OnOk result (IsDrained new.volume)
  pub error : IsErrOf result Range → ⊥

-- ---- for this crate's own clauses

-- a plan that was out was given up, and nothing else has changed
abbrev pub GivesUp : (old new : VolumeState) → Type 0
GivesUp old new = (plain : PlainState) → Shows old plain → ShowsAfter new (after_drop_plan plain)

-- what was copied by the plan that is out was sealed, or that plan was given up
abbrev pub SealsAsPlain : Result Turn OwnerError → PlainState → (new : VolumeState) → Type 0
SealsAsPlain (Ok (Did sectors)) plain new =
    (is_busy plain ≡ false)
    × ((pairs : List CopiedSector) → plain.plan ≡ Some pairs → (sectors ≡ length pairs) × ShowsAfter new (with_copy pairs plain))
SealsAsPlain (Ok Idle) plain new = (is_busy plain ≡ true) × ShowsAfter new (after_drop_plan plain)
SealsAsPlain (Err error) plain new = ShowsAfter new (after_drop_plan plain)

abbrev pub EndsPlan : Result Turn OwnerError → (old new : VolumeState) → Type 0
EndsPlan result old new = (plain : PlainState) → Shows old plain → SealsAsPlain result plain new

-- a plain volume of which each object is acknowledged
abbrev pub with_all_put : PlainState → PlainState
with_all_put plain = record plain { window = record { last = plain.window.last; objects = [] } }

-- once each object of a volume is acknowledged, none is a victim
pub record NeedsNoCopy (volume : VolumeState) : Type 0 where
  pub plain : PlainState
  pub shows : Shows volume plain
  pub none : planned_copy (with_all_put plain) ≡ []

-- how many steps the turns of a whole collection make at most, with the puts of their copies
abbrev pub most_of_copies : ℕ
most_of_copies = 2 ^ 39

-- where the last turn copied nothing, there is nothing to copy
abbrev pub NoneIfIdle : Turn → VolumeState → Type 0
NoneIfIdle (Did sectors) volume = sectors ≤ 2 ^ 17
NoneIfIdle Idle volume = NeedsNoCopy volume
