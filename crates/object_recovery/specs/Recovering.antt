-- Contract: how a recovery of the objects of a volume ends.
use Rattle.std.specs.Prelude.{◌≡◌, ℕ, ◌+◌, ◌-◌, ◌^◌, ◌<◌, ◌≤◌, ◌⊎◌, Option, Some, None, IfSome, Result, IfOk, IfErr, List}
use Rattle.std.specs.Prelude.{length}
use Rattle.clone_chain.specs.declared.ancestor.Ancestor.{Ancestor}
use Rattle.lsvd_base.specs.declared.geometry.Geometry.{Geometry}
use Rattle.lsvd_fault.specs.Faults.{Counts}
use Rattle.lsvd_objstore.specs.Objects.{Objects}
use Rattle.lsvd_objstore.specs.Store.{StoreState, OnlyCounts}
use Rattle.object_format.specs.declared.expected.Expected.{Expected}
use Rattle.object_stream.specs.Stream.{Owners}
use Rattle.stopped_volume.specs.Ancestors.{uuid_in_chain}
use Rattle.stopped_volume.specs.Holds.{IsHeld, HasCheckpoint, HasHeldCheckpoints}
use Rattle.stopped_volume.specs.Opening.{IsCheckpointOf}
use Rattle.object_uploads.specs.Order.{IsUploads}
use Rattle.obj_log.specs.State.{ObjLogState}
use Rattle.object_recovery.specs.declared.error.RecoverError.{RecoverError}
use Rattle.object_recovery.specs.declared.error.RecoverError.TheVariants as errors
use Rattle.object_recovery.specs.Checkpoints.{expected_of, IsNewestWithEnd}
use Rattle.object_recovery.specs.Faults.{ends_by_fault}
use Rattle.object_recovery.specs.Holding.{RefusesHeld}
use Rattle.object_recovery.specs.Judging.{HaveLanded}
use Rattle.object_recovery.specs.Places.{HasPlacesInside}
use Rattle.object_recovery.specs.Recovery.{IsListUpTo, IsNoLonger, IsRecoveredOf, AreAllGood, AreNamedWholePast}
use Rattle.object_recovery.specs.Recovery.{IsRecoveryRefused, RefusesNoStream}
use Rattle.object_recovery.specs.State.{RecoveredState, HasAllNames}
use Rattle.object_recovery.specs.Table.{HasTableFrom, KnowsObjects, KnowsHolds, FindsNamed}

-- The list is that of the objects of a store, and its checkpoint, which has this number, is their newest. Each of its objects has
-- landed, each object past the checkpoint is good, and each past the list is whole. Its table has just the objects that the store
-- has up to its last, and each place of the checkpoint's rows is in an object that the store has, but for those in objects that
-- ancestors lack. A list whose last number is the greatest of all that a list can have may end before the first missing number.
pub record Recovers (volume : Expected) (uuid_at : ℕ → Option (List ℕ)) (base : ℕ) (objects : Objects) (log : ObjLogState)
    (absent : Option (List ℕ)) : Type 0 where
  pub checkpoint : (end : ℕ) × IsNewestWithEnd volume objects base end
  pub recovered : log.uploads.window.last + 1 < 2 ^ 64 - 1 → IsRecoveredOf volume uuid_at objects log
  pub no_longer : IsNoLonger volume uuid_at objects log.uploads.window.last
  pub landed : HaveLanded objects volume base log.uploads.window.last
  pub good : AreAllGood volume objects base
  pub past : AreNamedWholePast volume objects log.uploads.window.last
  pub knows : KnowsObjects volume objects base log.uploads.queue
  pub finds : (end : ℕ) (owned : Owners) → (checkpoint : IsCheckpointOf volume objects base end owned)
      → FindsNamed volume uuid_at objects checkpoint.rows absent

-- The list of a volume with this chain of ancestors was recovered, with the names of all its objects. Each object of the list is
-- acknowledged, and each place in its map lies inside one, or inside an ancestor's; its objects are in order, and its table is
-- from its checkpoint on. Where bytes are told, it is that of the objects of the store, and its table says which of these a hold
-- keeps.
pub record RecoveredOf (Tells : Type 0) (uuid : List ℕ) (geometry : Geometry) (chain : List Ancestor)
    (objects : Option Objects) (found : RecoveredState) : Type 0 where
  pub list : IsListUpTo uuid geometry (length chain) found.log.uploads.window.last found.log.uploads.queue.end found.log
  pub from : found.checkpoint ≤ found.log.uploads.window.last
  pub order : IsUploads found.log.uploads
  pub places : HasPlacesInside geometry.sectors found.log.uploads.queue
  pub table : HasTableFrom found.checkpoint found.log.uploads.queue
  pub names : HasAllNames objects found
  pub holds : Tells → IfSome objects (λ objects.
      KnowsHolds (expected_of uuid geometry (length chain)) objects found.log.uploads.queue)
  pub told : Tells → IfSome objects (λ objects.
      Recovers (expected_of uuid geometry (length chain)) (uuid_in_chain uuid chain) found.checkpoint objects found.log None)

-- The error refuses the checkpoint of a hold, and the store has that of each hold on a lower number. The objects are recovered,
-- but for those that ancestors lack.
pub record IsHoldRefused (volume : Expected) (uuid_at : ℕ → Option (List ℕ)) (objects : Objects) (error : RecoverError) :
    Type 0 where
  pub base : ℕ
  pub log : ObjLogState
  pub absent : Option (List ℕ)
  pub recovers : Recovers volume uuid_at base objects log absent
  pub number : ℕ
  pub is_held : IsHeld volume objects number
  pub lower : (other : ℕ) → other < number → IsHeld volume objects other → HasCheckpoint volume objects other
  pub refuses : RefusesHeld volume objects number error

-- The error refuses an object that an ancestor lacks. The other objects are recovered, and the store has the checkpoint of each
-- hold.
pub record IsBaseRefused (volume : Expected) (uuid_at : ℕ → Option (List ℕ)) (objects : Objects) (error : RecoverError) :
    Type 0 where
  pub base : ℕ
  pub log : ObjLogState
  pub uuid : List ℕ
  pub recovers : Recovers volume uuid_at base objects log (Some uuid)
  pub holds : HasHeldCheckpoints volume objects
  pub is : error ≡ errors.BaseMissing uuid
  pub no_stream : RefusesNoStream volume uuid_at objects error

-- the error refuses what the store has: the volume's objects, the checkpoint of a hold, or an object that an ancestor lacks
abbrev pub IsRefusedThere : (volume : Expected) → (ℕ → Option (List ℕ)) → Objects → RecoverError → Type 0
IsRefusedThere volume uuid_at objects error =
    IsRecoveryRefused volume uuid_at objects error
    ⊎ IsHoldRefused volume uuid_at objects error ⊎ IsBaseRefused volume uuid_at objects error

-- What a recovery is that was given the names of the volume's objects in the store: it gives the list, or an error, which has its
-- reason in what the store has, where bytes are told. Nothing changes in the store, and a call of it that failed is counted once.
pub record RecoverOf (Tells : Type 0) (uuid : List ℕ) (geometry : Geometry) (chain : List Ancestor) (old new : StoreState)
    (result : Result RecoveredState RecoverError) : Type 0 where
  pub found : IfOk result (RecoveredOf Tells uuid geometry chain old.objects)
  pub refused : Tells → IfErr result (λ error. IfSome old.objects (λ objects.
      IsRefusedThere (expected_of uuid geometry (length chain)) (uuid_in_chain uuid chain) objects error))
  pub unchanged : OnlyCounts old new
  pub faults : Counts (ends_by_fault result) old.faults new.faults
