-- Contract: how the objects that holds keep are marked in a recovered list, and why the checkpoint of a hold is refused.
use Rattle.std.specs.Prelude.{◌≡◌, ℕ, ◌↔◌, ◌⊎◌, ◌==◌, if◌then◌else◌, Option, Some, None, IfSome, List, [], ◌∷◌}
use Rattle.std.specs.Prelude.{Result, IfOk, IfErr}
use Rattle.std.specs.List.{Contains}
use Rattle.lsvd_fault.specs.Faults.{Counts}
use Rattle.lsvd_names.specs.declared.name.ObjName.{ObjName}
use Rattle.lsvd_names.specs.Names.{hold_name}
use Rattle.lsvd_objstore.specs.Objects.{Objects, found}
use Rattle.lsvd_objstore.specs.Store.{StoreState, OnlyCounts}
use Rattle.extent_map.specs.declared.extent.Extent.{Extent}
use Rattle.object_format.specs.declared.expected.Expected.{Expected}
use Rattle.ckpt_format.specs.declared.place.StoredPlace.{StoredPlace}
use Rattle.ckpt_format.specs.Checkpoint.{IsCheckpoint}
use Rattle.ckpt_format.specs.Reading.{IsCheckpointRefusedAs}
use Rattle.object_stream.specs.Replay.{object_name}
use Rattle.stopped_volume.specs.Expected.{expected_alone}
use Rattle.stopped_volume.specs.Holds.{HasCheckpoint, IsMappedBy, IsKeptBy}
use Rattle.stopped_volume.specs.Opening.{owned_by}
use Rattle.object_table.specs.Table.{held}
use Rattle.object_uploads.specs.Removal.{ChangesPinsEach}
use Rattle.obj_log.specs.Changes.{expected_of_volume}
use Rattle.obj_log.specs.State.{ObjLogState}
use Rattle.object_recovery.specs.declared.error.RecoverError.{RecoverError}
use Rattle.object_recovery.specs.declared.error.RecoverError.TheVariants as errors
use Rattle.object_recovery.specs.Earlier.{IsAmongFirst}
use Rattle.object_recovery.specs.Faults.{IsNoAnswer, ends_by_fault}

-- ---- marks

-- the objects of these numbers were marked as those that a hold keeps, one after the other
pub record IsMarked (numbers : List ℕ) (old new : ObjLogState) : Type 0 where
  pub batch : new.batch ≡ old.batch
  pub marks : ChangesPinsEach held numbers old.uploads new.uploads

-- the number of a place's object, where that is the volume's own
abbrev pub own_numbers : StoredPlace → List ℕ
own_numbers place = if place.level == 0 then place.number ∷ [] else []

-- the volume's own objects that rows name were marked, and no others
pub record MarksNamed (rows : List (Extent StoredPlace)) (old new : ObjLogState) : Type 0 where
  pub numbers : List ℕ
  pub marked : IsMarked numbers old new
  pub own : (number : ℕ) → Contains numbers number ↔ IsMappedBy (owned_by rows) number

-- bytes are the expected checkpoint, and those that its rows name were
abbrev pub MarksRows : (bytes : List ℕ) → Expected → (old new : ObjLogState) → Type 0
MarksRows bytes expected old new =
    (end : ℕ) × (rows : List (Extent StoredPlace)) × IsCheckpoint bytes expected end rows × MarksNamed rows old new

-- What such checkpoints keep was marked, and nothing else; where bytes are told, the store has each of these.
pub record MarksKept (Tells : Type 0) (volume : Expected) (told : Option Objects) (Which : ℕ → Type 0) (old new : ObjLogState) :
    Type 0 where
  pub numbers : List ℕ
  pub marked : IsMarked numbers old new
  pub checkpoints : Tells → IfSome told (λ objects. (number : ℕ) → Which number → HasCheckpoint volume objects number)
  pub kept : Tells → IfSome told (λ objects. (number : ℕ)
      → Contains numbers number ↔ ((checkpoint : ℕ) × Which checkpoint × IsKeptBy volume objects checkpoint number))

-- ---- refusals

-- why the checkpoint of a number is refused: it is absent, or its bytes are none, for this first reason
abbrev pub IsWhyNotHeld : Expected → Objects → (number : ℕ) → RecoverError → Type 0
IsWhyNotHeld volume objects number errors.NoCheckpoint = ⊥
IsWhyNotHeld volume objects number (errors.BadObject other reason) =
    (other ≡ number) × (bytes : List ℕ) × (found objects (object_name volume number) ≡ Some bytes)
    × IsCheckpointRefusedAs bytes (expected_alone volume number) reason
IsWhyNotHeld volume objects number (errors.MissingObject other) =
    (other ≡ number) × (found objects (object_name volume number) ≡ None)
IsWhyNotHeld volume objects number (errors.BaseMissing uuid) = ⊥
IsWhyNotHeld volume objects number errors.StoreFault = ⊥
IsWhyNotHeld volume objects number errors.OutOfMemory = ⊥

-- the error refuses it, and the store has no such checkpoint
pub record RefusesHeld (volume : Expected) (objects : Objects) (number : ℕ) (error : RecoverError) : Type 0 where
  pub why : IsWhyNotHeld volume objects number error
  pub not_there : HasCheckpoint volume objects number → ⊥

abbrev pub RefusesOrFails : Expected → Objects → (number : ℕ) → RecoverError → Type 0
RefusesOrFails volume objects number error = IsNoAnswer error ⊎ RefusesHeld volume objects number error

-- ---- among names

-- the hold of a number is among the names of a volume's objects
abbrev pub IsHoldAmong : (uuid : List ℕ) → List ObjName → (number : ℕ) → Type 0
IsHoldAmong uuid names number = Contains names (hold_name uuid number)

-- The error refuses the checkpoint of the hold with one of the names, and the store has those of all holds before it.
pub record RefusesAmong (volume : Expected) (objects : Objects) (names : List ObjName) (error : RecoverError) : Type 0 where
  pub number : ℕ
  pub among : IsHoldAmong volume.uuid names number
  pub before : (other : ℕ) → IsAmongFirst names among.0 (hold_name volume.uuid other) → HasCheckpoint volume objects other
  pub refuses : RefusesHeld volume objects number error

abbrev pub RefusesHolds : Expected → Objects → List ObjName → RecoverError → Type 0
RefusesHolds volume objects names error = IsNoAnswer error ⊎ RefusesAmong volume objects names error

-- how the marking of all that holds keep ends, whose names are among these
pub record HoldsOf (Tells : Type 0) (log : ObjLogState) (names : List ObjName) (old new : StoreState)
    (result : Result ObjLogState RecoverError) : Type 0 where
  pub marks : IfOk result (MarksKept Tells (expected_of_volume log) old.objects (IsHoldAmong log.uploads.uuid names) log)
  pub refused : Tells → IfErr result (λ error. IfSome old.objects (λ objects.
      RefusesHolds (expected_of_volume log) objects names error))
  pub unchanged : OnlyCounts old new
  pub faults : Counts (ends_by_fault result) old.faults new.faults
