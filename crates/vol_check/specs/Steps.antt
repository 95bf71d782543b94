-- For this crate's own clauses: the steps of a check.
use Rattle.std.specs.Prelude.{◌≡◌, ℕ, zero, suc, ◌<◌, ◌⊎◌, ◌↔◌, Option, Some, None, IsTrue, List, length, take, get_or}
use Rattle.std.specs.BTreeSet.{BTreeSet, contains}
use Rattle.std.specs.List.{All, AllPairs, Contains, filter_map}
use Rattle.std.specs.List.Sorted.{IsStrictlyIncreasing}
use Rattle.std.specs.Ordering.{nat_cmp}
use Rattle.std.specs.declared.cmp.Ordering.{Ordering}
use Rattle.clone_chain.specs.declared.ancestor.Ancestor.{Ancestor}
use Rattle.clone_chain.specs.Chain.{ancestor_at}
use Rattle.lsvd_names.specs.Names.{numbered_name}
use Rattle.lsvd_names.specs.declared.name.NameKind.{NameKind}
use Rattle.lsvd_names.specs.declared.name.NameKind.TheVariants.{Super, Epoch, Object, Hold}
use Rattle.lsvd_names.specs.declared.name.ObjName.{ObjName}
use Rattle.lsvd_objstore.specs.Objects.{Objects, found}
use Rattle.object_format.specs.declared.expected.Expected.{Expected}
use Rattle.object_format.specs.declared.reason.BadObject.{BadObject}
use Rattle.extent_map.specs.declared.extent.Extent.{Extent}
use Rattle.ckpt_format.specs.declared.place.StoredPlace.{StoredPlace}
use Rattle.ckpt_format.specs.Checkpoint.{IsCheckpoint}
use Rattle.ckpt_format.specs.Reading.{IsCheckpointRefusedAs}
use Rattle.object_stream.specs.Stream.{Owners}
use Rattle.stopped_volume.specs.Expected.{expected_alone}
use Rattle.stopped_volume.specs.Holds.{HasCheckpoint}
use Rattle.stopped_volume.specs.Opening.{IsCheckpointOf, owned_by}
use Rattle.object_recovery.specs.declared.error.RecoverError.{RecoverError}
use Rattle.object_recovery.specs.declared.error.RecoverError.TheVariants as errors
use Rattle.object_recovery.specs.declared.judging.ObjectRefusal.{ObjectRefusal}
use Rattle.object_recovery.specs.declared.judging.Reached.{Reached}
use Rattle.object_recovery.specs.Faults.{IsNoAnswer, of_refusal}
use Rattle.object_recovery.specs.Judged.{GoesToGap, JudgesPast}
use Rattle.vol_check.specs.contracts.report.ObjectOfLevelOrd.TheImpl.{ghosts}
use Rattle.vol_check.specs.declared.report.ObjectOfLevel.{ObjectOfLevel}
use Rattle.vol_check.specs.Report.{ComesBefore, HasOwner, IsBadCheckpoint, IsThere, object_at, own_object, owner_at}

-- ---- numbers

-- the number of a name of an object of a volume's stream, and those of all such names, in their order
abbrev pub if_object : NameKind → ℕ → Option ℕ
if_object Super number = None
if_object Epoch number = None
if_object Object number = Some number
if_object Hold number = None

abbrev pub object_number : ObjName → Option ℕ
object_number name = if_object name.kind name.number

abbrev pub object_numbers : List ObjName → List ℕ
object_numbers names = filter_map object_number names

-- a list has just those of the numbers of which this holds, each once, ascending
pub record IsFilterOf (numbers : List ℕ) (Such : ℕ → Type 0) (list : List ℕ) : Type 0 where
  pub ascending : IsStrictlyIncreasing list
  pub same : (number : ℕ) → Contains list number ↔ (Contains numbers number × Such number)

-- ---- sets of objects

-- by level first, then by number
abbrev pub object_cmp : ObjectOfLevel → ObjectOfLevel → Ordering
object_cmp = ghosts.cmp

abbrev pub Has : BTreeSet ObjectOfLevel → ObjectOfLevel → Type 0
Has set object = IsTrue (contains object_cmp set object)

-- such objects were added, and no others
abbrev pub GainsJust : (Which : ObjectOfLevel → Type 0) → (old new : BTreeSet ObjectOfLevel) → Type 0
GainsJust Which old new = (object : ObjectOfLevel) → Has new object ↔ (Has old object ⊎ Which object)

-- the object of a place
abbrev pub object_of : StoredPlace → ObjectOfLevel
object_of place = object_at place.level place.number

-- owners map a sector to an object
abbrev pub MapsObject : Owners → ObjectOfLevel → Type 0
MapsObject owned object = HasOwner owned (owner_at object.level object.number)

-- bytes are the expected checkpoint, and the objects were added that its rows name
abbrev pub AddsRows : (bytes : List ℕ) → Expected → (old new : BTreeSet ObjectOfLevel) → Type 0
AddsRows bytes expected old new =
    (end : ℕ) × (rows : List (Extent StoredPlace)) × IsCheckpoint bytes expected end rows
    × GainsJust (MapsObject (owned_by rows)) old new

-- why they are none
abbrev pub IsWhyNoRows : (bytes : List ℕ) → Expected → RecoverError → Type 0
IsWhyNoRows bytes expected errors.NoCheckpoint = ⊥
IsWhyNoRows bytes expected (errors.BadObject number reason) =
    (number ≡ expected.number) × IsCheckpointRefusedAs bytes expected reason
IsWhyNoRows bytes expected (errors.MissingObject number) = ⊥
IsWhyNoRows bytes expected (errors.BaseMissing uuid) = ⊥
IsWhyNoRows bytes expected errors.StoreFault = ⊥
IsWhyNoRows bytes expected errors.OutOfMemory = Unit {0}

-- ---- what holds keep

-- the checkpoint of this number keeps itself, and each object that it maps
abbrev pub KeepsObject : Expected → Objects → (checkpoint : ℕ) → ObjectOfLevel → Type 0
KeepsObject volume objects checkpoint object =
    (object ≡ own_object checkpoint)
    ⊎ ((end : ℕ) × (owned : Owners) × IsCheckpointOf volume objects checkpoint end owned × MapsObject owned object)

-- the checkpoint of a hold is of the grammar where it is there
abbrev pub IsWholeIfThere : Expected → Objects → (number : ℕ) → Type 0
IsWholeIfThere volume objects number = IsThere volume objects number → HasCheckpoint volume objects number

-- what a hold on the checkpoint of a number keeps was added
pub record AddsKept (volume : Expected) (objects : Objects) (number : ℕ) (old new : BTreeSet ObjectOfLevel) : Type 0 where
  pub adds : GainsJust (KeepsObject volume objects number) old new
  pub whole : IsWholeIfThere volume objects number

-- or its checkpoint is bad
abbrev pub RefusesKept : Expected → Objects → (number : ℕ) → RecoverError → Type 0
RefusesKept volume objects number error =
    IsNoAnswer error
    ⊎ ((reason : BadObject) × (error ≡ errors.BadObject number reason) × IsBadCheckpoint volume objects number reason)

-- the objects that the newest checkpoint maps, with these bytes, and those that holds on these numbers keep
pub record NamesAll (volume : Expected) (objects : Objects) (base : ℕ) (bytes : List ℕ) (holds : List ℕ)
    (named : BTreeSet ObjectOfLevel) : Type 0 where
  pub end : ℕ
  pub rows : List (Extent StoredPlace)
  pub is : IsCheckpoint bytes (expected_alone volume base) end rows
  pub same : (object : ObjectOfLevel) → Has named object
      ↔ (MapsObject (owned_by rows) object
      ⊎ ((checkpoint : ℕ) × Contains holds checkpoint × KeepsObject volume objects checkpoint object))
  pub whole : All (IsWholeIfThere volume objects) holds

-- the checkpoint of the first of the holds is bad whose checkpoint is there and none of the grammar
pub record RefusesFirst (volume : Expected) (objects : Objects) (holds : List ℕ) (error : RecoverError) : Type 0 where
  pub index : ℕ
  pub inside : index < length holds
  pub reason : BadObject
  pub error_is : error ≡ errors.BadObject (get_or holds index 0) reason
  pub bad : IsBadCheckpoint volume objects (get_or holds index 0) reason
  pub before : All (IsWholeIfThere volume objects) (take index holds)

abbrev pub RefusesNamed : Expected → Objects → (holds : List ℕ) → RecoverError → Type 0
RefusesNamed volume objects holds error = IsNoAnswer error ⊎ RefusesFirst volume objects holds error

-- ---- which objects are absent

-- a number is none of a list's, or of a set's
abbrev pub IsNoneOf : List ℕ → (number : ℕ) → Type 0
IsNoneOf numbers number = Contains numbers number → ⊥

abbrev pub IsNotIn : BTreeSet ℕ → (number : ℕ) → Type 0
IsNotIn set number = IsTrue (contains nat_cmp set number) → ⊥

-- an object of the volume's own is absent where this holds of its number, and one of an ancestor where the store does not have it
abbrev pub IsAwayAt : (Gone : ℕ → Type 0) → Objects → List Ancestor → (level number : ℕ) → Type 0
IsAwayAt Gone objects chain zero number = Gone number
IsAwayAt Gone objects chain (suc place) number =
    (ancestor : Ancestor) × (ancestor_at chain (suc place) ≡ Some ancestor)
    × (found objects (numbered_name ancestor.uuid number) ≡ None)

abbrev pub IsAway : (Gone : ℕ → Type 0) → Objects → List Ancestor → ObjectOfLevel → Type 0
IsAway Gone objects chain object = IsAwayAt Gone objects chain object.level object.number

-- a list has just those of some objects of which this holds, each once, ascending
pub record IsPartOf (Among Such : ObjectOfLevel → Type 0) (list : List ObjectOfLevel) : Type 0 where
  pub ascending : AllPairs ComesBefore list
  pub same : (object : ObjectOfLevel) → Contains list object ↔ (Among object × Such object)

-- ---- how far the objects go

-- the objects past one that was reached were judged, up to the first missing number and past it, and none is bad
abbrev pub JudgesTo : Expected → Objects → List ObjName → (from : Reached) → (last : ℕ) → Type 0
JudgesTo volume objects names from last =
    (gap : Reached) × GoesToGap volume objects from gap × JudgesPast volume objects names gap None × (gap.number ≡ last)

-- or one is
abbrev pub RefusesPast : Expected → Objects → List ObjName → (from : Reached) → RecoverError → Type 0
RefusesPast volume objects names from error =
    IsNoAnswer error
    ⊎ ((gap : Reached) × (refusal : ObjectRefusal) × GoesToGap volume objects from gap
    × JudgesPast volume objects names gap (Some refusal) × (error ≡ of_refusal refusal))
