-- Contract: on which objects it depends what a store says of a volume as a whole, and how it changes.
use Rattle.std.specs.Prelude.{◌≡◌, ℕ, ◌+◌, ◌<◌, ◌⊎◌, None, List}
use Rattle.clone_chain.specs.declared.ancestor.Ancestor.{Ancestor}
use Rattle.lsvd_base.specs.declared.geometry.Geometry.{Geometry}
use Rattle.lsvd_names.specs.declared.name.NameKind.{NameKind}
use Rattle.lsvd_names.specs.declared.name.NameKind.TheVariants.{Super, Epoch, Object, Hold}
use Rattle.lsvd_names.specs.declared.name.ObjName.{ObjName}
use Rattle.lsvd_names.specs.Names.{super_name, epoch_name, hold_name}
use Rattle.lsvd_objstore.specs.Objects.{Objects, found, KeepsOthers, MayBePut, MayBeRemoved}
use Rattle.super_format.specs.declared.super_object.Super as supers
use Rattle.super_format.specs.Super.{geometry_with}
use Rattle.stopped_volume.specs.Super.{HasSuper, HasNewestEpoch, HasVolume}
use Rattle.super_recovery.specs.Found.{HasEpoch}
use Rattle.super_recovery.specs.Holds.{AreHolds}
use Rattle.super_recovery.specs.Put.{PutsEpoch}

-- ---- other objects

-- the super object of a volume, its epochs and its holds are as they were
pub record KeepsVolume (uuid : List ℕ) (old new : Objects) : Type 0 where
  pub of_super : found new (super_name uuid) ≡ found old (super_name uuid)
  pub of_epochs : (number : ℕ) → found new (epoch_name uuid number) ≡ found old (epoch_name uuid number)
  pub of_holds : (number : ℕ) → found new (hold_name uuid number) ≡ found old (hold_name uuid number)

-- what a store says of the volume is what it said
pub record SaysAsBefore (uuid : List ℕ) (old new : Objects) : Type 0 where
  pub says : (volume : supers.Super) → HasSuper uuid volume old → HasSuper uuid volume new
  pub newest : (number : ℕ) → HasNewestEpoch uuid number old → HasNewestEpoch uuid number new
  pub holds : (numbers : List ℕ) → AreHolds uuid numbers old → AreHolds uuid numbers new
  pub has : (geometry : Geometry) (chain : List Ancestor) (epoch : ℕ) → HasVolume uuid geometry chain epoch old
      → HasVolume uuid geometry chain epoch new

abbrev pub SaysTheSame : Type 0
SaysTheSame = (uuid : List ℕ) (old new : Objects) → KeepsVolume uuid old new → SaysAsBefore uuid old new

-- the kind is that of neither super objects nor epochs nor holds
abbrev pub IsOtherKind : NameKind → Type 0
IsOtherKind Super = ⊥
IsOtherKind Epoch = ⊥
IsOtherKind Object = Unit {0}
IsOtherKind Hold = ⊥

-- the name is that of an object of another kind, or of another volume
abbrev pub IsOtherName : (uuid : List ℕ) → ObjName → Type 0
IsOtherName uuid name = IsOtherKind name.kind ⊎ (name.uuid ≡ uuid → ⊥)

-- where nothing changed but the object with one name, or that was put or removed, acknowledged or not
abbrev pub ChangesOnly : ObjName → Objects → Objects → Type 0
ChangesOnly name old new = KeepsOthers name old new
    ⊎ (((bytes : List ℕ) × MayBePut name bytes old new) ⊎ MayBeRemoved name old new)

abbrev pub OthersKeepVolume : Type 0
OthersKeepVolume = (uuid : List ℕ) (name : ObjName) (old new : Objects) → IsOtherName uuid name → ChangesOnly name old new
    → KeepsVolume uuid old new

-- ---- one volume

abbrev pub HasOneSuper : Type 0
HasOneSuper =
    (uuid : List ℕ) (a b : supers.Super) (objects : Objects) → HasSuper uuid a objects → HasSuper uuid b objects → a ≡ b

abbrev pub HasOneNewest : Type 0
HasOneNewest =
    (uuid : List ℕ) (m n : ℕ) (objects : Objects) → HasNewestEpoch uuid m objects → HasNewestEpoch uuid n objects → m ≡ n

-- its sizes, but for the sectors of its log, its ancestors, and its epoch
abbrev pub HasOneVolume : Type 0
HasOneVolume =
    (uuid : List ℕ) (a b : Geometry) (c d : List Ancestor) (m n : ℕ) (objects : Objects) → HasVolume uuid a c m objects
    → HasVolume uuid b d n objects → (a ≡ record b { log = a.log }) × (c ≡ d) × (m ≡ n)

-- ---- puts

-- the epoch after that of a volume was put
abbrev pub NextEpochIsBegun : Type 0
NextEpochIsBegun =
    (uuid : List ℕ) (geometry : Geometry) (chain : List Ancestor) (epoch : ℕ) (old new : Objects)
    → HasVolume uuid geometry chain epoch old → PutsEpoch uuid (epoch + 1) old new
    → HasVolume uuid geometry chain (epoch + 1) new

-- the super object of a volume stands there, its epoch 0 alone, and no hold
abbrev pub VolumeIsCreated : Type 0
VolumeIsCreated =
    (volume : supers.Super) (geometry : Geometry) (objects : Objects) → geometry ≡ geometry_with volume geometry.log
    → HasSuper volume.uuid volume objects → HasEpoch volume.uuid 0 objects
    → ((number : ℕ) → 0 < number → found objects (epoch_name volume.uuid number) ≡ None)
    → ((number : ℕ) → found objects (hold_name volume.uuid number) ≡ None)
    → HasVolume volume.uuid geometry volume.chain 0 objects
