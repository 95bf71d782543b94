-- Contract: what is found of a volume as a whole in a store, or why it is refused.
use Rattle.std.specs.Prelude.{◌≡◌, ℕ, ◌^◌, ◌<◌, ◌≤◌, Option, Some, None, IsSome, List}
use Rattle.std.specs.List.{Contains}
use Rattle.clone_chain.specs.declared.ancestor.Ancestor.{Ancestor}
use Rattle.lsvd_base.specs.declared.geometry.Geometry.{Geometry}
use Rattle.lsvd_names.specs.declared.name.NameKind.TheVariants as kinds
use Rattle.lsvd_names.specs.declared.name.ObjName.{ObjName}
use Rattle.lsvd_names.specs.Names.{super_name, epoch_name}
use Rattle.lsvd_objstore.specs.Objects.{Objects, found}
use Rattle.super_format.specs.declared.epoch.Epoch.{Epoch}
use Rattle.super_format.specs.declared.super_object.Super.{Super}
use Rattle.super_format.specs.Epoch.{IsEpoch}
use Rattle.super_format.specs.Super.{geometry_with}
use Rattle.super_format.specs.Tests.{IsSuperRefusedAs}
use Rattle.stopped_volume.specs.Super.{HasSuper, HasNewestEpoch, HasVolume}
use Rattle.refusals.specs.declared.bad_super.BadSuper.TheVariants as reasons
use Rattle.super_recovery.specs.declared.error.SuperError.{SuperError}
use Rattle.super_recovery.specs.declared.error.SuperError.TheVariants as errors
use Rattle.super_recovery.specs.declared.finding.FoundVolume.{FoundVolume}
use Rattle.super_recovery.specs.Faults.{IsNoAnswer}
use Rattle.super_recovery.specs.Holds.{AreHolds, HasBadHold}

-- ---- objects and names

-- the greatest number among names of epochs
pub record IsGreatestEpoch (names : List ObjName) (number : ℕ) : Type 0 where
  pub name : ObjName
  pub listed : Contains names name
  pub of_epoch : name.kind ≡ kinds.Epoch
  pub number_is : name.number ≡ number
  pub greatest : (other : ObjName) → Contains names other → other.kind ≡ kinds.Epoch → other.number ≤ number

-- and none where no name is that of an epoch
abbrev pub IsGreatestIn : List ObjName → Option ℕ → Type 0
IsGreatestIn names None = (name : ObjName) → Contains names name → name.kind ≡ kinds.Epoch → ⊥
IsGreatestIn names (Some number) = IsGreatestEpoch names number

-- ---- supers and epochs

-- the store has a super object of the volume, of the grammar
abbrev pub HasSomeSuper : (uuid : List ℕ) → Objects → Type 0
HasSomeSuper uuid objects = (volume : Super) × HasSuper uuid volume objects

-- the store has the epoch of this number, of the grammar
pub record HasEpoch (uuid : List ℕ) (number : ℕ) (objects : Objects) : Type 0 where
  pub bytes : List ℕ
  pub present : found objects (epoch_name uuid number) ≡ Some bytes
  pub epoch : Epoch
  pub is_epoch : IsEpoch bytes uuid number epoch

-- it has none of the volume
abbrev pub HasNoEpoch : (uuid : List ℕ) → Objects → Type 0
HasNoEpoch uuid objects = (number : ℕ) → number < 2 ^ 64 → found objects (epoch_name uuid number) ≡ None

-- that with the greatest number has this one, and is none of the grammar
pub record HasBadEpoch (uuid : List ℕ) (number : ℕ) (objects : Objects) : Type 0 where
  pub present : IsSome (found objects (epoch_name uuid number))
  pub bad : HasEpoch uuid number objects → ⊥
  pub newest : (other : ℕ) → number < other → other < 2 ^ 64 → found objects (epoch_name uuid other) ≡ None

-- it has one that is the newest
abbrev pub HasSomeNewest : (uuid : List ℕ) → Objects → Type 0
HasSomeNewest uuid objects = (number : ℕ) × HasNewestEpoch uuid number objects

-- ---- reasons

-- why no newest epoch was read
abbrev pub IsWhyNoEpoch : (uuid : List ℕ) → Objects → SuperError → Type 0
IsWhyNoEpoch uuid objects errors.NoVolume = ⊥
IsWhyNoEpoch uuid objects (errors.BadSuper (reasons.Super reason)) = ⊥
IsWhyNoEpoch uuid objects (errors.BadSuper reasons.NoEpoch) = HasNoEpoch uuid objects
IsWhyNoEpoch uuid objects (errors.BadSuper (reasons.BadEpoch number)) = HasBadEpoch uuid number objects
IsWhyNoEpoch uuid objects (errors.BadSuper (reasons.BadHold number)) = ⊥
IsWhyNoEpoch uuid objects errors.StoreFault = Unit {0}
IsWhyNoEpoch uuid objects errors.OutOfMemory = Unit {0}

-- why the volume is refused; for its epochs only where it has a super object of the grammar, and for its holds only where it has
-- a newest epoch of the grammar too
abbrev pub IsWhyVolumeRefused : (uuid : List ℕ) → Objects → SuperError → Type 0
IsWhyVolumeRefused uuid objects errors.NoVolume = found objects (super_name uuid) ≡ None
IsWhyVolumeRefused uuid objects (errors.BadSuper (reasons.Super reason)) =
    (bytes : List ℕ) × (found objects (super_name uuid) ≡ Some bytes) × IsSuperRefusedAs bytes uuid reason
IsWhyVolumeRefused uuid objects (errors.BadSuper reasons.NoEpoch) = HasSomeSuper uuid objects × HasNoEpoch uuid objects
IsWhyVolumeRefused uuid objects (errors.BadSuper (reasons.BadEpoch number)) = HasSomeSuper uuid objects
    × HasBadEpoch uuid number objects
IsWhyVolumeRefused uuid objects (errors.BadSuper (reasons.BadHold number)) = HasSomeSuper uuid objects
    × HasSomeNewest uuid objects × HasBadHold uuid number objects
IsWhyVolumeRefused uuid objects errors.StoreFault = Unit {0}
IsWhyVolumeRefused uuid objects errors.OutOfMemory = Unit {0}

-- ---- the whole

-- what was found is a volume of these sizes, with these ancestors, in this epoch
pub record IsFoundVolume (geometry : Geometry) (chain : List Ancestor) (epoch : ℕ) (it : FoundVolume) : Type 0 where
  pub sizes : geometry ≡ geometry_with it.volume geometry.log
  pub chain_is : it.volume.chain ≡ chain
  pub epoch_is : it.epoch ≡ epoch

-- the volume that was found is what the store says of it, and so the one that the store has, if it has one
pub record IsFound (uuid : List ℕ) (objects : Objects) (it : FoundVolume) : Type 0 where
  pub says : HasSuper uuid it.volume objects
  pub newest : HasNewestEpoch uuid it.epoch objects
  pub holds : AreHolds uuid it.holds.items objects
  pub only : (geometry : Geometry) (chain : List Ancestor) (epoch : ℕ) → HasVolume uuid geometry chain epoch objects
      → IsFoundVolume geometry chain epoch it

-- an error with its reason, which refuses no volume that the store has
pub record IsVolumeRefused (uuid : List ℕ) (objects : Objects) (error : SuperError) : Type 0 where
  pub why : IsWhyVolumeRefused uuid objects error
  pub no_volume : (geometry : Geometry) (chain : List Ancestor) (epoch : ℕ) → HasVolume uuid geometry chain epoch objects
      → IsNoAnswer error
