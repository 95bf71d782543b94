-- Contract: what a store says of a volume that is mounted, and what is claimed of the volume that it has.
use Rattle.std.specs.Prelude.{◌≡◌, ℕ, false, ◌⊎◌, Option, IsSomeAnd, IfSome, List}
use Rattle.clone_chain.specs.declared.ancestor.Ancestor.{Ancestor}
use Rattle.lsvd_base.specs.declared.geometry.Geometry.{Geometry}
use Rattle.lsvd_base.specs.Limits.{is_within_limits}
use Rattle.lsvd_objstore.specs.Objects.{Objects}
use Rattle.super_format.specs.declared.super_object.Super.{Super}
use Rattle.super_format.specs.Super.{geometry_with}
use Rattle.stopped_volume.specs.Ancestors.{HasAncestors}
use Rattle.stopped_volume.specs.Super.{HasSuper, HasNewestEpoch, HasVolume}
use Rattle.super_recovery.specs.declared.error.SuperError.TheVariants as supers
use Rattle.super_recovery.specs.Ancestors.{IsNearestMissing}
use Rattle.super_recovery.specs.Found.{IsVolumeRefused}
use Rattle.super_recovery.specs.Holds.{AreHolds}
use Rattle.refusals.specs.declared.refusal.Refusal.TheVariants.{NoVolume, BadSuper, BaseMissing}
use Rattle.vol_mount.specs.declared.error.MountError.{MountError}
use Rattle.vol_mount.specs.declared.error.MountError.TheVariants.{Refused, StoreFault, OutOfMemory}
use Rattle.vol_mount.specs.Refusals.{IsUnfitting}

-- the store has a volume of these sizes and in this newest epoch, and its ancestors
abbrev pub HasWithAncestors : (uuid : List ℕ) → Geometry → List Ancestor → (epoch : ℕ) → Objects → Type 0
HasWithAncestors uuid geometry chain epoch objects = HasVolume uuid geometry chain epoch objects × HasAncestors objects chain

-- Whatever volume the store has with its ancestors, with these sizes on a device whose log has so many sectors, and in this
-- newest epoch.
abbrev pub OfVolume : (uuid : List ℕ) → (log : ℕ) → Option Objects → (Geometry → List Ancestor → ℕ → Type 0) → Type 0
OfVolume uuid log objects P =
    (geometry : Geometry) (chain : List Ancestor) (epoch : ℕ) → geometry.log ≡ log
    → IsSomeAnd objects (HasWithAncestors uuid geometry chain epoch) → P geometry chain epoch

-- it has these sizes, these ancestors and this epoch, if it has one
abbrev pub IsTheVolume : (uuid : List ℕ) → (log : ℕ) → Option Objects → Geometry → List Ancestor → (epoch : ℕ) → Type 0
IsTheVolume uuid log objects geometry chain epoch =
    OfVolume uuid log objects (λ g c e. (geometry ≡ g) × (chain ≡ c) × (epoch ≡ e))

-- the store says that there is a volume with these ancestors, which has these sizes on such a device, that this is its newest
-- epoch, and that its holds are on these checkpoints, each of the grammar; and it has the ancestors
pub record SaysVolume (uuid : List ℕ) (geometry : Geometry) (chain : List Ancestor) (epoch : ℕ) (objects : Objects) : Type 0 where
  pub volume : Super
  pub says : HasSuper uuid volume objects
  pub sizes : geometry ≡ geometry_with volume geometry.log
  pub chain_is : volume.chain ≡ chain
  pub ancestors : HasAncestors objects chain
  pub newest : HasNewestEpoch uuid epoch objects
  pub held : List ℕ
  pub holds : AreHolds uuid held objects

-- why the volume as a whole is refused, where receipts tell what they stand for
abbrev pub IsWhyNotDescribed : (uuid : List ℕ) → Option Objects → MountError → Type 0
IsWhyNotDescribed uuid objects (Refused NoVolume) = IfSome objects (λ objects. IsVolumeRefused uuid objects supers.NoVolume)
IsWhyNotDescribed uuid objects (Refused (BadSuper reason)) =
    IfSome objects (λ objects. IsVolumeRefused uuid objects (supers.BadSuper reason))
IsWhyNotDescribed uuid objects (Refused (BaseMissing ancestor)) =
    IfSome objects (λ objects. (volume : Super) × HasSuper uuid volume objects × IsNearestMissing volume.chain objects ancestor)
IsWhyNotDescribed uuid objects StoreFault = Unit {0}
IsWhyNotDescribed uuid objects OutOfMemory = Unit {0}
IsWhyNotDescribed uuid objects error = ⊥

-- why a volume of these sizes in this epoch is refused: the log of the device does not fit it, or for such a reason
abbrev pub IsWhyFor : (uuid : List ℕ) → Option Objects → (Geometry → List Ancestor → ℕ → MountError → Type 0) → Geometry
    → List Ancestor → ℕ → MountError → Type 0
IsWhyFor uuid objects Why geometry chain epoch error =
    ((is_within_limits geometry ≡ false) × IsUnfitting uuid geometry chain objects error) ⊎ Why geometry chain epoch error

-- Why a volume is not mounted: it is refused as a whole, or for such a reason by what the store says of it.
abbrev pub IsWhyOf : (uuid : List ℕ) → (log : ℕ) → Option Objects → (Geometry → List Ancestor → ℕ → MountError → Type 0)
    → MountError → Type 0
IsWhyOf uuid log objects Why error =
    IsWhyNotDescribed uuid objects error
    ⊎ ((geometry : Geometry) × (chain : List Ancestor) × (epoch : ℕ) × (geometry.log ≡ log)
    × IfSome objects (SaysVolume uuid geometry chain epoch) × IsWhyFor uuid objects Why geometry chain epoch error)
