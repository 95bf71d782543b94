-- Contract: what a store says of a volume as a whole: its super object, its epochs and its holds.
use Rattle.std.specs.Prelude.{◌≡◌, ℕ, ◌^◌, ◌<◌, Some, None, is_some, IsTrue, List}
use Rattle.clone_chain.specs.declared.ancestor.Ancestor.{Ancestor}
use Rattle.lsvd_base.specs.declared.geometry.Geometry.{Geometry}
use Rattle.lsvd_names.specs.Names.{super_name, epoch_name, hold_name}
use Rattle.lsvd_objstore.specs.Objects.{Objects, found}
use Rattle.super_format.specs.declared.epoch.Epoch.{Epoch}
use Rattle.super_format.specs.declared.hold.Hold.{Hold}
use Rattle.super_format.specs.declared.super_object.Super.{Super}
use Rattle.super_format.specs.Super.{IsSuper, geometry_with}
use Rattle.super_format.specs.Epoch.{IsEpoch}
use Rattle.super_format.specs.Hold.{IsHold}

-- the store has the super object of a volume, which says this
pub record HasSuper (uuid : List ℕ) (volume : Super) (objects : Objects) : Type 0 where
  pub bytes : List ℕ
  pub present : found objects (super_name uuid) ≡ Some bytes
  pub is_super : IsSuper bytes uuid volume

-- the store has the epoch of this number, of the grammar, and none of a greater number that a name may have
pub record HasNewestEpoch (uuid : List ℕ) (number : ℕ) (objects : Objects) : Type 0 where
  pub bytes : List ℕ
  pub present : found objects (epoch_name uuid number) ≡ Some bytes
  pub epoch : Epoch
  pub is_epoch : IsEpoch bytes uuid number epoch
  pub newest : (other : ℕ) → number < other → other < 2 ^ 64 → found objects (epoch_name uuid other) ≡ None

-- The store has a volume: its super object, which says these sizes and these ancestors, its epochs, of which this is the newest,
-- and its holds, if it has any. The sectors of its log are those of its device.
pub record HasVolume (uuid : List ℕ) (geometry : Geometry) (chain : List Ancestor) (epoch : ℕ) (objects : Objects) : Type 0 where
  pub volume : Super
  pub says : HasSuper uuid volume objects
  pub sizes : geometry ≡ geometry_with volume geometry.log
  pub chain_is : volume.chain ≡ chain
  pub epochs : HasNewestEpoch uuid epoch objects
  pub whole : (number : ℕ) (bytes : List ℕ) → found objects (epoch_name uuid number) ≡ Some bytes → (older : Epoch)
      × IsEpoch bytes uuid number older
  pub holds : (number : ℕ) (bytes : List ℕ) → found objects (hold_name uuid number) ≡ Some bytes → (hold : Hold)
      × IsHold bytes uuid number hold
