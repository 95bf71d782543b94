-- Contract: what store and device have that pass all tests of a mount.
use Rattle.std.specs.Prelude.{◌≡◌, ℕ, ◌<◌, ◌≤◌, max, Option, IfSome, List, [], ◌∷◌, length}
use Rattle.std.specs.List.{AllByRecursion}
use Rattle.clone_chain.specs.declared.ancestor.Ancestor.{Ancestor}
use Rattle.lsvd_base.specs.declared.geometry.Geometry.{Geometry}
use Rattle.lsvd_device.specs.Device.{DiskState}
use Rattle.lsvd_objstore.specs.Objects.{Objects}
use Rattle.stopped_volume.specs.Ancestors.{uuid_in_chain}
use Rattle.stopped_volume.specs.Device.{CacheOwner}
use Rattle.stopped_volume.specs.Holds.{HasHeldCheckpoints}
use Rattle.object_recovery.specs.Checkpoints.{expected_of}
use Rattle.object_recovery.specs.Judging.{HaveLanded}
use Rattle.object_recovery.specs.Recovery.{IsLastLanded, AreAllGood}
use Rattle.vol_core.specs.Shows.{max_number}
use Rattle.vol_mount.specs.Refusals.{HasExtent, AreAllNamed, ReadsWhole, IsOwnCommit}

-- ---- the store

-- The objects of a volume in a store are good from the newest checkpoint on, those that it names and the checkpoint of each hold
-- are there, and the one of this number is that before the first missing one.
pub record AreGoodUpTo (uuid : List ℕ) (geometry : Geometry) (chain : List Ancestor) (number : ℕ)
    (objects : Objects) : Type 0 where
  pub base : ℕ
  pub numbered : 0 < base
  pub from : base ≤ number
  pub good : AreAllGood (expected_of uuid geometry (length chain)) objects base
  pub named : AreAllNamed (expected_of uuid geometry (length chain)) (uuid_in_chain uuid chain) objects base
  pub holds : HasHeldCheckpoints (expected_of uuid geometry (length chain)) objects
  pub landed : HaveLanded objects (expected_of uuid geometry (length chain)) base number
  pub last : IsLastLanded (expected_of uuid geometry (length chain)) objects number

-- none of these is so great that a volume is worn out
abbrev pub AreNotWorn : List ℕ → Type 0
AreNotWorn numbers = AllByRecursion (λ number. number < max_number) numbers

-- A store passes for a mount without the cache: its objects are good up to a number, so many entries are in them, and no number
-- is too great.
pub record PassesStored (uuid : List ℕ) (geometry : Geometry) (chain : List Ancestor) (epoch : ℕ) (objects : Option Objects)
    (number entries : ℕ) :
    Type 0 where
  pub good : IfSome objects (AreGoodUpTo uuid geometry chain number)
  pub greatest : ℕ
  pub extent : HasExtent uuid geometry chain objects greatest entries
  pub low : AreNotWorn (epoch ∷ greatest ∷ entries ∷ [])

-- ---- with the device

-- Store and device pass for a mount with the cache: the objects are good up to a number. The device reads as a commit of
-- this owner, whose tail is not past their end and which has its records up to the head. So many entries are up to the
-- later of the two, and no number is too great.
pub record PassesLeft (owner : CacheOwner) (geometry : Geometry) (chain : List Ancestor) (objects : Option Objects)
    (disk : DiskState)
    (number entries : ℕ) : Type 0 where
  pub good : IfSome objects (AreGoodUpTo owner.uuid geometry chain number)
  pub greatest : ℕ
  pub end : ℕ
  pub extent : HasExtent owner.uuid geometry chain objects greatest end
  pub low : AreNotWorn (owner.epoch ∷ greatest ∷ entries ∷ [])
  pub device : ReadsWhole geometry (λ commit body. IsOwnCommit owner end body × (commit < max_number)
      × (entries ≡ max end body.head.seq)) disk
