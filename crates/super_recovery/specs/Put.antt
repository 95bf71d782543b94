-- Contract: what a put of a super object or of an epoch leaves of a store.
use Rattle.std.specs.Prelude.{◌≡◌, ℕ, ◌⊎◌, List}
use Rattle.lsvd_names.specs.Names.{super_name, epoch_name}
use Rattle.lsvd_objstore.specs.Objects.{Objects, KeepsOthers}
use Rattle.super_format.specs.declared.super_object.Super.{Super}
use Rattle.stopped_volume.specs.Super.{HasSuper}
use Rattle.super_recovery.specs.Found.{HasEpoch}

-- the store has the super object of this volume now, and nothing else changed
pub record PutsSuper (volume : Super) (old new : Objects) : Type 0 where
  pub says : HasSuper volume.uuid volume new
  pub others : KeepsOthers (super_name volume.uuid) old new

-- the store has the epoch of this number now, and nothing else changed
pub record PutsEpoch (uuid : List ℕ) (number : ℕ) (old new : Objects) : Type 0 where
  pub has : HasEpoch uuid number new
  pub others : KeepsOthers (epoch_name uuid number) old new

-- what a change leaves that was not acknowledged: what was there, or the whole change
abbrev pub MayBecome : (Change : Objects → Objects → Type 0) → Objects → Objects → Type 0
MayBecome Change old new = (new ≡ old) ⊎ Change old new
