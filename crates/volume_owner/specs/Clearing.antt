-- For this crate's own clauses: how far a drain has come once nothing is left to seal.
use Rattle.std.specs.Prelude.{◌≡◌, ℕ, ◌^◌, Bool, true, false, [], ◌∷◌}
use Rattle.upload_window.specs.declared.object.OpenObject.{OpenObject}
use Rattle.vol_core.specs.Volume.{VolumeState}
use Rattle.vol_core.specs.View.{acknowledged_checkpoint, last_object, objects_on_way, unsealed_entries}
use Rattle.volume_owner.specs.Calls.{HasNoneToRemove}

-- each entry is in an object, each object is acknowledged, and the newest is a checkpoint
pub record HasAllPut (volume : VolumeState) : Type 0 where
  pub unsealed : unsealed_entries volume ≡ []
  pub on_way : objects_on_way volume ≡ []
  pub checkpoint : acknowledged_checkpoint volume ≡ last_object volume

-- each entry is in an object, and of the objects just the newest is on its way, which is a checkpoint
pub record AwaitsCheckpoint (volume : VolumeState) : Type 0 where
  pub unsealed : unsealed_entries volume ≡ []
  pub object : OpenObject
  pub on_way : objects_on_way volume ≡ object ∷ []
  pub is_checkpoint : object.is_checkpoint ≡ true
  pub number : object.number ≡ last_object volume

-- a checkpoint was sealed, which is to be put; or the newest object is one
abbrev pub IsSealedUp : (has_sealed : Bool) → VolumeState → Type 0
IsSealedUp true volume = AwaitsCheckpoint volume
IsSealedUp false volume = HasAllPut volume

-- where none was removed, none may be
abbrev pub NoneIfNot : (has_removed : Bool) → VolumeState → Type 0
NoneIfNot true volume = Unit {0}
NoneIfNot false volume = HasNoneToRemove volume

-- how many that is
abbrev pub count_of_removed : (has_removed : Bool) → ℕ
count_of_removed true = 1
count_of_removed false = 0

-- how many steps the helps of a drain make at most, and its removals
abbrev pub most_of_helps : ℕ
most_of_helps = 2 ^ 36

abbrev pub most_of_removals : ℕ
most_of_removals = 2 ^ 38
