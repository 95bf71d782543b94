-- Contract: what an owner keeps of its volume between its calls, and how many steps these make.
use Rattle.std.specs.Prelude.{◌≡◌, ℕ, ◌^◌, ◌≤◌, None, false, length}
use Rattle.std.specs.List.{list_any}
use Rattle.vol_core.specs.Volume.{VolumeState}
use Rattle.vol_core.specs.View.{objects_on_way, HasNoPins, removal_out}

-- no put of an object is under way, no plan of a read is out, and no removal; and at most 16 objects are on their way
pub record IsIdle (volume : VolumeState) : Type 0 where
  pub puts : list_any (λ object. object.is_started) (objects_on_way volume) ≡ false
  pub plans : HasNoPins volume
  pub none_out : removal_out volume ≡ None
  pub few : length (objects_on_way volume) ≤ 16

-- how many steps a volume may have made before a call, and how many more it has made at most after it
abbrev pub max_steps : ℕ
max_steps = 2 ^ 59

abbrev pub most_of_call : ℕ
most_of_call = 2 ^ 40
