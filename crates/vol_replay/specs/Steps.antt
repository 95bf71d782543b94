-- For this crate's own clauses: what the parts of a churn make of a rig, by each plain volume that it showed.
use Rattle.std.specs.Prelude.{◌≡◌, ℕ, None, List}
use Rattle.plain_disk.specs.State.{PlainState}
use Rattle.replay_rig.specs.Rig.{RigState, ShowsPlain}
use Rattle.vol_replay.specs.Churn.{ChurnState, IsChurn, RunsTo, ReadsTo, Takes, churn_geometry, mounts_of, next_command}

-- a volume of a churn, whose device was not told to stop, and so fails no call
pub record IsChurned (plain : PlainState) : Type 0 where
  pub geometry : plain.geometry ≡ churn_geometry
  pub unstopped : plain.cache.left ≡ None

-- the rig shows such a volume
pub record ShowsChurned (rig : RigState) (plain : PlainState) : Type 0 where
  pub shows : ShowsPlain rig plain
  pub churned : IsChurned plain

-- the rig took the next command, which mounts the volume so often
pub record TakesNext (draws mounts : ℕ) (old new : RigState) : Type 0 where
  pub by : (plain : PlainState) → ShowsChurned old plain
      → (next : PlainState) × Takes plain (next_command plain draws) next × (mounts ≡ mounts_of (next_command plain draws))
      × ShowsChurned new next

-- it ran so many steps of a seed's script
pub record HasRun (seed steps : ℕ) (draws mounts : ℕ) (rig : RigState) : Type 0 where
  pub state : ChurnState
  pub runs : RunsTo seed steps state
  pub draws_is : state.draws ≡ draws
  pub mounts_is : state.mounts ≡ mounts
  pub shows : ShowsChurned rig state.plain

-- it made so many reads of the whole volume
pub record HasRead (reads : ℕ) (old new : RigState) : Type 0 where
  pub by : (plain : PlainState) → ShowsChurned old plain
      → (last : PlainState) × ReadsTo reads plain last × ShowsChurned new last

-- the bytes sum a churn up, and the rig shows what that leaves
pub record IsSummedUp (seed steps : ℕ) (rig : RigState) (text : List ℕ) : Type 0 where
  pub last : PlainState
  pub churn : IsChurn seed steps text last
  pub shows : ShowsPlain rig last
