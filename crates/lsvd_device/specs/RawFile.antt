-- Contract: an open file, as a disk over it has it, and what the calls of the system do to it.
use Rattle.std.specs.Prelude.{◌≡◌, ℕ, ◌⊎◌, Bool, true, false, cond, List, [], ◌∷◌, ◌++◌, take, Option, Some, None}
use Rattle.lsvd_device.specs.Medium.{Medium, durable, IsTorn}

-- a file
pub record RawState : Type 0 where
  -- what it holds now
  pub now : Medium
  -- what it held before, the newest first, back to when its length was first there for good
  pub past : List Medium
  -- whether its length outlasts a stop; where it does not, a stop may leave any bytes
  pub sized : Bool
  -- whether its name outlasts a stop
  pub named : Bool
  -- Whether a sync of it has failed. The system may have given up what it could not write, and says so only once; so no later
  -- sync is trusted.
  pub doubted : Bool

-- its length outlasts a stop
abbrev pub IsSized : RawState → Type 0
IsSized file = file.sized ≡ true

-- where a file tells its state, a call changes it so, and it goes on telling
abbrev pub Alters : (RawState → RawState → Type 0) → Option RawState → Option RawState → Type 0
Alters Change None new = new ≡ None
Alters Change (Some old) None = ⊥
Alters Change (Some old) (Some new) = Change old new

-- what it holds and held, where it tells that
abbrev pub moments_told : Option RawState → List Medium
moments_told None = []
moments_told (Some file) = file.now ∷ file.past

-- one moment more: what it holds after a step
abbrev pub moved_on : (Medium → Medium) → RawState → RawState
moved_on step file = record file { now = step file.now; past = file.now ∷ file.past }

-- a write of `count` bytes inside of it failed: it was not begun, or any bytes may stand in its range
abbrev pub FailsInside : ℕ → ℕ → RawState → RawState → Type 0
FailsInside at count old new =
    (new ≡ old) ⊎ ((torn : Medium) × IsTorn at count old.now torn × (new ≡ record old { now = torn; past = old.now ∷ old.past }))

-- it was cut to no bytes
abbrev pub after_cut : RawState → RawState
after_cut file = record file { now = record file.now { bytes = [] }; past = []; sized = false }

-- bytes were added at its end
abbrev pub extended : List ℕ → RawState → RawState
extended piece file = record file { now = record file.now { bytes = file.now.bytes ++ piece }; past = []; sized = false }

-- a front of a piece was added, and then the call failed
abbrev pub ExtendsPart : List ℕ → RawState → RawState → Type 0
ExtendsPart piece old new = (count : ℕ) × (new ≡ extended (take count piece) old)

-- what it holds is there for good
abbrev pub settled : RawState → RawState
settled file = record file { now = durable file.now.bytes; past = cond file.sized (file.now ∷ file.past) []; sized = true }

-- it was synced; where a sync has failed before, this one settles nothing
abbrev pub after_raw_sync : RawState → RawState
after_raw_sync file = cond file.doubted file (settled file)

-- a sync of it failed
abbrev pub doubted_raw : RawState → RawState
doubted_raw file = record file { doubted = true }

-- its name outlasts a stop
abbrev pub named_raw : RawState → RawState
named_raw file = record file { named = true }
