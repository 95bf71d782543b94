-- Contract: what is seen of a disk, and what its calls do.
use Rattle.std.specs.Prelude.{◌≡◌, ℕ, ◌^◌, ◌<◌, ◌⊎◌, Option, Bool, false, not, List, [], ◌∷◌, ◌++◌, length}
use Rattle.std.specs.List.{AllByRecursion}
use Rattle.lsvd_fault.specs.Faults.{Counts}
use Rattle.lsvd_device.specs.Medium.{Medium, IsTorn}
use Rattle.lsvd_device.specs.Calls.{Budget, Cost, Takes}

-- a disk
pub record DiskState : Type 0 where
  -- its length in bytes
  pub size : ℕ
  -- What it holds now, and before that what it held at each earlier moment, where it tells them. A disk that
  -- tells nothing has none.
  pub moments : List Medium
  -- how often a call has failed; the count stands at the greatest number of its type
  pub faults : ℕ
  -- the calls that it still passes, where it tells them
  pub budget : Option Budget

-- what a disk of this length holds
pub record HasSize (size : ℕ) (medium : Medium) : Type 0 where
  pub bytes : length medium.bytes ≡ size
  pub synced : length medium.synced ≡ size

-- a disk is as long as a number can tell, and so is all that it ever held
pub record IsDisk (disk : DiskState) : Type 0 where
  pub fits : disk.size < 2 ^ 64
  pub media : AllByRecursion (HasSize disk.size) disk.moments

-- the newest moment, where there is one, has P
abbrev pub HoldsNow : (Medium → Type 0) → List Medium → Type 0
HoldsNow P [] = Unit {0}
HoldsNow P (now ∷ past) = P now

-- the moments of a disk after calls, at each of which since then P holds
pub record HoldsSince (P : Medium → Type 0) (old new : List Medium) : Type 0 where
  pub since : List Medium
  pub moments : new ≡ since ++ old
  pub each : AllByRecursion P since

-- one moment more: what the newest one holds after a step
abbrev pub moments_after : (Medium → Medium) → List Medium → List Medium
moments_after step [] = []
moments_after step (now ∷ past) = step now ∷ now ∷ past

-- A write of `count` bytes that failed was not begun, or any bytes may stand in its range.
abbrev pub FailsToWrite : ℕ → ℕ → List Medium → List Medium → Type 0
FailsToWrite at count [] new = new ≡ []
FailsToWrite at count (now ∷ past) new =
    (new ≡ now ∷ past) ⊎ ((torn : Medium) × IsTorn at count now torn × (new ≡ torn ∷ now ∷ past))

-- What calls leave of a disk, beside what it holds: they were all made, or one of them failed, which ended them. A call
-- that failed was counted once, and nothing else was.
pub record MakesCalls (cost : Cost) (are_made : Bool) (old new : DiskState) : Type 0 where
  pub size : new.size ≡ old.size
  pub faults : Counts (not are_made) old.faults new.faults
  pub budget : Takes cost are_made old.budget new.budget

-- a call failed, and changed nothing but the count
abbrev pub FailsAlone : Bool → DiskState → DiskState → Type 0
FailsAlone is_made old new = (is_made ≡ false) × (new ≡ record old { faults = new.faults })
