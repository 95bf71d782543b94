-- Contract: what `load` promises of a device that was stopped.
use Rattle.std.specs.Prelude.{◌≡◌, ℕ, ◌≤◌, ◌⊎◌, Bool, true, false, None, List}
use Rattle.lsvd_device.specs.Medium.{Medium, MayLeave, after_sync}
use Rattle.lsvd_device.specs.Calls.{Cost}
use Rattle.lsvd_device.specs.Device.{HoldsSince, DiskState, HoldsNow, MakesCalls, moments_after}
use Rattle.lsvd_device.specs.Memory.{IsSynced}
use Rattle.commit_body.specs.declared.body.CommitBody.{CommitBody}
use Rattle.commit_slot.specs.declared.error.LoadError.{LoadError}
use Rattle.commit_slot.specs.declared.error.LoadError.TheVariants.{NoSlot, DeviceFault}
use Rattle.commit_slot.specs.Slots.{log_of, Reads, ReadsNone}
use Rattle.commit_slot.specs.Commits.{CommitsState, ReadsSettled, IsCommit, LeavesNow}
use Rattle.commit_slot.specs.LogArea.{log_area, LeavesLogArea, KeepsLogAreaSince, MakesLogAreaDurable, HasDurableLogArea}

-- calls that take at most this much: they were all made, or one of them failed
pub record MakesAtMost (most : Cost) (are_made : Bool) (old new : DiskState) : Type 0 where
  pub cost : Cost
  pub most_calls : cost.calls ≤ most.calls
  pub most_changes : cost.changes ≤ most.changes
  pub most_bytes : cost.bytes ≤ most.bytes
  pub calls : MakesCalls cost are_made old new

-- what loading takes at most: a sync, six reads, and what mending takes
abbrev pub load_cost : Cost
load_cost = record { calls = 12; changes = 4; bytes = 513 }

-- the commit is what the device read as
abbrev pub AreRead : (number : ℕ) → CommitBody → DiskState → Type 0
AreRead number body old = HoldsNow (λ now. Reads (log_of old.size) now.bytes body number) old.moments

-- The last commit is what the device read as, each stop leaves it, and leaves the log area just as a read gives it.
pub record AreLoaded (old : DiskState) (commits : CommitsState) : Type 0 where
  pub read : AreRead commits.number commits.body old
  pub finished : commits.unfinished ≡ None
  pub stands : LeavesNow (IsCommit commits.number commits.body) commits.disk
  pub durable : MakesLogAreaDurable old.moments commits.disk.moments
  pub durable_now : HasDurableLogArea commits.disk.moments
  pub synced : HoldsNow IsSynced commits.disk.moments

-- no slot was open, and the device was but synced; or a call failed
abbrev pub FailsToLoad : LoadError → DiskState → DiskState → Type 0
FailsToLoad (NoSlot log) old new =
    (log ≡ log_of old.size)
    × HoldsNow (λ now. ReadsNone (log_of old.size) now.bytes) old.moments
    × (new.moments ≡ moments_after after_sync old.moments)
    × MakesAtMost load_cost true old new
FailsToLoad DeviceFault old new = MakesAtMost load_cost false old new

-- whatever a stop leaves then reads as this commit
abbrev pub LeavesRead : (log number : ℕ) → CommitBody → Medium → Type 0
LeavesRead log number body medium = (left : List ℕ) → MayLeave medium left → Reads log left body number

-- Of a device on which nothing is pending, and which reads as a commit, whatever its other slots are, a stop leaves that
-- commit at each moment since, and the log area just as it was.
abbrev pub LeavesReadSince : DiskState → DiskState → Type 0
LeavesReadSince old new =
    (number : ℕ) (body : CommitBody) → HoldsNow IsSynced old.moments → AreRead number body old
    → HoldsNow (λ before. HoldsSince (λ medium. LeavesRead (log_of old.size) number body medium
    × LeavesLogArea (log_area before.bytes) medium) old.moments new.moments) old.moments

-- loading changes neither what a stop leaves nor the log area
pub record IsCrashSafeLoad (old new : DiskState) : Type 0 where
  pub stands : LeavesReadSince old new
  pub log_area : KeepsLogAreaSince old.moments new.moments

-- the moments are as before, or the device was synced once
abbrev pub AreButSynced : (old new : List Medium) → Type 0
AreButSynced old new = (new ≡ old) ⊎ (new ≡ moments_after after_sync old)

-- a device whose slots are as between two commits is not written, but synced once or not at all
abbrev pub LeavesSettled : DiskState → DiskState → Type 0
LeavesSettled old new =
    (number : ℕ) (body : CommitBody) → HoldsNow (λ now. ReadsSettled (log_of old.size) now.bytes body number) old.moments
    → AreButSynced old.moments new.moments
