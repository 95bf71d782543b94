-- Contract: what stands in the log area, the bytes past the slots, while commits are made and loaded.
use Rattle.std.specs.Prelude.{◌≡◌, ℕ, ◌⊎◌, List, [], ◌∷◌, drop}
use Rattle.lsvd_device.specs.Medium.{Medium, MayLeave}
use Rattle.lsvd_device.specs.Device.{HoldsSince, DiskState, HoldsNow}
use Rattle.commit_body.specs.declared.body.CommitBody.{CommitBody}
use Rattle.commit_slot.specs.Slots.{log_of}
use Rattle.commit_slot.specs.Commits.{CommitsState, Leaves, IsLast, IsLastOr}

-- the bytes from 4,096 on
abbrev pub log_area : List ℕ → List ℕ
log_area bytes = drop 4096 bytes

-- what a stop leaves of the log area, a stop might have left of it before
abbrev pub LeavesAsBefore : Medium → Medium → Type 0
LeavesAsBefore before medium = (left : List ℕ) → MayLeave medium left → (old : List ℕ) × MayLeave before old
    × (log_area left ≡ log_area old)

-- a stop leaves just these bytes of the log area
abbrev pub LeavesLogArea : List ℕ → Medium → Type 0
LeavesLogArea bytes medium = (left : List ℕ) → MayLeave medium left → log_area left ≡ bytes

-- A read gives the log area as before, and a stop leaves of it what it might have left before, or just what a read gave.
pub record HasSameLogArea (before medium : Medium) : Type 0 where
  pub same : log_area medium.bytes ≡ log_area before.bytes
  pub stop : LeavesAsBefore before medium ⊎ LeavesLogArea (log_area before.bytes) medium

-- so it is at each moment since, and now
abbrev pub KeepsLogAreaSince : List Medium → List Medium → Type 0
KeepsLogAreaSince [] new = new ≡ []
KeepsLogAreaSince (before ∷ past) new = HoldsSince (HasSameLogArea before) (before ∷ past) new
    × HoldsNow (HasSameLogArea before) new

-- a read gives the log area as before
abbrev pub KeepsLogArea : List Medium → List Medium → Type 0
KeepsLogArea [] new = new ≡ []
KeepsLogArea (before ∷ past) new = HoldsNow (λ now. log_area now.bytes ≡ log_area before.bytes) new

-- now a stop leaves the log area just as a read gave it before
abbrev pub MakesLogAreaDurable : List Medium → List Medium → Type 0
MakesLogAreaDurable old new = HoldsNow (λ before. HoldsNow (LeavesLogArea (log_area before.bytes)) new) old

-- now a stop leaves the log area just as a read gives it
abbrev pub HasDurableLogArea : List Medium → Type 0
HasDurableLogArea moments = HoldsNow (λ now. LeavesLogArea (log_area now.bytes) now) moments

-- at a moment of a commit: a stop leaves the last one with the log area as before, or perhaps the new one with all that
-- was written to the log area
abbrev pub IsCommitting : (log : ℕ) → CommitsState → CommitBody → Medium → Medium → Type 0
IsCommitting log commits body before medium =
    (Leaves log (IsLast commits) medium × LeavesAsBefore before medium)
    ⊎ (Leaves log (IsLastOr commits body) medium × LeavesLogArea (log_area before.bytes) medium)

-- so it is at each moment since then
abbrev pub IsCommittingSince : CommitsState → CommitBody → DiskState → Type 0
IsCommittingSince commits body new = HoldsNow (λ before. HoldsSince (IsCommitting (log_of commits.disk.size) commits body before)
    commits.disk.moments new.moments) commits.disk.moments
