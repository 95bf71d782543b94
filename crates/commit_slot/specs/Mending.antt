-- For this crate's own clauses: the newest commit in the slots of a device that was stopped, and how the others are mended.
use Rattle.std.specs.Prelude.{◌≡◌, ◌≢◌, ℕ, ◌+◌, ◌%◌, ◌<◌, ◌⊎◌, List}
use Rattle.lsvd_bytes.specs.Places.{bytes_at}
use Rattle.lsvd_device.specs.Medium.{Medium}
use Rattle.lsvd_device.specs.Calls.{Cost}
use Rattle.lsvd_device.specs.Device.{HoldsSince, DiskState, HoldsNow}
use Rattle.lsvd_device.specs.Memory.{IsSynced}
use Rattle.commit_body.specs.declared.body.CommitBody.{CommitBody}
use Rattle.commit_body.specs.Body.{IsBody}
use Rattle.commit_slot.specs.Lasting.{Lasts}
use Rattle.commit_slot.specs.Slots.{log_of, body_at, gate_at}
use Rattle.commit_slot.specs.Commits.{IsOlder}
use Rattle.commit_slot.specs.States.{IsOpen, IsClosed, IsSettled}

-- a slot is closed, or has no newer body than this commit's
abbrev pub IsPassedOver : (log number slot : ℕ) → Medium → Type 0
IsPassedOver log number slot medium = Lasts (gate_at slot) 1 IsClosed medium
    ⊎ Lasts (body_at slot) 512 (IsOlder log slot number) medium

-- the newest commit stands in its slot, which is open, and each other slot is closed or has an older body
pub record IsNewest (log number : ℕ) (body : CommitBody) (medium : Medium) : Type 0 where
  pub sector : Lasts (body_at (number % 3)) 512 (λ bytes. IsBody bytes log (number % 3) body number) medium
  pub gate : Lasts (gate_at (number % 3)) 1 IsOpen medium
  pub others : (slot : ℕ) → slot < 3 → slot ≢ number % 3 → IsPassedOver log number slot medium

-- it stands at each moment since, and now
abbrev pub KeepsNewest : (number : ℕ) → DiskState → DiskState → Type 0
KeepsNewest number old new =
    (body : CommitBody) → HoldsNow (IsNewest (log_of old.size) number body) old.moments
    → HoldsSince (IsNewest (log_of old.size) number body) old.moments new.moments
    × HoldsNow (IsNewest (log_of old.size) number body) new.moments

-- a read gives a closed gate of the next slot
abbrev pub NextIsClosed : (number : ℕ) → Medium → Type 0
NextIsClosed number medium = IsClosed (bytes_at (gate_at ((number + 1) % 3)) 1 medium.bytes)

-- a read gives no newer body of the third slot
abbrev pub ThirdIsOlder : (log number : ℕ) → Medium → Type 0
ThirdIsOlder log number medium = IsOlder log ((number + 2) % 3) number (bytes_at (body_at ((number + 2) % 3)) 512 medium.bytes)

-- the slots were mended: the newest commit is the last one, as between two commits
abbrev pub Mends : (number : ℕ) → DiskState → DiskState → Type 0
Mends number old new =
    (body : CommitBody) → HoldsNow IsSynced old.moments → HoldsNow (IsNewest (log_of old.size) number body) old.moments
    → HoldsNow (IsSettled (log_of old.size) number body) new.moments

-- a next slot that is closed is not written
abbrev pub LeavesClosed : (number : ℕ) → DiskState → DiskState → Type 0
LeavesClosed number old new = HoldsNow (NextIsClosed number) old.moments → new.moments ≡ old.moments

-- nor is a third slot that has no newer body
abbrev pub LeavesOlder : (number : ℕ) → DiskState → DiskState → Type 0
LeavesOlder number old new = HoldsNow (ThirdIsOlder (log_of old.size) number) old.moments → new.moments ≡ old.moments

-- and where both slots are so, the device is not even synced
abbrev pub LeavesMended : (number : ℕ) → DiskState → DiskState → Type 0
LeavesMended number old new =
    HoldsNow (NextIsClosed number) old.moments → HoldsNow (ThirdIsOlder (log_of old.size) number) old.moments
    → new.moments ≡ old.moments

-- the newest moment, where there is one, has P not
abbrev pub HoldsNotNow : (Medium → Type 0) → List Medium → Type 0
HoldsNotNow P moments = HoldsNow (λ now. P now → ⊥) moments

abbrev pub close_cost : Cost
close_cost = record { calls = 2; changes = 1; bytes = 1 }

abbrev pub clear_third_cost : Cost
clear_third_cost = record { calls = 2; changes = 1; bytes = 512 }

abbrev pub mend_cost : Cost
mend_cost = record { calls = 5; changes = 3; bytes = 513 }
