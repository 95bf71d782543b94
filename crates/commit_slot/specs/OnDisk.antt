-- Contract: what every value of commits promises of its device, and what the gate of an unfinished commit says.
use Rattle.std.specs.Prelude.{◌≡◌, ◌≢◌, ℕ, ◌+◌, ◌%◌, ◌≤◌, IfSome, IfNone, List, slice_index}
use Rattle.lsvd_device.specs.Medium.{Medium, MayLeave}
use Rattle.lsvd_device.specs.Device.{IsDisk, HoldsNow}
use Rattle.commit_body.specs.declared.body.CommitBody.{CommitBody}
use Rattle.commit_body.specs.Body.{MayStand}
use Rattle.commit_slot.specs.Slots.{log_of, gate_at, Reads}
use Rattle.commit_slot.specs.Commits.{CommitsState, LeavesNow, IsLast}

-- bytes read as the next commit where the gate of its slot is 1, and else as the last one
pub record ReadsWithGate (log number : ℕ) (body more : CommitBody) (bytes : List ℕ) : Type 0 where
  pub opened : slice_index bytes (gate_at ((number + 1) % 3)) ≡ 1 → Reads log bytes more (number + 1)
  pub closed : slice_index bytes (gate_at ((number + 1) % 3)) ≢ 1 → Reads log bytes body number

-- what a read gives now, and whatever a stop leaves
pub record HasGate (log number : ℕ) (body more : CommitBody) (medium : Medium) : Type 0 where
  pub now : ReadsWithGate log number body more medium.bytes
  pub left : (left : List ℕ) → MayLeave medium left → ReadsWithGate log number body more left

-- where a second half is left, the device reads as its gate says
abbrev pub ReadsByGate : CommitsState → Type 0
ReadsByGate commits = IfSome commits.unfinished
    (λ more. HoldsNow (HasGate (log_of commits.disk.size) commits.number commits.body more) commits.disk.moments)

-- where none is left, a read gives a closed gate of the next slot
abbrev pub HasClosedGate : CommitsState → Type 0
HasClosedGate commits =
    IfNone commits.unfinished (HoldsNow (λ now. slice_index now.bytes (gate_at ((commits.number + 1) % 3)) ≢ 1)
    commits.disk.moments)

-- The device is a disk of 4,096 bytes or more, and a stop now leaves the last commit or the unfinished one.
pub record AreOnDisk (commits : CommitsState) : Type 0 where
  pub is_disk : IsDisk commits.disk
  pub size : 4096 ≤ commits.disk.size
  pub may_stand : MayStand commits.body (log_of commits.disk.size)
  pub stands : LeavesNow (IsLast commits) commits.disk
  pub gate : ReadsByGate commits
  pub closed : HasClosedGate commits
