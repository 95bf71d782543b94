-- Contract: the commits on a device, what a stop leaves of them, and how far a commit gets.
use Rattle.std.specs.Prelude.{◌≡◌, ℕ, ◌+◌, ◌%◌, ◌<◌, ◌≢◌, ◌⊎◌, true, false, Option, Some, None, List, slice_index}
use Rattle.lsvd_bytes.specs.Places.{bytes_at}
use Rattle.lsvd_device.specs.Medium.{Medium, MayLeave}
use Rattle.lsvd_device.specs.Calls.{Budget, Cost, write_cost, sync_cost, together}
use Rattle.lsvd_device.specs.Device.{HoldsSince, DiskState, HoldsNow, MakesCalls}
use Rattle.commit_body.specs.declared.body.CommitBody.{CommitBody}
use Rattle.commit_body.specs.Body.{IsBody}
use Rattle.commit_slot.specs.Slots.{log_of, body_at, gate_at, Reads}

-- the commits on a device
pub record CommitsState : Type 0 where
  -- the number of the last commit made, and its body
  pub number : ℕ
  pub body : CommitBody
  -- the body of the next commit, where its first half was made and its second half failed
  pub unfinished : Option CommitBody
  pub disk : DiskState

-- the same commits on a disk that passes other calls
abbrev pub with_budget : Option Budget → CommitsState → CommitsState
with_budget budget commits = record commits { disk = record commits.disk { budget = budget } }

-- ---- what a stop leaves

-- the sector is no body of the slot, or that of a commit before this one
abbrev pub IsOlder : (log slot number : ℕ) → List ℕ → Type 0
IsOlder log slot number sector = (body : CommitBody) (n : ℕ) → IsBody sector log slot body n → n < number

-- Bytes read as a commit, and the other slots are as between two commits: the gate of the next one is not 1, and the
-- body of the third is none, or that of a commit before this one.
pub record ReadsSettled (log : ℕ) (bytes : List ℕ) (body : CommitBody) (number : ℕ) : Type 0 where
  pub reads : Reads log bytes body number
  pub next : slice_index bytes (gate_at ((number + 1) % 3)) ≢ 1
  pub third : IsOlder log ((number + 2) % 3) number (bytes_at (body_at ((number + 2) % 3)) 512 bytes)

-- whatever a stop leaves then reads as a commit with P, and its other slots are as between two commits
abbrev pub Leaves : ℕ → (ℕ → CommitBody → Type 0) → Medium → Type 0
Leaves log P medium = (left : List ℕ) → MayLeave medium left → (number : ℕ) × (body : CommitBody) × P number body
    × ReadsSettled log left body number

-- at each moment since then a stop leaves a commit with P
abbrev pub LeavesSince : (ℕ → CommitBody → Type 0) → DiskState → DiskState → Type 0
LeavesSince P old new = HoldsSince (Leaves (log_of old.size) P) old.moments new.moments

-- now a stop leaves a commit with P
abbrev pub LeavesNow : (ℕ → CommitBody → Type 0) → DiskState → Type 0
LeavesNow P disk = HoldsNow (Leaves (log_of disk.size) P) disk.moments

-- ---- which commit

-- the commit with this number and this body
pub record IsCommit (number : ℕ) (body : CommitBody) (n : ℕ) (b : CommitBody) : Type 0 where
  pub same_number : n ≡ number
  pub same_body : b ≡ body

-- the last commit, once the second half that was left is made
abbrev pub finished_number : ℕ → Option CommitBody → ℕ
finished_number number None = number
finished_number number (Some more) = number + 1

abbrev pub finished_body : CommitBody → Option CommitBody → CommitBody
finished_body body None = body
finished_body body (Some more) = more

-- the last commit, or that of which the second half was left
abbrev pub IsLast : CommitsState → ℕ → CommitBody → Type 0
IsLast commits n b = IsCommit commits.number commits.body n b ⊎ IsCommit (finished_number commits.number commits.unfinished)
    (finished_body commits.body commits.unfinished) n b

-- one of these, or the commit after them
abbrev pub IsLastOr : CommitsState → CommitBody → ℕ → CommitBody → Type 0
IsLastOr commits body n b = IsLast commits n b ⊎ IsCommit (finished_number commits.number commits.unfinished + 1) body n b

-- ---- how far a commit gets

-- the last commit has this number and this body, and this one is unfinished
pub record IsAt (number : ℕ) (body : CommitBody) (unfinished : Option CommitBody) (commits : CommitsState) : Type 0 where
  pub same_number : commits.number ≡ number
  pub same_body : commits.body ≡ body
  pub same_unfinished : commits.unfinished ≡ unfinished

abbrev pub IsAsBefore : CommitsState → CommitsState → Type 0
IsAsBefore old new = IsAt old.number old.body old.unfinished new

-- the second half that was left is made
abbrev pub IsFinished : CommitsState → CommitsState → Type 0
IsFinished old new = IsAt (finished_number old.number old.unfinished) (finished_body old.body old.unfinished) None new

-- and that of the next commit is left
abbrev pub IsBegun : CommitBody → CommitsState → CommitsState → Type 0
IsBegun body old new = IsAt (finished_number old.number old.unfinished) (finished_body old.body old.unfinished) (Some body) new

-- the next commit is made
abbrev pub IsMade : CommitBody → CommitsState → CommitsState → Type 0
IsMade body old new = IsAt (finished_number old.number old.unfinished + 1) body None new

-- of a commit that failed nothing was made, or the second half that was left, or the first half of the next one too
abbrev pub IsMadeInPart : CommitBody → CommitsState → CommitsState → Type 0
IsMadeInPart body old new = IsAsBefore old new ⊎ (IsFinished old new ⊎ IsBegun body old new)

-- ---- what it takes

abbrev pub first_half_cost : Cost
first_half_cost = together (write_cost 512) (together (write_cost 1) sync_cost)

abbrev pub second_half_cost : Cost
second_half_cost = together (write_cost 1) sync_cost

-- no call
abbrev pub no_cost : Cost
no_cost = record { calls = 0; changes = 0; bytes = 0 }

-- what the second half takes, where one was left
abbrev pub finish_cost : Option CommitBody → Cost
finish_cost None = no_cost
finish_cost (Some more) = second_half_cost

-- what a commit takes: five calls, and two more where a second half was left
abbrev pub commit_cost : Option CommitBody → Cost
commit_cost unfinished = together (finish_cost unfinished) (together first_half_cost second_half_cost)

-- calls of which the first were all made, and one of the others failed
abbrev pub FailsBegun : Cost → Cost → DiskState → DiskState → Type 0
FailsBegun first second old new = MakesCalls (together first second) false old new × (middle : DiskState)
    × MakesCalls first true old middle × MakesCalls second false middle new

-- How far a commit that failed got, and by which calls: the second half that was left failed; or that was made, and the
-- first half of the next commit failed; or its first half was made, and its second half failed.
abbrev pub FailsIn : CommitBody → CommitsState → CommitsState → Type 0
FailsIn body old new =
    (IsAsBefore old new × MakesCalls (finish_cost old.unfinished) false old.disk new.disk)
    ⊎ ((IsFinished old new × FailsBegun (finish_cost old.unfinished) first_half_cost old.disk new.disk)
    ⊎ (IsBegun body old new × FailsBegun (together (finish_cost old.unfinished) first_half_cost) second_half_cost
    old.disk new.disk))
