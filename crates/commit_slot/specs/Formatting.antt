-- Contract: what `format` promises.
use Rattle.std.specs.Prelude.{ℕ, None, List, [], ◌∷◌, ◌++◌, replicate}
use Rattle.lsvd_device.specs.Calls.{Cost, write_cost, sync_cost, together}
use Rattle.lsvd_device.specs.Device.{HoldsNow}
use Rattle.lsvd_device.specs.Memory.{IsSynced}
use Rattle.lsvd_device.specs.Sequence.{Call, Write, Sync}
use Rattle.commit_body.specs.declared.body.CommitBody.{CommitBody}
use Rattle.commit_body.specs.Body.{body_bytes}
use Rattle.commit_slot.specs.Slots.{body_at, gate_at}
use Rattle.commit_slot.specs.Commits.{CommitsState, IsAt, IsCommit, LeavesNow, first_half_cost, second_half_cost}

-- the first commit is made, and each stop leaves it
pub record IsFormatted (body : CommitBody) (commits : CommitsState) : Type 0 where
  pub first : IsAt 0 body None commits
  pub stands : LeavesNow (IsCommit 0 body) commits.disk
  pub synced : HoldsNow IsSynced commits.disk.moments

-- the bytes of the three slots, all of them zeros
unfoldable pub clear_bytes : List ℕ
clear_bytes = replicate 3072 0

abbrev pub clear_cost : Cost
clear_cost = together (write_cost 3072) sync_cost

-- what formatting takes: seven calls
abbrev pub format_cost : Cost
format_cost = together clear_cost (together first_half_cost second_half_cost)

-- the calls of each part, and of formatting
abbrev pub clear_calls : List Call
clear_calls = Write 0 clear_bytes ∷ Sync ∷ []

abbrev pub first_body_calls : CommitBody → List Call
first_body_calls body = Write (body_at 0) (body_bytes body 0) ∷ Write (gate_at 1) (0 ∷ []) ∷ Sync ∷ []

abbrev pub first_open_calls : List Call
first_open_calls = Write (gate_at 0) (1 ∷ []) ∷ Sync ∷ []

abbrev pub format_calls : CommitBody → List Call
format_calls body = clear_calls ++ (first_body_calls body ++ first_open_calls)
