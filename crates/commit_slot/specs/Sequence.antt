-- Contract: the calls of a commit, one after the other.
use Rattle.std.specs.Prelude.{ℕ, ◌+◌, ◌%◌, Bool, Option, Some, None, List, [], ◌∷◌, ◌++◌}
use Rattle.lsvd_device.specs.Calls.{Cost}
use Rattle.lsvd_device.specs.Device.{DiskState, MakesCalls}
use Rattle.lsvd_device.specs.Sequence.{Call, Write, Sync, MakesThosePassed}
use Rattle.commit_body.specs.declared.body.CommitBody.{CommitBody}
use Rattle.commit_body.specs.Body.{body_bytes}
use Rattle.commit_slot.specs.Slots.{body_at, gate_at}
use Rattle.commit_slot.specs.Commits.{finished_number}

-- What writes and syncs in this order take. They were all made, or one of them failed, which ended them; within the room
-- of the disk those are made that its fuse passes.
pub record Costs (cost : Cost) (sequence : List Call) (are_made : Bool) (old new : DiskState) : Type 0 where
  pub calls : MakesCalls cost are_made old new
  pub performed : MakesThosePassed sequence old new

-- the first half of the commit after the one with this number
abbrev pub first_half_calls : (number : ℕ) → CommitBody → List Call
first_half_calls number body =
    Write (body_at ((number + 1) % 3)) (body_bytes body (number + 1))
    ∷ Write (gate_at ((number + 2) % 3)) (0 ∷ [])
    ∷ Sync
    ∷ []

-- and its second half
abbrev pub second_half_calls : (number : ℕ) → List Call
second_half_calls number = Write (gate_at ((number + 1) % 3)) (1 ∷ []) ∷ Sync ∷ []

-- the second half that was left, where one was
abbrev pub finish_calls : (number : ℕ) → Option CommitBody → List Call
finish_calls number None = []
finish_calls number (Some more) = second_half_calls number

-- and a commit
abbrev pub commit_calls : (number : ℕ) → Option CommitBody → CommitBody → List Call
commit_calls number unfinished body =
    finish_calls number unfinished
    ++ (first_half_calls (finished_number number unfinished) body ++ second_half_calls (finished_number number unfinished))
