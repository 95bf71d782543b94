-- Contract: which commit `read_newest` reads, and what that takes.
use Rattle.std.specs.Prelude.{ℕ, Option, Some, None, IfSome, List}
use Rattle.lsvd_device.specs.Calls.{Cost}
use Rattle.commit_body.specs.declared.body.CommitBody.{CommitBody}
use Rattle.commit_body.specs.Body.{MayStand}
use Rattle.commit_slot.specs.Slots.{Reads, ReadsNone}

-- the body that was read, if one was, may stand for a log of this many sectors
abbrev pub MayStandFor : (log : ℕ) → Option (CommitBody × ℕ) → Type 0
MayStandFor log found = IfSome found (λ f. MayStand f.0 log)

-- the device reads as this commit, or as none
abbrev pub ReadsAs : (log : ℕ) → List ℕ → Option (CommitBody × ℕ) → Type 0
ReadsAs log bytes None = ReadsNone log bytes
ReadsAs log bytes (Some found) = Reads log bytes found.0 found.1

-- the two reads of each slot
abbrev pub reading_cost : Cost
reading_cost = record { calls = 6; changes = 0; bytes = 0 }
