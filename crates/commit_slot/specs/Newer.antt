-- For this crate's own clauses: the commit of one slot, and the newer of two.
use Rattle.std.specs.Prelude.{◌≡◌, ℕ, ◌≤◌, ◌⊎◌, Option, Some, None, List}
use Rattle.lsvd_device.specs.Calls.{Cost}
use Rattle.commit_body.specs.declared.body.CommitBody.{CommitBody}
use Rattle.commit_slot.specs.Slots.{IsOpenSlot}

-- a slot has this commit, or none where it is not open
abbrev pub SlotHas : (log : ℕ) → List ℕ → ℕ → Option (CommitBody × ℕ) → Type 0
SlotHas log bytes slot None = (body : CommitBody) (number : ℕ) → IsOpenSlot log bytes slot body number → ⊥
SlotHas log bytes slot (Some found) = IsOpenSlot log bytes slot found.0 found.1

-- where there is a commit there is another, with no smaller number
abbrev pub IsAtMost : Option (CommitBody × ℕ) → Option (CommitBody × ℕ) → Type 0
IsAtMost None other = Unit {0}
IsAtMost (Some found) None = ⊥
IsAtMost (Some found) (Some other) = found.1 ≤ other.1

-- one of two, and the newer one
pub record IsNewer (first second newer : Option (CommitBody × ℕ)) : Type 0 where
  pub one : (newer ≡ first) ⊎ (newer ≡ second)
  pub first_at_most : IsAtMost first newer
  pub second_at_most : IsAtMost second newer

-- the two reads of a slot
abbrev pub slot_cost : Cost
slot_cost = record { calls = 2; changes = 0; bytes = 0 }
