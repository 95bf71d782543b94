-- Contract: how many calls a disk still passes, and what calls take of that.
use Rattle.std.specs.Prelude.{◌≡◌, ℕ, ◌+◌, ◌-◌, ◌≤◌, Option, Some, None, option_map, Bool, true, nat_le}

-- the calls that a disk passes before it fails each one; none stands for no limit
abbrev pub Fuse : Type 0
Fuse = Option ℕ

-- What a disk still passes. The room is for writes and syncs, and for the bytes of writes.
pub record Budget : Type 0 where
  pub fuse : Fuse
  pub calls : ℕ
  pub bytes : ℕ

-- the fuse, where the disk tells what it still passes
abbrev pub fuse_of : Option Budget → Option Fuse
fuse_of budget = option_map (λ b. b.fuse) budget

-- What a call, or several, take: calls of any kind, and of these writes and syncs, and the bytes of the writes.
pub record Cost : Type 0 where
  pub calls : ℕ
  pub changes : ℕ
  pub bytes : ℕ

abbrev pub read_cost : Cost
read_cost = record { calls = 1; changes = 0; bytes = 0 }

abbrev pub write_cost : ℕ → Cost
write_cost bytes = record { calls = 1; changes = 1; bytes = bytes }

abbrev pub sync_cost : Cost
sync_cost = record { calls = 1; changes = 1; bytes = 0 }

-- what two calls, or the calls of two steps, take together
abbrev pub together : Cost → Cost → Cost
together first second = record {
  calls = first.calls + second.calls;
  changes = first.changes + second.changes;
  bytes = first.bytes + second.bytes;
}

-- the fuse passes this many calls
abbrev pub passes : Fuse → ℕ → Bool
passes None calls = true
passes (Some left) calls = nat_le calls left

-- the fuse after this many calls, which it passed or not
abbrev pub fuse_after : Fuse → ℕ → Fuse
fuse_after None calls = None
fuse_after (Some left) calls = Some (left - calls)

-- Calls within the room are all made exactly where the fuse passes them. The fuse falls by their number, and the
-- room by no more than what they take.
pub record TakesWithin (cost : Cost) (are_made : Bool) (old new : Budget) : Type 0 where
  pub made : are_made ≡ passes old.fuse cost.calls
  pub fuse : new.fuse ≡ fuse_after old.fuse cost.calls
  pub calls : old.calls ≤ new.calls + cost.changes
  pub bytes : old.bytes ≤ new.bytes + cost.bytes

-- what calls take, where the disk tells what it still passes; of calls past the room nothing is said
abbrev pub Takes : Cost → Bool → Option Budget → Option Budget → Type 0
Takes cost are_made None new = new ≡ None
Takes cost are_made (Some old) new =
    (left : Budget) × (new ≡ Some left) × (cost.changes ≤ old.calls → cost.bytes ≤ old.bytes → TakesWithin cost are_made old left)

-- the disk tells that it passes no further call
abbrev pub PassesNone : Option Budget → Type 0
PassesNone None = ⊥
PassesNone (Some budget) = budget.fuse ≡ Some 0
