-- Contract: how a count of faults tells whether a call failed. A count stands still at the greatest number of its type.
use Rattle.std.specs.Prelude.{◌≡◌, ℕ, ◌+◌, ◌-◌, ◌^◌, ◌<◌, ◌≤◌, ◌⊎◌, min, Bool, true, false, Result, Ok, Err}
use Rattle.lsvd_fault.specs.declared.transfer.ReadError.{ReadError}
use Rattle.lsvd_fault.specs.declared.transfer.ReadError.TheVariants.{Failed, OutOfMemory}

-- the count rose, or stands at the greatest number of its type
abbrev pub HasRisen : ℕ → ℕ → Type 0
HasRisen before now = (before < now) ⊎ (now ≡ 2 ^ 64 - 1)

-- a count with this many more
abbrev pub counted_with : ℕ → ℕ → ℕ
counted_with count more = min (count + more) (2 ^ 64 - 1)

-- exactly one fault more was counted
pub record CountsOne (before now : ℕ) : Type 0 where
  pub risen : HasRisen before now
  pub kept : before ≤ now
  pub most : now ≤ before + 1

-- one fault was counted where a call failed, and none where no call did
abbrev pub Counts : (failed : Bool) → (before now : ℕ) → Type 0
Counts true before now = CountsOne before now
Counts false before now = now ≡ before

-- reading ended by a fault, and not because memory ran out
abbrev pub is_read_fault : {T : Type 0} → Result T ReadError → Bool
is_read_fault (Ok value) = false
is_read_fault (Err Failed) = true
is_read_fault (Err OutOfMemory) = false
