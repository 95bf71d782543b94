-- Contract: the three slots of a cache device, and the commit that its bytes read as.
use Rattle.std.specs.Prelude.{◌≡◌, ℕ, ◌+◌, ◌*◌, ◌-◌, ◌/◌, ◌≤◌, List, slice_index}
use Rattle.lsvd_bytes.specs.Places.{bytes_at}
use Rattle.commit_body.specs.declared.body.CommitBody.{CommitBody}
use Rattle.commit_body.specs.Body.{IsBody}

-- the sectors of the log on a device of this many bytes
abbrev pub log_of : ℕ → ℕ
log_of size = (size - 4096) / 512

-- the byte at which a slot begins, with its body
abbrev pub body_at : ℕ → ℕ
body_at slot = 1024 * slot

-- the byte that is its gate
abbrev pub gate_at : ℕ → ℕ
gate_at slot = 1024 * slot + 512

-- the slot is open, and has this body and this number
pub record IsOpenSlot (log : ℕ) (bytes : List ℕ) (slot : ℕ) (body : CommitBody) (number : ℕ) : Type 0 where
  pub gate : slice_index bytes (gate_at slot) ≡ 1
  pub sector : IsBody (bytes_at (body_at slot) 512 bytes) log slot body number

-- some slot is open with this body and this number, and no open slot has a greater number
pub record Reads (log : ℕ) (bytes : List ℕ) (body : CommitBody) (number : ℕ) : Type 0 where
  pub slot : ℕ
  pub is_open : IsOpenSlot log bytes slot body number
  pub newest : (other : ℕ) (b : CommitBody) (n : ℕ) → IsOpenSlot log bytes other b n → n ≤ number

-- no slot is open
abbrev pub ReadsNone : ℕ → List ℕ → Type 0
ReadsNone log bytes = (slot : ℕ) (body : CommitBody) (number : ℕ) → IsOpenSlot log bytes slot body number → ⊥
