-- For this crate's own clauses: what stands in the slots while a device is formatted.
use Rattle.std.specs.Prelude.{ℕ, ◌<◌, List}
use Rattle.lsvd_device.specs.Medium.{Medium}
use Rattle.lsvd_device.specs.Device.{DiskState, HoldsNow}
use Rattle.commit_body.specs.declared.body.CommitBody.{CommitBody}
use Rattle.commit_body.specs.Body.{IsBody}
use Rattle.commit_slot.specs.Lasting.{Lasts}
use Rattle.commit_slot.specs.Slots.{log_of, body_at, gate_at}
use Rattle.commit_slot.specs.Commits.{IsOlder}
use Rattle.commit_slot.specs.States.{IsClosed, IsSettled}

-- the sector is the body of no commit
abbrev pub IsNoCommit : ℕ → List ℕ → Type 0
IsNoCommit slot sector = (log n : ℕ) (body : CommitBody) → IsBody sector log slot body n → ⊥

-- the slot has no body, and is closed
pub record IsClearSlot (slot : ℕ) (medium : Medium) : Type 0 where
  pub sector : Lasts (body_at slot) 512 (IsNoCommit slot) medium
  pub gate : Lasts (gate_at slot) 1 IsClosed medium

abbrev pub IsClear : Medium → Type 0
IsClear medium = (slot : ℕ) → slot < 3 → IsClearSlot slot medium

-- the body of the first commit stands in the first slot, and the other slots are as that commit wants them
pub record IsFirstWritten (log : ℕ) (body : CommitBody) (medium : Medium) : Type 0 where
  pub sector : Lasts (body_at 0) 512 (λ bytes. IsBody bytes log 0 body 0) medium
  pub closed : Lasts (gate_at 1) 1 IsClosed medium
  pub older : Lasts (body_at 2) 512 (IsOlder log 2 0) medium

-- the first half of the first commit, where the slots were clear
abbrev pub WritesFirst : CommitBody → DiskState → DiskState → Type 0
WritesFirst body old new = HoldsNow IsClear old.moments → HoldsNow (IsFirstWritten (log_of old.size) body) new.moments

-- its second half
abbrev pub OpensFirst : DiskState → DiskState → Type 0
OpensFirst old new = (body : CommitBody) → HoldsNow (IsFirstWritten (log_of old.size) body) old.moments
    → HoldsNow (IsSettled (log_of old.size) 0 body) new.moments
