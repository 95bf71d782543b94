-- Contract: what the quiet world gives, which counts no fault.
use Rattle.std.specs.Prelude.{ℕ, None, []}
use Rattle.lsvd_device.specs.Device.{DiskState}

-- a disk of so many bytes that never fails, and tells nothing of what it holds
abbrev pub quiet_state : ℕ → DiskState
quiet_state size = record { size = size; moments = []; faults = 0; budget = None }

-- a listener that never fails
abbrev pub quiet_faults : {T : Type 0} → T → ℕ
quiet_faults listener = 0
