-- Contract: what a fuse makes of a disk.
use Rattle.std.specs.Prelude.{ℕ, Option, Some, None, min}
use Rattle.lsvd_fault.specs.Faults.{counted_with}
use Rattle.lsvd_device.specs.Calls.{Fuse, Budget}
use Rattle.lsvd_device.specs.Device.{DiskState}

-- the fuse that fails first
abbrev pub tighter : Fuse → Fuse → Fuse
tighter None fuse = fuse
tighter (Some left) None = Some left
tighter (Some left) (Some other) = Some (min left other)

abbrev pub with_fuse : Fuse → Option Budget → Option Budget
with_fuse fuse None = None
with_fuse fuse (Some budget) = Some (record budget { fuse = tighter fuse budget.fuse })

-- the budget with another fuse
abbrev pub with_new_fuse : Fuse → Option Budget → Option Budget
with_new_fuse fuse None = None
with_new_fuse fuse (Some budget) = Some (record budget { fuse = fuse })

-- a disk with a fuse before it, which has failed this many calls
abbrev pub with_fuse_before : Fuse → ℕ → DiskState → DiskState
with_fuse_before fuse failed disk = record disk { faults = counted_with disk.faults failed; budget = with_fuse fuse disk.budget }
