-- Contract: what a closure may change of a device that it is lent.
use Rattle.std.specs.Prelude.{◌≡◌}
use Rattle.lsvd_device.specs.Device.{DiskState}

-- all that a disk tells is as before, but for the calls that it still passes
abbrev pub ChangesBudgetAlone : DiskState → DiskState → Type 0
ChangesBudgetAlone old new = new ≡ record old { budget = new.budget }
