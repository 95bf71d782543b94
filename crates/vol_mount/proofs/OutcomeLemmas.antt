-- What the errors of a read of the log say of device and store.
use Rattle.std.proofs.Common.{◌≡◌, false, refl}
use Rattle.std.specs.Prelude.{not}
use Rattle.cache_log.specs.declared.error.LogReadError.{LogReadError}
use Rattle.cache_log.specs.declared.error.LogReadError.TheVariants as read_errors
use Rattle.cache_log.specs.Reads.{reads_without_fault}
use Rattle.vol_mount.specs.Refusals.{of_read, IsFault, is_device_fault, is_store_fault_of}

pub read_faults : (error : LogReadError) → IsFault (of_read error)
read_faults read_errors.DeviceFault = tt
read_faults read_errors.OutOfMemory = tt

pub read_passes : (error : LogReadError) → reads_without_fault error ≡ not (is_device_fault (of_read error))
read_passes read_errors.DeviceFault = refl
read_passes read_errors.OutOfMemory = refl

pub read_stores_none : (error : LogReadError) → is_store_fault_of (of_read error) ≡ false
read_stores_none read_errors.DeviceFault = refl
read_stores_none read_errors.OutOfMemory = refl
