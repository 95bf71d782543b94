-- Contract: what errors of calls below are here, and which outcomes are faults of the store.
use Rattle.std.specs.Prelude.{Bool, true, false, Result, Ok, Err}
use Rattle.refusals.specs.declared.refusal.Refusal.TheVariants.{NoVolume, BadSuper, NoCheckpoint, BadObject, MissingObject}
use Rattle.refusals.specs.declared.refusal.Refusal.TheVariants.{BaseMissing}
use Rattle.super_recovery.specs.declared.error.SuperError.{SuperError}
use Rattle.super_recovery.specs.declared.error.SuperError.TheVariants as supers
use Rattle.object_recovery.specs.declared.error.RecoverError.{RecoverError}
use Rattle.object_recovery.specs.declared.error.RecoverError.TheVariants as recovery
use Rattle.vol_check.specs.declared.error.CheckError.{CheckError}
use Rattle.vol_check.specs.declared.error.CheckError.TheVariants.{Refused, StoreFault, OutOfMemory}

abbrev pub of_super : SuperError → CheckError
of_super supers.NoVolume = Refused NoVolume
of_super (supers.BadSuper reason) = Refused (BadSuper reason)
of_super supers.StoreFault = StoreFault
of_super supers.OutOfMemory = OutOfMemory

abbrev pub of_recovery : RecoverError → CheckError
of_recovery recovery.NoCheckpoint = Refused NoCheckpoint
of_recovery (recovery.BadObject number reason) = Refused (BadObject number reason)
of_recovery (recovery.MissingObject number) = Refused (MissingObject number)
of_recovery (recovery.BaseMissing uuid) = Refused (BaseMissing uuid)
of_recovery recovery.StoreFault = StoreFault
of_recovery recovery.OutOfMemory = OutOfMemory

-- a call of the store failed
abbrev pub is_store_fault : CheckError → Bool
is_store_fault (Refused refusal) = false
is_store_fault StoreFault = true
is_store_fault OutOfMemory = false

abbrev pub ends_by_fault : {T : Type 0} → Result T CheckError → Bool
ends_by_fault (Ok value) = false
ends_by_fault (Err error) = is_store_fault error
