-- Contract: what errors of calls below are here, and which outcomes are faults of the store.
use Rattle.std.specs.Prelude.{Bool, true, false, Result, Ok, Err}
use Rattle.lsvd_objstore.specs.declared.error.StoreError.{StoreError}
use Rattle.lsvd_objstore.specs.declared.error.StoreError.TheVariants as store
use Rattle.super_format.specs.declared.reading.SuperReadError.{SuperReadError}
use Rattle.super_format.specs.declared.reading.SuperReadError.TheVariants as reads
use Rattle.refusals.specs.declared.bad_super.BadSuper.TheVariants as reasons
use Rattle.super_recovery.specs.declared.error.SuperError.{SuperError}
use Rattle.super_recovery.specs.declared.error.SuperError.TheVariants as errors

-- what an error of a call of the store is
abbrev pub of_store : StoreError → SuperError
of_store store.Failed = errors.StoreFault
of_store store.OutOfMemory = errors.OutOfMemory

-- what an error of a read of a super object is
abbrev pub of_read : SuperReadError → SuperError
of_read (reads.BadSuper reason) = errors.BadSuper (reasons.Super reason)
of_read reads.OutOfMemory = errors.OutOfMemory

-- a call of the store failed
abbrev pub is_store_fault : SuperError → Bool
is_store_fault errors.NoVolume = false
is_store_fault (errors.BadSuper reason) = false
is_store_fault errors.StoreFault = true
is_store_fault errors.OutOfMemory = false

abbrev pub ends_by_fault : {T : Type 0} → Result T SuperError → Bool
ends_by_fault (Ok value) = false
ends_by_fault (Err error) = is_store_fault error

-- the error is that a call of the store failed, or that memory ran out
abbrev pub IsNoAnswer : SuperError → Type 0
IsNoAnswer errors.NoVolume = ⊥
IsNoAnswer (errors.BadSuper reason) = ⊥
IsNoAnswer errors.StoreFault = Unit {0}
IsNoAnswer errors.OutOfMemory = Unit {0}
