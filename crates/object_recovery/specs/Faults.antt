-- Contract: which outcomes of a recovery are faults of the store.
use Rattle.std.specs.Prelude.{ℕ, Bool, true, false, Option, Some, None, Result, Ok, Err}
use Rattle.lsvd_objstore.specs.declared.error.StoreError.{StoreError}
use Rattle.lsvd_objstore.specs.declared.error.StoreError.TheVariants as store
use Rattle.object_recovery.specs.declared.judging.ObjectRefusal.{ObjectRefusal}
use Rattle.object_recovery.specs.declared.error.RecoverError.{RecoverError}
use Rattle.object_recovery.specs.declared.error.RecoverError.TheVariants as errors

-- what an error of a call of the store is to a recovery
abbrev pub of_store : StoreError → RecoverError
of_store store.Failed = errors.StoreFault
of_store store.OutOfMemory = errors.OutOfMemory

-- what a refusal is to the caller
abbrev pub of_refusal : ObjectRefusal → RecoverError
of_refusal refusal = errors.BadObject refusal.number refusal.reason

-- the error of a refusal, or else that of a missing object
abbrev pub refusal_or_missing : (missing : ℕ) → Option ObjectRefusal → RecoverError
refusal_or_missing missing None = errors.MissingObject missing
refusal_or_missing missing (Some refusal) = of_refusal refusal

-- a call of the store failed
abbrev pub is_store_fault : RecoverError → Bool
is_store_fault errors.NoCheckpoint = false
is_store_fault (errors.BadObject number reason) = false
is_store_fault (errors.MissingObject number) = false
is_store_fault (errors.BaseMissing uuid) = false
is_store_fault errors.StoreFault = true
is_store_fault errors.OutOfMemory = false

abbrev pub ends_by_fault : {T : Type 0} → Result T RecoverError → Bool
ends_by_fault (Ok value) = false
ends_by_fault (Err error) = is_store_fault error

-- the error is that a call of the store failed, or that memory ran out
abbrev pub IsNoAnswer : RecoverError → Type 0
IsNoAnswer errors.NoCheckpoint = ⊥
IsNoAnswer (errors.BadObject number reason) = ⊥
IsNoAnswer (errors.MissingObject number) = ⊥
IsNoAnswer (errors.BaseMissing uuid) = ⊥
IsNoAnswer errors.StoreFault = Unit {0}
IsNoAnswer errors.OutOfMemory = Unit {0}
