-- Contract: which errors tell a fault.
use Rattle.std.specs.Prelude.{Bool, true, false, Result, Ok, Err}
use Rattle.gc_copier.specs.declared.error.CopyError.{CopyError}
use Rattle.gc_copier.specs.declared.error.CopyError.TheVariants as copy_errors
use Rattle.lsvd_objstore.specs.declared.error.StoreError.{StoreError}
use Rattle.lsvd_objstore.specs.declared.error.StoreError.TheVariants as store_errors
use Rattle.volume_owner.specs.declared.error.OwnerError.{OwnerError}
use Rattle.volume_owner.specs.declared.error.OwnerError.TheVariants.{Range, Eio, OutOfMemory}

-- a call of the disk or of the store failed
abbrev pub is_eio : {T : Type 0} → Result T OwnerError → Bool
is_eio (Ok value) = false
is_eio (Err Range) = false
is_eio (Err Eio) = true
is_eio (Err OutOfMemory) = false

-- the error that tells one of a store
abbrev pub of_store : StoreError → OwnerError
of_store store_errors.Failed = Eio
of_store store_errors.OutOfMemory = OutOfMemory

-- the error that tells one of a copy
abbrev pub of_copy : CopyError → OwnerError
of_copy (copy_errors.Failed number) = Eio
of_copy copy_errors.OutOfMemory = OutOfMemory
