-- Contract: what is seen of a store and of a receipt, and what the calls of a store do.
use Rattle.std.specs.Prelude.{◌≡◌, ℕ, Bool, true, false, List, ◌∷◌, length, Option, Some, None, IfSome, Result, Ok, Err}
use Rattle.lsvd_names.specs.declared.name.ObjName.{ObjName}
use Rattle.lsvd_objstore.specs.Objects.{Objects, found}
use Rattle.lsvd_objstore.specs.declared.error.StoreError.{StoreError}
use Rattle.lsvd_objstore.specs.declared.error.StoreError.TheVariants.{Failed, OutOfMemory}

-- a put, a removal or a get that was asked of a store; a get is of so many bytes of an object, from this one on
pub data StoreCall : Type 0 where
  Put : (name : ObjName) (bytes : List ℕ) → StoreCall
  Remove : (name : ObjName) → StoreCall
  Get : (name : ObjName) (from count : ℕ) → StoreCall

-- a store
pub record StoreState : Type 0 where
  -- what it holds, where it tells that
  pub objects : Option Objects
  -- the puts and removals that were asked of it, the newest first, where it tells them
  pub asked : Option (List StoreCall)
  -- how often a call has failed; the count stands at the greatest number of its type
  pub faults : ℕ

-- a receipt, which stands for the bytes that an object had
pub record ReceiptState : Type 0 where
  pub name : ObjName
  -- how many bytes they are
  pub size : ℕ
  -- the bytes, where it tells them
  pub told : Option (List ℕ)

-- a receipt for these bytes under this name
pub record IsReceiptOf (name : ObjName) (bytes : List ℕ) (receipt : ReceiptState) : Type 0 where
  pub named : receipt.name ≡ name
  pub size : receipt.size ≡ length bytes
  pub told : IfSome receipt.told (λ told. told ≡ bytes)

-- where a store tells what it was asked, it was asked one call more
abbrev pub IsAskedOnce : StoreCall → Option (List StoreCall) → Option (List StoreCall) → Type 0
IsAskedOnce call None new = new ≡ None
IsAskedOnce call (Some calls) new = new ≡ Some (call ∷ calls)

-- nothing changed but the count of faults
abbrev pub OnlyCounts : StoreState → StoreState → Type 0
OnlyCounts old new = new ≡ record old { faults = new.faults }

-- where a store tells what it holds, a call changes it so, and it goes on telling
abbrev pub Becomes : (Objects → Objects → Type 0) → Option Objects → Option Objects → Type 0
Becomes Change None new = new ≡ None
Becomes Change (Some old) new = (objects : Objects) × (new ≡ Some objects) × Change old objects

-- a call of the store failed
abbrev pub has_failed : {T : Type 0} → Result T StoreError → Bool
has_failed (Ok value) = false
has_failed (Err Failed) = true
has_failed (Err OutOfMemory) = false

-- what the search for a name finds: no receipt exactly where no object has it, and else one for its bytes
abbrev pub Finds : ObjName → Option Objects → Option ReceiptState → Type 0
Finds name None None = Unit {0}
Finds name None (Some receipt) = receipt.name ≡ name
Finds name (Some objects) None = found objects name ≡ None
Finds name (Some objects) (Some receipt) =
    (bytes : List ℕ) × (found objects name ≡ Some bytes) × IsReceiptOf name bytes receipt
