-- What a search of the store finds.
use Rattle.std.proofs.Common.{◌≡◌, ℕ, Option, Some, None, Ok, Err, List, length, sym, ◌∙◌, ap, subst}
use Rattle.std.specs.Prelude.{Result, IfSome, IfErr, IsErrAnd, IsErrOf, OnOk}
use Rattle.std.specs.Option.{IsSome}
use Rattle.lsvd_names.specs.declared.name.NameKind.{NameKind}
use Rattle.lsvd_names.specs.declared.name.NameKind.TheVariants.{Object}
use Rattle.lsvd_names.specs.declared.name.ObjName.{ObjName}
use Rattle.lsvd_names.specs.Names.{numbered_name}
use Rattle.lsvd_objstore.specs.Objects.{Objects}
use Rattle.lsvd_objstore.specs.Store.{StoreState, ReceiptState, IsReceiptOf, OnlyCounts}

-- what is told is the object's bytes
told_bytes : (told : Option (List ℕ)) (bytes : List ℕ) → IsSome told → IfSome told (λ t. t ≡ bytes) → told ≡ Some bytes
told_bytes None bytes some is = cc
told_bytes (Some t) bytes some is = ap Some is

-- so what holds of the bytes that a receipt tells, and of how many it says they are, holds of those of its object
pub of_told : (P : List ℕ → ℕ → Type 0) (name : ObjName) (bytes : List ℕ) (receipt : ReceiptState)
    → IsReceiptOf name bytes receipt
    → IsSome receipt.told
    → IfSome receipt.told (λ told. P told receipt.size) → P bytes (length bytes)
of_told P name bytes receipt is some holds =
    let told = told_bytes receipt.told bytes some is.told in
    subst (P bytes) is.size (subst (λ t. IfSome t (λ b. P b receipt.size)) told holds)

-- what follows from what holds of the objects that a store tells
pub told_so : (P Q : Objects → Type 0) (told : Option Objects) → ((objects : Objects) → P objects → Q objects) → IfSome told P
    → IfSome told Q
told_so P Q None so is = tt
told_so P Q (Some objects) so is = so objects is

-- the name of a numbered object
pub numbered : (name : ObjName) → name.kind ≡ Object → name ≡ numbered_name name.uuid name.number
numbered name kind = ap (λ (k : NameKind). let other : ObjName = record { uuid = name.uuid; kind = k; number = name.number } in
    other) kind

-- a store with the same count of faults is the same
pub same_store : (old new : StoreState) → OnlyCounts old new → new.faults ≡ old.faults → new ≡ old
same_store old new only same = only ∙ ap (λ (n : ℕ). let state : StoreState = record old { faults = n } in state) same

pub ok_so : {T E : Type 0} (P Q : Type 0) (outcome : Result T E) → (P → Q) → OnOk outcome P → OnOk outcome Q
ok_so P Q (Ok value) so is = so is
ok_so P Q (Err error) so is = tt

-- what an error comes to, where one is passed on
pub passed_on : {T E : Type 0} (P : E → Type 0) (outcome : Result T E) (error : E) → IsErrAnd outcome (λ e. e ≡ error) → P error
    → IfErr outcome P
passed_on P (Ok value) error is so = tt
passed_on P (Err e) error is so = subst P (sym is) so

-- and what such an outcome comes to
pub passed_as : {T E : Type 0} (P : Result T E → Type 0) (outcome : Result T E) (error : E) → IsErrAnd outcome (λ e. e ≡ error)
    → P (Err error) → P outcome
passed_as P (Ok value) error is so = absurd is
passed_as P (Err e) error is so = subst (λ other. P (Err other)) (sym is) so

pub error_of : {T E : Type 0} (error other : E) → error ≡ other → IsErrOf {T = T} (Err error) other
error_of error other same = ap Err same
