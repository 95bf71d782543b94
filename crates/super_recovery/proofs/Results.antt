-- What follows from an outcome, and from a store in which only the count of faults changed.
use Rattle.std.proofs.Common.{◌≡◌, ℕ, Option, Some, None, Ok, Err, sym, ◌∙◌, ap, subst}
use Rattle.std.specs.Prelude.{Result, IfErr, IsErrAnd, IsErrOf, IfSome}
use Rattle.lsvd_objstore.specs.Objects.{Objects}
use Rattle.lsvd_objstore.specs.Store.{StoreState, OnlyCounts}

-- what an error comes to, where one is passed on
pub passed_on : {T E : Type 0} (P : E → Type 0) (outcome : Result T E) (error : E) → IsErrAnd outcome (λ e. e ≡ error) → P error
    → IfErr outcome P
passed_on P (Ok value) error is so = tt
passed_on P (Err e) error is so = subst P (sym is) so

pub error_of : {T E : Type 0} (error other : E) → error ≡ other → IsErrOf {T = T} (Err error) other
error_of error other same = ap Err same

-- a store that was only counted in has the objects that it had
pub same_objects : (old new : StoreState) → OnlyCounts old new → new.objects ≡ old.objects
same_objects old new only = ap (λ (s : StoreState). s.objects) only

-- what is so of the objects that are told follows from what is
pub told_so : (P Q : Objects → Type 0) (told : Option Objects) → ((objects : Objects) → P objects → Q objects) → IfSome told P
    → IfSome told Q
told_so P Q None so is = tt
told_so P Q (Some objects) so is = so objects is

pub told_both : (P Q R : Objects → Type 0) (told : Option Objects) → ((objects : Objects) → P objects → Q objects → R objects)
    → IfSome told P
    → IfSome told Q → IfSome told R
told_both P Q R None so is other = tt
told_both P Q R (Some objects) so is other = so objects is other

pub told_three : (P Q R T : Objects → Type 0) (told : Option Objects)
    → ((objects : Objects) → P objects → Q objects → R objects → T objects) → IfSome told P → IfSome told Q → IfSome told R
    → IfSome told T
told_three P Q R T None so is other third = tt
told_three P Q R T (Some objects) so is other third = so objects is other third

pub listed_so : (told : Option Objects) (P Q : Objects → Type 0) → IfSome told P → IfSome told (λ objects. P objects → Q objects)
    → IfSome told Q
listed_so None P Q is so = tt
listed_so (Some objects) P Q is so = so is

-- a store that was only counted in, without a fault, is as it was
pub same_store : (old new : StoreState) → OnlyCounts old new → new.faults ≡ old.faults → new ≡ old
same_store old new only same = only ∙ ap (λ (n : ℕ). let state : StoreState = record old { faults = n } in state) same
