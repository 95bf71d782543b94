-- What follows from an outcome, and from a store in which nothing changed, or the count of faults alone.
use Rattle.std.proofs.Common.{◌≡◌, ◌∙◌, sym, ap, subst}
use Rattle.std.specs.Prelude.{Option, Some, None, Ok, Err, Result, IfOk, OnErr}
use Rattle.lsvd_objstore.specs.Objects.{Objects}
use Rattle.lsvd_objstore.specs.Store.{StoreState, OnlyCounts, Becomes}

-- ---- outcomes

pub ok_if : {T E : Type 0} (P : T → Type 0) (outcome : Result T E) (value : T) → IfOk outcome (λ v. v ≡ value) → P value
    → IfOk outcome P
ok_if P (Ok v) value is so = subst P (sym is) so
ok_if P (Err e) value is so = tt

pub on_error : {T E : Type 0} (P : Type 0) (outcome : Result T E) → P → OnErr outcome P
on_error P (Ok value) so = tt
on_error P (Err error) so = so

-- ---- stores

pub same_objects : (old new : StoreState) → new ≡ old → new.objects ≡ old.objects
same_objects old new same = ap (λ (s : StoreState). s.objects) same

pub counted_objects : (old new : StoreState) → OnlyCounts old new → new.objects ≡ old.objects
counted_objects old new only = ap (λ (s : StoreState). s.objects) only

pub counted_then : (old middle new : StoreState) → OnlyCounts old middle → OnlyCounts middle new → OnlyCounts old new
counted_then old middle new first second = second ∙ ap (λ (s : StoreState). record s { faults = new.faults }) first

pub none_changed : (C : Objects → Objects → Type 0) (old new : Option Objects) → ((objects : Objects) → C objects objects)
    → new ≡ old
    → Becomes C old new
none_changed C None new none same = same
none_changed C (Some old) new none same = (old, same, none old)
