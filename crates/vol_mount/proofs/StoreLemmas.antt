-- What becomes of a store while a volume is mounted.
use Rattle.std.proofs.Common.{◌≡◌, ℕ, refl, ap, subst, inl, inr, List}
use Rattle.std.specs.Prelude.{Option, Some, None, IfSome, length}
use Rattle.clone_chain.specs.declared.ancestor.Ancestor.{Ancestor}
use Rattle.lsvd_base.specs.declared.geometry.Geometry.{Geometry}
use Rattle.lsvd_objstore.specs.Objects.{Objects}
use Rattle.lsvd_objstore.specs.Store.{StoreState, OnlyCounts, Becomes}
use Rattle.object_recovery.specs.Checkpoints.{expected_of}
use Rattle.object_recovery.specs.Removal.{Removes}
use Rattle.object_recovery.specs.Recovery.{IsPastOf, RemovesAllPast, MayRemovePast, IsLastLanded}

-- a store of which nothing changed but the count has the same objects
pub same_objects : (old new : StoreState) → OnlyCounts old new → new.objects ≡ old.objects
same_objects old new only = ap (λ (s : StoreState). s.objects) only

-- what becomes of the same objects
pub becomes_from : (Change : Objects → Objects → Type 0) (old middle new : Option Objects) → middle ≡ old
    → Becomes Change middle new
    → Becomes Change old new
becomes_from Change old middle new same becomes = subst (λ objects. Becomes Change objects new) same becomes

becomes_as : (Change Other : Objects → Objects → Type 0) (old new : Option Objects) → ((a b : Objects) → Change a b → Other a b)
    → Becomes Change old new → Becomes Other old new
becomes_as Change Other None new follows becomes = becomes
becomes_as Change Other (Some old) new follows becomes = (becomes.0, becomes.1, follows old becomes.0 becomes.2)

-- what was all removed was removed
pub all_removed : (uuid : List ℕ) (number : ℕ) (old new : Option Objects) → Becomes (RemovesAllPast uuid number) old new
    → Becomes (Removes (IsPastOf uuid number)) old new
all_removed uuid number old new becomes =
    becomes_as (RemovesAllPast uuid number) (Removes (IsPastOf uuid number)) old new (λ a b all. all.removes) becomes

-- none was removed
pub none_removed : (uuid : List ℕ) (number : ℕ) (old new : Option Objects) → new ≡ old
    → Becomes (Removes (IsPastOf uuid number)) old new
none_removed uuid number None new same = same
none_removed uuid number (Some old) new same = (old, same, record { others = λ name not. refl; removed = λ name. inl refl })

-- that is what a recovery may leave
pub may_leave_same : (Tells : Type 0) (uuid : List ℕ) (geometry : Geometry) (chain : List Ancestor) (old new : Option Objects)
    → new ≡ old
    → Becomes (MayRemovePast Tells (expected_of uuid geometry (length chain))) old new
may_leave_same Tells uuid geometry chain None new same = same
may_leave_same Tells uuid geometry chain (Some old) new same = (old, same, inl refl)

pub may_leave_less : (Tells : Type 0) (uuid : List ℕ) (geometry : Geometry) (chain : List Ancestor) (number : ℕ)
    (old new : Option Objects)
    → (Tells → IfSome old (λ objects. IsLastLanded (expected_of uuid geometry (length chain)) objects number))
    → Becomes (Removes (IsPastOf uuid number)) old new
    → Becomes (MayRemovePast Tells (expected_of uuid geometry (length chain))) old new
may_leave_less Tells uuid geometry chain number None new last becomes = becomes
may_leave_less Tells uuid geometry chain number (Some old) new last becomes = (
  becomes.0,
  becomes.1,
  inr
      (number, last, becomes.2),
)
