-- What a put of a super object or of an epoch leaves.
use Rattle.std.proofs.Common.{◌≡◌, ℕ, inl, inr, Option, Some, None, Ok, Err, List, refl, sym, subst}
use Rattle.std.specs.Prelude.{Result, IsErrAnd, IsErrOf}
use Rattle.lsvd_names.specs.declared.name.ObjName.{ObjName}
use Rattle.lsvd_names.specs.Names.{super_name, epoch_name}
use Rattle.lsvd_objstore.specs.Objects.{Objects, IsPut, MayBePut}
use Rattle.lsvd_objstore.specs.Store.{Becomes}
use Rattle.lsvd_objstore.specs.declared.error.StoreError.{StoreError}
use Rattle.lsvd_objstore.specs.declared.error.StoreError.TheVariants as store
use Rattle.super_format.specs.declared.epoch.Epoch.{Epoch}
use Rattle.super_format.specs.declared.super_object.Super.{Super}
use Rattle.super_format.specs.Epoch.{IsEpoch}
use Rattle.super_format.specs.Super.{IsSuper}
use Rattle.super_recovery.specs.declared.error.SuperError.{SuperError}
use Rattle.super_recovery.specs.declared.error.SuperError.TheVariants as errors
use Rattle.super_recovery.specs.Faults.{of_store}
use Rattle.super_recovery.specs.Put.{PutsSuper, PutsEpoch, MayBecome}

-- what a store becomes by one change it becomes by another that follows from it
becomes_so : (Change Other : Objects → Objects → Type 0) (old new : Option Objects) → ((a b : Objects) → Change a b → Other a b)
    → Becomes Change old new
    → Becomes Other old new
becomes_so Change Other None new so is = is
becomes_so Change Other (Some old) new so is = (is.0, is.1, so old is.0 is.2)

-- an error that is a fault of the store here was one of the store
pub store_failed : {T : Type 0} (outcome : Result T SuperError) (error : StoreError) → IsErrAnd outcome (λ e. e ≡ of_store error)
    → IsErrOf outcome errors.StoreFault → error ≡ store.Failed
store_failed outcome store.Failed is fault = refl
store_failed (Ok value) store.OutOfMemory is fault = let other = fault in cc
store_failed (Err e) store.OutOfMemory is fault = let same : errors.OutOfMemory ≡ e = sym is in cc

module _ (Put : Objects → Objects → Type 0) (name own : ObjName) (bytes : List ℕ) (same : name ≡ own) (so : (a b : Objects)
    → IsPut own bytes a b → Put a b)
    (old new : Option Objects) where
  becomes_put : Becomes (IsPut name bytes) old new → Becomes Put old new
  becomes_put = becomes_so (IsPut name bytes) Put old new (λ a b put. so a b (subst (λ n. IsPut n bytes a b) same put))

  may : (a b : Objects) → MayBePut name bytes a b → MayBecome Put a b
  may a b (inl unchanged) = inl unchanged
  may a b (inr put) = inr (so a b (subst (λ n. IsPut n bytes a b) same put))

  may_become_put : Becomes (MayBePut name bytes) old new → Becomes (MayBecome Put) old new
  may_become_put = becomes_so (MayBePut name bytes) (MayBecome Put) old new may

-- ---- super objects

module _ (volume : Super) (name : ObjName) (bytes : List ℕ) (is : IsSuper bytes volume.uuid volume)
    (same : name ≡ super_name volume.uuid)
    (old new : Option Objects) where
  super_so : (a b : Objects) → IsPut (super_name volume.uuid) bytes a b → PutsSuper volume a b
  super_so a b put = record { says = record { bytes = bytes; present = put.put; is_super = is }; others = put.others }

  pub puts_super : Becomes (IsPut name bytes) old new → Becomes (PutsSuper volume) old new
  puts_super = becomes_put (PutsSuper volume) name (super_name volume.uuid) bytes same super_so old new

  pub may_put_super : Becomes (MayBePut name bytes) old new → Becomes (MayBecome (PutsSuper volume)) old new
  may_put_super = may_become_put (PutsSuper volume) name (super_name volume.uuid) bytes same super_so old new

-- ---- epochs

module _ (uuid : List ℕ) (number : ℕ) (epoch : Epoch) (name : ObjName) (bytes : List ℕ) (is : IsEpoch bytes uuid number epoch)
    (same : name ≡ epoch_name uuid number) (old new : Option Objects) where
  epoch_so : (a b : Objects) → IsPut (epoch_name uuid number) bytes a b → PutsEpoch uuid number a b
  epoch_so a b put = record {
    has = record { bytes = bytes; present = put.put; epoch = epoch; is_epoch = is };
    others = put.others;
  }

  pub puts_epoch : Becomes (IsPut name bytes) old new → Becomes (PutsEpoch uuid number) old new
  puts_epoch = becomes_put (PutsEpoch uuid number) name (epoch_name uuid number) bytes same epoch_so old new

  pub may_put_epoch : Becomes (MayBePut name bytes) old new → Becomes (MayBecome (PutsEpoch uuid number)) old new
  may_put_epoch = may_become_put (PutsEpoch uuid number) name (epoch_name uuid number) bytes same epoch_so old new
