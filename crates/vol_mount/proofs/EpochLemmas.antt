-- For `begin_epoch`: what a put of an epoch that failed leaves.
use Rattle.std.proofs.Common.{◌≡◌, ℕ, false, refl, sym, subst, inl, inr, List}
use Rattle.std.specs.Prelude.{Option, Some, None, IfSome, length}
use Rattle.clone_chain.specs.declared.ancestor.Ancestor.{Ancestor}
use Rattle.lsvd_base.specs.declared.geometry.Geometry.{Geometry}
use Rattle.lsvd_fault.specs.Faults.{Counts}
use Rattle.lsvd_objstore.specs.Objects.{Objects}
use Rattle.lsvd_objstore.specs.Store.{StoreState, Becomes}
use Rattle.object_format.specs.declared.expected.Expected.{Expected}
use Rattle.object_recovery.specs.Checkpoints.{expected_of}
use Rattle.object_recovery.specs.Recovery.{RemovesAllPast, MayRemovePast, IsLastLanded}
use Rattle.object_recovery.proofs.RemovalLemmas.{becomes_so}
use Rattle.super_recovery.specs.declared.error.SuperError.{SuperError}
use Rattle.super_recovery.specs.declared.error.SuperError.TheVariants as supers
use Rattle.super_recovery.specs.Faults.{IsNoAnswer, is_store_fault}
use Rattle.super_recovery.specs.Put.{PutsEpoch, MayBecome}
use Rattle.vol_mount.specs.Epochs.{BeginsEpoch, MayBeginEpoch}
use Rattle.vol_mount.specs.Refusals.{of_super, IsFault, is_device_fault, is_store_fault_of}
use Rattle.vol_mount.proofs.StoreLemmas.{all_removed, may_leave_less}

pub put_faults : (error : SuperError) → IsNoAnswer error → IsFault (of_super error)
put_faults supers.NoVolume is = absurd is
put_faults (supers.BadSuper reason) is = absurd is
put_faults supers.StoreFault is = tt
put_faults supers.OutOfMemory is = tt

pub no_device_fault_of_put : (error : SuperError) → is_device_fault (of_super error) ≡ false
no_device_fault_of_put supers.NoVolume = refl
no_device_fault_of_put (supers.BadSuper reason) = refl
no_device_fault_of_put supers.StoreFault = refl
no_device_fault_of_put supers.OutOfMemory = refl

same_fault : (error : SuperError) → is_store_fault error ≡ is_store_fault_of (of_super error)
same_fault supers.NoVolume = refl
same_fault (supers.BadSuper reason) = refl
same_fault supers.StoreFault = refl
same_fault supers.OutOfMemory = refl

pub put_counts : (error : SuperError) (old middle new : ℕ) → middle ≡ old → Counts (is_store_fault error) middle new
    → Counts (is_store_fault_of (of_super error)) old new
put_counts error old middle new same counts =
    subst (λ b. Counts b old new) (same_fault error) (subst (λ n. Counts (is_store_fault error) n new) same counts)

module _ (Tells : Type 0) (uuid : List ℕ) (geometry : Geometry) (chain : List Ancestor) (number epoch : ℕ) where
  abbrev volume : Expected
  volume = expected_of uuid geometry (length chain)

  begun : (old middle new : Objects) → (Tells → IsLastLanded volume old number) → RemovesAllPast uuid number old middle
      → MayBecome (PutsEpoch uuid epoch) middle new → MayBeginEpoch Tells volume epoch old new
  begun old middle new last all (inl same) =
      inl (subst (MayRemovePast Tells volume old) (sym same) (inr (number, last, all.removes)))
  begun old middle new last all (inr put) = inr (number, last, (middle, all, put))

  may_begin_put : (old middle new : Option Objects) → (Tells → IfSome old (λ objects. IsLastLanded volume objects number))
      → Becomes (RemovesAllPast uuid number) old middle
      → Becomes (MayBecome (PutsEpoch uuid epoch)) middle new → Becomes (MayBeginEpoch Tells volume epoch) old new
  may_begin_put None middle new last removed put = subst (λ o. Becomes (MayBecome (PutsEpoch uuid epoch)) o new) removed put
  may_begin_put (Some old) middle new last removed put =
      let next : Becomes (MayBecome (PutsEpoch uuid epoch)) (Some removed.0) new =
      subst (λ o. Becomes (MayBecome (PutsEpoch uuid epoch)) o new) removed.1 put in
      (next.0, next.1, begun old removed.0 next.0 last removed.2 next.2)

  may_begin_less : (old middle : Option Objects) → (Tells → IfSome old (λ objects. IsLastLanded volume objects number))
      → Becomes (RemovesAllPast uuid number) old middle → Becomes (MayBeginEpoch Tells volume epoch) old middle
  may_begin_less old middle last removed =
      becomes_so (MayRemovePast Tells volume) (MayBeginEpoch Tells volume epoch) old middle (λ a b is. inl is)
      (may_leave_less Tells uuid geometry chain number old middle last (all_removed uuid number old middle removed))

  -- What is left of a store from which the objects past the first missing number were removed, and whose next epoch was not put,
  -- or was not acknowledged.
  pub may_begin : (error : SuperError) (old : Option Objects) (middle new : StoreState)
      → (Tells → IfSome old (λ objects. IsLastLanded volume objects number))
      → Becomes (RemovesAllPast uuid number) old middle.objects
      → IsNoAnswer error → (error ≡ supers.StoreFault → Becomes (MayBecome (PutsEpoch uuid epoch)) middle.objects new.objects)
      → (error ≡ supers.OutOfMemory → new ≡ middle) → Becomes (MayBeginEpoch Tells volume epoch) old new.objects
  may_begin supers.NoVolume old middle new last removed is failed lacks = absurd is
  may_begin (supers.BadSuper reason) old middle new last removed is failed lacks = absurd is
  may_begin supers.StoreFault old middle new last removed is failed lacks =
      may_begin_put old middle.objects new.objects last removed (failed refl)
  may_begin supers.OutOfMemory old middle new last removed is failed lacks =
      subst (λ (s : StoreState). Becomes (MayBeginEpoch Tells volume epoch) old s.objects) (sym (lacks refl))
      (may_begin_less old middle.objects last removed)

  -- and where it was put
  pub may_have_begun : (old new : Option Objects) → (Tells → IfSome old (λ objects. IsLastLanded volume objects number))
      → Becomes (BeginsEpoch uuid number epoch) old new → Becomes (MayBeginEpoch Tells volume epoch) old new
  may_have_begun None new last begins = begins
  may_have_begun (Some old) new last begins = (begins.0, begins.1, inr (number, last, begins.2))
