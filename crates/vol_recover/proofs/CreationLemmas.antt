-- For `create`: what is so of a creation, however it ends.
use Rattle.std.proofs.Common.{◌≡◌, ℕ, ◌∙◌, List, refl, sym, ap, subst, inl, inr}
use Rattle.std.specs.Prelude.{◌↔◌, Bool, true, false, Option, Some, None, IsSome, is_some, IfSome, IsTrue}
use Rattle.lsvd_base.specs.declared.geometry.Geometry.{Geometry}
use Rattle.lsvd_fault.specs.Faults.{Counts}
use Rattle.lsvd_device.specs.Device.{DiskState}
use Rattle.lsvd_names.specs.Names.{super_name}
use Rattle.lsvd_objstore.specs.Objects.{Objects, found}
use Rattle.lsvd_objstore.specs.Store.{Becomes}
use Rattle.batcher.specs.State.{BatchState}
use Rattle.obj_log.specs.State.{ObjLogState}
use Rattle.object_recovery.proofs.RemovalLemmas.{becomes_so, becomes_both}
use Rattle.super_recovery.specs.declared.error.SuperError.{SuperError}
use Rattle.super_recovery.specs.declared.error.SuperError.TheVariants as super_errors
use Rattle.super_recovery.specs.Faults.{IsNoAnswer, is_store_fault}
use Rattle.super_recovery.specs.Put.{PutsEpoch, MayBecome}
use Rattle.vol_core.specs.Creating.{IsNewList, CostsFormat, CreatedOf}
use Rattle.vol_core.specs.Volume.{SteppedVolume}
use Rattle.vol_recover.specs.declared.creating.CreateError.{CreateError}
use Rattle.vol_recover.specs.declared.creating.CreateError.TheVariants.{Exists, StoreFault, DeviceFault, OutOfMemory}
use Rattle.vol_recover.specs.Creating.{PutsFirst, PutsEpochToo, PutsNoSuper, PutsSome, MayFormat, IsOfStore, of_super}
use Rattle.vol_recover.specs.Creating.{is_put_fault}
use Rattle.vol_recover.specs.Creating.{IsSuperThere, IsSuperAbsent, StaysWithSuper, NotPreparedOf}
use Rattle.vol_recover.proofs.CreateLemmas.{becomes_may_put}

-- ---- whether a super object is there

-- what a look for it tells
pub super_there : (uuid : List ℕ) (objects : Option Objects) (has : Bool)
    → IfSome objects (λ o. IsTrue has ↔ IsSome (found o (super_name uuid))) → has ≡ true → IsSuperThere uuid objects
super_there uuid None has looked is = tt
super_there uuid (Some objects) has looked is = looked.0 is

none_held : (held : Option (List ℕ)) → (IsSome held → ⊥) → held ≡ None
none_held None never = refl
none_held (Some bytes) never = absurd (never refl)

pub super_absent : (uuid : List ℕ) (objects : Option Objects) (has : Bool)
    → IfSome objects (λ o. IsTrue has ↔ IsSome (found o (super_name uuid))) → has ≡ false → IsSuperAbsent uuid objects
super_absent uuid None has looked is = tt
super_absent uuid (Some objects) has looked is =
    none_held (found objects (super_name uuid)) (λ there. (let both = sym (looked.1 there) ∙ is in cc))

-- nothing changed, or none is there
pub same_stays : (uuid : List ℕ) (old new : Option Objects) → new ≡ old → StaysWithSuper uuid old new
same_stays uuid None new same = tt
same_stays uuid (Some objects) new same = λ there. same

pub absent_stays : (uuid : List ℕ) (old new : Option Objects) → IsSuperAbsent uuid old → StaysWithSuper uuid old new
absent_stays uuid None new absent = tt
absent_stays uuid (Some objects) new absent = λ there. absurd (let both = sym there ∙ ap is_some absent in cc)

-- ---- before the cache is made

-- an error of a call of the store was counted as such
pub puts_counts : (error : SuperError) (old new : ℕ) → IsNoAnswer error → Counts (is_store_fault error) old new
    → Counts (is_put_fault (of_super error)) old new
puts_counts super_errors.NoVolume old new answer counts = absurd answer
puts_counts (super_errors.BadSuper reason) old new answer counts = absurd answer
puts_counts super_errors.StoreFault old new answer counts = counts
puts_counts super_errors.OutOfMemory old new answer counts = counts

-- what one leaves that came before the super object was put
pub not_prepared : (uuid : List ℕ) (geometry : Geometry) (old new : Option Objects) (error : CreateError) → IsOfStore error
    → Becomes (PutsNoSuper uuid geometry) old new → NotPreparedOf uuid geometry old new error
not_prepared uuid geometry old new error of_store no_super = record {
  exists = λ is. absurd (subst IsOfStore is of_store);
  puts =
      becomes_may_put uuid geometry error old new of_store
      (becomes_so (PutsNoSuper uuid geometry) (PutsSome uuid geometry) old new (λ a b so. inl so) no_super);
  no_super = no_super;
  no_device = λ is. subst IsOfStore is of_store;
}

first_failed : (uuid : List ℕ) (geometry : Geometry) (old new : Objects) → MayBecome (PutsFirst uuid geometry) old new
    → PutsNoSuper uuid geometry old new
first_failed uuid geometry old new (inl same) = inl same
first_failed uuid geometry old new (inr first) = inr (inl first)

-- the put of the first object was not acknowledged
pub after_first_error : (uuid : List ℕ) (geometry : Geometry) (old before new : Option Objects) → before ≡ old
    → Becomes (MayBecome (PutsFirst uuid geometry)) before new → Becomes (PutsNoSuper uuid geometry) old new
after_first_error uuid geometry old before new same may =
    becomes_so (MayBecome (PutsFirst uuid geometry)) (PutsNoSuper uuid geometry) old new (first_failed uuid geometry)
    (subst (λ objects. Becomes (MayBecome (PutsFirst uuid geometry)) objects new) same may)

-- the first object and the first epoch were put
pub both_put : (uuid : List ℕ) (geometry : Geometry) (old before first new : Option Objects) → before ≡ old
    → Becomes (PutsFirst uuid geometry) before first → Becomes (PutsEpoch uuid 0) first new
    → Becomes (PutsEpochToo uuid geometry) old new
both_put uuid geometry old before first new same put epoch =
    becomes_both (PutsFirst uuid geometry) (PutsEpoch uuid 0) (PutsEpochToo uuid geometry) old first new
    (λ a b c one next. (b, one, next)) (subst (λ objects. Becomes (PutsFirst uuid geometry) objects first) same put) epoch

-- ---- the device

-- an error that comes before the cache is made leaves it as it was
pub not_formatted : (uuid : List ℕ) (error : CreateError) (disk : DiskState) → (error ≡ DeviceFault → ⊥)
    → MayFormat uuid error disk disk
not_formatted uuid Exists disk other = refl
not_formatted uuid StoreFault disk other = inl refl
not_formatted uuid DeviceFault disk other = absurd (other refl)
not_formatted uuid OutOfMemory disk other = inl refl

-- and one of the store that comes after it leaves it formatted
pub formatted_then : (uuid : List ℕ) (error : CreateError) (disk left : DiskState) → IsOfStore error
    → CostsFormat uuid true disk left → MayFormat uuid error disk left
formatted_then uuid Exists disk left of_store calls = absurd of_store
formatted_then uuid StoreFault disk left of_store calls = inr calls
formatted_then uuid DeviceFault disk left of_store calls = absurd of_store
formatted_then uuid OutOfMemory disk left of_store calls = inr calls

-- ---- the list of a new volume

-- its geometry, and that it is the list of the volume that it names
pub list_geometry : (uuid : List ℕ) (geometry : Geometry) (list : ObjLogState) → IsNewList uuid geometry list
    → list.batch.geometry ≡ geometry
list_geometry uuid geometry list is = ap (λ (b : BatchState). b.geometry) is.batch

pub list_is_new : (uuid : List ℕ) (geometry : Geometry) (list : ObjLogState) → IsNewList uuid geometry list
    → IsNewList list.uploads.uuid list.batch.geometry list
list_is_new uuid geometry list is =
    subst (λ g. IsNewList list.uploads.uuid g list) (sym (list_geometry uuid geometry list is))
    (subst (λ u. IsNewList u geometry list) (sym is.uuid_is) is)

-- so a volume with that list is the one that was asked for
pub created_of_list : (uuid : List ℕ) (geometry : Geometry) (list : ObjLogState) (disk : DiskState) (stepped : SteppedVolume)
    → IsNewList uuid geometry list → CreatedOf list.uploads.uuid list.batch.geometry disk stepped
    → CreatedOf uuid geometry disk stepped
created_of_list uuid geometry list disk stepped is created =
    subst (λ g. CreatedOf uuid g disk stepped) (list_geometry uuid geometry list is)
    (subst (λ u. CreatedOf u list.batch.geometry disk stepped) is.uuid_is created)

-- memory ran out for it, once all but the super object was put
pub no_list : (uuid : List ℕ) (geometry : Geometry) (old new : Option Objects) → Becomes (PutsEpochToo uuid geometry) old new
    → NotPreparedOf uuid geometry old new OutOfMemory
no_list uuid geometry old new puts =
    not_prepared uuid geometry old new OutOfMemory tt
    (becomes_so (PutsEpochToo uuid geometry) (PutsNoSuper uuid geometry) old new (λ a b so. inr (inr so)) puts)
