-- For the proofs of callers: what a mount promises of whichever volume the store has.
use Rattle.std.proofs.Common.{◌≡◌, ℕ, ◌+◌, ◌⊎◌, Bool, true, false, not, List, [], ◌∷◌, refl, sym, ap, subst, inl, inr, arith}
use Rattle.std.specs.Prelude.{Option, Ok, Err, IsTrue, length}
use Rattle.clone_chain.specs.declared.ancestor.Ancestor.{Ancestor}
use Rattle.lsvd_base.specs.declared.geometry.Geometry.{Geometry}
use Rattle.lsvd_base.specs.Limits.{is_within_limits}
use Rattle.lsvd_fault.specs.Faults.{Counts}
use Rattle.lsvd_device.specs.Medium.{Medium}
use Rattle.lsvd_device.specs.Device.{DiskState, IsDisk, HoldsNow}
use Rattle.lsvd_device.specs.Memory.{IsSynced}
use Rattle.lsvd_names.specs.declared.name.ObjName.{ObjName}
use Rattle.lsvd_objstore.specs.Objects.{Objects}
use Rattle.lsvd_objstore.specs.Store.{StoreState, Becomes}
use Rattle.commit_slot.specs.Slots.{log_of}
use Rattle.cache_log.specs.Reads.{reads_cost}
use Rattle.cache_log.proofs.ForCallers.{nothing_taken}
use Rattle.object_format.specs.declared.expected.Expected.{Expected}
use Rattle.stopped_volume.specs.Device.{owner_with}
use Rattle.object_recovery.specs.Checkpoints.{expected_of}
use Rattle.object_recovery.specs.Removal.{Removes}
use Rattle.object_recovery.specs.Recovery.{IsPastOf, RemovesAllPast, MayRemovePast}
use Rattle.object_recovery.proofs.RemovalLemmas.{becomes_so}
use Rattle.super_recovery.specs.Put.{PutsEpoch}
use Rattle.refusals.specs.declared.refusal.Refusal.TheVariants.{NoVolume, BadSuper, BaseMissing, Worn}
use Rattle.vol_mount.specs.declared.error.MountError.{MountError}
use Rattle.vol_mount.specs.declared.error.MountError.TheVariants.{Refused, StoreFault, DeviceFault, OutOfMemory}
use Rattle.vol_mount.specs.Costs.{IsEntryCount, CostsMount, CostsNewLog, FailsToFormat}
use Rattle.vol_mount.specs.Epochs.{BeginsEpoch, MayBeginEpoch}
use Rattle.vol_mount.specs.Mounted.{MountedState, IsOfVolume, disk_of, NumbersNextCommit}
use Rattle.vol_mount.specs.Mounting.{MountsStored, MountsLeft, KeepsLeft, RefusesNoneStored, RefusesNoneLeft}
use Rattle.vol_mount.specs.Mounts.{MountsWithCache, MountsWithoutCache}
use Rattle.vol_mount.specs.Refusals.{IsWhyNotStored, IsWhyNotLeft, IsWhyLost, IsUnfitting, IsFault, refuses, is_device_fault}
use Rattle.vol_mount.specs.Refusals.{is_store_fault_of}
use Rattle.vol_recover.specs.Describing.{OfVolume, IsTheVolume, IsWhyNotDescribed, IsWhyFor, IsWhyOf}
use Rattle.vol_recover.specs.Mounting.{IsDescribed, IsNotDescribed, IsNotFitted, LeavesAll, IsMounting, MountsKept, MountsLost}
use Rattle.vol_recover.proofs.Results.{none_changed}

-- ---- what is seen of the volume, wherever it was found

-- it is the volume that was asked for, of some sizes within the limits and the log of the device, in some epoch
abbrev pub IsOfSomeVolume : (uuid : List ℕ) → (log : ℕ) → MountedState → Type 0
IsOfSomeVolume uuid log mounted =
    (geometry : Geometry) × (chain : List Ancestor) × (epoch : ℕ) × (geometry.log ≡ log) × IsTrue (is_within_limits geometry)
    × IsOfVolume (owner_with uuid epoch) geometry chain mounted

-- objects of a volume past some number were removed, or none, and nothing else changed
abbrev pub RemovesSome : (uuid : List ℕ) → (old new : Objects) → Type 0
RemovesSome uuid old new = (number : ℕ) × Removes (IsPastOf uuid number) old new

-- and then an epoch was put, or not
abbrev pub RemovesAndBegins : (uuid : List ℕ) → (old new : Objects) → Type 0
RemovesAndBegins uuid old new =
    (middle : Objects) × RemovesSome uuid old middle × ((new ≡ middle) ⊎ ((epoch : ℕ) × PutsEpoch uuid epoch middle new))

-- no call was made of the device; or one of its format in some epoch failed
abbrev pub FailsToFormatIn : (uuid : List ℕ) → (is_fault : Bool) → (old new : DiskState) → Type 0
FailsToFormatIn uuid is_fault old new = (epoch : ℕ) × FailsToFormat uuid epoch is_fault old new

-- ---- what a mount promises

-- a volume was mounted with its cache
pub record IsMadeKept (Tells : Type 0) (uuid : List ℕ) (disk : DiskState) (old new : StoreState) (mounted : MountedState) :
    Type 0 where
  pub some_volume : IsOfSomeVolume uuid (log_of disk.size) mounted
  pub volume : Tells → OfVolume uuid (log_of disk.size) old.objects
      (λ geometry chain epoch. IsOfVolume (owner_with uuid epoch) geometry chain mounted)
  pub mounts : Tells → OfVolume uuid (log_of disk.size) old.objects
      (λ geometry chain epoch. MountsLeft (owner_with uuid epoch) geometry chain old.objects disk mounted)
  pub removed : Becomes (RemovesAllPast uuid mounted.number) old.objects new.objects
  pub stops : Tells → OfVolume uuid (log_of disk.size) old.objects
      (λ geometry chain epoch. KeepsLeft (owner_with uuid epoch) geometry chain old.objects disk (disk_of mounted))
  pub costs : CostsMount (log_of disk.size) true disk (disk_of mounted)
  pub synced : HoldsNow IsSynced (disk_of mounted).moments
  pub number : NumbersNextCommit (log_of disk.size) disk mounted
  pub faults : new.faults ≡ old.faults

-- or it was not
pub record IsNotKept (Tells : Type 0) (uuid : List ℕ) (disk left : DiskState) (old new : StoreState) (error : MountError) :
    Type 0 where
  pub why : Tells → IsWhyOf uuid (log_of disk.size) old.objects
      (λ geometry chain epoch. IsWhyNotLeft (owner_with uuid epoch) geometry chain old.objects disk) error
  pub why_volume : Tells → OfVolume uuid (log_of disk.size) old.objects
      (λ geometry chain epoch. IsWhyFor uuid old.objects (λ g c e. IsWhyNotLeft
      (owner_with uuid e) g c old.objects disk) geometry chain epoch
      error)
  pub no_refusal : Tells → OfVolume uuid (log_of disk.size) old.objects
      (λ geometry chain epoch. RefusesNoneLeft (owner_with uuid epoch) geometry chain old.objects disk error)
  pub store : (IsFault error → ⊥) → new.objects ≡ old.objects
  pub left_is : Tells → OfVolume uuid (log_of disk.size) old.objects
      (λ geometry chain epoch. Becomes (MayRemovePast Tells (expected_of uuid geometry (length chain))) old.objects new.objects)
  pub some : Becomes (RemovesSome uuid) old.objects new.objects
  pub stops : Tells → OfVolume uuid (log_of disk.size) old.objects
      (λ geometry chain epoch. KeepsLeft (owner_with uuid epoch) geometry chain old.objects disk left)
  pub costs : CostsMount (log_of disk.size) (not (is_device_fault error)) disk left
  pub faults : Counts (is_store_fault_of error) old.faults new.faults
  pub is_disk : IsDisk left

-- a volume was mounted without its cache
pub record IsMadeLost (Tells : Type 0) (uuid : List ℕ) (disk : DiskState) (old new : StoreState) (mounted : MountedState) :
    Type 0 where
  pub some_volume : IsOfSomeVolume uuid (log_of disk.size) mounted
  pub volume : Tells → OfVolume uuid (log_of disk.size) old.objects
      (λ geometry chain epoch. IsOfVolume (owner_with uuid (epoch + 1)) geometry chain mounted)
  pub mounts : Tells → OfVolume uuid (log_of disk.size) old.objects
      (λ geometry chain epoch. MountsStored uuid geometry chain old.objects mounted)
  pub begun : Tells → OfVolume uuid (log_of disk.size) old.objects
      (λ geometry chain epoch. Becomes (BeginsEpoch uuid mounted.number (epoch + 1)) old.objects new.objects)
  pub some : Becomes (RemovesAndBegins uuid) old.objects new.objects
  pub synced : HoldsNow IsSynced (disk_of mounted).moments
  pub number : mounted.volume.volume.log.commits.number ≡ 0
  pub costs : (epoch : ℕ) × CostsNewLog uuid epoch true disk (disk_of mounted)
  pub faults : new.faults ≡ old.faults

-- or it was not
pub record IsNotLost (Tells : Type 0) (uuid : List ℕ) (disk left : DiskState) (old new : StoreState) (error : MountError) :
    Type 0 where
  pub why : Tells → IsWhyOf uuid (log_of disk.size) old.objects
      (λ geometry chain epoch. IsWhyLost uuid geometry chain epoch old.objects) error
  pub why_volume : Tells → OfVolume uuid (log_of disk.size) old.objects
      (λ geometry chain epoch. IsWhyFor uuid old.objects (λ g c e. IsWhyLost uuid g c e old.objects) geometry chain epoch error)
  pub no_refusal : Tells → OfVolume uuid (log_of disk.size) old.objects
      (λ geometry chain epoch. RefusesNoneStored uuid geometry chain old.objects error)
  pub store : (IsFault error → ⊥) → new.objects ≡ old.objects
  pub left_is : Tells → OfVolume uuid (log_of disk.size) old.objects
      (λ geometry chain epoch. Becomes (MayBeginEpoch Tells (expected_of uuid geometry (length chain))
      (epoch + 1)) old.objects new.objects)
  pub some : Becomes (RemovesAndBegins uuid) old.objects new.objects
  pub costs : FailsToFormatIn uuid (is_device_fault error) disk left
  pub faults : Counts (is_store_fault_of error) old.faults new.faults
  pub is_disk : IsDisk left

-- ---- whichever volume the store has

of_volume : (uuid : List ℕ) (log : ℕ) (objects : Option Objects) (geometry : Geometry) (chain : List Ancestor) (epoch : ℕ)
    (P : Geometry → List Ancestor → ℕ → Type 0)
    → IsTheVolume uuid log objects geometry chain epoch → P geometry chain epoch → OfVolume uuid log objects P
of_volume uuid log objects geometry chain epoch P the so g c e log_is has =
    let same = the g c e log_is has in
    subst (P g c) same.2 (subst (λ c. P g c epoch) same.1 (subst (λ g. P g chain epoch) same.0 so))

-- ---- the store

removes_none : (Which : ObjName → Type 0) (objects : Objects) → Removes Which objects objects
removes_none Which objects = record { others = λ name not. refl; removed = λ name. inl refl }

removes_nothing : (Which : ObjName → Type 0) (old new : Objects) → new ≡ old → Removes Which old new
removes_nothing Which old new same = subst (Removes Which old) (sym same) (removes_none Which old)

removes_some : (Tells : Type 0) (volume : Expected) (old new : Objects) → MayRemovePast Tells volume old new
    → RemovesSome volume.uuid old new
removes_some Tells volume old new (inl same) = (0, removes_nothing (IsPastOf volume.uuid 0) old new same)
removes_some Tells volume old new (inr some) = (some.0, some.2)

begins_some : (uuid : List ℕ) (number epoch : ℕ) (old new : Objects) → BeginsEpoch uuid number epoch old new
    → RemovesAndBegins uuid old new
begins_some uuid number epoch old new begins = (begins.0, (number, begins.1.removes), inr (epoch, begins.2))

may_begin_some : (Tells : Type 0) (volume : Expected) (epoch : ℕ) (old new : Objects) → MayBeginEpoch Tells volume epoch old new
    → RemovesAndBegins volume.uuid old new
may_begin_some Tells volume epoch old new (inl may) = (new, removes_some Tells volume old new may, inl refl)
may_begin_some Tells volume epoch old new (inr begins) = begins_some volume.uuid begins.0 epoch old new begins.2

-- ---- the device

-- a mount came to no entry
counts_none : (log : ℕ) (moments : List Medium) → HoldsNow (IsEntryCount log 0) moments
counts_none log [] = tt
counts_none log (now ∷ past) = inl refl

-- it made no call, and ended by no fault of the device
costs_nothing : (log : ℕ) (error : MountError) (disk : DiskState) → is_device_fault error ≡ false
    → CostsMount log (not (is_device_fault error)) disk disk
costs_nothing log error disk none =
    let costs : CostsMount log true disk disk = record {
      count = 0;
      is_count = counts_none log disk.moments;
      calls = record {
        cost = reads_cost 0;
        most_calls = omega arith;
        most_changes = omega arith;
        most_bytes = omega arith;
        calls = record { size = refl; faults = refl; budget = nothing_taken disk.budget };
      };
    } in
    subst (λ made. CostsMount log made disk disk) (sym (ap not none)) costs

-- ---- errors that come before

-- a volume that the store has is not refused as a whole: that ended by a fault
why_stored : (error : MountError) (uuid : List ℕ) (geometry : Geometry) (chain : List Ancestor) (objects : Option Objects)
    → IsWhyNotDescribed uuid objects error → refuses error ≡ false → IsWhyNotStored uuid geometry chain objects error
why_stored (Refused NoVolume) uuid geometry chain objects why not = (let none : ⊥ = cc in absurd none)
why_stored (Refused (BadSuper reason)) uuid geometry chain objects why not = (let none : ⊥ = cc in absurd none)
why_stored (Refused (BaseMissing ancestor)) uuid geometry chain objects why not = (let none : ⊥ = cc in absurd none)
why_stored (Refused refusal) uuid geometry chain objects why not = absurd why
why_stored StoreFault uuid geometry chain objects why not = tt
why_stored DeviceFault uuid geometry chain objects why not = absurd why
why_stored OutOfMemory uuid geometry chain objects why not = tt

-- why the objects are refused is why a mount without the cache gives none
why_lost : (error : MountError) (uuid : List ℕ) (geometry : Geometry) (chain : List Ancestor) (epoch : ℕ)
    (objects : Option Objects)
    → IsWhyNotStored uuid geometry chain objects error → IsWhyLost uuid geometry chain epoch objects error
why_lost (Refused (Worn value)) uuid geometry chain epoch objects why = absurd why
why_lost error uuid geometry chain epoch objects why = why

not_both : (b : Bool) → b ≡ false → b ≡ true → ⊥
not_both b is_false is_true = cc

-- a log that does not fit a volume fits no plain volume with its sizes
fits_none : (uuid : List ℕ) (geometry : Geometry) (chain : List Ancestor) (objects : Option Objects) (error : MountError)
    → is_within_limits geometry ≡ false → RefusesNoneStored uuid geometry chain objects error
fits_none uuid geometry chain objects error unfit plain number stored =
    absurd (not_both (is_within_limits geometry) unfit stored.limits)

module _ {D : Type 0} (state : D → DiskState) (Tells : Type 0) (uuid : List ℕ) (disk : DiskState) (old new : StoreState) where
  abbrev log : ℕ
  log = log_of disk.size

  abbrev objects : Option Objects
  objects = old.objects

  -- ---- device and store are as they were

  module _ (left : DiskState) (error : MountError) (all : LeavesAll disk left old new error) where
    keeps_same : (geometry : Geometry) (chain : List Ancestor) (epoch : ℕ)
        → KeepsLeft (owner_with uuid epoch) geometry chain objects disk left
    keeps_same geometry chain epoch =
        subst (λ d. KeepsLeft (owner_with uuid epoch) geometry chain objects disk d) (sym all.device)
        (λ plain found number had synced. record { since = []; moments = refl; each = tt })

    costs_none : CostsMount log (not (is_device_fault error)) disk left
    costs_none =
        subst (λ d. CostsMount log (not (is_device_fault error)) disk d) (sym all.device)
        (costs_nothing log error disk all.no_fault)

    formats_none : FailsToFormatIn uuid (is_device_fault error) disk left
    formats_none = (0, subst (λ b. FailsToFormat uuid 0 b disk left) (sym all.no_fault) all.device)

    removed_none : Becomes (RemovesSome uuid) objects new.objects
    removed_none =
        none_changed (RemovesSome uuid) objects new.objects (λ o. (0, removes_none (IsPastOf uuid 0) o)) all.objects

    begun_none : Becomes (RemovesAndBegins uuid) objects new.objects
    begun_none =
        none_changed (RemovesAndBegins uuid) objects new.objects (λ o. (o, (0, removes_none (IsPastOf uuid 0) o), inl refl))
        all.objects

    left_all : (volume : Expected) → Becomes (MayRemovePast Tells volume) objects new.objects
    left_all volume = none_changed (MayRemovePast Tells volume) objects new.objects (λ o. inl refl) all.objects

    begun_all : (volume : Expected) (epoch : ℕ) → Becomes (MayBeginEpoch Tells volume epoch) objects new.objects
    begun_all volume epoch =
        none_changed (MayBeginEpoch Tells volume epoch) objects new.objects (λ o. inl (inl refl)) all.objects

    -- no volume is described
    not_kept_described : IsNotDescribed Tells uuid log objects error → IsNotKept Tells uuid disk left old new error
    not_kept_described none = record {
      why = λ tells. inl (none.why tells);
      why_volume = λ tells geometry chain epoch log_is has.
          inr (inl (why_stored error uuid geometry chain objects (none.why tells)
          (none.no_refusal tells geometry chain epoch log_is has)));
      no_refusal = λ tells geometry chain epoch log_is has plain found number had.
          none.no_refusal tells geometry chain epoch log_is has;
      store = λ no. all.objects;
      left_is = λ tells geometry chain epoch log_is has. left_all (expected_of uuid geometry (length chain));
      some = removed_none;
      stops = λ tells geometry chain epoch log_is has. keeps_same geometry chain epoch;
      costs = costs_none;
      faults = all.faults;
      is_disk = all.is_disk;
    }

    not_lost_described : IsNotDescribed Tells uuid log objects error → IsNotLost Tells uuid disk left old new error
    not_lost_described none = record {
      why = λ tells. inl (none.why tells);
      why_volume = λ tells geometry chain epoch log_is has.
          inr
          (why_lost error uuid geometry chain epoch objects
          (why_stored error uuid geometry chain objects (none.why tells)
          (none.no_refusal tells geometry chain epoch log_is has)));
      no_refusal = λ tells geometry chain epoch log_is has plain number had.
          none.no_refusal tells geometry chain epoch log_is has;
      store = λ no. all.objects;
      left_is = λ tells geometry chain epoch log_is has. begun_all (expected_of uuid geometry (length chain)) (epoch + 1);
      some = begun_none;
      costs = formats_none;
      faults = all.faults;
      is_disk = all.is_disk;
    }

    -- the log of the device does not fit the one that is described
    module _ (geometry : Geometry) (chain : List Ancestor) (epoch : ℕ)
        (is : IsDescribed Tells uuid log objects geometry chain epoch)
        (unfit : is_within_limits geometry ≡ false) (why : IsNotFitted Tells uuid geometry chain objects error) where
      of_unfit : (P : Geometry → List Ancestor → ℕ → Type 0) → Tells → P geometry chain epoch → OfVolume uuid log objects P
      of_unfit P tells so = of_volume uuid log objects geometry chain epoch P (is.same tells) so

      why_for : (Why : Geometry → List Ancestor → ℕ → MountError → Type 0)
          → (IsWhyNotStored uuid geometry chain objects error → Why geometry chain epoch error)
          → IsUnfitting uuid geometry chain objects error ⊎ IsWhyNotStored uuid geometry chain objects error
          → IsWhyFor uuid objects Why geometry chain epoch error
      why_for Why follows (inl no_fit) = inl (unfit, no_fit)
      why_for Why follows (inr stored) = inr (follows stored)

      not_kept_fitted : IsNotKept Tells uuid disk left old new error
      not_kept_fitted =
          let Why : Geometry → List Ancestor → ℕ → MountError
          → Type 0 = λ g c e. IsWhyNotLeft (owner_with uuid e) g c objects disk in
          let because = λ (tells : Tells). why_for Why (λ stored. inl stored) (why tells) in
          record {
            why = λ tells. inr (geometry, chain, epoch, is.log_is, is.says tells, because tells);
            why_volume = λ tells. of_unfit (λ g c e. IsWhyFor uuid objects Why g c e error) tells (because tells);
            no_refusal = λ tells.
                of_unfit (λ g c e. RefusesNoneLeft (owner_with uuid e) g c objects disk error) tells
                (λ plain found number had. fits_none uuid geometry chain objects error unfit plain number had.stored);
            store = λ no. all.objects;
            left_is = λ tells g c e log_is has. left_all (expected_of uuid g (length c));
            some = removed_none;
            stops = λ tells g c e log_is has. keeps_same g c e;
            costs = costs_none;
            faults = all.faults;
            is_disk = all.is_disk;
          }

      not_lost_fitted : IsNotLost Tells uuid disk left old new error
      not_lost_fitted =
          let Why : Geometry → List Ancestor → ℕ → MountError → Type 0 = λ g c e. IsWhyLost uuid g c e objects in
          let because = λ (tells : Tells). why_for Why (why_lost error uuid geometry chain epoch objects) (why tells) in
          record {
            why = λ tells. inr (geometry, chain, epoch, is.log_is, is.says tells, because tells);
            why_volume = λ tells. of_unfit (λ g c e. IsWhyFor uuid objects Why g c e error) tells (because tells);
            no_refusal = λ tells.
                of_unfit (λ g c e. RefusesNoneStored uuid g c objects error) tells
                (fits_none uuid geometry chain objects error unfit);
            store = λ no. all.objects;
            left_is = λ tells g c e log_is has. begun_all (expected_of uuid g (length c)) (e + 1);
            some = begun_none;
            costs = formats_none;
            faults = all.faults;
            is_disk = all.is_disk;
          }

  -- ---- the volume that is described was mounted, or not

  module _ (geometry : Geometry) (chain : List Ancestor) (epoch : ℕ)
      (is : IsDescribed Tells uuid log objects geometry chain epoch)
      (limits : IsTrue (is_within_limits geometry)) where
    of_fit : (P : Geometry → List Ancestor → ℕ → Type 0) → Tells → P geometry chain epoch → OfVolume uuid log objects P
    of_fit P tells so = of_volume uuid log objects geometry chain epoch P (is.same tells) so

    made_with_cache : (mounted : MountedState)
        → MountsWithCache state Tells (owner_with uuid epoch) geometry chain disk old new (Ok mounted)
        → IsMadeKept Tells uuid disk old new mounted
    made_with_cache mounted mounts =
        let made = mounts.made in
        record {
          some_volume = (geometry, chain, epoch, is.log_is, limits, made.volume);
          volume = λ tells. of_fit (λ g c e. IsOfVolume (owner_with uuid e) g c mounted) tells made.volume;
          mounts = λ tells. of_fit (λ g c e. MountsLeft (owner_with uuid e) g c objects disk mounted) tells (made.mounts tells);
          removed = made.removed;
          stops = λ tells.
              of_fit (λ g c e. KeepsLeft (owner_with uuid e) g c objects disk (disk_of mounted)) tells (made.stops tells);
          costs = subst (λ n. CostsMount n true disk (disk_of mounted)) is.log_is made.costs;
          synced = made.synced;
          number = subst (λ n. NumbersNextCommit n disk mounted) is.log_is made.number;
          faults = mounts.faults;
        }

    none_with_cache : (left : D) (error : MountError)
        → MountsWithCache state Tells (owner_with uuid epoch) geometry chain disk old new (Err (left, error))
        → IsNotKept Tells uuid disk (state left) old new error
    none_with_cache left error mounts =
        let none = mounts.none in
        let Why : Geometry → List Ancestor → ℕ → MountError
        → Type 0 = λ g c e. IsWhyNotLeft (owner_with uuid e) g c objects disk in
        let volume = expected_of uuid geometry (length chain) in
        record {
          why = λ tells. inr (geometry, chain, epoch, is.log_is, is.says tells, inr (none.why tells));
          why_volume = λ tells. of_fit (λ g c e. IsWhyFor uuid objects Why g c e error) tells (inr (none.why tells));
          no_refusal = λ tells.
              of_fit (λ g c e. RefusesNoneLeft (owner_with uuid e) g c objects disk error) tells (none.no_refusal tells);
          store = none.store;
          left_is = λ tells.
              of_fit (λ g c e. Becomes (MayRemovePast Tells (expected_of uuid g (length c))) objects new.objects) tells none.some;
          some =
              becomes_so (MayRemovePast Tells volume) (RemovesSome uuid) objects new.objects (removes_some Tells volume)
              none.some;
          stops = λ tells. of_fit (λ g c e. KeepsLeft (owner_with uuid e) g c objects disk (state left)) tells (none.stops tells);
          costs = subst (λ n. CostsMount n (not (is_device_fault error)) disk (state left)) is.log_is none.costs;
          faults = mounts.faults;
          is_disk = none.is_disk;
        }

    made_without_cache : (mounted : MountedState)
        → MountsWithoutCache state Tells uuid geometry chain epoch disk old new (Ok mounted)
        → IsMadeLost Tells uuid disk old new mounted
    made_without_cache mounted mounts =
        let made = mounts.made in
        record {
          some_volume = (geometry, chain, epoch + 1, is.log_is, limits, made.volume);
          volume = λ tells. of_fit (λ g c e. IsOfVolume (owner_with uuid (e + 1)) g c mounted) tells made.volume;
          mounts = λ tells. of_fit (λ g c e. MountsStored uuid g c objects mounted) tells (made.mounts tells);
          begun = λ tells.
              of_fit (λ g c e. Becomes (BeginsEpoch uuid mounted.number (e + 1)) objects new.objects) tells made.begun;
          some =
              becomes_so (BeginsEpoch uuid mounted.number (epoch + 1)) (RemovesAndBegins uuid) objects new.objects
              (begins_some uuid mounted.number (epoch + 1)) made.begun;
          synced = made.synced;
          number = made.number;
          costs = (epoch + 1, made.costs);
          faults = mounts.faults;
        }

    none_without_cache : (left : D) (error : MountError)
        → MountsWithoutCache state Tells uuid geometry chain epoch disk old new (Err (left, error))
        → IsNotLost Tells uuid disk (state left) old new error
    none_without_cache left error mounts =
        let none = mounts.none in
        let Why : Geometry → List Ancestor → ℕ → MountError → Type 0 = λ g c e. IsWhyLost uuid g c e objects in
        let volume = expected_of uuid geometry (length chain) in
        record {
          why = λ tells. inr (geometry, chain, epoch, is.log_is, is.says tells, inr (none.why tells));
          why_volume = λ tells. of_fit (λ g c e. IsWhyFor uuid objects Why g c e error) tells (inr (none.why tells));
          no_refusal = λ tells. of_fit (λ g c e. RefusesNoneStored uuid g c objects error) tells (none.no_refusal tells);
          store = none.store;
          left_is = λ tells.
              of_fit (λ g c e. Becomes (MayBeginEpoch Tells (expected_of uuid g (length c))
              (e + 1)) objects new.objects) tells none.some;
          some =
              becomes_so (MayBeginEpoch Tells volume (epoch + 1)) (RemovesAndBegins uuid) objects new.objects
              (may_begin_some Tells volume (epoch + 1)) none.some;
          costs = (epoch + 1, none.costs);
          faults = mounts.faults;
          is_disk = none.is_disk;
        }

  -- ---- each way out

  made_kept_by : (mounted : MountedState)
      → IsMounting state Tells uuid disk old new (Ok mounted)
      (λ geometry chain epoch. MountsWithCache state Tells (owner_with uuid epoch) geometry chain disk old new (Ok mounted))
      → IsMadeKept Tells uuid disk old new mounted
  made_kept_by mounted (inl before) = absurd before
  made_kept_by mounted (inr (geometry, chain, epoch, is, inl before)) = absurd before.1
  made_kept_by mounted (inr
      (geometry, chain, epoch, is, inr fits)) = made_with_cache geometry chain epoch is fits.0 mounted fits.1

  pub made_kept : (mounted : MountedState) → MountsKept state Tells uuid disk old new (Ok mounted)
      → IsMadeKept Tells uuid disk old new mounted
  made_kept mounted mounts = made_kept_by mounted mounts.is

  not_kept_by : (left : D) (error : MountError)
      → IsMounting state Tells uuid disk old new (Err (left, error))
      (λ geometry chain epoch. MountsWithCache state Tells (owner_with uuid epoch) geometry chain disk old new (Err
      (left, error)))
      → IsNotKept Tells uuid disk (state left) old new error
  not_kept_by left error (inl before) = not_kept_described (state left) error before.1 before.0
  not_kept_by left error (inr (geometry, chain, epoch, is, inl before)) =
      not_kept_fitted (state left) error before.1.1 geometry chain epoch is before.0 before.1.0
  not_kept_by left error (inr
      (geometry, chain, epoch, is, inr fits)) = none_with_cache geometry chain epoch is fits.0 left error fits.1

  pub not_kept : (left : D) (error : MountError) → MountsKept state Tells uuid disk old new (Err (left, error))
      → IsNotKept Tells uuid disk (state left) old new error
  not_kept left error mounts = not_kept_by left error mounts.is

  made_lost_by : (mounted : MountedState)
      → IsMounting state Tells uuid disk old new (Ok mounted)
      (λ geometry chain epoch. MountsWithoutCache state Tells uuid geometry chain epoch disk old new (Ok mounted))
      → IsMadeLost Tells uuid disk old new mounted
  made_lost_by mounted (inl before) = absurd before
  made_lost_by mounted (inr (geometry, chain, epoch, is, inl before)) = absurd before.1
  made_lost_by mounted (inr
      (geometry, chain, epoch, is, inr fits)) = made_without_cache geometry chain epoch is fits.0 mounted fits.1

  pub made_lost : (mounted : MountedState) → MountsLost state Tells uuid disk old new (Ok mounted)
      → IsMadeLost Tells uuid disk old new mounted
  made_lost mounted mounts = made_lost_by mounted mounts.is

  not_lost_by : (left : D) (error : MountError)
      → IsMounting state Tells uuid disk old new (Err (left, error))
      (λ geometry chain epoch. MountsWithoutCache state Tells uuid geometry chain epoch disk old new (Err (left, error)))
      → IsNotLost Tells uuid disk (state left) old new error
  not_lost_by left error (inl before) = not_lost_described (state left) error before.1 before.0
  not_lost_by left error (inr (geometry, chain, epoch, is, inl before)) =
      not_lost_fitted (state left) error before.1.1 geometry chain epoch is before.0 before.1.0
  not_lost_by left error (inr
      (geometry, chain, epoch, is, inr fits)) = none_without_cache geometry chain epoch is fits.0 left error fits.1

  pub not_lost : (left : D) (error : MountError) → MountsLost state Tells uuid disk old new (Err (left, error))
      → IsNotLost Tells uuid disk (state left) old new error
  not_lost left error mounts = not_lost_by left error mounts.is
