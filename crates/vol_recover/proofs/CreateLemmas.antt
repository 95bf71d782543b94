-- For `create`: the first object of a volume, and what its puts leave of a store.
use Rattle.std.proofs.Common.{◌≡◌, ℕ, List, [], length, refl, sym, subst, inl, inr, rules, tests}
use Rattle.std.specs.Prelude.{Option}
use Rattle.std.proofs.lemmas.List.{append-nil}
use Rattle.lsvd_base.specs.declared.geometry.Geometry.{Geometry}
use Rattle.lsvd_names.specs.Names.{numbered_name}
use Rattle.lsvd_objstore.specs.declared.error.StoreError.{StoreError}
use Rattle.lsvd_objstore.specs.declared.error.StoreError.TheVariants as store_errors
use Rattle.lsvd_objstore.specs.Objects.{Objects, IsPut, MayBePut}
use Rattle.lsvd_objstore.specs.Store.{StoreState, Becomes}
use Rattle.object_format.specs.declared.expected.Expected.{Expected}
use Rattle.object_format.specs.declared.header.Header.{Header}
use Rattle.object_format.specs.declared.rows.Rows.TheVariants.{Checkpoint}
use Rattle.object_format.specs.Header.{HasWidths}
use Rattle.object_format.specs.Laws.{WritesObjects}
use Rattle.object_format.specs.Object.{IsObject}
use Rattle.object_format.specs.Writing.{object_header_of, MayBeWritten, front_bytes}
use Rattle.ckpt_format.proofs.LawLemmas.{is_object_without_rows}
use Rattle.stopped_volume.specs.Expected.{expected_alone}
use Rattle.object_recovery.specs.Checkpoints.{expected_of}
use Rattle.super_recovery.specs.declared.error.SuperError.{SuperError}
use Rattle.super_recovery.specs.declared.error.SuperError.TheVariants as super_errors
use Rattle.super_recovery.specs.Faults.{IsNoAnswer}
use Rattle.super_recovery.specs.Put.{PutsSuper, PutsEpoch, MayBecome}
use Rattle.vol_recover.specs.declared.creating.CreateError.{CreateError}
use Rattle.vol_recover.specs.declared.creating.CreateError.TheVariants.{Exists, StoreFault, DeviceFault, OutOfMemory}
use Rattle.vol_recover.specs.Creating.{IsFirstObject, PutsFirst, PutsEpochToo, PutsNoSuper, PutsSome, PutsVolume, MayPut}
use Rattle.vol_recover.specs.Creating.{IsOfStore, super_of, of_super}
use Rattle.object_recovery.proofs.RemovalLemmas.{becomes_so, becomes_both}
use Rattle.vol_recover.proofs.Results.{same_objects, none_changed}

-- ---- the first object

-- what is expected of it, and its header
abbrev first_expected : (uuid : List ℕ) → Geometry → Expected
first_expected uuid geometry = expected_alone (expected_of uuid geometry 0) 1

abbrev first_header : (uuid : List ℕ) → Geometry → Header
first_header uuid geometry = object_header_of (first_expected uuid geometry) 0 0 Checkpoint

pub may_be_written : (uuid : List ℕ) (geometry : Geometry)
    → MayBeWritten (first_expected uuid geometry) (first_header uuid geometry) Checkpoint
may_be_written uuid geometry = record { seqs = refl; limits = search (rules, tests); spelling = refl }

pub first_object_is : (uuid : List ℕ) (geometry : Geometry) (bytes : List ℕ) → WritesObjects → length uuid ≡ 16
    → bytes ≡ front_bytes (first_header uuid geometry) Checkpoint → IsFirstObject uuid geometry bytes
first_object_is uuid geometry bytes law size is =
    let header : Header = first_header uuid geometry in
    let widths : HasWidths header =
    record {
      uuid = size;
      number = search rules;
      first_seq = search rules;
      end_seq = search rules;
      rows = search rules;
      payload = search rules;
    } in
    let written = law (first_expected uuid geometry) 0 0 Checkpoint [] widths (may_be_written uuid geometry) refl in
    let P : List ℕ → Type 0 = λ b. IsObject b (length b) (first_expected uuid geometry) header Checkpoint in
    (is_object_without_rows bytes (first_expected uuid geometry) 0).1
    (subst P (sym is) (subst P (append-nil (front_bytes header Checkpoint)) written))

-- ---- its put

put_first_is : (uuid : List ℕ) (geometry : Geometry) (bytes : List ℕ) → IsFirstObject uuid geometry bytes → (old new : Objects)
    → IsPut (numbered_name uuid 1) bytes old new → PutsFirst uuid geometry old new
put_first_is uuid geometry bytes first old new put = (
  bytes,
  put,
  record {
    bytes = bytes;
    present = put.put;
    rows = [];
    is_checkpoint = first;
    says = λ k. refl;
  },
)

pub puts_first : (uuid : List ℕ) (geometry : Geometry) (bytes : List ℕ) (old new : Option Objects)
    → IsFirstObject uuid geometry bytes
    → Becomes (IsPut (numbered_name uuid 1) bytes) old new → Becomes (PutsFirst uuid geometry) old new
puts_first uuid geometry bytes old new first put =
    becomes_so (IsPut (numbered_name uuid 1) bytes) (PutsFirst uuid geometry) old new (put_first_is uuid geometry bytes first) put

may_put_first : (uuid : List ℕ) (geometry : Geometry) (bytes : List ℕ) → IsFirstObject uuid geometry bytes → (old new : Objects)
    → MayBePut (numbered_name uuid 1) bytes old new → MayBecome (PutsFirst uuid geometry) old new
may_put_first uuid geometry bytes first old new (inl same) = inl same
may_put_first uuid geometry bytes first old new (inr put) = inr (put_first_is uuid geometry bytes first old new put)

-- ---- calls that did nothing, or that failed

-- what an error of the put of the first object leaves
pub after_error : (uuid : List ℕ) (geometry : Geometry) (bytes : List ℕ) (error : StoreError) (old new : StoreState)
    → IsFirstObject uuid geometry bytes
    → (error ≡ store_errors.Failed → Becomes (MayBePut (numbered_name uuid 1) bytes) old.objects new.objects)
    → (error ≡ store_errors.OutOfMemory → new ≡ old) → Becomes (MayBecome (PutsFirst uuid geometry)) old.objects new.objects
after_error uuid geometry bytes store_errors.Failed old new first failed lacks =
    becomes_so (MayBePut (numbered_name uuid 1) bytes) (MayBecome (PutsFirst uuid geometry)) old.objects new.objects
    (may_put_first uuid geometry bytes first) (failed refl)
after_error uuid geometry bytes store_errors.OutOfMemory old new first failed lacks =
    none_changed (MayBecome (PutsFirst uuid geometry)) old.objects new.objects (λ objects. inl refl)
    (same_objects old new (lacks refl))

-- and one of the put of a super object or of an epoch
pub after_super_error : (Change : Objects → Objects → Type 0) (error : SuperError) (old new : StoreState) → IsNoAnswer error
    → (error ≡ super_errors.StoreFault → Becomes (MayBecome Change) old.objects new.objects)
    → (error ≡ super_errors.OutOfMemory → new ≡ old) → Becomes (MayBecome Change) old.objects new.objects
after_super_error Change super_errors.NoVolume old new answer failed lacks = absurd answer
after_super_error Change (super_errors.BadSuper reason) old new answer failed lacks = absurd answer
after_super_error Change super_errors.StoreFault old new answer failed lacks = failed refl
after_super_error Change super_errors.OutOfMemory old new answer failed lacks =
    none_changed (MayBecome Change) old.objects new.objects (λ objects. inl refl) (same_objects old new (lacks refl))

pub of_super_is_of_store : (error : SuperError) → IsOfStore (of_super error)
of_super_is_of_store super_errors.NoVolume = tt
of_super_is_of_store (super_errors.BadSuper reason) = tt
of_super_is_of_store super_errors.StoreFault = tt
of_super_is_of_store super_errors.OutOfMemory = tt

-- ---- the puts in their order

may_put : (uuid : List ℕ) (geometry : Geometry) (error : CreateError) (old new : Objects) → IsOfStore error
    → PutsSome uuid geometry old new → MayPut uuid geometry error old new
may_put uuid geometry Exists old new of_store some = absurd of_store
may_put uuid geometry StoreFault old new of_store some = some
may_put uuid geometry DeviceFault old new of_store some = absurd of_store
may_put uuid geometry OutOfMemory old new of_store some = some

-- the put of the epoch was not acknowledged
epoch_failed : (uuid : List ℕ) (geometry : Geometry) (old middle new : Objects) → PutsFirst uuid geometry old middle
    → MayBecome (PutsEpoch uuid 0) middle new → PutsNoSuper uuid geometry old new
epoch_failed uuid geometry old middle new first (inl same) = inr (inl (subst (PutsFirst uuid geometry old) (sym same) first))
epoch_failed uuid geometry old middle new first (inr epoch) = inr (inr (middle, first, epoch))

pub after_epoch_error : (uuid : List ℕ) (geometry : Geometry) (old before first new : Option Objects) → before ≡ old
    → Becomes (PutsFirst uuid geometry) before first → Becomes (MayBecome (PutsEpoch uuid 0)) first new
    → Becomes (PutsNoSuper uuid geometry) old new
after_epoch_error uuid geometry old before first new same put may =
    becomes_both (PutsFirst uuid geometry) (MayBecome (PutsEpoch uuid 0)) (PutsNoSuper uuid geometry) old first new
    (epoch_failed uuid geometry)
    (subst (λ objects. Becomes (PutsFirst uuid geometry) objects first) same put) may

-- that of the super object after these
super_failed : (uuid : List ℕ) (geometry : Geometry) (old middle new : Objects) → PutsEpochToo uuid geometry old middle
    → MayBecome (PutsSuper (super_of uuid geometry)) middle new → PutsSome uuid geometry old new
super_failed uuid geometry old middle new puts (inl same) =
    inl (inr (inr (subst (PutsEpochToo uuid geometry old) (sym same) puts)))
super_failed uuid geometry old middle new puts (inr super) = inr (middle, puts, super)

pub some_put : (uuid : List ℕ) (geometry : Geometry) (old middle new : Option Objects)
    → Becomes (PutsEpochToo uuid geometry) old middle
    → Becomes (MayBecome (PutsSuper (super_of uuid geometry))) middle new → Becomes (PutsSome uuid geometry) old new
some_put uuid geometry old middle new puts may =
    becomes_both (PutsEpochToo uuid geometry) (MayBecome (PutsSuper (super_of uuid geometry))) (PutsSome uuid geometry)
    old middle new
    (super_failed uuid geometry) puts may

pub all_put : (uuid : List ℕ) (geometry : Geometry) (old middle new : Option Objects)
    → Becomes (PutsEpochToo uuid geometry) old middle
    → Becomes (PutsSuper (super_of uuid geometry)) middle new → Becomes (PutsVolume uuid geometry) old new
all_put uuid geometry old middle new puts super =
    becomes_both (PutsEpochToo uuid geometry) (PutsSuper (super_of uuid geometry)) (PutsVolume uuid geometry) old middle new
    (λ a b c first last. (b, first, last)) puts super

pub becomes_may_put : (uuid : List ℕ) (geometry : Geometry) (error : CreateError) (old new : Option Objects) → IsOfStore error
    → Becomes (PutsSome uuid geometry) old new → Becomes (MayPut uuid geometry error) old new
becomes_may_put uuid geometry error old new of_store some =
    becomes_so (PutsSome uuid geometry) (MayPut uuid geometry error) old new
    (λ a b so. may_put uuid geometry error a b of_store so) some
