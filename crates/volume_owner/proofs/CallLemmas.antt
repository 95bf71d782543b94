-- Calls of an owner, made of steps and puts.
use Rattle.std.proofs.Common.{arith, ◌≡◌, ℕ, ◌+◌, ◌*◌, ◌^◌, ◌≤◌, inl, inr, Bool, true, false, List, [], ◌∷◌, length, refl, sym}
use Rattle.std.proofs.Common.{◌∙◌, ap, subst}
use Rattle.std.specs.Prelude.{◌↔◌, Option, Some, None, Result, Ok, Err, IfOk, OnOk, IsOkUnless, IsErrOf, IsErrAnd}
use Rattle.lsvd_base.specs.declared.entry.Entry.{Entry}
use Rattle.lsvd_base.specs.declared.geometry.Geometry.{Geometry}
use Rattle.lsvd_base.specs.Limits.{may_transfer}
use Rattle.lsvd_base.specs.Range.{is_in_range}
use Rattle.lsvd_fault.specs.Faults.{Counts}
use Rattle.lsvd_names.specs.declared.name.ObjName.{ObjName}
use Rattle.lsvd_names.specs.Names.{numbered_name}
use Rattle.lsvd_objstore.specs.declared.error.StoreError.{StoreError}
use Rattle.lsvd_objstore.specs.declared.error.StoreError.TheVariants as store_errors
use Rattle.lsvd_objstore.specs.Objects.{Objects, found, IsPut, MayBePut}
use Rattle.lsvd_objstore.specs.Store.{StoreState, ReceiptState, OnlyCounts, Becomes, has_failed}
use Rattle.vol_core.specs.Volume.{SteppedVolume}
use Rattle.volume_owner.specs.Acts.{moment_of, IsMadeOfActs}
use Rattle.volume_owner.specs.Tally.{IsTally}
use Rattle.volume_owner.specs.Calls.{IsLengthOf, IsDrained, HasSectors, KeepsOtherNames, CountsEitherFault, MakesSteps, IsCall}
use Rattle.volume_owner.specs.Calls.{EnterOf, DrainOf, ReadOf}
use Rattle.volume_owner.specs.Collecting.{HasNoVictim, CollectAllOf, most_of_collection}
use Rattle.volume_owner.specs.declared.collecting_all.Collected.{Collected}
use Rattle.volume_owner.specs.declared.draining.Drained.{Drained}
use Rattle.volume_owner.specs.declared.error.OwnerError.{OwnerError}
use Rattle.volume_owner.specs.declared.error.OwnerError.TheVariants as errors
use Rattle.volume_owner.specs.declared.reading.SectorsRead.{SectorsRead}
use Rattle.volume_owner.specs.Errors.{is_eio, of_store}
use Rattle.volume_owner.specs.Owner.{most_of_call}
use Rattle.volume_owner.proofs.PlainLemmas.{goes_on_nothing}
use Rattle.volume_owner.proofs.ActLemmas.{no_acts, made_then, get_acts}
use Rattle.volume_owner.proofs.StepLemmas.{makes_then, makes_fewer}

-- ---- the store

pub becomes_by : (P Q : Objects → Objects → Type 0) → ((old new : Objects) → P old new → Q old new) → (old new : Option Objects)
    → Becomes P old new → Becomes Q old new
becomes_by P Q follows None new is = is
becomes_by P Q follows (Some old) new is = (is.0, is.1, follows old is.0 is.2)

pub becomes_same : (uuid : List ℕ) (objects : Option Objects) → Becomes (KeepsOtherNames uuid) objects objects
becomes_same uuid None = refl
becomes_same uuid (Some objects) = (objects, refl, λ name other. refl)

pub becomes_then : (uuid : List ℕ) (old mid new : Option Objects) → Becomes (KeepsOtherNames uuid) old mid
    → Becomes (KeepsOtherNames uuid) mid new
    → Becomes (KeepsOtherNames uuid) old new
becomes_then uuid None mid new first second = subst (λ o. Becomes (KeepsOtherNames uuid) o new) first second
becomes_then uuid (Some old) mid new first second =
    let next = subst (λ o. Becomes (KeepsOtherNames uuid) o new) first.1 second in
    (next.0, next.1, λ name other. next.2 name other ∙ first.2 name other)

-- a put of a numbered object of a volume
pub put_keeps : (uuid : List ℕ) (number : ℕ) (name : ObjName) (bytes : List ℕ) → name ≡ numbered_name uuid number
    → (old new : Objects)
    → IsPut name bytes old new → KeepsOtherNames uuid old new
put_keeps uuid number name bytes is old new put other not_own = put.others other (λ same. not_own number (same ∙ is))

may_keep : (uuid : List ℕ) (number : ℕ) (name : ObjName) (bytes : List ℕ) → name ≡ numbered_name uuid number → (old new : Objects)
    → MayBePut name bytes old new → KeepsOtherNames uuid old new
may_keep uuid number name bytes is old new (inl same) other not_own = ap (λ o. found o other) same
may_keep uuid number name bytes is old new (inr put) other not_own = put_keeps uuid number name bytes is old new put other not_own

-- ---- faults

pub disk_counts : (failed : Bool) (old_disk new_disk store : ℕ) → Counts failed old_disk new_disk
    → CountsEitherFault failed old_disk new_disk store store
disk_counts false old_disk new_disk store counts = (counts, refl)
disk_counts true old_disk new_disk store counts = inl (counts, refl)

pub store_counts : (failed : Bool) (disk old_store new_store : ℕ) → Counts failed old_store new_store
    → CountsEitherFault failed disk disk old_store new_store
store_counts false disk old_store new_store counts = (refl, counts)
store_counts true disk old_store new_store counts = inr (refl, counts)

-- ---- calls

pub quiet_call : {R : Type 0} (state : R → ReceiptState) (most : ℕ) (added : List Entry) (old new : SteppedVolume)
    (store : StoreState)
    → IsMadeOfActs state added (moment_of old store) (moment_of new store) → MakesSteps most added old new
    → new.volume.log.commits.disk.faults ≡ old.volume.log.commits.disk.faults → IsCall state most added false old new store store
quiet_call state most added old new store acts makes same = record {
  acts = acts;
  steps = makes;
  store = becomes_same old.volume.objects.uploads.uuid store.objects;
  faults = (same, refl);
}

-- nothing was done
pub nothing_call : {R : Type 0} (state : R → ReceiptState) (most : ℕ) (volume : SteppedVolume) (store : StoreState)
    → IsCall state most [] false volume volume store store
nothing_call state most volume store = quiet_call state most [] volume volume store (no_acts state (moment_of volume store))
    (record {
      adds = λ plain shows. (plain, shows, goes_on_nothing plain);
      sizes = record { geometry = refl; uuid = refl; ancestors = refl };
      own = λ owner own. own;
      steps = omega arith;
    }) refl

pub disk_call : {R : Type 0} (state : R → ReceiptState) (most : ℕ) (added : List Entry) (failed : Bool) (old new : SteppedVolume)
    (store : StoreState)
    → IsMadeOfActs state added (moment_of old store) (moment_of new store) → MakesSteps most added old new
    → Counts failed old.volume.log.commits.disk.faults new.volume.log.commits.disk.faults
    → IsCall state most added failed old new store store
disk_call state most added failed old new store acts makes counts = record {
  acts = acts;
  steps = makes;
  store = becomes_same old.volume.objects.uploads.uuid store.objects;
  faults = disk_counts failed old.volume.log.commits.disk.faults new.volume.log.commits.disk.faults store.faults counts;
}

pub call_then : {R : Type 0} (state : R → ReceiptState) (m n : ℕ) (added : List Entry) (failed : Bool)
    (old mid new : SteppedVolume) (first second third : StoreState)
    → IsCall state m [] false old mid first second → IsCall state n added failed mid new second third
    → IsCall state (m + n) added failed old new first third
call_then state m n added failed old mid new first second third one two = record {
  acts = made_then state [] added (moment_of old first) (moment_of mid second) (moment_of new third) one.acts two.acts;
  steps = makes_then m n added old mid new one.steps two.steps;
  store =
      becomes_then old.volume.objects.uploads.uuid first.objects second.objects third.objects one.store
      (subst (λ u. Becomes (KeepsOtherNames u) second.objects third.objects) one.steps.sizes.uuid two.store);
  faults =
      subst (λ d. CountsEitherFault failed d new.volume.log.commits.disk.faults first.faults third.faults) one.faults.0
      (subst (λ s. CountsEitherFault failed mid.volume.log.commits.disk.faults new.volume.log.commits.disk.faults s third.faults)
      one.faults.1 two.faults);
}

pub call_fewer : {R : Type 0} (state : R → ReceiptState) (m n : ℕ) (added : List Entry) (failed : Bool)
    (old new : SteppedVolume) (first second : StoreState) → m ≤ n
    → IsCall state m added failed old new first second → IsCall state n added failed old new first second
call_fewer state m n added failed old new first second less call = record {
  acts = call.acts;
  steps = makes_fewer m n added old new less call.steps;
  store = call.store;
  faults = call.faults;
}

-- ---- a put

pub put_call : {R : Type 0} (state : R → ReceiptState) (uuid : List ℕ) (number : ℕ) (name : ObjName) (bytes : List ℕ)
    (old new : SteppedVolume) (first second : StoreState)
    → IsMadeOfActs state [] (moment_of old first) (moment_of new second)
    → old.volume.objects.uploads.uuid ≡ uuid → name ≡ numbered_name uuid number
    → Becomes (IsPut name bytes) first.objects second.objects
    → second.faults ≡ first.faults → MakesSteps 1 [] old new
    → new.volume.log.commits.disk.faults ≡ old.volume.log.commits.disk.faults
    → IsCall state 1 [] false old new first second
put_call state uuid number name bytes old new first second acts uuid_is is put counted makes same = record {
  acts = acts;
  steps = makes;
  store = subst (λ u. Becomes (KeepsOtherNames u) first.objects second.objects) (sym uuid_is)
      (becomes_by (IsPut name bytes) (KeepsOtherNames uuid) (put_keeps uuid number name bytes is) first.objects
      second.objects put);
  faults = (same, counted);
}

pub failed_put_call : {R : Type 0} (state : R → ReceiptState) (T : Type 0) (error : StoreError) (uuid : List ℕ) (number : ℕ)
    (name : ObjName) (bytes : List ℕ) (old new : SteppedVolume) (first second : StoreState)
    → (error ≡ store_errors.Failed → IsMadeOfActs state [] (moment_of old first) (moment_of new second))
    → IsMadeOfActs state [] (moment_of old first) (moment_of new first)
    → old.volume.objects.uploads.uuid ≡ uuid → name ≡ numbered_name uuid number
    → (error ≡ store_errors.Failed → Becomes (MayBePut name bytes) first.objects second.objects)
    → (error ≡ store_errors.OutOfMemory → second ≡ first) → Counts (has_failed {T = T} (Err error)) first.faults second.faults
    → MakesSteps 1 [] old new → new.volume.log.commits.disk.faults ≡ old.volume.log.commits.disk.faults
    → IsCall state 1 [] (is_eio {T = Unit {0}} (Err (of_store error))) old new first second
failed_put_call state T store_errors.Failed uuid number name bytes old new first second put_failed returned uuid_is is failed
    unchanged counts makes same =
    record {
      acts = put_failed refl;
      steps = makes;
      store = subst (λ u. Becomes (KeepsOtherNames u) first.objects second.objects) (sym uuid_is)
          (becomes_by (MayBePut name bytes) (KeepsOtherNames uuid) (may_keep uuid number name bytes is) first.objects
          second.objects
          (failed refl));
      faults = inr (same, counts);
    }
failed_put_call state T store_errors.OutOfMemory uuid number name bytes old new first second put_failed returned uuid_is is
    failed unchanged counts makes same =
    subst (λ s. IsCall state 1 [] false old new first s) (sym (unchanged refl))
    (quiet_call state 1 [] old new first returned makes same)

-- ---- want of memory

-- a result that is Ok, or tells that memory ran out, tells no fault, and no range
pub memory_alone : {T : Type 0} (result : Result T OwnerError) → IsOkUnless result errors.OutOfMemory → is_eio result ≡ false
memory_alone (Ok value) is = refl
memory_alone (Err errors.Range) is = refl
memory_alone (Err errors.Eio) is = let bad : ⊥ = cc in absurd bad
memory_alone (Err errors.OutOfMemory) is = refl

pub memory_no_range : {T : Type 0} (result : Result T OwnerError) → IsOkUnless result errors.OutOfMemory
    → IsErrOf result errors.Range → ⊥
memory_no_range (Ok value) is range = cc
memory_no_range (Err errors.Range) is range = let bad : ⊥ = cc in bad
memory_no_range (Err errors.Eio) is range = cc
memory_no_range (Err errors.OutOfMemory) is range = cc

-- a store's error tells no range
pub store_no_range : (error : StoreError) → of_store error ≡ errors.Range → ⊥
store_no_range store_errors.Failed is = cc
store_no_range store_errors.OutOfMemory is = cc

-- ---- an error that is handed on

pub handed_on : {T : Type 0} (result : Result T OwnerError) (error : OwnerError) → IsErrAnd result (λ e. e ≡ error)
    → result ≡ Err error
handed_on (Ok value) error is = let bad : ⊥ = is in absurd bad
handed_on (Err other) error is = ap Err is

-- a call that ends with it
pub call_ends_none : {R T : Type 0} (state : R → ReceiptState) (most : ℕ) (result : Result T OwnerError) (error : OwnerError)
    (old new : SteppedVolume) (first second : StoreState)
    → IsErrAnd result (λ e. e ≡ error) → IsCall state most [] (is_eio {T = T} (Err error)) old new first second
    → IsCall state most [] (is_eio result) old new first second
call_ends_none {R} {T} state most result error old new first second is call =
    subst (λ (r : Result T OwnerError). IsCall state most [] (is_eio r) old new first second) (sym (handed_on result error is))
    call

-- an error promises nothing that an answer would
pub no_answer : {T : Type 0} (result : Result T OwnerError) (error : OwnerError) (P : T → Type 0) → result ≡ Err error
    → IfOk result P
no_answer {T} result error P is = subst (λ (r : Result T OwnerError). IfOk r P) (sym is) tt

pub none_answered : {T : Type 0} (result : Result T OwnerError) (error : OwnerError) (P : Type 0) → result ≡ Err error
    → OnOk result P
none_answered {T} result error P is = subst (λ (r : Result T OwnerError). OnOk r P) (sym is) tt

-- what holds in any case does where there is an answer
pub answered : {T : Type 0} (result : Result T OwnerError) (P : Type 0) → P → OnOk result P
answered (Ok value) P is = is
answered (Err error) P is = tt

-- the same error tells the same of any call
pub same_eio : (A B : Type 0) (error : OwnerError) → is_eio {T = A} (Err error) ≡ is_eio {T = B} (Err error)
same_eio A B errors.Range = refl
same_eio A B errors.Eio = refl
same_eio A B errors.OutOfMemory = refl

-- ---- a read

-- a look, a fetch, and the release of the plan
pub read_call : {R : Type 0} (state : R → ReceiptState) (most : ℕ) (failed : Bool) (old mid last : SteppedVolume)
    (first second : StoreState) → 2 ≤ most
    → IsMadeOfActs state [] (moment_of old first) (moment_of mid first)
    → IsMadeOfActs state [] (moment_of mid second) (moment_of last second)
    → MakesSteps 1 [] old mid → MakesSteps 1 [] mid last
    → mid.volume.log.commits.disk.faults ≡ old.volume.log.commits.disk.faults
    → last.volume.log.commits.disk.faults ≡ mid.volume.log.commits.disk.faults
    → OnlyCounts first second → Counts failed first.faults second.faults → IsCall state most [] failed old last first second
read_call state most failed old mid last first second two look_acts release_acts look release looked released only counts =
    let uuid : List ℕ = old.volume.objects.uploads.uuid in
    let disk : ℕ = old.volume.log.commits.disk.faults in
    let objects : second.objects ≡ first.objects = ap (λ (s : StoreState). s.objects) only in
    let got = get_acts state failed mid first second only counts in
    record {
      acts =
          made_then state [] [] (moment_of old first) (moment_of mid first) (moment_of last second) look_acts
          (made_then state [] [] (moment_of mid first) (moment_of mid second) (moment_of last second) got release_acts);
      steps = makes_fewer 2 most [] old last two (makes_then 1 1 [] old mid last look release);
      store = subst (λ o. Becomes (KeepsOtherNames uuid) first.objects o) (sym objects) (becomes_same uuid first.objects);
      faults = subst (λ d. CountsEitherFault failed disk d first.faults second.faults) (sym (released ∙ looked))
          (store_counts failed disk first.faults second.faults counts);
    }

-- ---- what each call promises, by what it answers

-- another error is no `Range`
other_error : {T : Type 0} (error : OwnerError) → (error ≡ errors.Range → ⊥) → IsErrOf {T = T} (Err error) errors.Range → ⊥
other_error error other is = (let same : error ≡ errors.Range = cc in other same)

-- a test of a volume's sizes tells so of them
pub told_of_sizes : (holds : Geometry → Bool) (own sizes : Geometry) (told outcome : Bool) → sizes ≡ own → told ≡ holds sizes
    → told ≡ outcome → holds own ≡ outcome
told_of_sizes holds own sizes told outcome same is so = ap holds (sym same) ∙ sym is ∙ so

-- what is in range is not answered by `Range`
in_range_is : {T : Type 0} (result : Result T OwnerError) (inside : Bool) → inside ≡ true → (IsErrOf result errors.Range → ⊥)
    → IsErrOf result errors.Range ↔ (inside ≡ false)
in_range_is result inside is other = (
  λ range. absurd (other range),
  λ outside. (let bad : ⊥ = cc in absurd bad),
)

-- an entry that is out of range is refused, and nothing is done
pub enter_refused : {R : Type 0} (state : R → ReceiptState) (entry : Entry) (volume : SteppedVolume) (store : StoreState)
    → is_in_range volume.volume.objects.batch.geometry entry ≡ false
    → EnterOf state entry (Err errors.Range) volume volume store store
enter_refused state entry volume store outside = record {
  call = nothing_call state most_of_call volume store;
  count = tt;
  range = (λ is. outside, λ is. refl);
}

-- one in range is entered
pub enter_counted : {R : Type 0} (state : R → ReceiptState) (entry : Entry) (count : ℕ) (old new : SteppedVolume)
    (first second : StoreState) → is_in_range old.volume.objects.batch.geometry entry ≡ true
    → IsCall state most_of_call (entry ∷ []) false old new first second → IsLengthOf count new.volume
    → EnterOf state entry (Ok count) old new first second
enter_counted state entry count old new first second inside call length_is = record {
  call = call;
  count = length_is;
  range = in_range_is (Ok count) (is_in_range old.volume.objects.batch.geometry entry) inside (λ is. cc);
}

-- or it fails
pub enter_failed : {R : Type 0} (state : R → ReceiptState) (entry : Entry) (result : Result ℕ OwnerError) (error : OwnerError)
    (old new : SteppedVolume) (first second : StoreState) → result ≡ Err error → (error ≡ errors.Range → ⊥)
    → is_in_range old.volume.objects.batch.geometry entry ≡ true
    → IsCall state most_of_call [] (is_eio {T = ℕ} (Err error)) old new first second
    → EnterOf state entry result old new first second
enter_failed state entry result error old new first second is other inside call =
    let failed : EnterOf state entry (Err error) old new first second =
    record {
      call = call;
      count = tt;
      range = in_range_is (Err error) (is_in_range old.volume.objects.batch.geometry entry) inside (other_error error other);
    } in
    subst (λ (r : Result ℕ OwnerError). EnterOf state entry r old new first second) (sym is) failed

-- a drain is done
pub drain_counted : {R : Type 0} (state : R → ReceiptState) (drained : Drained) (old new : SteppedVolume)
    (first second : StoreState) → IsCall state most_of_call [] false old new first second
    → IsLengthOf drained.entries new.volume
    → IsTally state 0 drained.removed (moment_of old first) (moment_of new second) → drained.removed ≤ 2 ^ 37
    → IsDrained new.volume → DrainOf state (Ok drained) old new first second
drain_counted state drained old new first second call length_is removed few is = record {
  call = call;
  count = length_is;
  removed = removed;
  few = few;
  drained = is;
  in_range = λ is. cc;
}

-- or it fails
pub drain_failed : {R : Type 0} (state : R → ReceiptState) (result : Result Drained OwnerError) (error : OwnerError)
    (old new : SteppedVolume) (first second : StoreState) → result ≡ Err error → (error ≡ errors.Range → ⊥)
    → IsCall state most_of_call [] (is_eio {T = Drained} (Err error)) old new first second
    → DrainOf state result old new first second
drain_failed state result error old new first second is other call =
    let failed : DrainOf state (Err error) old new first second =
    record { call = call; count = tt; removed = tt; few = tt; drained = tt; in_range = other_error error other } in
    subst (λ (r : Result Drained OwnerError). DrainOf state r old new first second) (sym is) failed

-- a whole collection is done
pub collect_counted : {R : Type 0} (state : R → ReceiptState) (collected : Collected) (old new : SteppedVolume)
    (first second : StoreState) → IsCall state most_of_collection [] false old new first second
    → IsTally state collected.copied collected.removed (moment_of old first) (moment_of new second) → HasNoVictim new.volume
    → IsDrained new.volume → CollectAllOf state (Ok collected) old new first second
collect_counted state collected old new first second call tally none drained = record {
  call = call;
  tally = tally;
  victims = none;
  drained = drained;
  error = λ is. cc;
}

-- or it fails
pub collect_failed : {R : Type 0} (state : R → ReceiptState) (result : Result Collected OwnerError) (error : OwnerError)
    (old new : SteppedVolume) (first second : StoreState) → result ≡ Err error → (error ≡ errors.Range → ⊥)
    → IsCall state most_of_collection [] (is_eio {T = Collected} (Err error)) old new first second
    → CollectAllOf state result old new first second
collect_failed state result error old new first second is other call =
    let failed : CollectAllOf state (Err error) old new first second =
    record { call = call; tally = tt; victims = tt; drained = tt; error = other_error error other } in
    subst (λ (r : Result Collected OwnerError). CollectAllOf state r old new first second) (sym is) failed

-- a read of sectors that may not be transferred is refused, and nothing is done
pub read_refused : {R : Type 0} (state : R → ReceiptState) (lba sectors : ℕ) (volume : SteppedVolume)
    (store : StoreState) → may_transfer volume.volume.objects.batch.geometry lba sectors ≡ false
    → ReadOf state lba sectors (Err errors.Range) volume volume store store
read_refused state lba sectors volume store outside = record {
  call = nothing_call state most_of_call volume store;
  length = tt;
  given = tt;
  size = tt;
  range = (λ is. outside, λ is. refl);
}

-- one of others gives its bytes
pub read_given : {R : Type 0} (state : R → ReceiptState) (lba sectors : ℕ) (read : SectorsRead)
    (old new : SteppedVolume) (first second : StoreState) → may_transfer old.volume.objects.batch.geometry lba sectors ≡ true
    → IsCall state most_of_call [] false old new first second → IsLengthOf read.history_length old.volume
    → HasSectors state old.volume lba read.body → length read.body ≡ 512 * sectors
    → ReadOf state lba sectors (Ok read) old new first second
read_given state lba sectors read old new first second inside call length_is given size = record {
  call = call;
  length = length_is;
  given = given;
  size = size;
  range = in_range_is (Ok read) (may_transfer old.volume.objects.batch.geometry lba sectors) inside (λ is. cc);
}

-- or it fails
pub read_failed : {R : Type 0} (state : R → ReceiptState) (lba sectors : ℕ) (result : Result SectorsRead OwnerError)
    (error : OwnerError) (old new : SteppedVolume) (first second : StoreState) → result ≡ Err error
    → (error ≡ errors.Range → ⊥) → may_transfer old.volume.objects.batch.geometry lba sectors ≡ true
    → IsCall state most_of_call [] (is_eio {T = ℕ} (Err error)) old new first second
    → ReadOf state lba sectors result old new first second
read_failed state lba sectors result error old new first second is other inside call =
    let failed : ReadOf state lba sectors (Err error) old new first second =
    record {
      call =
          subst (λ failed. IsCall state most_of_call [] failed old new first second) (same_eio ℕ SectorsRead error) call;
      length = tt;
      given = tt;
      size = tt;
      range =
          in_range_is (Err error) (may_transfer old.volume.objects.batch.geometry lba sectors) inside (other_error error other);
    } in
    subst (λ (r : Result SectorsRead OwnerError). ReadOf state lba sectors r old new first second) (sym is) failed
