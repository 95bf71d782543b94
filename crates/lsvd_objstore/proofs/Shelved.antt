-- What the calls on a directory do to the objects of a store.
use Rattle.std.proofs.Common.{◌≡◌, ◌∙◌, sym, ap, subst, refl, ℕ, List, [], length, Some, None, Ok, Err, inl, inr}
use Rattle.std.specs.Prelude.{Option, Result, option_map, IfSome, IfOk, OnErr}
use Rattle.std.specs.Result.{result_ok}
use Rattle.lsvd_names.specs.Spelling.{IsName, spelling}
use Rattle.lsvd_names.specs.declared.name.ObjName.{ObjName}
use Rattle.lsvd_files.specs.Directory.{FileState, DirectoryState, held}
use Rattle.lsvd_files.specs.Calls.{Changes, length_under}
use Rattle.lsvd_files.specs.Kept.{Stays}
use Rattle.lsvd_files.proofs.Chained.{changes_weaker}
use Rattle.lsvd_files.proofs.Others.{only_stays}
use Rattle.lsvd_objstore.specs.Objects.{Objects, found, IsPut, MayBePut, IsRemoved, MayBeRemoved, Lists}
use Rattle.lsvd_objstore.specs.Store.{StoreState, ReceiptState, Becomes, OnlyCounts, Finds}
use Rattle.lsvd_objstore.specs.Directory.{objects_of, Shelf, shelf_store, silent_receipt, IsTemporaryOf, MayPut, PutsObject}
use Rattle.lsvd_objstore.specs.Directory.{MayPutObject, RemovesForGood, MayRemoveFile, IsSettled}
use Rattle.lsvd_objstore.proofs.Filed.{found-objects_of, is_put_of, is_removed_of, objects_kept, spells_no_object}

-- a directory tells its objects through its state
becomes : (R : DirectoryState → DirectoryState → Type 0) (Change : Objects → Objects → Type 0)
    → ((a b : DirectoryState) → R a b → Change (objects_of a) (objects_of b)) → (x y : Option DirectoryState)
    → Changes R x y → Becomes Change (option_map objects_of x) (option_map objects_of y)
becomes R Change change None y h = ap (option_map objects_of) h
becomes R Change change (Some a) None h = absurd h
becomes R Change change (Some a) (Some b) h = (objects_of b, refl, change a b h)

pub becomes_put : (name : ObjName) (bytes : List ℕ) → IsName name → (x y : Option DirectoryState)
    → Changes (PutsObject name bytes) x y → Becomes (IsPut name bytes) (option_map objects_of x) (option_map objects_of y)
becomes_put name bytes is = becomes (PutsObject name bytes) (IsPut name bytes)
    (λ a b done.
    is_put_of done.0 name bytes done.2.put.file a b is (spells_no_object name done.0 done.1) done.2.put.now done.2.put.content
    (λ other apart differ. (done.2.others other apart differ).now))

may_be_put : (name : ObjName) (bytes temporary : List ℕ) (a b : DirectoryState) → IsName name
    → IsTemporaryOf name temporary → MayPut temporary (spelling name) bytes a b
    → MayBePut name bytes (objects_of a) (objects_of b)
may_be_put name bytes temporary a b is scratch (inl only) =
    inl (objects_kept temporary a b (spells_no_object name temporary scratch) only)
may_be_put name bytes temporary a b is scratch (inr put) =
    inr (is_put_of temporary name bytes put.file a b is (spells_no_object name temporary scratch) put.now put.content
    (λ other apart differ. (put.others other apart differ).now))

pub becomes_may_be_put : (name : ObjName) (bytes : List ℕ) → IsName name → (x y : Option DirectoryState)
    → Changes (MayPutObject name bytes) x y → Becomes (MayBePut name bytes) (option_map objects_of x) (option_map objects_of y)
becomes_may_be_put name bytes is = becomes (MayPutObject name bytes) (MayBePut name bytes)
    (λ a b done. may_be_put name bytes done.0 a b is done.1 done.2)

-- no text spells none
objects_stay : (a b : DirectoryState) → Stays a b → objects_of b ≡ objects_of a
objects_stay a b stays = objects_kept [] a b refl (only_stays [] a b stays)

pub becomes_removed : (name : ObjName) → IsName name → (x y : Option DirectoryState)
    → Changes (RemovesForGood (spelling name)) x y → Becomes (IsRemoved name) (option_map objects_of x) (option_map objects_of y)
becomes_removed name is = becomes (RemovesForGood (spelling name)) (IsRemoved name)
    (λ a b done. is_removed_of name a b is done.removed (λ other differ. (done.only.others other differ).now))

may_be_removed : (name : ObjName) (a b : DirectoryState) → IsName name → MayRemoveFile (spelling name) a b
    → MayBeRemoved name (objects_of a) (objects_of b)
may_be_removed name a b is (inl stays) = inl (objects_stay a b stays)
may_be_removed name a b is (inr done) =
    inr (is_removed_of name a b is done.removed (λ other differ. (done.only.others other differ).now))

pub becomes_may_be_removed : (name : ObjName) → IsName name → (x y : Option DirectoryState)
    → Changes (MayRemoveFile (spelling name)) x y
    → Becomes (MayBeRemoved name) (option_map objects_of x) (option_map objects_of y)
becomes_may_be_removed name is = becomes (MayRemoveFile (spelling name)) (MayBeRemoved name)
    (λ a b done. may_be_removed name a b is done)

-- where nothing is touched, the store holds what it held
same_objects : (R : DirectoryState → DirectoryState → Type 0) → ((a b : DirectoryState) → R a b → Stays a b)
    → (x y : Option DirectoryState) → Changes R x y → option_map objects_of y ≡ option_map objects_of x
same_objects R stays None y h = ap (option_map objects_of) h
same_objects R stays (Some a) None h = absurd h
same_objects R stays (Some a) (Some b) h = ap Some (objects_stay a b (stays a b h))

with_objects : (faults : ℕ) (objects others : Option Objects) → objects ≡ others
    → ◌≡◌ {A = StoreState} (record { objects = objects; asked = None; faults = faults })
    (record { objects = others; asked = None; faults = faults })
with_objects faults objects others e = cc

-- The store `old` has the directory x, and `new` the directory y.
module _ (old new : Shelf) (x y : Option DirectoryState) (before : x ≡ old.directory) (after : new.directory ≡ y) where
  pub only_counts : (R : DirectoryState → DirectoryState → Type 0) → ((a b : DirectoryState) → R a b → Stays a b)
      → Changes R x y → OnlyCounts (shelf_store old) (shelf_store new)
  only_counts R stays h =
      with_objects new.faults (option_map objects_of new.directory) (option_map objects_of old.directory)
      (ap (option_map objects_of) after ∙ same_objects R stays x y h ∙ ap (option_map objects_of) before)

  pub between : (Change : Objects → Objects → Type 0) → Becomes Change (option_map objects_of x) (option_map objects_of y)
      → Becomes Change (shelf_store old).objects (shelf_store new).objects
  between Change h =
      subst (λ (it : Option DirectoryState). Becomes Change (option_map objects_of it) (option_map objects_of new.directory))
      before
      (subst (λ (it : Option DirectoryState). Becomes Change (option_map objects_of x) (option_map objects_of it)) (sym after) h)

-- what is known of the outcome of a call that was judged
only_one : {T : Type 0} {some other : T} → ◌≡◌ {A = Option T} (Some some) (Some other) → some ≡ other
only_one e = cc

pub at_value : {T E : Type 0} (outcome : Result T E) (value : T) (P : T → Type 0) → Some value ≡ result_ok outcome
    → IfOk outcome P → P value
at_value (Ok other) value P e h = subst P (sym (only_one e)) h
at_value (Err error) value P e h = cc

pub at_failure : {T E P : Type 0} (outcome : Result T E) → None ≡ result_ok outcome → OnErr outcome P → P
at_failure (Ok value) e h = cc
at_failure (Err error) e h = h

pub as_judged : {T E F : Type 0} (judged : Result T F) (outcome : Result T E) (P : T → Type 0)
    → result_ok judged ≡ result_ok outcome → IfOk outcome P → IfOk judged P
as_judged (Err error) outcome P e h = tt
as_judged (Ok value) outcome P e h = at_value outcome value P e h

pub stays_both : {T E : Type 0} (outcome : Result T E) (P : T → DirectoryState → Type 0) (x y : Option DirectoryState)
    → IfOk outcome (λ value. Changes (λ old new. Stays old new × IsSettled new × P value new) x y)
    → OnErr outcome (Changes Stays x y) → Changes Stays x y
stays_both (Ok value) P x y ok err =
    changes_weaker (λ old new. Stays old new × IsSettled new × P value new) Stays (λ a b h. h.0) x y ok
stays_both (Err error) P x y ok err = err

-- what a list of a directory that stays is of
pub lists_before : (uuid : List ℕ) (names : List ObjName) (x y old : Option DirectoryState) → x ≡ old
    → Changes (λ before after. Stays before after × IsSettled after × Lists uuid (objects_of after) names) x y
    → IfSome (option_map objects_of old) (λ objects. Lists uuid objects names)
lists_before uuid names x y old e h =
    subst (λ (it : Option DirectoryState). IfSome (option_map objects_of it) (λ objects. Lists uuid objects names)) e
    (lists x y h) where
      lists : (x y : Option DirectoryState)
          → Changes (λ before after. Stays before after × IsSettled after × Lists uuid (objects_of after) names) x y
          → IfSome (option_map objects_of x) (λ objects. Lists uuid objects names)
      lists None y h = tt
      lists (Some a) None h = absurd h
      lists (Some a) (Some b) h = subst (λ (it : Objects). Lists uuid it names) (objects_stay a b h.0) h.2

-- what a search finds
found_by : (name : ObjName) (objects : Objects) (file : Option FileState) (size : Option ℕ)
    → found objects name ≡ option_map (λ (it : FileState). it.bytes) file
    → size ≡ option_map (λ (it : FileState). length it.bytes) file
    → Finds name (Some objects) (option_map (λ (n : ℕ). silent_receipt (record { name = name; size = n })) size)
found_by name objects None None e f = e
found_by name objects None (Some n) e f = cc
found_by name objects (Some it) None e f = cc
found_by name objects (Some it) (Some n) e f =
    let size : n ≡ length it.bytes = cc in
    (it.bytes, e, record { named = refl; size = size; told = tt })

found_in_none : (name : ObjName) (size : Option ℕ)
    → Finds name None (option_map (λ (n : ℕ). silent_receipt (record { name = name; size = n })) size)
found_in_none name None = tt
found_in_none name (Some n) = refl

pub finds : (name : ObjName) (size found : Option ℕ) → IsName name → found ≡ size → (x y old : Option DirectoryState) → x ≡ old
    → Changes (λ before after. Stays before after × IsSettled after × (found ≡ length_under after (spelling name))) x y
    → Finds name (option_map objects_of old) (option_map (λ (n : ℕ). silent_receipt (record { name = name; size = n })) size)
finds name size found is same x y old e h =
    subst (λ (it : Option DirectoryState). Finds name (option_map objects_of it) receipt) e (finds_in x y h) where
      receipt : Option ReceiptState
      receipt = option_map (λ (n : ℕ). silent_receipt (record { name = name; size = n })) size

      finds_in : (x y : Option DirectoryState)
          → Changes (λ before after. Stays before after × IsSettled after × (found ≡ length_under after (spelling name))) x y
          → Finds name (option_map objects_of x) receipt
      finds_in None y h = found_in_none name size
      finds_in (Some a) None h = absurd h
      finds_in (Some a) (Some b) h =
          found_by name (objects_of a) (held a (spelling name)) size (found-objects_of a name is)
          (sym same ∙ h.2 ∙ ap (option_map (λ (it : FileState). length it.bytes)) ((h.0.kept (spelling name)).now))
