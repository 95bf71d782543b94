-- How a name is removed.
use Rattle.std.proofs.Common.{◌≡◌, ◌∙◌, sym, ap, subst, ℕ, Bool, true, false, cond, List, [], ◌∷◌, None, inl, inr}
use Rattle.std.specs.Prelude.{◌⊎◌, Option, slice_get, option_and_then}
use Rattle.lsvd_files.specs.Directory.{FileState, DirectoryState, Names, leads, held}
use Rattle.lsvd_files.specs.Stop.{MayBeAt, MayBeOf, MayLeave}
use Rattle.lsvd_files.specs.Calls.{Changes, IsLeft, ByPath, Removes, MayRemove, without_name, after_remove, after_sync}
use Rattle.lsvd_files.specs.Kept.{ChangesOnly, Stays}
use Rattle.lsvd_files.proofs.Chained.{changes_then, changes_three, changes_weaker}
use Rattle.lsvd_files.proofs.Leads.{leads-without_same}
use Rattle.lsvd_files.proofs.Others.{only_twice, only_remove, only_stays, stays_same, stays_twice, stays_sync}
use Rattle.lsvd_objstore.specs.Directory.{RemovesForGood, RemovesInDoubt, MayRemoveFile}
use Rattle.lsvd_objstore.proofs.Placed.{Syncs, MaySync, Stands, synced_or_not, left_stays, left_doubted, synced_stays}

not_both : {test : Bool} → test ≡ true → test ≡ false → ⊥
not_both e f = cc

pub held_none : (directory : DirectoryState) (name : List ℕ) → leads directory.names name ≡ None → held directory name ≡ None
held_none directory name e = ap (option_and_then (λ file. slice_get directory.files file)) e

newest_none : (files : List FileState) (names : Names) (before : List Names) (name : List ℕ) (left : Option (List ℕ))
    → leads names name ≡ None → MayBeOf files (names ∷ before) name left → (left ≡ None) ⊎ MayBeOf files before name left
newest_none files names before name left e (inl h) = inl (subst (λ (to : Option ℕ). MayBeAt files to left) e h)
newest_none files names before name left e (inr h) = inr h

settled_none : (doubted : Bool) (files : List FileState) (names : Names) (before : List Names) (name : List ℕ)
    (left : Option (List ℕ)) → doubted ≡ false → leads names name ≡ None
    → MayBeOf files (names ∷ cond doubted before []) name left → left ≡ None
settled_none true files names before name left trusted e h = cc
settled_none false files names before name left trusted e (inl h) = subst (λ (to : Option ℕ). MayBeAt files to left) e h
settled_none false files names before name left trusted e (inr h) = absurd h

-- after a sync that is trusted, a name that leads nowhere is gone for good
gone_for_good : (name : List ℕ) (a b d : DirectoryState) → ChangesOnly name a b → leads b.names name ≡ None
    → b.doubted ≡ false → d ≡ after_sync b → RemovesForGood name a d
gone_for_good name a b d only none trusted e =
    subst (λ (it : DirectoryState). RemovesForGood name a it) (sym e) (record {
      removed = held_none b name none;
      left = λ left h. settled_none b.doubted b.files b.names b.before name left trusted none h;
      only = only_twice name a b (after_sync b) only (only_stays name b (after_sync b) (stays_sync b));
      settled = ap (λ (t : Bool). cond t b.before []) trusted;
    })

removed_name : (name : List ℕ) (is_removed : Bool) (a b : DirectoryState) → Removes name is_removed a b
    → ChangesOnly name a b × (leads b.names name ≡ None)
removed_name name true a b removes =
    subst (λ (it : DirectoryState). ChangesOnly name a it × (leads it.names name ≡ None)) (sym removes.1)
    (only_remove name a, leads-without_same name a.names)
removed_name name false a b removes =
    subst (λ (it : DirectoryState). ChangesOnly name a it × (leads it.names name ≡ None)) (sym removes.1)
    (only_stays name a a (stays_same a), removes.0)

removes_for_good : (name : List ℕ) (is_removed : Bool) (a b c d : DirectoryState) → ByPath (Removes name is_removed a b) a b
    → Syncs b c → Stands c d → RemovesForGood name a d
removes_for_good name is_removed a b c d (inl here) synced stands =
    let removed = removed_name name is_removed a b here.1 in
    gone_for_good name a b d removed.0 removed.1 synced.0 (stands.0 ∙ synced.1)
removes_for_good name is_removed a b c d (inr moved) synced stands =
    absurd (not_both stands.1 (ap (λ (it : DirectoryState). it.stands) synced.1 ∙ ap (λ (it : DirectoryState). it.stands) moved))

-- after a removal that failed
in_doubt : (name : List ℕ) (a b : DirectoryState) → b ≡ after_remove name a → RemovesInDoubt name a b
in_doubt name a b e =
    subst (λ (it : DirectoryState). RemovesInDoubt name a it) (sym e) (record {
      removed = held_none (after_remove name a) name (leads-without_same name a.names);
      left = λ left h. either left (newest_none a.files (without_name name a.names) (a.names ∷ a.before) name left
          (leads-without_same name a.names) h);
      only = only_remove name a;
    }) where
      either : (left : Option (List ℕ)) → (left ≡ None) ⊎ MayLeave a name left → MayLeave a name left ⊎ (left ≡ None)
      either left (inl e) = inr e
      either left (inr h) = inl h

may_remove : (name : List ℕ) (is_removed : Bool) (a b : DirectoryState) → Removes name is_removed a b → MayRemoveFile name a b
may_remove name true a b removes = inr (in_doubt name a b removes.1)
may_remove name false a b removes = inl (subst (λ (it : DirectoryState). Stays a it) (sym removes.1) (stays_same a))

removed_or_not : (name : List ℕ) (is_removed : Bool) (a b : DirectoryState) → ByPath (Removes name is_removed a b) a b
    → MayRemoveFile name a b
removed_or_not name is_removed a b (inl here) = may_remove name is_removed a b here.1
removed_or_not name is_removed a b (inr moved) = inl (left_stays a b (inr moved))

failed_to_remove : (name : List ℕ) (a b : DirectoryState) → MayRemove name a b → MayRemoveFile name a b
failed_to_remove name a b (inl left) = inl (left_stays a b left)
failed_to_remove name a b (inr here) = may_remove name true a b here.1

then_stays : (name : List ℕ) (a b c : DirectoryState) → MayRemoveFile name a b → Stays b c → MayRemoveFile name a c
then_stays name a b c (inl stays) more = inl (stays_twice a b c stays more)
then_stays name a b c (inr removed) more = inr (record {
  removed = (more.kept name).now ∙ removed.removed;
  left = λ left h. removed.left left ((more.kept name).left left h);
  only = only_twice name a b c removed.only (only_stays name b c more);
})

removed_doubted : (name : List ℕ) (is_removed : Bool) (a b : DirectoryState) → Removes name is_removed a b → b.doubted ≡ a.doubted
removed_doubted name true a b removes = ap (λ (it : DirectoryState). it.doubted) removes.1
removed_doubted name false a b removes = ap (λ (it : DirectoryState). it.doubted) removes.1

pub removes_doubted : (name : List ℕ) (is_removed : Bool) (a b : DirectoryState) → ByPath (Removes name is_removed a b) a b
    → b.doubted ≡ a.doubted
removes_doubted name is_removed a b (inl here) = removed_doubted name is_removed a b here.1
removes_doubted name is_removed a b (inr moved) = ap (λ (it : DirectoryState). it.doubted) moved

pub may_remove_doubted : (name : List ℕ) (a b : DirectoryState) → MayRemove name a b → b.doubted ≡ a.doubted
may_remove_doubted name a b (inl left) = left_doubted a b left
may_remove_doubted name a b (inr here) = removed_doubted name true a b here.1

module _ (name : List ℕ) (is_removed : Bool) (x y z w : Option DirectoryState) where
  abbrev Removal : DirectoryState → DirectoryState → Type 0
  Removal old new = ByPath (Removes name is_removed old new) old new

  pub remove_done : Changes Removal x y → Changes Syncs y z → Changes Stands z w → Changes (RemovesForGood name) x w
  remove_done = changes_three Removal Syncs Stands (RemovesForGood name) (removes_for_good name is_removed) x y z w

  pub not_removed : Changes (MayRemove name) x y → Changes (MayRemoveFile name) x y
  not_removed = changes_weaker (MayRemove name) (MayRemoveFile name) (failed_to_remove name) x y

  pub remove_not_synced : Changes Removal x y → Changes MaySync y z → Changes (MayRemoveFile name) x z
  remove_not_synced = changes_then Removal MaySync (MayRemoveFile name)
      (λ a b c h k. then_stays name a b c (removed_or_not name is_removed a b h) (synced_or_not b c k)) x y z

  pub remove_not_standing : Changes Removal x y → Changes Syncs y z → Changes IsLeft z w → Changes (MayRemoveFile name) x w
  remove_not_standing = changes_three Removal Syncs IsLeft (MayRemoveFile name)
      (λ a b c d h k l. then_stays name a b d (removed_or_not name is_removed a b h)
      (stays_twice b c d (synced_stays b c k.1) (left_stays c d l))) x y z w
