-- How the files that puts left are cleared.
use Rattle.std.proofs.Common.{◌≡◌, ◌∙◌, sym, ap, subst, refl, ℕ, Bool, true, false, List, [], ◌∷◌, inl, inr}
use Rattle.std.specs.Prelude.{◌⊎◌, Option, IfSome}
use Rattle.std.specs.List.{AllByRecursion}
use Rattle.std.specs.Str.{bytes_eq}
use Rattle.std.proofs.lemmas.Slice.Eq.{bytes_eq-Decides}
use Rattle.lsvd_names.specs.Spelling.{spelling}
use Rattle.lsvd_names.specs.declared.name.ObjName.{ObjName}
use Rattle.lsvd_names.proofs.Names.{no_prefix}
use Rattle.lsvd_files.specs.Directory.{FileState, DirectoryState, Names, leads, held}
use Rattle.lsvd_files.specs.Calls.{IsLeft, ByPath, Removes, MayRemove, without_name, after_remove}
use Rattle.lsvd_files.specs.Kept.{KeepsName}
use Rattle.lsvd_files.proofs.Leads.{leads-without_same, leads-without_other}
use Rattle.lsvd_files.proofs.Others.{kept_same, kept_twice, only_remove}
use Rattle.lsvd_objstore.specs.Directory.{IsTemporaryOf, IsCleared}
use Rattle.lsvd_objstore.specs.Placing.{IsAsked, Sweeps}
use Rattle.lsvd_objstore.proofs.Filed.{objects_kept, spells_no_object}
use Rattle.lsvd_objstore.proofs.Removing.{held_none}

not_both : {test : Bool} → test ≡ true → test ≡ false → ⊥
not_both e f = cc

abbrev IsUnlocked : Option FileState → Type 0
IsUnlocked file = IfSome file (λ (it : FileState). it.locked ≡ false)

-- nothing was done, or the path leads elsewhere
pub sweeps_same : (a : DirectoryState) → Sweeps a a
sweeps_same a = record {
  clears = record { objects = refl; each = λ name. inl (kept_same name a) };
  doubted = refl;
  settled = λ h. h;
}

pub sweeps_left : (a b : DirectoryState) → IsLeft a b → Sweeps a b
sweeps_left a b (inl e) = subst (λ (it : DirectoryState). Sweeps a it) (sym e) (sweeps_same a)
sweeps_left a b (inr e) = subst (λ (it : DirectoryState). Sweeps a it) (sym e) (record {
  clears = record { objects = refl; each = λ name. inl (record { now = refl; left = λ left h. h }) };
  doubted = refl;
  settled = λ h. record { before = h.before };
})

each_twice : (name : List ℕ) (a b c : DirectoryState) → KeepsName name a b ⊎ IsCleared name a b
    → KeepsName name b c ⊎ IsCleared name b c → KeepsName name a c ⊎ IsCleared name a c
each_twice name a b c (inl h) (inl k) = inl (kept_twice name a b c h k)
each_twice name a b c (inl h) (inr k) = inr (record {
  object = k.object;
  temporary = k.temporary;
  unlocked = subst (λ (it : Option FileState). IsUnlocked it) h.now k.unlocked;
  gone = k.gone;
})
each_twice name a b c (inr h) (inl k) = inr (record {
  object = h.object;
  temporary = h.temporary;
  unlocked = h.unlocked;
  gone = k.now ∙ h.gone;
})
each_twice name a b c (inr h) (inr k) = inr (record {
  object = h.object;
  temporary = h.temporary;
  unlocked = h.unlocked;
  gone = k.gone;
})

pub sweeps_twice : (a b c : DirectoryState) → Sweeps a b → Sweeps b c → Sweeps a c
sweeps_twice a b c h k = record {
  clears = record {
    objects = k.clears.objects ∙ h.clears.objects;
    each = λ name. each_twice name a b c (h.clears.each name) (k.clears.each name);
  };
  doubted = k.doubted ∙ h.doubted;
  settled = λ is. k.settled (h.settled is);
}

lead_alike : (name : List ℕ) (now later : Names) (before : List Names) → leads later name ≡ leads now name
    → AllByRecursion (λ names. leads names name ≡ leads now name) before
    → AllByRecursion (λ names. leads names name ≡ leads later name) before
lead_alike name now later [] e all = tt
lead_alike name now later (names ∷ before) e all = (all.0 ∙ sym e, lead_alike name now later before e all.1)

asked_held : (name : List ℕ) (a b : DirectoryState) → IsLeft a b → held b name ≡ held a name
asked_held name a b (inl e) = ap (λ (it : DirectoryState). held it name) e
asked_held name a b (inr e) = ap (λ (it : DirectoryState). held it name) e

module _ (object : ObjName) (name : List ℕ) (temporary : IsTemporaryOf object name) where
  removed_or_kept : (is_it : Bool) (a : DirectoryState) (other : List ℕ) → IsUnlocked (held a name) → bytes_eq other name ≡ is_it
      → KeepsName other a (after_remove name a) ⊎ IsCleared other a (after_remove name a)
  removed_or_kept true a other unlocked e =
      let same : name ≡ other = sym ((bytes_eq-Decides other name).0 e) in
      let cleared : IsCleared name a (after_remove name a) = record {
        object = object;
        temporary = temporary;
        unlocked = unlocked;
        gone = held_none (after_remove name a) name (leads-without_same name a.names);
      } in
      inr (subst (λ (it : List ℕ). IsCleared it a (after_remove name a)) same cleared)
  removed_or_kept false a other unlocked e =
      inl ((only_remove name a).others other (λ same. not_both ((bytes_eq-Decides other name).1 same) e))

  -- the file was removed
  sweeps_removed : (a b : DirectoryState) → IsUnlocked (held a name) → b ≡ after_remove name a → Sweeps a b
  sweeps_removed a b unlocked e = subst (λ (it : DirectoryState). Sweeps a it) (sym e) (record {
    clears = record {
      objects = objects_kept name a (after_remove name a) (spells_no_object object name temporary) (only_remove name a);
      each = λ other. removed_or_kept (bytes_eq other name) a other unlocked refl;
    };
    doubted = refl;
    settled = λ h. record {
      before = λ other is.
          let apart : spelling other ≡ name → ⊥ =
          λ same. temporary.more (no_prefix object other temporary.rest (same ∙ temporary.spelled)) in
          let alike = leads-without_other name (spelling other) a.names apart in
          (sym alike, lead_alike (spelling other) a.names (without_name name a.names) a.before alike (h.before other is));
    };
  })

  removes : (is_removed : Bool) (a b c : DirectoryState) → IsAsked name true a b → b.stands ≡ true → Removes name is_removed b c
      → Sweeps a c
  removes true a b c asked stands done =
      let unlocked = subst (λ (it : Option FileState). IsUnlocked it) (sym (asked_held name a b asked.0))
      (asked.1 refl stands) in
      sweeps_twice a b c (sweeps_left a b asked.0) (sweeps_removed b c unlocked done.1)
  removes false a b c asked stands done = sweeps_twice a b c (sweeps_left a b asked.0) (sweeps_left b c (inl done.1))

  by_path : (is_removed : Bool) (a b c : DirectoryState) → IsAsked name true a b → ByPath (Removes name is_removed b c) b c
      → Sweeps a c
  by_path is_removed a b c asked (inl here) = removes is_removed a b c asked here.0 here.1
  by_path is_removed a b c asked (inr moved) = sweeps_twice a b c (sweeps_left a b asked.0) (sweeps_left b c (inr moved))

  or_not : (a b c : DirectoryState) → IsAsked name true a b → MayRemove name b c → Sweeps a c
  or_not a b c asked (inl left) = sweeps_twice a b c (sweeps_left a b asked.0) (sweeps_left b c left)
  or_not a b c asked (inr here) = removes true a b c asked here.0 here.1

  pub sweeps_by_path : (is_unlocked is_removed : Bool) → is_unlocked ≡ true → (a b c : DirectoryState)
      → IsAsked name is_unlocked a b → ByPath (Removes name is_removed b c) b c → Sweeps a c
  sweeps_by_path is_unlocked is_removed e a b c asked done =
      by_path is_removed a b c (subst (λ (it : Bool). IsAsked name it a b) e asked) done

  pub sweeps_or_not : (is_unlocked : Bool) → is_unlocked ≡ true → (a b c : DirectoryState) → IsAsked name is_unlocked a b
      → MayRemove name b c → Sweeps a c
  sweeps_or_not is_unlocked e a b c asked failed =
      or_not a b c (subst (λ (it : Bool). IsAsked name it a b) e asked) failed
