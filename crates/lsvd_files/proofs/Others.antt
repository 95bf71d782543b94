-- What calls on one name leave of all others.
use Rattle.std.proofs.Common.{◌≡◌, ◌∙◌, ap, subst, refl, ℕ, Bool, true, false, cond, not, List, [], ◌∷◌, ◌++◌, length, Some}
use Rattle.std.proofs.Common.{None, inl, inr}
use Rattle.std.specs.Prelude.{◌⊎◌, Option, slice_get, option_and_then}
use Rattle.std.specs.List.{AllByRecursion}
use Rattle.std.specs.Str.{bytes_eq}
use Rattle.lsvd_files.specs.Directory.{FileState, DirectoryState, Names, leads, held, IsUnnamed}
use Rattle.lsvd_files.specs.Stop.{MayHold, MayBeAt, MayBeOf, MayLeave}
use Rattle.lsvd_files.specs.Calls.{without_name, with_name, after_rename, after_remove, after_sync, after_failed_sync, after_move}
use Rattle.lsvd_files.specs.Kept.{KeepsName, ChangesOnly, HoldsForGood, Stays}
use Rattle.lsvd_files.specs.Written.{with_new}
use Rattle.lsvd_files.proofs.Leads.{equal_to_itself, leads-without_other, leads-with_same, leads-with_other}
use Rattle.lsvd_files.proofs.Files.{slice_get_new, slice_get_old}

pub kept_same : (name : List ℕ) (directory : DirectoryState) → KeepsName name directory directory
kept_same name directory = record { now = refl; left = λ left h. h }

pub kept_twice : (name : List ℕ) (first second third : DirectoryState) → KeepsName name first second
    → KeepsName name second third → KeepsName name first third
kept_twice name first second third a b = record { now = b.now ∙ a.now; left = λ left h. a.left left (b.left left h) }

pub only_same : (name : List ℕ) (directory : DirectoryState) → ChangesOnly name directory directory
only_same name directory = record { names = refl; others = λ other differ. kept_same other directory }

pub only_twice : (name : List ℕ) (first second third : DirectoryState) → ChangesOnly name first second
    → ChangesOnly name second third → ChangesOnly name first third
only_twice name first second third a b = record {
  names = b.names ∙ a.names;
  others = λ other differ. kept_twice other first second third (a.others other differ) (b.others other differ);
}

-- names without a name
without_once : (b : Bool) (name : List ℕ) (entry : List ℕ × ℕ) (rest : Names) → bytes_eq entry.0 name ≡ b
    → without_name name rest ≡ rest → without_name name (cond (not b) (entry ∷ rest) rest) ≡ cond (not b) (entry ∷ rest) rest
without_once true name entry rest e h = h
without_once false name entry rest e h =
    ap (λ t. cond (not t) (entry ∷ without_name name rest) (without_name name rest)) e ∙ ap (λ others. entry ∷ others) h

pub without-without : (name : List ℕ) (names : Names) → without_name name (without_name name names) ≡ without_name name names
without-without name [] = refl
without-without name (entry ∷ names) =
    without_once (bytes_eq entry.0 name) name entry (without_name name names) refl (without-without name names)

without_last : (name : List ℕ) (file : ℕ) (names : Names)
    → without_name name (names ++ (name, file) ∷ []) ≡ without_name name names
without_last name file [] = ap (λ t. cond (not t) ((name, file) ∷ []) []) (equal_to_itself name)
without_last name file (entry ∷ names) =
    ap (λ rest. cond (not (bytes_eq entry.0 name)) (entry ∷ rest) rest) (without_last name file names)

pub without-with : (name : List ℕ) (file : ℕ) (names : Names)
    → without_name name (with_name name file names) ≡ without_name name names
without-with name file names = without_last name file (without_name name names) ∙ without-without name names

-- a new file is under no name that led to another
held_more : (to : Option ℕ) (files : List FileState) (file : FileState) → (to ≡ Some (length files) → ⊥)
    → option_and_then (λ number. slice_get (files ++ file ∷ []) number) to ≡ option_and_then (λ number. slice_get files number) to
held_more None files file unnamed = refl
held_more (Some number) files file unnamed = slice_get_old files file number (λ e. unnamed (ap Some e))

may_be_at_less : (to : Option ℕ) (files : List FileState) (file : FileState) (left : Option (List ℕ))
    → (to ≡ Some (length files) → ⊥) → MayBeAt (files ++ file ∷ []) to left → MayBeAt files to left
may_be_at_less None files file left unnamed h = h
may_be_at_less (Some number) files file left unnamed h = (
  h.0,
  h.1,
  subst (λ (it : Option FileState). MayHold it h.0) (slice_get_old files file number (λ e. unnamed (ap Some e))) h.2,
)

may_be_of_less : (all : List Names) (files : List FileState) (file : FileState) (name : List ℕ) (left : Option (List ℕ))
    → AllByRecursion (λ names. (name : List ℕ) → leads names name ≡ Some (length files) → ⊥) all
    → MayBeOf (files ++ file ∷ []) all name left → MayBeOf files all name left
may_be_of_less [] files file name left unnamed h = h
may_be_of_less (names ∷ all) files file name left unnamed (inl h) =
    inl (may_be_at_less (leads names name) files file left (unnamed.0 name) h)
may_be_of_less (names ∷ all) files file name left unnamed (inr h) =
    inr (may_be_of_less all files file name left unnamed.1 h)

-- where a name leads where it led, a stop leaves there what it could leave before
newest_alike : (files : List FileState) (names others : Names) (before : List Names) (name : List ℕ) (left : Option (List ℕ))
    → leads names name ≡ leads others name → MayBeOf files (names ∷ others ∷ before) name left
    → MayBeOf files (others ∷ before) name left
newest_alike files names others before name left e (inl h) =
    inl (subst (λ (to : Option ℕ). MayBeAt files to left) e h)
newest_alike files names others before name left e (inr h) = h

renamed_alike : (directory : DirectoryState) (names : Names) (name : List ℕ) → leads names name ≡ leads directory.names name
    → KeepsName name directory (record directory { names = names; before = directory.names ∷ directory.before })
renamed_alike directory names name e = record {
  now = ap (option_and_then (λ number. slice_get directory.files number)) e;
  left = λ left h. newest_alike directory.files names directory.names directory.before name left e h;
}

-- a new file
pub only_new : (name : List ℕ) (file : FileState) (directory : DirectoryState) → IsUnnamed (length directory.files) directory
    → ChangesOnly name directory (with_new name file directory)
only_new name file directory unnamed = record {
  names = without-with name (length directory.files) directory.names;
  others = λ other differ.
      let e = leads-with_other name other (length directory.files) directory.names differ in
      record {
        now = ap (option_and_then (λ number. slice_get (directory.files ++ file ∷ []) number)) e
            ∙ held_more (leads directory.names other) directory.files file (unnamed.0 other);
        left = λ left h.
            may_be_of_less (directory.names ∷ directory.before) directory.files file other left unnamed
            (newest_alike (directory.files ++ file ∷ []) (with_name name (length directory.files) directory.names)
            directory.names directory.before other left e h);
      };
}

-- a removal
pub only_remove : (name : List ℕ) (directory : DirectoryState) → ChangesOnly name directory (after_remove name directory)
only_remove name directory = record {
  names = without-without name directory.names;
  others = λ other differ.
      renamed_alike directory (without_name name directory.names) other (leads-without_other name other directory.names differ);
}

-- syncs, and a move of the directory
sync_leaves : (doubted : Bool) (files : List FileState) (names : Names) (before : List Names) (name : List ℕ)
    (left : Option (List ℕ)) → MayBeOf files (names ∷ cond doubted before []) name left → MayBeOf files (names ∷ before) name left
sync_leaves true files names before name left h = h
sync_leaves false files names before name left (inl h) = inl h
sync_leaves false files names before name left (inr h) = absurd h

pub kept_sync : (name : List ℕ) (directory : DirectoryState) → KeepsName name directory (after_sync directory)
kept_sync name directory = record {
  now = refl;
  left = λ left h. sync_leaves directory.doubted directory.files directory.names directory.before name left h;
}

pub only_move : (name : List ℕ) (directory : DirectoryState) → ChangesOnly name directory (after_move directory)
only_move name directory = record {
  names = refl;
  others = λ other differ. record { now = refl; left = λ left h. h };
}

-- A new file of which the name is changed to another: no third name is touched.
pub renamed_others : (from to other : List ℕ) (number : ℕ) (directory : DirectoryState)
    → (other ≡ from → ⊥) → (other ≡ to → ⊥) → KeepsName other directory (after_rename from to number directory)
renamed_others from to other number directory not_from not_to =
    renamed_alike directory (with_name to number (without_name from directory.names)) other
    (leads-with_other to other number (without_name from directory.names) not_to
    ∙ leads-without_other from other directory.names not_from)

module _ (from to : List ℕ) (file : FileState) (directory : DirectoryState) where
  -- the other name leads to it
  pub renamed_held : held (after_rename from to (length directory.files) (with_new from file directory)) to ≡ Some file
  renamed_held =
      ap (option_and_then (λ number. slice_get (directory.files ++ file ∷ []) number))
      (leads-with_same to (length directory.files)
      (without_name from (with_name from (length directory.files) directory.names)))
      ∙ slice_get_new directory.files file

  at_new : (left : Option (List ℕ)) → file.synced ≡ true
      → MayBeAt (directory.files ++ file ∷ []) (Some (length directory.files)) left → left ≡ Some file.bytes
  at_new left synced h =
      let whole : MayHold (Some file) h.0 =
      subst (λ (it : Option FileState). MayHold it h.0) (slice_get_new directory.files file) h.2 in
      h.1 ∙ ap Some (whole synced)

  newest : (left : Option (List ℕ)) → file.synced ≡ true
      → MayBeAt (directory.files ++ file ∷ []) (leads (with_name to (length directory.files)
      (without_name from (with_name from (length directory.files) directory.names))) to) left → left ≡ Some file.bytes
  newest left synced h =
      at_new left synced (subst (λ (it : Option ℕ). MayBeAt (directory.files ++ file ∷ []) it left)
      (leads-with_same to (length directory.files)
      (without_name from (with_name from (length directory.files) directory.names))) h)

  by_newest : (left : Option (List ℕ)) → file.synced ≡ true → (to ≡ from → ⊥) → IsUnnamed (length directory.files) directory
      → MayLeave (after_rename from to (length directory.files) (with_new from file directory)) to left
      → MayLeave directory to left ⊎ (left ≡ Some file.bytes)
  by_newest left synced differ unnamed (inl h) = inr (newest left synced h)
  by_newest left synced differ unnamed (inr h) = inl (((only_new from file directory unnamed).others to differ).left left h)

  -- a stop leaves there what it could leave before, or its bytes
  pub renamed_left : file.synced ≡ true → (to ≡ from → ⊥) → IsUnnamed (length directory.files) directory
      → (left : Option (List ℕ)) → MayLeave (after_rename from to (length directory.files) (with_new from file directory)) to left
      → MayLeave directory to left ⊎ (left ≡ Some file.bytes)
  renamed_left synced differ unnamed left h = by_newest left synced differ unnamed h

  alone : (doubted : Bool) (left : Option (List ℕ)) → file.synced ≡ true → doubted ≡ false → (names : Names) (before : List Names)
      → (MayBeAt (directory.files ++ file ∷ []) (leads names to) left → left ≡ Some file.bytes)
      → MayBeOf (directory.files ++ file ∷ []) (names ∷ cond doubted before []) to left → left ≡ Some file.bytes
  alone true left synced none names before at h = cc
  alone false left synced none names before at (inl h) = at h
  alone false left synced none names before at (inr h) = absurd h

  -- and once the directory was synced, nothing else
  pub renamed_for_good : file.synced ≡ true → directory.doubted ≡ false
      → HoldsForGood to file.bytes
      (after_sync (after_rename from to (length directory.files) (with_new from file directory)))
  renamed_for_good synced trusted = record {
    file = file;
    now = renamed_held;
    content = refl;
    synced = synced;
    alone = λ left h. alone directory.doubted left synced trusted
        (with_name to (length directory.files) (without_name from (with_name from (length directory.files) directory.names)))
        (with_name from (length directory.files) directory.names ∷ directory.names ∷ directory.before)
        (newest left synced) h;
  }

-- names and files stay, and a stop leaves no more
pub stays_same : (directory : DirectoryState) → Stays directory directory
stays_same directory = record { names = refl; kept = λ name. kept_same name directory }

pub stays_twice : (first second third : DirectoryState) → Stays first second → Stays second third → Stays first third
stays_twice first second third a b = record {
  names = b.names ∙ a.names;
  kept = λ name. kept_twice name first second third (a.kept name) (b.kept name);
}

pub stays_sync : (directory : DirectoryState) → Stays directory (after_sync directory)
stays_sync directory = record { names = refl; kept = λ name. kept_sync name directory }

pub stays_failed_sync : (directory : DirectoryState) → Stays directory (after_failed_sync directory)
stays_failed_sync directory = record { names = refl; kept = λ name. record { now = refl; left = λ left h. h } }

pub stays_move : (directory : DirectoryState) → Stays directory (after_move directory)
stays_move directory = record { names = refl; kept = λ name. record { now = refl; left = λ left h. h } }

pub only_stays : (name : List ℕ) (old new : DirectoryState) → Stays old new → ChangesOnly name old new
only_stays name old new stays = record {
  names = ap (without_name name) stays.names;
  others = λ other differ. stays.kept other;
}
