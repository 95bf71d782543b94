-- What a directory in memory keeps.
use Rattle.std.proofs.Common.{◌≡◌, ◌∙◌, sym, ap, subst, refl, ℕ, zero, suc, ◌+◌, ◌<◌, ◌≤◌, Bool, true, false, cond, not, List, []}
use Rattle.std.proofs.Common.{◌∷◌, ◌++◌, length, reverse, Some, None, arith, length-append, slice_index_or, slice_set}
use Rattle.std.specs.Prelude.{Option}
use Rattle.std.specs.List.{AllByRecursion}
use Rattle.std.specs.Str.{bytes_eq}
use Rattle.std.proofs.lemmas.List.{reverse-append}
use Rattle.lsvd_files.specs.Directory.{FileState, DirectoryState, Names, leads, new_file}
use Rattle.lsvd_files.specs.Calls.{changed_at, appended, without_name, with_name, after_make, IsMade}
use Rattle.lsvd_files.specs.Memory.{LeadInside}

-- a file that was lent and changed is changed in its place
pub changed_set : (files : List FileState) (number : ℕ) (change : FileState → FileState) (lent changed : FileState)
    → lent ≡ slice_index_or files number lent → change lent ≡ changed
    → slice_set files number changed ≡ changed_at number change files
changed_set [] number change lent changed at by = refl
changed_set (first ∷ files) zero change lent changed at by = ap (λ file. file ∷ files) (sym by ∙ ap change at)
changed_set (first ∷ files) (suc number) change lent changed at by =
    ap (λ rest. first ∷ rest) (changed_set files number change lent changed at by)

-- nothing is changed past the files
pub changed_past : (files : List FileState) (number : ℕ) (change : FileState → FileState)
    → length files ≤ number → files ≡ changed_at number change files
changed_past [] number change h = refl
changed_past (first ∷ files) zero change h = absurd (omega arith)
changed_past (first ∷ files) (suc number) change h = ap (λ rest. first ∷ rest) (changed_past files number change (omega arith))

length-changed_at : (files : List FileState) (number : ℕ) (change : FileState → FileState)
    → length (changed_at number change files) ≡ length files
length-changed_at [] number change = refl
length-changed_at (first ∷ files) zero change = refl
length-changed_at (first ∷ files) (suc number) change = ap suc (length-changed_at files number change)

-- a file to whose bytes a piece was added
pub appended_is : (file : FileState) (old bytes piece : List ℕ) (synced doubted locked : Bool)
    → record { bytes = old; synced = synced; doubted = doubted; locked = locked } ≡ file → bytes ≡ old ++ piece
    → appended piece file ≡ record { bytes = bytes; synced = false; doubted = doubted; locked = locked }
appended_is file old bytes piece synced doubted locked is e =
    ap (appended piece) (sym is)
    ∙ ap (λ (it : List ℕ). let now : FileState = record {
      bytes = it;
      synced = false;
      doubted = doubted;
      locked = locked;
    } in now) (sym e)

-- where each name leads to one of so many files, the file that a name leads to is one of them
inside_at : (b : Bool) (file first count : ℕ) (rest : Option ℕ) → first < count → (rest ≡ Some file → file < count)
    → cond b (Some first) rest ≡ Some file → file < count
inside_at true file first count rest h later e = let same : first ≡ file = cc in omega arith
inside_at false file first count rest h later e = later e

pub leads_inside : (names : Names) (count : ℕ) (name : List ℕ) (file : ℕ) → LeadInside count names
    → leads names name ≡ Some file → file < count
leads_inside [] count name file all e = cc
leads_inside (entry ∷ names) count name file all e =
    inside_at (bytes_eq entry.0 name) file entry.1 count (leads names name) all.0 (leads_inside names count name file all.1) e

-- so a new one is none of them
new_is_unnamed : (names : List Names) (count : ℕ) → AllByRecursion (LeadInside count) names
    → AllByRecursion (λ some. (name : List ℕ) → leads some name ≡ Some count → ⊥) names
new_is_unnamed [] count all = tt
new_is_unnamed (some ∷ names) count all = (
  λ name e. absurd (let less = leads_inside some count name count all.0 e in omega arith),
  new_is_unnamed names count all.1,
)

-- there may be more files
inside_more : (names : Names) (count more : ℕ) → count ≤ more → LeadInside count names → LeadInside more names
inside_more [] count more h all = tt
inside_more (entry ∷ names) count more h all = (omega (arith, all.0), inside_more names count more h all.1)

all_inside_more : (names : List Names) (count more : ℕ) → count ≤ more → AllByRecursion (LeadInside count) names
    → AllByRecursion (LeadInside more) names
all_inside_more [] count more h all = tt
all_inside_more (some ∷ names) count more h all = (inside_more some count more h all.0, all_inside_more names count more h all.1)

-- names without one, and with one more
kept_inside : (b : Bool) (entry : List ℕ × ℕ) (rest : Names) (count : ℕ) → entry.1 < count → LeadInside count rest
    → LeadInside count (cond b (entry ∷ rest) rest)
kept_inside true entry rest count h all = (h, all)
kept_inside false entry rest count h all = all

pub inside-without_name : (name : List ℕ) (names : Names) (count : ℕ) → LeadInside count names
    → LeadInside count (without_name name names)
inside-without_name name [] count all = tt
inside-without_name name (entry ∷ names) count all =
    kept_inside (not (bytes_eq entry.0 name)) entry (without_name name names) count all.0
    (inside-without_name name names count all.1)

inside_at_end : (names : Names) (entry : List ℕ × ℕ) (count : ℕ) → entry.1 < count → LeadInside count names
    → LeadInside count (names ++ entry ∷ [])
inside_at_end [] entry count h all = (h, tt)
inside_at_end (first ∷ names) entry count h all = (all.0, inside_at_end names entry count h all.1)

pub inside-with_name : (name : List ℕ) (file : ℕ) (names : Names) (count : ℕ) → file < count → LeadInside count names
    → LeadInside count (with_name name file names)
inside-with_name name file names count h all =
    inside_at_end (without_name name names) (name, file) count h (inside-without_name name names count all)

-- the names of a directory in memory, and those before in the order in which they were pushed, lead to files of which there are
-- this many
abbrev AllLeadInside : ℕ → Names → List Names → Type 0
AllLeadInside count names before = LeadInside count names × AllByRecursion (LeadInside count) (reverse before)

-- so they do after a file was changed,
pub inside_changed : (names : Names) (before : List Names) (files changed : List FileState) (number : ℕ)
    (change : FileState → FileState) → changed ≡ changed_at number change files
    → AllLeadInside (length files) names before → AllLeadInside (length changed) names before
inside_changed names before files changed number change e all =
    subst (λ (n : ℕ). AllLeadInside n names before) (sym (ap length e ∙ length-changed_at files number change)) all

-- after a change of names, what is pushed last being the newest,
pub inside_renamed : (count : ℕ) (names changed : Names) (before after : List Names) → after ≡ before ++ names ∷ []
    → AllLeadInside count names before → LeadInside count changed → AllLeadInside count changed after
inside_renamed count names changed before after e all inside = (
  inside,
  subst (λ (them : List Names). AllByRecursion (LeadInside count) them)
      (sym (ap reverse e ∙ reverse-append before (names ∷ []))) all,
)

-- and after a file was made
module _ (name : List ℕ) (number : ℕ) (file : FileState) (files more : List FileState) (names changed : Names)
    (before after : List Names) where
  pub inside_made : number ≡ length files → more ≡ files ++ file ∷ [] → changed ≡ with_name name number names
      → after ≡ before ++ names ∷ [] → AllLeadInside (length files) names before
      → AllLeadInside (length more) changed after
  inside_made n e f h all =
      let count : length more ≡ length files + 1 = ap length e ∙ length-append files (file ∷ []) in
      let low : length files ≤ length more = omega arith in
      let many = all_inside_more (names ∷ reverse before) (length files) (length more) low all in
      inside_renamed (length more) names changed before after h many (subst (λ (them : Names). LeadInside (length more) them)
      (sym f) (inside-with_name name number names (length more) (omega arith) many.0))

-- a file was made in a directory of these fields
module _ (name : List ℕ) (number : ℕ) (files more : List FileState) (names changed : Names) (before after : List Names)
    (doubted stands : Bool) where
  abbrev old : DirectoryState
  old = record { names = names; before = reverse before; files = files; doubted = doubted; stands = stands }

  abbrev new : DirectoryState
  new = record { names = changed; before = reverse after; files = more; doubted = doubted; stands = stands }

  made_after : number ≡ length files → more ≡ files ++ new_file ∷ [] → changed ≡ with_name name number names
      → reverse after ≡ names ∷ reverse before → new ≡ after_make name old
  made_after n e f h = cc

  pub is_made : (directory : DirectoryState) → old ≡ directory → stands ≡ true → leads names name ≡ None
      → number ≡ length files → more ≡ files ++ new_file ∷ [] → changed ≡ with_name name number names
      → after ≡ before ++ names ∷ [] → AllLeadInside (length files) names before → IsMade name number directory new
  is_made directory is standing none n e f h all =
      subst (λ (it : DirectoryState). IsMade name number it new) is (record {
        stands = standing;
        absent = none;
        number = n;
        unnamed = subst (λ (it : ℕ). AllByRecursion (λ some. (name : List ℕ) → leads some name ≡ Some it → ⊥)
            (names ∷ reverse before)) (sym n) (new_is_unnamed (names ∷ reverse before) (length files) all);
        after = made_after n e f (ap reverse h ∙ reverse-append before (names ∷ []));
      })
