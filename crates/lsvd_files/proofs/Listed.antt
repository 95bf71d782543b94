-- The names of a directory in memory are those under which files are.
use Rattle.std.proofs.Common.{◌≡◌, ap, subst, sym, refl, ℕ, zero, suc, ◌<◌, Bool, true, false, cond, List, [], ◌∷◌, length, map}
use Rattle.std.proofs.Common.{Some, None, inl, arith, slice_index_or}
use Rattle.std.specs.Prelude.{Option, slice_get, option_and_then, is_some, IsSome, Contains}
use Rattle.std.specs.Str.{bytes_eq}
use Rattle.std.proofs.lemmas.Option.{slice_get-get_or}
use Rattle.std.proofs.lemmas.Slice.Eq.{bytes_eq-Decides}
use Rattle.lsvd_files.specs.Directory.{FileState, DirectoryState, Names, leads, new_file}
use Rattle.lsvd_files.specs.Calls.{AreNames, ByPath}
use Rattle.lsvd_files.specs.Memory.{LeadInside}
use Rattle.lsvd_files.proofs.Leads.{equal_to_itself}
use Rattle.lsvd_files.proofs.Kept.{leads_inside}

abbrev first : List ℕ × ℕ → List ℕ
first entry = entry.0

-- each of them leads somewhere,
leads_either : (b : Bool) (file : ℕ) (rest : Option ℕ) → IsSome rest → IsSome (cond b (Some file) rest)
leads_either true file rest is = refl
leads_either false file rest is = is

listed_leads : (names : Names) (k : ℕ) (d : List ℕ) → k < length (map first names)
    → IsSome (leads names (slice_index_or (map first names) k d))
listed_leads [] k d h = absurd (omega arith)
listed_leads (entry ∷ names) zero d h =
    subst (λ (b : Bool). IsSome (cond b (Some entry.1) (leads names entry.0))) (sym (equal_to_itself entry.0)) refl
listed_leads (entry ∷ names) (suc k) d h =
    let name = slice_index_or (map first names) k d in
    leads_either (bytes_eq entry.0 name) entry.1 (leads names name) (listed_leads names k d (omega arith))

-- and what leads somewhere is one of them
listed_either : (b : Bool) (file : ℕ) (other name : List ℕ) (names : Names) → bytes_eq other name ≡ b
    → (IsSome (leads names name) → Contains (map first names) name) → IsSome (cond b (Some file) (leads names name))
    → Contains (other ∷ map first names) name
listed_either true file other name names e later is = (zero, omega arith, (bytes_eq-Decides other name).0 e)
listed_either false file other name names e later is =
    let at = later is in
    (suc at.0, omega (arith, at.1), at.2)

leading_listed : (names : Names) (name : List ℕ) → IsSome (leads names name) → Contains (map first names) name
leading_listed [] name is = cc
leading_listed (entry ∷ names) name is =
    listed_either (bytes_eq entry.0 name) entry.1 entry.0 name names refl (leading_listed names name) is

-- A name that leads to one of the files leads somewhere, and the other way round.
held_leading : (found : Option ℕ) (files : List FileState) → ((file : ℕ) → found ≡ Some file → file < length files)
    → IsSome found → IsSome (option_and_then (λ file. slice_get files file) found)
held_leading None files inside is = is
held_leading (Some file) files inside is = ap is_some (slice_get-get_or files file new_file (inside file refl))

leading_held : (found : Option ℕ) (files : List FileState) → IsSome (option_and_then (λ file. slice_get files file) found)
    → IsSome found
leading_held None files is = is
leading_held (Some file) files is = refl

are_names : (directory : DirectoryState) → LeadInside (length directory.files) directory.names
    → AreNames directory (map first directory.names)
are_names directory inside = record {
  present = λ k d h.
      let name = slice_index_or (map first directory.names) k d in
      held_leading (leads directory.names name) directory.files
      (λ file e. leads_inside directory.names (length directory.files) name file inside e)
      (listed_leads directory.names k d h);
  complete = λ name text is. leading_listed directory.names name
      (leading_held (leads directory.names name) directory.files is);
}

pub names_listed : (old new : DirectoryState) (listed : List (List ℕ)) → new ≡ old → new.stands ≡ true
    → listed ≡ map first new.names → LeadInside (length new.files) new.names
    → ByPath ((new ≡ old) × AreNames old listed) old new
names_listed old new listed is stands same inside =
    subst (λ (it : DirectoryState). ByPath ((new ≡ it) × AreNames it listed) it new) is
    (inl (stands, (refl, subst (λ (them : List (List ℕ)). AreNames new them) (sym same) (are_names new inside))))
