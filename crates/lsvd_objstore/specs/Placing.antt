-- For this crate's own clauses: how a file gets its name.
use Rattle.std.specs.Prelude.{◌≡◌, ℕ, ◌⊎◌, Bool, true, false, List, length, Option, Some, None, IfSome}
use Rattle.lsvd_files.specs.Directory.{FileState, DirectoryState, held, new_file, IsUnnamed}
use Rattle.lsvd_files.specs.Calls.{with_file, after_rename, Makes, IsLeft}
use Rattle.lsvd_files.specs.Kept.{ChangesOnly}
use Rattle.lsvd_files.specs.Written.{written, filled, with_new}
use Rattle.lsvd_objstore.specs.Directory.{Clears, IsSettled}

-- a store that knows of no sync that failed knows a directory of which none has failed
abbrev pub IsTrusted : Bool → Option DirectoryState → Type 0
IsTrusted has_failed None = Unit {0}
IsTrusted has_failed (Some directory) = has_failed ≡ false → directory.doubted ≡ false

-- nothing changed but what is under one name, and no sync of the directory has failed
pub record Scratches (name : List ℕ) (old new : DirectoryState) : Type 0 where
  pub only : ChangesOnly name old new
  pub doubted : new.doubted ≡ old.doubted

-- bytes were written at the end of a file, or none were
abbrev pub Writes : ℕ → List ℕ → DirectoryState → DirectoryState → Type 0
Writes file bytes old new = (still : Bool) × (new ≡ with_file file (written still bytes) old)

-- a file was changed in some way
abbrev pub Touches : ℕ → DirectoryState → DirectoryState → Type 0
Touches file old new = (change : FileState → FileState) × (new ≡ with_file file change old)

-- a new file with these bytes, which is synced
abbrev pub whole_file : List ℕ → FileState
whole_file bytes = filled bytes new_file

-- a file was made under a name, once what was there was removed, or the path leads elsewhere
abbrev pub MakesAnew : List ℕ → ℕ → DirectoryState → DirectoryState → Type 0
MakesAnew name file old new = (first : DirectoryState) × Scratches name old first × Makes name file first new

-- a whole file was made so
pub record HasMade (name bytes : List ℕ) (file : ℕ) (old new : DirectoryState) : Type 0 where
  pub first : DirectoryState
  pub cleaned : Scratches name old first
  pub number : file ≡ length first.files
  pub unnamed : IsUnnamed (length first.files) first
  pub after : new ≡ with_new name (whole_file bytes) first

-- nothing was done but to one name, and the path leads elsewhere
abbrev pub Strays : List ℕ → DirectoryState → DirectoryState → Type 0
Strays name old new = Scratches name old new × (new.stands ≡ false)

abbrev pub MakesWhole : (name bytes : List ℕ) → ℕ → DirectoryState → DirectoryState → Type 0
MakesWhole name bytes file old new = HasMade name bytes file old new ⊎ Strays name old new

-- a whole file got its name, by way of a temporary one
pub record IsPlaced (temporary name bytes : List ℕ) (old new : DirectoryState) : Type 0 where
  pub first : DirectoryState
  pub cleaned : Scratches temporary old first
  pub unnamed : IsUnnamed (length first.files) first
  pub after : new ≡ after_rename temporary name (length first.files) (with_new temporary (whole_file bytes) first)

abbrev pub Places : (temporary name bytes : List ℕ) → DirectoryState → DirectoryState → Type 0
Places temporary name bytes old new = IsPlaced temporary name bytes old new ⊎ Strays temporary old new

-- the same failed, and may have been done
abbrev pub MayPlace : (temporary name bytes : List ℕ) → DirectoryState → DirectoryState → Type 0
MayPlace temporary name bytes old new = IsPlaced temporary name bytes old new ⊎ Scratches temporary old new

-- Whether a file that no other open has locked is under a name was asked. Where the path still leads to the directory, it is so.
abbrev pub IsAsked : List ℕ → Bool → DirectoryState → DirectoryState → Type 0
IsAsked name is_unlocked old new =
    IsLeft old new
    × (is_unlocked ≡ true → new.stands ≡ true → IfSome (held old name) (λ (file : FileState). file.locked ≡ false))

-- files that puts left were removed; no sync of the directory has failed, and names of objects that were synced still are
pub record Sweeps (old new : DirectoryState) : Type 0 where
  pub clears : Clears old new
  pub doubted : new.doubted ≡ old.doubted
  pub settled : IsSettled old → IsSettled new
