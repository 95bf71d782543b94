-- The files of a directory, of which one is changed or new.
use Rattle.std.proofs.Common.{◌≡◌, sym, ap, refl, ℕ, zero, suc, Bool, true, false, List, [], ◌∷◌, ◌++◌, length}
use Rattle.std.proofs.Common.{Some, None, append_assoc, append-nil}
use Rattle.std.specs.Prelude.{slice_get}
use Rattle.lsvd_files.specs.Directory.{FileState, DirectoryState, IsOutside}
use Rattle.lsvd_files.specs.Calls.{changed_at, with_file, appended, synced_file}
use Rattle.lsvd_files.specs.Written.{written, filled, with_new}

pub slice_get_new : (files : List FileState) (file : FileState) → slice_get (files ++ file ∷ []) (length files) ≡ Some file
slice_get_new [] file = refl
slice_get_new (first ∷ files) file = slice_get_new files file

pub slice_get_old : (files : List FileState) (file : FileState) (number : ℕ) → (number ≡ length files → ⊥)
    → slice_get (files ++ file ∷ []) number ≡ slice_get files number
slice_get_old [] file zero differ = absurd (differ refl)
slice_get_old [] file (suc number) differ = refl
slice_get_old (first ∷ files) file zero differ = refl
slice_get_old (first ∷ files) file (suc number) differ = slice_get_old files file number (λ e. differ (ap suc e))

changed_new : (files : List FileState) (file : FileState) (change : FileState → FileState)
    → changed_at (length files) change (files ++ file ∷ []) ≡ files ++ change file ∷ []
changed_new [] file change = refl
changed_new (first ∷ files) file change = ap (λ rest. first ∷ rest) (changed_new files file change)

changed_outside : (files : List FileState) (number : ℕ) (change : FileState → FileState) → slice_get files number ≡ None
    → changed_at number change files ≡ files
changed_outside [] number change e = refl
changed_outside (first ∷ files) zero change e = cc
changed_outside (first ∷ files) (suc number) change e = ap (λ rest. first ∷ rest) (changed_outside files number change e)

changed_twice : (files : List FileState) (number : ℕ) (first second : FileState → FileState)
    → changed_at number second (changed_at number first files) ≡ changed_at number (λ file. second (first file)) files
changed_twice [] number first second = refl
changed_twice (file ∷ files) zero first second = refl
changed_twice (file ∷ files) (suc number) first second = ap (λ rest. file ∷ rest) (changed_twice files number first second)

changed_alike : (files : List FileState) (number : ℕ) (some other : FileState → FileState)
    → ((file : FileState) → some file ≡ other file) → changed_at number some files ≡ changed_at number other files
changed_alike [] number some other alike = refl
changed_alike (file ∷ files) zero some other alike = ap (λ it. it ∷ files) (alike file)
changed_alike (file ∷ files) (suc number) some other alike =
    ap (λ rest. file ∷ rest) (changed_alike files number some other alike)

changed_not : (files : List FileState) (number : ℕ) → changed_at number (λ file. file) files ≡ files
changed_not [] number = refl
changed_not (file ∷ files) zero = refl
changed_not (file ∷ files) (suc number) = ap (λ rest. file ∷ rest) (changed_not files number)

with_files : (directory : DirectoryState) (files others : List FileState) → files ≡ others
    → ◌≡◌ {A = DirectoryState} (record directory { files = files }) (record directory { files = others })
with_files directory files others e =
    ap (λ (it : List FileState). let now : DirectoryState = record directory { files = it } in now) e

-- the same of a directory with these files
pub with_file-with_file : (directory : DirectoryState) (number : ℕ) (first second : FileState → FileState)
    → with_file number second (with_file number first directory) ≡ with_file number (λ file. second (first file)) directory
with_file-with_file directory number first second =
    with_files directory _ _ (changed_twice directory.files number first second)

pub with_file_alike : (directory : DirectoryState) (number : ℕ) (some other : FileState → FileState)
    → ((file : FileState) → some file ≡ other file) → with_file number some directory ≡ with_file number other directory
with_file_alike directory number some other alike =
    with_files directory _ _ (changed_alike directory.files number some other alike)

pub with_file_not : (directory : DirectoryState) (number : ℕ) → with_file number (λ file. file) directory ≡ directory
with_file_not directory number = with_files directory _ _ (changed_not directory.files number)

pub with_file_outside : (directory : DirectoryState) (number : ℕ) (change : FileState → FileState) → IsOutside number directory
    → with_file number change directory ≡ directory
with_file_outside directory number change outside =
    with_files directory _ _ (changed_outside directory.files number change outside)

pub with_file-with_new : (name : List ℕ) (file : FileState) (change : FileState → FileState) (directory : DirectoryState)
    → with_file (length directory.files) change (with_new name file directory) ≡ with_new name (change file) directory
with_file-with_new name file change directory =
    with_files (with_new name file directory) _ _ (changed_new directory.files file change)

-- what was written of a file
same_file : (bytes others : List ℕ) (synced doubted locked also : Bool) → bytes ≡ others → synced ≡ also
    → ◌≡◌ {A = FileState} (record { bytes = bytes; synced = synced; doubted = doubted; locked = locked })
    (record { bytes = others; synced = also; doubted = doubted; locked = locked })
same_file bytes others synced doubted locked also e f = cc

pub nothing_written : (file : FileState) → file ≡ written true [] file
nothing_written file =
    same_file file.bytes (file.bytes ++ []) file.synced file.doubted file.locked file.synced (sym (append-nil file.bytes)) refl

pub written_more : (still : Bool) (bytes piece : List ℕ) (file : FileState)
    → appended piece (written still bytes file) ≡ written false (bytes ++ piece) file
written_more still bytes piece file =
    same_file ((file.bytes ++ bytes) ++ piece) (file.bytes ++ (bytes ++ piece)) false file.doubted file.locked false
    (append_assoc file.bytes bytes piece) refl

pub synced-written : (still : Bool) (bytes : List ℕ) (file : FileState)
    → synced_file (written still bytes file) ≡ filled bytes file
synced-written still bytes file = refl
