-- Contract: what the calls of the system do to a directory and its files.
use Rattle.std.specs.Prelude.{◌≡◌, ℕ, zero, suc, ◌+◌, ◌≤◌, ◌⊎◌, Bool, true, false, not, cond, List, [], ◌∷◌, ◌++◌, length}
use Rattle.std.specs.Prelude.{take, drop, Option, Some, None, IsSome, IfSome, IsUtf8, Contains, slice_get, option_map}
use Rattle.std.specs.List.{All, filter}
use Rattle.std.specs.Str.{bytes_eq}
use Rattle.lsvd_files.specs.Directory.{FileState, DirectoryState, Names, leads, held, new_file, IsUnnamed, IsOutside}

-- where a directory tells its state, a call changes it so, and it goes on telling
abbrev pub Changes : (DirectoryState → DirectoryState → Type 0) → Option DirectoryState → Option DirectoryState → Type 0
Changes Change None new = new ≡ None
Changes Change (Some old) None = ⊥
Changes Change (Some old) (Some new) = Change old new

-- the names without this one
abbrev pub without_name : List ℕ → Names → Names
without_name name names = filter (λ entry. not (bytes_eq entry.0 name)) names

-- the names where this one leads to a file
abbrev pub with_name : List ℕ → ℕ → Names → Names
with_name name file names = without_name name names ++ (name, file) ∷ []

-- the names of a directory have become these
abbrev pub renamed : Names → DirectoryState → DirectoryState
renamed names directory = record directory { names = names; before = directory.names ∷ directory.before }

-- a file was made under a name
abbrev pub after_make : List ℕ → DirectoryState → DirectoryState
after_make name directory =
    record (renamed (with_name name (length directory.files) directory.names) directory) {
      files = directory.files ++ new_file ∷ [];
    }

-- a name that led to this file was changed to another name
abbrev pub after_rename : (from to : List ℕ) → ℕ → DirectoryState → DirectoryState
after_rename from to file directory = renamed (with_name to file (without_name from directory.names)) directory

-- a name was removed
abbrev pub after_remove : List ℕ → DirectoryState → DirectoryState
after_remove name directory = renamed (without_name name directory.names) directory

-- the directory was synced; where a sync has failed before, this one settles nothing
abbrev pub after_sync : DirectoryState → DirectoryState
after_sync directory = record directory { before = cond directory.doubted directory.before [] }

-- a sync of the directory failed
abbrev pub after_failed_sync : DirectoryState → DirectoryState
after_failed_sync directory = record directory { doubted = true }

-- the path leads elsewhere
abbrev pub after_move : DirectoryState → DirectoryState
after_move directory = record directory { stands = false }

-- the files where one of them was changed
abbrev pub changed_at : ℕ → (FileState → FileState) → List FileState → List FileState
changed_at number change [] = []
changed_at zero change (file ∷ files) = change file ∷ files
changed_at (suc number) change (file ∷ files) = file ∷ changed_at number change files

abbrev pub with_file : ℕ → (FileState → FileState) → DirectoryState → DirectoryState
with_file number change directory = record directory { files = changed_at number change directory.files }

-- a file after more bytes were written at its end
abbrev pub appended : List ℕ → FileState → FileState
appended piece file = record file { bytes = file.bytes ++ piece; synced = false }

-- a file after a sync of it
abbrev pub synced_file : FileState → FileState
synced_file file = record file { synced = not file.doubted }

-- a file after a sync of it that failed
abbrev pub doubted_file : FileState → FileState
doubted_file file = record file { synced = false; doubted = true }

-- Calls by the path of the directory. Such a call is of this directory where the path leads to it, and else nothing is done to
-- this one, and nothing is told of it.
abbrev pub ByPath : Type 0 → DirectoryState → DirectoryState → Type 0
ByPath IsHere old new = ((old.stands ≡ true) × IsHere) ⊎ (new ≡ after_move old)

-- a call by the path that only asks has failed
abbrev pub IsLeft : DirectoryState → DirectoryState → Type 0
IsLeft old new = (new ≡ old) ⊎ (new ≡ after_move old)

-- a file of this number was made under a name that led nowhere
pub record IsMade (name : List ℕ) (file : ℕ) (old new : DirectoryState) : Type 0 where
  pub stands : old.stands ≡ true
  pub absent : leads old.names name ≡ None
  pub number : file ≡ length old.files
  pub unnamed : IsUnnamed file old
  pub after : new ≡ after_make name old

-- A file was made, and is open. Where the path leads elsewhere it is none of this directory.
abbrev pub Makes : List ℕ → ℕ → DirectoryState → DirectoryState → Type 0
Makes name file old new = IsMade name file old new ⊎ ((new ≡ after_move old) × IsOutside file old)

-- the same failed, and may have been done
abbrev pub MayMake : List ℕ → DirectoryState → DirectoryState → Type 0
MayMake name old new = IsLeft old new ⊎ IsMade name (length old.files) old new

-- the file under a name was opened, if there is one
abbrev pub Opens : List ℕ → Option ℕ → DirectoryState → DirectoryState → Type 0
Opens name found old new =
    ((old.stands ≡ true) × (new ≡ old) × (found ≡ leads old.names name))
    ⊎ ((new ≡ after_move old) × IfSome found (λ file. IsOutside file old))

-- a front of a piece was written, and the write failed
abbrev pub AppendsPart : ℕ → List ℕ → DirectoryState → DirectoryState → Type 0
AppendsPart file piece old new = (count : ℕ) × (new ≡ with_file file (appended (take count piece)) old)

-- A name that leads to a file is changed to another, which no longer leads where it led, at one moment. Where both lead to one
-- file nothing is done.
abbrev pub Renames : (from to : List ℕ) → DirectoryState → DirectoryState → Type 0
Renames from to old new =
    (file : ℕ) × (leads old.names from ≡ Some file)
    × (((leads old.names to ≡ Some file) × (new ≡ old)) ⊎ (new ≡ after_rename from to file old))

abbrev pub MayRename : (from to : List ℕ) → DirectoryState → DirectoryState → Type 0
MayRename from to old new = IsLeft old new ⊎ ((old.stands ≡ true) × Renames from to old new)

-- what a removal does, where the name leads to a file and where it leads nowhere
abbrev pub Removes : List ℕ → Bool → DirectoryState → DirectoryState → Type 0
Removes name true old new = IsSome (leads old.names name) × (new ≡ after_remove name old)
Removes name false old new = (leads old.names name ≡ None) × (new ≡ old)

abbrev pub MayRemove : List ℕ → DirectoryState → DirectoryState → Type 0
MayRemove name old new = IsLeft old new ⊎ ((old.stands ≡ true) × Removes name true old new)

-- how many bytes the file under a name has
abbrev pub length_under : DirectoryState → List ℕ → Option ℕ
length_under directory name = option_map (λ (file : FileState). length file.bytes) (held directory name)

-- the bytes of a file from a place on were read; they end inside the file
pub record IsRead (file at : ℕ) (read : List ℕ) (directory : DirectoryState) : Type 0 where
  pub inside : IfSome (slice_get directory.files file) (λ file. at + length read ≤ length file.bytes)
  pub bytes : IfSome (slice_get directory.files file) (λ file. read ≡ take (length read) (drop at file.bytes))

-- the names under which files are, in any order, as far as they are texts
pub record AreNames (directory : DirectoryState) (listed : List (List ℕ)) : Type 0 where
  pub present : All (λ name. IsSome (held directory name)) listed
  pub complete : (name : List ℕ) → IsUtf8 name → IsSome (held directory name) → Contains listed name
