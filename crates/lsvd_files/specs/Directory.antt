-- Contract: a directory and its files, as the operating system has them.
use Rattle.std.specs.Prelude.{◌≡◌, ℕ, Bool, false, cond, List, [], ◌∷◌, Option, Some, None, slice_get, option_and_then}
use Rattle.std.specs.List.{AllByRecursion}
use Rattle.std.specs.Str.{bytes_eq}

-- a file
pub record FileState : Type 0 where
  -- what a read of it gives
  pub bytes : List ℕ
  -- whether these bytes outlast a stop: it was synced since it was last written
  pub synced : Bool
  -- Whether a sync of it has failed. The system may have given up what it could not write, and says so only once; so no later
  -- sync is trusted.
  pub doubted : Bool
  -- whether another open of it holds its lock
  pub locked : Bool

-- the names of a directory, each with the number of the file that it leads to; of two entries with one name the first counts
abbrev pub Names : Type 0
Names = List (List ℕ × ℕ)

-- a directory
pub record DirectoryState : Type 0 where
  -- its names now
  pub names : Names
  -- the names that it had before, the newest first, back to those at its last sync that is trusted; none since that sync
  pub before : List Names
  -- its files, by their numbers
  pub files : List FileState
  -- whether a sync of it has failed; no later one is trusted
  pub doubted : Bool
  -- whether the path at which it was opened still leads to it
  pub stands : Bool

-- the file that a name leads to
abbrev pub leads : Names → List ℕ → Option ℕ
leads [] name = None
leads (entry ∷ names) name = cond (bytes_eq entry.0 name) (Some entry.1) (leads names name)

-- the file under a name
abbrev pub held : DirectoryState → List ℕ → Option FileState
held directory name = option_and_then (λ file. slice_get directory.files file) (leads directory.names name)

-- no name leads to this file, or led there since the last sync that is trusted
abbrev pub IsUnnamed : ℕ → DirectoryState → Type 0
IsUnnamed file directory =
    AllByRecursion (λ names. (name : List ℕ) → leads names name ≡ Some file → ⊥) (directory.names ∷ directory.before)

-- no file of the directory has this number
abbrev pub IsOutside : ℕ → DirectoryState → Type 0
IsOutside file directory = slice_get directory.files file ≡ None

-- a file with nothing in it, which was just made
abbrev pub new_file : FileState
new_file = record { bytes = []; synced = false; doubted = false; locked = false }
