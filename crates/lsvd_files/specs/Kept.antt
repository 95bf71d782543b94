-- Contract: what calls on some names leave of all others.
use Rattle.std.specs.Prelude.{◌≡◌, ℕ, true, List, Some}
use Rattle.lsvd_files.specs.Directory.{FileState, DirectoryState, held}
use Rattle.lsvd_files.specs.Stop.{LeavesNoMore, LeavesAlone}
use Rattle.lsvd_files.specs.Calls.{without_name}

-- Under a name is a file of the same state as before, or none as before, and a stop leaves there only what it could leave before.
pub record KeepsName (name : List ℕ) (old new : DirectoryState) : Type 0 where
  pub now : held new name ≡ held old name
  pub left : LeavesNoMore name old new

-- nothing changed but what is under one name
pub record ChangesOnly (name : List ℕ) (old new : DirectoryState) : Type 0 where
  pub names : without_name name new.names ≡ without_name name old.names
  pub others : (other : List ℕ) → (other ≡ name → ⊥) → KeepsName other old new

-- under a name is a file of these bytes, which is synced, and a stop leaves it there
pub record HoldsForGood (name bytes : List ℕ) (directory : DirectoryState) : Type 0 where
  pub file : FileState
  pub now : held directory name ≡ Some file
  pub content : file.bytes ≡ bytes
  pub synced : file.synced ≡ true
  pub alone : LeavesAlone name bytes directory

-- all names are as they were, and a stop leaves under each only what it could leave before
pub record Stays (old new : DirectoryState) : Type 0 where
  pub names : new.names ≡ old.names
  pub kept : (name : List ℕ) → KeepsName name old new
