-- Contract: what is seen of a store over a directory and of its receipts, how its files are named, and what its calls do to them.
use Rattle.std.specs.Prelude.{◌≡◌, ℕ, ◌⊎◌, Bool, true, false, List, [], ◌∷◌, ◌++◌, codes, Option, Some, None, IfSome, option_map}
use Rattle.std.specs.Prelude.{option_and_then, filter_map}
use Rattle.std.specs.List.{AllByRecursion}
use Rattle.lsvd_names.specs.Spelling.{IsName, spelling, dot, hex_digits}
use Rattle.lsvd_names.specs.declared.name.ObjName.{ObjName}
use Rattle.lsvd_files.specs.Directory.{FileState, DirectoryState, leads, held}
use Rattle.lsvd_files.specs.Stop.{MayLeave, LeavesNone}
use Rattle.lsvd_files.specs.Kept.{KeepsName, ChangesOnly, HoldsForGood, Stays}
use Rattle.lsvd_objstore.specs.Objects.{Objects}
use Rattle.lsvd_objstore.specs.Spelled.{name_spelled}
use Rattle.lsvd_objstore.specs.Store.{StoreState, ReceiptState}

-- the object of an entry: its name spells the object's, and its bytes are those of the file
abbrev pub object_at : DirectoryState → (List ℕ × ℕ) → Option (ObjName × List ℕ)
object_at directory entry =
    option_and_then (λ name. option_map (λ (file : FileState). (name, file.bytes)) (held directory entry.0))
    (name_spelled entry.0)

-- the objects of a directory are the files under names that spell objects'
abbrev pub objects_of : DirectoryState → Objects
objects_of directory = filter_map (object_at directory) directory.names

-- a store over a directory
pub record Shelf : Type 0 where
  -- the directory, where it tells its state
  pub directory : Option DirectoryState
  -- how often a call has failed
  pub faults : ℕ

-- it holds the objects of its directory, where that tells its state, and does not tell what it was asked
abbrev pub shelf_store : Shelf → StoreState
shelf_store shelf = record { objects = option_map objects_of shelf.directory; asked = None; faults = shelf.faults }

-- one over a directory that tells nothing
abbrev pub silent_shelf : ℕ → Shelf
silent_shelf faults = record { directory = None; faults = faults }

-- a receipt of a directory: the object's name, and how many bytes it has
pub record Filed : Type 0 where
  pub name : ObjName
  pub size : ℕ

-- it tells no bytes
abbrev pub silent_receipt : Filed → ReceiptState
silent_receipt filed = record { name = filed.name; size = filed.size; told = None }

-- what a put of a store with this mark adds to the name of a file until the file is whole
abbrev pub ending_of : ℕ → List ℕ
ending_of mark = dot ∷ hex_digits 16 mark ++ codes ".put"

-- a name that a file has until it is whole: more follows the spelling of the object's name
pub record IsTemporaryOf (name : ObjName) (file : List ℕ) : Type 0 where
  pub is_name : IsName name
  pub rest : List ℕ
  pub spelled : file ≡ spelling name ++ rest
  pub more : rest ≡ [] → ⊥

-- no file has the name of an object and a temporary one
abbrev pub NameIsNotTemporary : Type 0
NameIsNotTemporary = (name other : ObjName) (file : List ℕ) → IsTemporaryOf name file → file ≡ spelling other → ⊥

-- the names of objects lead where they led at each time since the directory was last synced, so a stop leaves them as they are
pub record IsSettled (directory : DirectoryState) : Type 0 where
  pub before : (name : ObjName) → IsName name
      → AllByRecursion (λ names. leads names (spelling name) ≡ leads directory.names (spelling name)) directory.before

-- A put was done: the name has a file of just these bytes for good, and nothing else changed but the temporary name.
pub record Puts (temporary name bytes : List ℕ) (old new : DirectoryState) : Type 0 where
  pub put : HoldsForGood name bytes new
  pub others : (other : List ℕ) → (other ≡ temporary → ⊥) → (other ≡ name → ⊥) → KeepsName other old new
  pub settled : new.before ≡ []

-- A put has failed after the name was given: it has a whole new file, of which a stop leaves all, or what it could leave before.
pub record PutsInDoubt (temporary name bytes : List ℕ) (old new : DirectoryState) : Type 0 where
  pub file : FileState
  pub now : held new name ≡ Some file
  pub content : file.bytes ≡ bytes
  pub synced : file.synced ≡ true
  pub left : (left : Option (List ℕ)) → MayLeave new name left → MayLeave old name left ⊎ (left ≡ Some bytes)
  pub others : (other : List ℕ) → (other ≡ temporary → ⊥) → (other ≡ name → ⊥) → KeepsName other old new

-- what a put leaves that failed: nothing changed but the temporary name, or the name was given
abbrev pub MayPut : (temporary name bytes : List ℕ) → DirectoryState → DirectoryState → Type 0
MayPut temporary name bytes old new = ChangesOnly temporary old new ⊎ PutsInDoubt temporary name bytes old new

-- the same of an object, by way of a temporary name of it
abbrev pub PutsObject : ObjName → List ℕ → DirectoryState → DirectoryState → Type 0
PutsObject name bytes old new = (temporary : List ℕ) × IsTemporaryOf name temporary × Puts temporary (spelling name) bytes old new

abbrev pub MayPutObject : ObjName → List ℕ → DirectoryState → DirectoryState → Type 0
MayPutObject name bytes old new =
    (temporary : List ℕ) × IsTemporaryOf name temporary × MayPut temporary (spelling name) bytes old new

-- A removal was done: the name leads nowhere for good, and nothing else changed.
pub record RemovesForGood (name : List ℕ) (old new : DirectoryState) : Type 0 where
  pub removed : held new name ≡ None
  pub left : LeavesNone name new
  pub only : ChangesOnly name old new
  pub settled : new.before ≡ []

-- A removal has failed after the name was removed: it leads nowhere, and a stop leaves what it could leave before, or nothing.
pub record RemovesInDoubt (name : List ℕ) (old new : DirectoryState) : Type 0 where
  pub removed : held new name ≡ None
  pub left : (left : Option (List ℕ)) → MayLeave new name left → MayLeave old name left ⊎ (left ≡ None)
  pub only : ChangesOnly name old new

-- what a removal leaves that failed
abbrev pub MayRemoveFile : List ℕ → DirectoryState → DirectoryState → Type 0
MayRemoveFile name old new = Stays old new ⊎ RemovesInDoubt name old new

-- a file that a put left was removed
pub record IsCleared (name : List ℕ) (old new : DirectoryState) : Type 0 where
  pub object : ObjName
  pub temporary : IsTemporaryOf object name
  pub unlocked : IfSome (held old name) (λ (file : FileState). file.locked ≡ false)
  pub gone : held new name ≡ None

-- Nothing was removed but files under temporary names that no other open has locked, and nothing else was done.
pub record Clears (old new : DirectoryState) : Type 0 where
  pub objects : objects_of new ≡ objects_of old
  pub each : (name : List ℕ) → KeepsName name old new ⊎ IsCleared name old new

-- For this crate's own clauses: what a store knows of its directory. Where it knows of no sync that failed, none has failed; and
-- where it takes the names of objects to be synced, they are.
abbrev pub IsKnown : (has_failed is_unsynced : Bool) → Option DirectoryState → Type 0
IsKnown has_failed is_unsynced None = Unit {0}
IsKnown has_failed is_unsynced (Some directory) =
    (has_failed ≡ false → directory.doubted ≡ false) × (is_unsynced ≡ false → IsSettled directory)
