-- Contract: what a stop of the machine may leave of a directory.
use Rattle.std.specs.Prelude.{◌≡◌, ℕ, ◌⊎◌, true, List, [], ◌∷◌, Option, Some, None, slice_get}
use Rattle.lsvd_files.specs.Directory.{FileState, DirectoryState, Names, leads}

-- what a stop may leave of a file: of one that was synced its bytes, and of another any bytes
abbrev pub MayHold : Option FileState → List ℕ → Type 0
MayHold None bytes = Unit {0}
MayHold (Some file) bytes = file.synced ≡ true → bytes ≡ file.bytes

-- what a stop may leave under a name that is left leading there
abbrev pub MayBeAt : List FileState → Option ℕ → Option (List ℕ) → Type 0
MayBeAt files None left = left ≡ None
MayBeAt files (Some file) left = (bytes : List ℕ) × (left ≡ Some bytes) × MayHold (slice_get files file) bytes

-- the same where one of these names is left
abbrev pub MayBeOf : List FileState → List Names → List ℕ → Option (List ℕ) → Type 0
MayBeOf files [] name left = ⊥
MayBeOf files (names ∷ before) name left = MayBeAt files (leads names name) left ⊎ MayBeOf files before name left

-- What a stop may leave under a name, each name by itself: no file where it led nowhere, at the last sync of the directory that
-- is trusted or at any time since; else the bytes that a stop may leave of a file that it led to then.
abbrev pub MayLeave : DirectoryState → List ℕ → Option (List ℕ) → Type 0
MayLeave directory name left = MayBeOf directory.files (directory.names ∷ directory.before) name left

-- a stop leaves under a name only what it could leave there before
abbrev pub LeavesNoMore : List ℕ → DirectoryState → DirectoryState → Type 0
LeavesNoMore name old new = (left : Option (List ℕ)) → MayLeave new name left → MayLeave old name left

-- a stop leaves these bytes under a name, and nothing else
abbrev pub LeavesAlone : List ℕ → List ℕ → DirectoryState → Type 0
LeavesAlone name bytes directory = (left : Option (List ℕ)) → MayLeave directory name left → left ≡ Some bytes

-- a stop leaves no file under a name
abbrev pub LeavesNone : List ℕ → DirectoryState → Type 0
LeavesNone name directory = (left : Option (List ℕ)) → MayLeave directory name left → left ≡ None
