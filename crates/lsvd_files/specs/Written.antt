-- For this crate's clauses and those of the crates above on how a file is written: a new file under a name, and its bytes so far.
use Rattle.std.specs.Prelude.{ℕ, not, ◌&&◌, Bool, List, [], ◌∷◌, ◌++◌}
use Rattle.lsvd_files.specs.Directory.{FileState, DirectoryState}
use Rattle.lsvd_files.specs.Calls.{after_make}

-- a file after pieces were written at its end, if any were; it stays synced if none was
abbrev pub written : Bool → List ℕ → FileState → FileState
written still bytes file = record file { bytes = file.bytes ++ bytes; synced = still && file.synced }

-- the same, and synced
abbrev pub filled : List ℕ → FileState → FileState
filled bytes file = record file { bytes = file.bytes ++ bytes; synced = not file.doubted }

-- a directory where a new file of this state has a name
abbrev pub with_new : List ℕ → FileState → DirectoryState → DirectoryState
with_new name file directory = record (after_make name directory) { files = directory.files ++ file ∷ [] }
