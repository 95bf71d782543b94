-- For this crate's own clauses: what holds of a directory in memory. `empty_directory`, `locked_file` and
-- `handle_number` are contract.
use Rattle.std.specs.Prelude.{ℕ, ◌<◌, true, false, [], ◌∷◌, length}
use Rattle.std.specs.List.{AllByRecursion}
use Rattle.lsvd_files.specs.Directory.{FileState, DirectoryState, Names}
use Rattle.lsvd_files.specs.declared.memory.MemHandle.{MemHandle}

-- a directory with no names, at its path
abbrev pub empty_directory : DirectoryState
empty_directory = record { names = []; before = []; files = []; doubted = false; stands = true }

-- a file of which another open holds the lock
abbrev pub locked_file : FileState → FileState
locked_file file = record file { locked = true }

-- the number of an open file
abbrev pub handle_number : MemHandle → ℕ
handle_number handle = handle.number

-- names lead to files of which there are this many
abbrev pub LeadInside : ℕ → Names → Type 0
LeadInside count names = AllByRecursion (λ entry. entry.1 < count) names

-- each name leads to a file, and did so before
abbrev pub IsDirectory : DirectoryState → Type 0
IsDirectory directory = AllByRecursion (LeadInside (length directory.files)) (directory.names ∷ directory.before)
