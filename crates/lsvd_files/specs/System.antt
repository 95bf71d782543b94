-- For this crate's own clauses: the paths of the files of a directory of the system.
use Rattle.std.specs.Prelude.{ℕ, List, ◌++◌, codes}

-- the path of a file of a directory
abbrev pub path_in : List ℕ → List ℕ → List ℕ
path_in directory name = directory ++ (codes "/" ++ name)
