-- Contract: run texts, the maximal runs of equal bytes.
use Rattle.std.specs.Prelude.{◌≡◌, ◌≢◌, ℕ, suc, ◌<◌, ◌==◌, if◌then◌else◌, List, [], ◌∷◌, ◌++◌, map, replicate, codes, decimal}
use Rattle.std.specs.List.{flat_map, AllByRecursion, join_with_byte}
use Rattle.replay_script.specs.Grammar.{hexadecimal}

-- a byte, and how often it stands in a row
pub record Run : Type 0 where
  pub byte : ℕ
  pub count : ℕ

-- each run has another byte than the one before it
abbrev pub NeighboursDiffer : List Run → Type 0
NeighboursDiffer [] = Unit {0}
NeighboursDiffer (run ∷ []) = Unit {0}
NeighboursDiffer (run ∷ next ∷ more) = (run.byte ≢ next.byte) × NeighboursDiffer (next ∷ more)

-- the maximal runs of the bytes: laid end to end they are the bytes, none is empty, and neighbours differ
pub record AreMaximalRuns (bytes : List ℕ) (runs : List Run) : Type 0 where
  pub laid : flat_map (λ run. replicate run.count run.byte) runs ≡ bytes
  pub filled : AllByRecursion (λ run. 0 < run.count) runs
  pub maximal : NeighboursDiffer runs

-- a run as its byte, an x, and its length
abbrev pub text_of_run : Run → List ℕ
text_of_run run = hexadecimal run.byte ++ codes "x" ++ decimal run.count

-- the texts of runs, joined by single spaces
abbrev pub text_of_runs : List Run → List ℕ
text_of_runs runs = join_with_byte 32 (map text_of_run runs)

-- the texts of the maximal runs, joined by single spaces
pub record IsRunText (bytes text : List ℕ) : Type 0 where
  pub runs : List Run
  pub maximal : AreMaximalRuns bytes runs
  pub joined : text ≡ text_of_runs runs

-- ---- the maximal runs as a function, for the private clauses: `runs_are_maximal` and `only_runs` of proofs/Runs.antt

-- the runs, with a byte before them
abbrev pub byte_before : ℕ → List Run → List Run
byte_before byte [] = record { byte = byte; count = 1 } ∷ []
byte_before byte (run ∷ more) = if byte == run.byte then record run { count = suc run.count } ∷ more else record {
  byte = byte;
  count = 1;
} ∷ run ∷ more

abbrev pub runs_of : List ℕ → List Run
runs_of [] = []
runs_of (byte ∷ bytes) = byte_before byte (runs_of bytes)
