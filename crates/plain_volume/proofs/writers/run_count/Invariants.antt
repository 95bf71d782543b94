use Rattle.std.proofs.Common.{◌≡◌, ◌+◌, ◌≤◌, drop, List, Option, ℕ}
use Rattle.plain_disk.specs.Writers.{runs, runs_after}
use Rattle.plain_volume.proofs.writers.run_count.Given as goal

-- the runs so far, and those that the other sectors begin
pub record IsCounted (count : ℕ) (before : Option ℕ) (index : ℕ) (last : List (Option ℕ)) : Type 0 where
  pub most : count ≤ index
  pub all : count + runs_after before (drop index last) ≡ runs last

abbrev pub invariant-loop-writer : goal.invariant-loop-writer
invariant-loop-writer l = IsCounted l.count l.before l.writer-index l.last
