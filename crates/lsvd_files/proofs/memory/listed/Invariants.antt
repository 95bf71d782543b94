use Rattle.std.proofs.Common.{◌≡◌, take, map, List, ℕ}
use Rattle.lsvd_files.proofs.memory.listed.Given as goal

abbrev pub invariant-loop-entry : goal.invariant-loop-entry
invariant-loop-entry l = l.listed ≡ map (λ (entry : List ℕ × ℕ). entry.0) (take l.entry-index l.entry-items)
