use Rattle.std.proofs.Common.{◌≡◌, map, take}
use Rattle.std.specs.List.{filter}
use Rattle.object_table.specs.Table.{is_candidate}
use Rattle.gc_policy.specs.declared.candidate.Candidate.{Candidate}
use Rattle.gc_policy.proofs.policy.candidates.Given as goal

-- the candidates that were looked at are found
abbrev pub invariant-loop-number : goal.invariant-loop-number
invariant-loop-number l =
    map (λ (one : Candidate). one.row) l.found.items ≡ take l.number-index (filter is_candidate l.table.rows)
