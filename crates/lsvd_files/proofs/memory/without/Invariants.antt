use Rattle.std.proofs.Common.{◌≡◌, take}
use Rattle.lsvd_files.specs.Calls.{without_name}
use Rattle.lsvd_files.proofs.memory.without.Given as goal

abbrev pub invariant-loop-entry : goal.invariant-loop-entry
invariant-loop-entry l = l.others.items ≡ without_name l.name (take l.entry-index l.entry-items)
