use Rattle.std.proofs.Common.{◌≡◌, drop}
use Rattle.lsvd_files.specs.Directory.{leads}
use Rattle.lsvd_files.proofs.memory.find.Given as goal

abbrev pub invariant-loop-entry : goal.invariant-loop-entry
invariant-loop-entry l = leads (drop l.entry-index l.entry-items) l.name ≡ leads l.entry-items l.name
