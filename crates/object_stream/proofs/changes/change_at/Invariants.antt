use Rattle.std.proofs.Common.{◌≡◌, take}
use Rattle.object_stream.specs.Changes.{change_at}
use Rattle.object_stream.proofs.changes.change_at.Given as goal

abbrev pub invariant-loop-entry : goal.invariant-loop-entry
invariant-loop-entry l = l.change ≡ change_at (take l.entry-index l.entries) l.sector
