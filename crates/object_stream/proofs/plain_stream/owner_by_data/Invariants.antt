use Rattle.std.proofs.Common.{◌≡◌, take}
use Rattle.object_stream.specs.Changes.{change_at}
use Rattle.object_stream.specs.Stream.{owner_by_change}
use Rattle.object_stream.proofs.plain_stream.owner_by_data.Given as goal

abbrev pub invariant-loop-entry : goal.invariant-loop-entry
invariant-loop-entry l = l.owner ≡ owner_by_change l.number (change_at (take l.entry-index l.entries) l.sector) l.fn.before
