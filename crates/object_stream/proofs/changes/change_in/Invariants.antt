use Rattle.std.proofs.Common.{◌≡◌, drop}
use Rattle.object_stream.specs.Changes.{change_in}
use Rattle.object_stream.proofs.changes.change_in.Given as goal

abbrev pub invariant-loop-row : goal.invariant-loop-row
invariant-loop-row l = change_in (drop l.row-index l.rows) l.payload l.sector ≡ change_in l.rows l.payload l.sector
