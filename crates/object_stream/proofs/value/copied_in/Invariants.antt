use Rattle.std.proofs.Common.{◌≡◌, drop}
use Rattle.object_stream.specs.Value.{copied_in}
use Rattle.object_stream.proofs.value.copied_in.Given as goal

abbrev pub invariant-loop-row : goal.invariant-loop-row
invariant-loop-row l = copied_in (drop l.row-index l.rows) l.payload l.sector ≡ copied_in l.rows l.payload l.sector
