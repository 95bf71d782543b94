use Rattle.std.proofs.Common.{◌≡◌, drop}
use Rattle.object_stream.specs.Stream.{source_in}
use Rattle.object_stream.proofs.plain_stream.source_in.Given as goal

abbrev pub invariant-loop-copied : goal.invariant-loop-copied
invariant-loop-copied l = source_in (drop l.copied-index l.pairs) l.sector ≡ source_in l.pairs l.sector
