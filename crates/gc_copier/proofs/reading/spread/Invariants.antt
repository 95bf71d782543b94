use Rattle.std.proofs.Common.{◌≡◌, length, drop}
use Rattle.gc_copier.specs.Runs.{spread_over}
use Rattle.gc_copier.proofs.reading.spread.Given as goal

abbrev pub invariant-loop-row : goal.invariant-loop-row
invariant-loop-row l = record {
  size : length l.payload ≡ length l.fn.payload;
  so_far : spread_over l.place l.piece (drop l.row-index l.rows) l.payload ≡ spread_over l.place l.piece l.rows l.fn.payload;
}
