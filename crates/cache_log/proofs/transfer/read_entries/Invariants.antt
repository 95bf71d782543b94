use Rattle.std.proofs.Common.{true, ◌-◌, ◌≤◌, length}
use Rattle.cache_log.specs.Reads.{AreReadOnly}
use Rattle.cache_log.specs.Pieces.{IsReadAhead}
use Rattle.cache_log.proofs.ReadLemmas.{SoFar, AreOfSoFar}
use Rattle.cache_log.proofs.transfer.read_entries.Given as goal

-- the entries so far, by at most one read for each, and the piece that was read last
abbrev pub invariant-loop-index : goal.invariant-loop-index
invariant-loop-index g l = record {
  only : AreReadOnly (l.index - l.skipped) true l.fn.commits l.commits;
  piece : IsReadAhead l.ahead l.commits.disk.moments;
  within : l.index - l.skipped ≤ length l.rows.items - l.skipped;
  so_far : SoFar l.rows.items l.skipped l.index l.entries.items l.fn.commits.disk.moments;
  rows : AreOfSoFar l.rows.items l.skipped l.index l.entries.items;
}
