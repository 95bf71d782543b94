use Rattle.lsvd_device.specs.Device.{HoldsNow}
use Rattle.std.specs.Prelude.{true}
use Rattle.cache_log.specs.Reads.{AreReadOnly, headers_of_rows}
use Rattle.cache_log.specs.Pieces.{IsReadAhead}
use Rattle.cache_log.proofs.ReadRowsLemmas.{IsFar, HasFar}
use Rattle.cache_log.proofs.PaidRows.{HasPaid}
use Rattle.cache_log.proofs.opening.read_rows.Given as goal

-- the rows so far, at most as many reads as these have headers, the piece that was read last, and what the device's bytes have
-- of the rows
abbrev pub invariant-loop-seq : goal.invariant-loop-seq
invariant-loop-seq g l = record {
  only : AreReadOnly (headers_of_rows l.geometry.log l.body.tail.position l.rows.items) true l.fn.commits l.commits;
  piece : IsReadAhead l.ahead l.commits.disk.moments;
  paid : HasPaid l.geometry l.body l.to_head l.ahead l.fn.commits l.commits;
  far : IsFar l.geometry l.body l.rows.items l.position l.to_head l.seq;
  has : HoldsNow (λ now. HasFar l.geometry l.body l.rows.items l.position l.to_head l.seq now.bytes) l.fn.commits.disk.moments;
}
