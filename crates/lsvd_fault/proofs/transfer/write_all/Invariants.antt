use Rattle.std.proofs.Common.{ℕ, ◌≡◌, length}
use Rattle.lsvd_fault.proofs.Streams.{IsPartWritten}
use Rattle.lsvd_fault.proofs.transfer.write_all.Given as goal

abbrev pub invariant-loop-rest : goal.invariant-loop-rest
invariant-loop-rest g l = record {
  part : IsPartWritten (g.S.Sink.contents l.fn.sink) (g.S.Sink.contents l.sink) l.fn.bytes l.rest;
  other : g.S.Sink.unread l.sink ≡ g.S.Sink.unread l.fn.sink;
  none_failed : g.S.Sink.faults l.sink ≡ g.S.Sink.faults l.fn.sink;
}

abbrev pub decreases-loop-rest : goal.decreases-loop-rest
decreases-loop-rest g l = length l.rest
