use Rattle.std.proofs.Common.{◌≡◌}
use Rattle.nbd_session.proofs.SessionLemmas.{HaveBeenServed}
use Rattle.nbd_session.proofs.session.transmit.Given as goal

abbrev pub invariant-loop : goal.invariant-loop
invariant-loop g l = record {
  served : HaveBeenServed g.B.BlockDevice.io l.counter
      (record { left = g.K.Source.remaining l.fn.link; sent = g.K.Sink.contents l.fn.link })
      (record { left = g.K.Source.remaining l.link; sent = g.K.Sink.contents l.link })
      (g.B.BlockDevice.state l.fn.device l.fn.store) (g.B.BlockDevice.state l.device l.store);
  none_failed : g.K.Source.faults l.link ≡ g.K.Source.faults l.fn.link;
}
