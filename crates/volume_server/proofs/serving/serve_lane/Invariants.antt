use Rattle.std.proofs.Common.{◌≡◌}
use Rattle.volume_server.specs.Serving.{given_with, AreClients, link_told}
use Rattle.volume_server.proofs.serving.serve_lane.Given as goal

abbrev pub invariant-loop-served : goal.invariant-loop-served
invariant-loop-served g l = record {
  given : g.L.Listener.given l.listener ≡ given_with (g.L.Listener.given l.fn.listener) l.served;
  closed : g.L.Listener.closed l.listener ≡ g.L.Listener.closed l.fn.listener;
  faults : g.L.Listener.faults l.listener ≡ g.L.Listener.faults l.fn.listener;
  clients : AreClients g.B.BlockDevice.io
      (link_told g.L.Link.Source.remaining g.L.Link.Sink.contents g.L.Link.Connection.held g.L.Link.Source.faults) l.served
      (g.L.Listener.coming l.fn.listener) (g.L.Listener.coming l.listener)
      (g.B.BlockDevice.state l.fn.device l.fn.store) (g.B.BlockDevice.state l.device l.store);
}
