use Rattle.std.proofs.Common.{subst, rules}
use Rattle.std.specs.Prelude.{Ok}
use Rattle.nbd_session.specs.Steps.{ServesRequest}
use Rattle.nbd_session.proofs.SessionLemmas.{one_served}
use Rattle.nbd_session.proofs.session.transmit.Goals as goal

pub loop-preserved : goal.loop-preserved
loop-preserved g c = record {
  served = one_served g.B.BlockDevice.io c.loop.counter _ _ _ _ _ _ c.in-Ok-true.field-0 c.loop-test.true c.loop.invariant.served
      c.in-Ok-true.field-0-test (subst (λ m. ServesRequest g.B.BlockDevice.io (Ok c.in-Ok-true.field-0)
      (record { left = g.K.Source.remaining c.loop.link; sent = g.K.Sink.contents c.loop.link })
      (record { left = g.K.Source.remaining c.serve_request.new.link; sent = g.K.Sink.contents c.serve_request.new.link }) m
      (g.B.BlockDevice.state c.serve_request.new.device c.serve_request.new.store)) c.hand_over_before.ensures
      c.in-Ok-true.ensures.serves);
  none_failed = search rules;
}
