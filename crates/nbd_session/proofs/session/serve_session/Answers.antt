use Rattle.std.proofs.Common.{refl}
use Rattle.nbd_options.specs.declared.negotiation.NegotiationEnd.TheVariants as negotiations
use Rattle.nbd_session.proofs.SessionLemmas.{has_entered, has_not_entered}
use Rattle.nbd_session.proofs.session.serve_session.Goals as goal

pub returns-in-Entered-clause-session : goal.returns-in-Entered-clause-session
returns-in-Entered-clause-session g c =
    has_entered g.B.BlockDevice.io c.uuid.result c.geometry-geometry.result _ _
    (record { left = g.K.Source.remaining c.negotiate.new.link; sent = g.K.Sink.contents c.negotiate.new.link }) _
    (g.B.BlockDevice.state c.args.device.now c.args.store.now) _ c.uuid.ensures c.geometry-geometry.ensures.same
    c.in-Entered.ensures.bytes c.transmit.ensures.transmits

pub returns-in-Ended-clause-session : goal.returns-in-Ended-clause-session
returns-in-Ended-clause-session g c =
    has_not_entered g.B.BlockDevice.io c.uuid.result c.geometry-geometry.result negotiations.Ended _ _ _
    (g.B.BlockDevice.state c.args.device.now c.args.store.now) c.uuid.ensures c.geometry-geometry.ensures.same
    c.in-Ended.ensures.bytes refl

pub returns-in-Closed-clause-session : goal.returns-in-Closed-clause-session
returns-in-Closed-clause-session g c =
    has_not_entered g.B.BlockDevice.io c.uuid.result c.geometry-geometry.result negotiations.Closed _ _ _
    (g.B.BlockDevice.state c.args.device.now c.args.store.now) c.uuid.ensures c.geometry-geometry.ensures.same
    c.in-Closed.ensures.bytes refl
