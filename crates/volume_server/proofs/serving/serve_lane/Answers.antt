use Rattle.std.proofs.Common.{refl, ◌∙◌}
use Rattle.volume_server.proofs.ClientLemmas.{one_more, given_more, gave_one, none_came, then_none}
use Rattle.volume_server.proofs.serving.serve_lane.Goals as goal
use Rattle.volume_server.proofs.serving.serve_lane.Goals.{in-NoLink, in-Failed}

pub loop-served-init : goal.loop-served-init
loop-served-init g c = record { given = refl; closed = refl; faults = refl; clients = (refl, refl) }

pub loop-served-preserved : goal.loop-served-preserved
loop-served-preserved g c =
    let gave = gave_one _ _ c.in-Served.ensures.next in
    record {
      given = given_more (g.L.Listener.given c.args.listener.now) c.loop-served.served _ _ c.loop-served.invariant.given gave.0;
      closed = gave.1 ∙ c.loop-served.invariant.closed;
      faults = gave.2 ∙ c.loop-served.invariant.faults;
      clients = one_more g.B.BlockDevice.io _ c.loop-served.served _ _ _ _ _ _ _ _ c.loop-served.invariant.clients
          c.in-Served.ensures.serves;
    }

pub returns-in-loop-served-clause-clients : goal.returns-in-loop-served-clause-clients
returns-in-loop-served-clause-clients g c = elim c.match-serve_next.branch [
  | in-NoLink w ↦ then_none g.B.BlockDevice.io _ c.loop-served.served _ _ _ _ _ _ c.loop-served.invariant.clients
      (none_came _ _ w.in-NoLink.ensures.serves.0) w.in-NoLink.ensures.serves.1
  | in-Failed w ↦ then_none g.B.BlockDevice.io _ c.loop-served.served _ _ _ _ _ _ c.loop-served.invariant.clients
      w.in-Failed.ensures.serves.0 w.in-Failed.ensures.serves.1
]
