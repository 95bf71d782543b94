use Rattle.volume_server.proofs.ClientLemmas.{of_volume}
use Rattle.volume_server.proofs.serving.serve_volume.Goals as goal

pub returns-clause-clients : goal.returns-clause-clients
returns-clause-clients g c =
    of_volume g.R.Receipt.state _ c.serve_lane-lane.result.served _ _ c.args.volume _ _ c.into_volume.result _ _
    c.new-device.ensures c.into_volume.ensures.volume c.serve_lane-lane.ensures.clients
