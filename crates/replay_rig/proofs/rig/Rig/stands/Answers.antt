use Rattle.replay_rig.specs.Rig.{RigState, rig_of}
use Rattle.replay_rig.proofs.Standing.{kept_as}
use Rattle.replay_rig.proofs.rig.Rig.stands.Goals as goal

pub returns : goal.returns
returns c = λ plain h.
    let inside = c.self.inside in
    let rig : RigState = rig_of inside.volume inside.store inside.puts.list inside.is_stopping inside.lines in
    kept_as rig c.args.self.now plain c.self.view_is h c.is_volume.ensures.order.on_disk
