use Rattle.std.proofs.Common.{◌∙◌, ap}
use Rattle.replay_rig.specs.Rig.{RigState}
use Rattle.replay_rig.proofs.Halting.{count_pending}
use Rattle.replay_rig.proofs.rig.Rig.pending.Goals as goal

pub returns : goal.returns
returns c = λ plain h.
    count_pending c.args.self.now plain c.disk.result.now c.pending.result h
    (c.disk.ensures ∙ ap (λ (r : RigState). r.volume.volume.log.commits.disk) c.self.view_is) c.pending.ensures
