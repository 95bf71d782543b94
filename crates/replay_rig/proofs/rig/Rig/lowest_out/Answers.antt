use Rattle.std.proofs.Common.{◌∙◌, ap}
use Rattle.replay_rig.specs.Puts.{lowest_out}
use Rattle.replay_rig.specs.Rig.{RigState}
use Rattle.replay_rig.proofs.Putting.{lowest_listed}
use Rattle.replay_rig.proofs.rig.Rig.lowest_out.Goals as goal

pub returns : goal.returns
returns c = λ plain h. c.lowest_out.ensures ∙ ap (λ (r : RigState). lowest_out r.puts) c.self.view_is
    ∙ lowest_listed c.args.self.now plain h
