use Rattle.std.proofs.Common.{◌∙◌, ap}
use Rattle.replay_rig.specs.Puts.{put_of, is_put_out}
use Rattle.replay_rig.specs.Rig.{RigState}
use Rattle.replay_rig.proofs.Putting.{out_listed}
use Rattle.replay_rig.proofs.rig.Rig.is_out.Goals as goal

pub returns : goal.returns
returns c = λ plain h.
    c.is_out.ensures ∙ ap (λ (r : RigState). is_put_out (put_of c.args.number r.puts)) c.self.view_is
    ∙ out_listed c.args.number c.args.self.now plain h
