use Rattle.std.proofs.Common.{◌∙◌, ap, length}
use Rattle.replay_rig.specs.Rig.{RigState}
use Rattle.replay_rig.proofs.Halting.{count_under_way}
use Rattle.replay_rig.proofs.rig.Rig.under_way.Goals as goal

pub returns : goal.returns
returns c = λ plain h. c.len.ensures ∙ ap (λ (r : RigState). length r.puts) c.self.view_is
    ∙ count_under_way c.args.self.now plain h
