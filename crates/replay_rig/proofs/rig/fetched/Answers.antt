use Rattle.std.proofs.Common.{refl}
use Rattle.replay_rig.proofs.rig.fetched.Goals as goal

pub returns-in-Ok-clause-gives : goal.returns-in-Ok-clause-gives
returns-in-Ok-clause-gives c = c.in-Ok.ensures.one (λ receipt. refl)
