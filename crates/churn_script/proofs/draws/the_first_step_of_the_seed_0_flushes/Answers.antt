use Rattle.std.proofs.Common.{refl}
use Rattle.churn_script.specs.Draws.{after_draw, draw_below}
use Rattle.churn_script.proofs.draws.the_first_step_of_the_seed_0_flushes.Goals as goal

pub returns-clause-state : goal.returns-clause-state
unfolding after_draw
returns-clause-state c = refl

pub returns-clause-draw : goal.returns-clause-draw
unfolding after_draw draw_below
returns-clause-draw c = refl

pub returns-clause-command : goal.returns-clause-command
unfolding after_draw draw_below
returns-clause-command c = λ lowest has_plan. refl
