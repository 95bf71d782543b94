use Rattle.vol_replay.proofs.Churned.{churn_done, churn_broken}
use Rattle.vol_replay.proofs.churning.churn.Goals as goal

pub returns-in-Ok-write_all-clause-summary : goal.returns-in-Ok-write_all-clause-summary
returns-in-Ok-write_all-clause-summary g c =
    churn_done c.args.seed c.args.steps c.in-Ok.run'.0 c.in-Ok.run'.1.items _ _ c.in-Ok.ensures
    (rw c.as_slice.ensures.value at c.in-Ok-write_all.ensures.ok)

pub returns-clause-summary : goal.returns-clause-summary
returns-clause-summary g c =
    churn_broken c.args.seed c.args.steps c.in-Ok.run'.0 c.in-Ok.run'.1.items _ _ c.in-Ok.ensures
    (rw c.as_slice.ensures.value at c.in-Err-write_all.ensures.front)
