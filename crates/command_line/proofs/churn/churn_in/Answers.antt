use Rattle.command_line.specs.Churn.{seed, steps}
use Rattle.command_line.proofs.churn.churn_in.Goals as goal

pub returns-in_err-number_between-clause-none : goal.returns-in_err-number_between-clause-none
returns-in_err-number_between-clause-none c =
    rw c.from_residual.ensures (steps c.in_err-number_between.ensures.none)

pub returns-in_err-number_in-clause-none : goal.returns-in_err-number_in-clause-none
returns-in_err-number_in-clause-none c =
    rw c.from_residual-in_err-number_in.ensures (seed c.in_err-number_in.ensures.none)

pub returns-clause-found : goal.returns-clause-found
returns-clause-found c = record {
  steps = c.in_ok-number_between.ensures.found;
  seed = c.in_ok-number_in.ensures.found;
}
