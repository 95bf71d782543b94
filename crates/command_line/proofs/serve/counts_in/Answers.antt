use Rattle.command_line.specs.Serve.{lanes, sessions, workers}
use Rattle.command_line.proofs.serve.counts_in.Goals as goal

pub returns-in_err-number_between-clause-none : goal.returns-in_err-number_between-clause-none
returns-in_err-number_between-clause-none c =
    rw c.from_residual.ensures (workers c.in_err-number_between.ensures.none)

pub returns-in_err-number_between-2-clause-none : goal.returns-in_err-number_between-2-clause-none
returns-in_err-number_between-2-clause-none c =
    rw c.from_residual-in_err-number_between-2.ensures (lanes c.in_err-number_between-2.ensures.none)

pub returns-in_err-number_between-3-clause-none : goal.returns-in_err-number_between-3-clause-none
returns-in_err-number_between-3-clause-none c =
    rw c.from_residual-in_err-number_between-3.ensures (sessions c.in_err-number_between-3.ensures.none)

pub returns-clause-found : goal.returns-clause-found
returns-clause-found c = record {
  workers = c.in_ok-number_between.ensures.found;
  lanes = c.in_ok-number_between-2.ensures.found;
  sessions = c.in_ok-number_between-3.ensures.found;
}
