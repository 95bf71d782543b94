use Rattle.clap.specs.Words.{found_of, rows_of}
use Rattle.command_line.specs.Create.{batch, log, max_write, sectors}
use Rattle.command_line.specs.Met.{value_among}
use Rattle.command_line.proofs.Spelled.{past_limits}
use Rattle.command_line.proofs.create.sizes_in.Goals as goal

pub returns-in_err-number_in-clause-none : goal.returns-in_err-number_in-clause-none
returns-in_err-number_in-clause-none c =
    rw c.from_residual.ensures (sectors c.in_err-number_in.ensures.none)

pub returns-in_err-number_in-2-clause-none : goal.returns-in_err-number_in-2-clause-none
returns-in_err-number_in-2-clause-none c =
    rw c.from_residual-in_err-number_in-2.ensures (max_write c.in_err-number_in-2.ensures.none)

pub returns-in_err-number_in-3-clause-none : goal.returns-in_err-number_in-3-clause-none
returns-in_err-number_in-3-clause-none c =
    rw c.from_residual-in_err-number_in-3.ensures (batch c.in_err-number_in-3.ensures.none)

pub returns-in_err-number_in-4-clause-none : goal.returns-in_err-number_in-4-clause-none
returns-in_err-number_in-4-clause-none c =
    rw c.from_residual-in_err-number_in-4.ensures (log c.in_err-number_in-4.ensures.none)

pub returns-clause-none : goal.returns-clause-none
returns-clause-none c =
    rw c.then_some.ensures
    (past_limits (value_among (rows_of (found_of c.args.values.now))) _ c.is_within_limits.result
    c.is_within_limits.ensures (record {
      sectors = c.in_ok-number_in.ensures.found;
      log = c.in_ok-number_in-4.ensures.found;
      max_write = c.in_ok-number_in-2.ensures.found;
      batch = c.in_ok-number_in-3.ensures.found;
    }))
