use Rattle.clap.specs.Words.{found_of}
use Rattle.command_line.proofs.Spelled.{got_absent, got_present}
use Rattle.command_line.proofs.values.number_if_given.Goals as goal

pub returns-then-is_none-clause-found : goal.returns-then-is_none-clause-found
returns-then-is_none-clause-found c =
    got_absent (found_of c.args.values.now) c.args.name.now c.get_str.result c.get_str.ensures c.if-is_none.ensures

pub returns-in_err-number_between-clause-none : goal.returns-in_err-number_between-clause-none
returns-in_err-number_between-clause-none c =
    rw c.from_residual.ensures (
      got_present (found_of c.args.values.now) c.args.name.now c.get_str.result c.get_str.ensures c.if-is_none.ensures,
      c.in_err-number_between.ensures.none,
    )
