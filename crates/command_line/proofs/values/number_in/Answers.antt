use Rattle.clap.specs.Words.{found_of, rows_of}
use Rattle.command_line.specs.Met.{value_among}
use Rattle.command_line.proofs.Spelled.{got_none, got_some, has_number, lacks_absent, lacks_other}
use Rattle.command_line.proofs.values.number_in.Goals as goal

pub returns-in_err-get_str-clause-none : goal.returns-in_err-get_str-clause-none
returns-in_err-get_str-clause-none c =
    rw c.from_residual.ensures
    (lacks_absent (value_among (rows_of (found_of c.args.values.now))) c.args.name.now
    (got_none (found_of c.args.values.now) c.args.name.now c.get_str.result c.get_str.ensures c.in_err-get_str.was))

pub returns-clause-found : goal.returns-clause-found
returns-clause-found c =
    has_number (value_among (rows_of (found_of c.args.values.now))) c.args.name.now c.in_ok-get_str.field-0.now c.number_of.result
    (got_some (found_of c.args.values.now) c.args.name.now c.get_str.result c.in_ok-get_str.field-0 c.get_str.ensures
    c.in_ok-get_str.was) c.number_of.ensures.found

pub returns-clause-none : goal.returns-clause-none
returns-clause-none c =
    lacks_other (value_among (rows_of (found_of c.args.values.now))) c.args.name.now c.in_ok-get_str.field-0.now
    c.number_of.result
    (got_some (found_of c.args.values.now) c.args.name.now c.get_str.result c.in_ok-get_str.field-0 c.get_str.ensures
    c.in_ok-get_str.was) c.number_of.ensures.none
