use Rattle.std.proofs.Common.{◌∙◌, sym}
use Rattle.clap.specs.Words.{found_of, rows_of}
use Rattle.command_line.specs.Met.{value_among}
use Rattle.command_line.proofs.Mistakes.{empty_value}
use Rattle.command_line.proofs.Spelled.{got_some}
use Rattle.command_line.proofs.bad_values.bad_number.Goals as goal

pub returns-in-None : goal.returns-in-None
returns-in-None c =
    empty_value (value_among (rows_of (found_of c.args.values.now))) c.args.option.now c.in_ok-value.value.now
    (got_some (found_of c.args.values.now) c.args.option.now c.get_str.result c.in_ok-value.value c.get_str.ensures
    c.in_ok-value.was)
    (sym c.is_empty.ensures ∙ c.if-is_empty.true)

pub returns-in-None-2 : goal.returns-in-None-2
returns-in-None-2 c = (
  got_some (found_of c.args.values.now) c.args.option.now c.get_str.result c.in_ok-value.value c.get_str.ensures
      c.in_ok-value.was,
  c.in-None-2.ensures.none,
)
