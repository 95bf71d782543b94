use Rattle.std.proofs.Common.{◌∙◌, ap, option_map, sym}
use Rattle.uuid.specs.Text.{parsed}
use Rattle.clap.specs.Words.{found_of, rows_of}
use Rattle.command_line.specs.Met.{value_among}
use Rattle.command_line.proofs.Spelled.{bad_uuid, got_none, got_some, parsed_to}
use Rattle.command_line.proofs.values.uuid_in.Goals as goal

pub returns-in_default-clause-found : goal.returns-in_default-clause-found
returns-in_default-clause-found c =
    ap (option_map parsed) (got_none (found_of c.args.values.now) c.args.name.now c.get_str.result c.get_str.ensures
    c.in_default.is)

pub returns-in_err-ok-clause-none : goal.returns-in_err-ok-clause-none
returns-in_err-ok-clause-none c =
    rw c.from_residual.ensures
    (bad_uuid (value_among (rows_of (found_of c.args.values.now))) c.args.name.now c.in-Some.text.now c.parse_str.result
    (got_some (found_of c.args.values.now) c.args.name.now c.get_str.result c.in-Some.text c.get_str.ensures c.in-Some.is)
    c.parse_str.ensures.ok (sym c.ok.ensures.value ∙ c.in_err-ok.was))

pub returns-clause-found : goal.returns-clause-found
returns-clause-found c =
    ap (option_map parsed) (got_some (found_of c.args.values.now)
    c.args.name.now c.get_str.result c.in-Some.text c.get_str.ensures c.in-Some.is)
    ∙ parsed_to c.in-Some.text.now c.in_ok-ok.field-0 c.parse_str.result c.parse_str.ensures.bytes (sym c.ok.ensures.value
    ∙ c.in_ok-ok.was)
