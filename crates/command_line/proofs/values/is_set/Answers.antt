use Rattle.std.proofs.Common.{◌∙◌}
use Rattle.clap.specs.Words.{found_of, rows_of}
use Rattle.command_line.specs.Met.{value_among}
use Rattle.command_line.proofs.Spelled.{got_none, got_some, not_set, set_by}
use Rattle.command_line.proofs.values.is_set.Goals as goal

pub returns-in-Some : goal.returns-in-Some
returns-in-Some c =
    c.eq.ensures
    ∙ set_by (value_among (rows_of (found_of c.args.values.now))) c.args.name.now c.in-Some.text.now
    (got_some (found_of c.args.values.now) c.args.name.now c.get_str.result c.in-Some.text c.get_str.ensures c.in-Some.is)

pub returns-in-None : goal.returns-in-None
returns-in-None c =
    not_set (value_among (rows_of (found_of c.args.values.now))) c.args.name.now
    (got_none (found_of c.args.values.now) c.args.name.now c.get_str.result c.get_str.ensures c.in-None.is)
