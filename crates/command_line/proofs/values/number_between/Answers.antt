use Rattle.clap.specs.Words.{found_of, rows_of}
use Rattle.command_line.specs.Met.{value_among}
use Rattle.command_line.proofs.Spelled.{lacks_beyond}
use Rattle.command_line.proofs.values.number_between.Goals as goal

pub returns-then-number-least-clause-none : goal.returns-then-number-least-clause-none
returns-then-number-least-clause-none c =
    lacks_beyond (value_among (rows_of (found_of c.args.values.now))) c.args.name.now c.args.least c.args.most
    c.in_ok-number.number
    c.in_ok-number.ensures.found c.then-number-least.either
