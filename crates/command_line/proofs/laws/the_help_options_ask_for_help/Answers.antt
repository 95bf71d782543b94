use Rattle.command_line.proofs.Lines.{first_asks, second_asks}
use Rattle.command_line.proofs.laws.the_help_options_ask_for_help.Goals as goal

pub returns : goal.returns
returns c = record { first = first_asks; second = second_asks }
