use Rattle.command_line.proofs.Lines.{spelled_is_taken, taken_is_spelled}
use Rattle.command_line.proofs.laws.a_command_line_spells_a_request.Goals as goal

pub returns : goal.returns
returns c words = (taken_is_spelled words, λ spelled. spelled_is_taken words spelled.0 spelled.1)
