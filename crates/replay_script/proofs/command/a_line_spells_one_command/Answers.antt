use Rattle.replay_script.proofs.Decide.{one_command}
use Rattle.replay_script.proofs.command.a_line_spells_one_command.Goals as goal

pub returns : goal.returns
returns c = one_command
