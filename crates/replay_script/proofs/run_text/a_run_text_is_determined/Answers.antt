use Rattle.replay_script.proofs.Runs.{one_run_text}
use Rattle.replay_script.proofs.run_text.a_run_text_is_determined.Goals as goal

pub returns : goal.returns
returns c = one_run_text
